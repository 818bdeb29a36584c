-- Which source a mode picks.
use Rattle.std.specs.Prelude.{ℕ, cond, None, Option, ◌==◌}
use Rattle.factor.specs.declared.question.Factor.{Factor}
use Rattle.rows.specs.Held.{held}
use Rattle.factor.specs.Questions.{Asked, by_tier}
use Rattle.factor.specs.PlantRows.{first_fit}
use Rattle.factor.specs.Printed.{printed_answer}
use Rattle.factor.specs.Limited.{Limited, none_limited, rows_limited, printed_limited, by_tier_limited}
use Rattle.sources.specs.declared.choice.Sources.{Sources}
use Rattle.sources.specs.declared.choice.Mode.{Mode}
use Rattle.sources.specs.declared.choice.Mode.TheVariants.{Listed, Printed, Both, Neither}

-- 0, 1 and 2 name a mode, and any other number means that there is no source
abbrev pub mode_of : ℕ → Mode
mode_of n = cond (n == 0) Listed (cond (n == 1) Printed (cond (n == 2) Both Neither))

-- the table by which a mode answers, beside a list's table
abbrev pub picked : Mode → (Asked → Option Factor) → Asked → Option Factor
picked Listed list = list
picked Printed list = printed_answer
picked Both list = by_tier list printed_answer
picked Neither list = λ _. None

-- the table of the plant's list
abbrev pub listed : Sources → Asked → Option Factor
listed s q = first_fit q (held s.pair.measured.list.rows.now s.pair.measured.list.length)

abbrev pub table_of : Sources → Asked → Option Factor
table_of s = picked s.mode (listed s)

picked_limited : (m : Mode) (list : Asked → Option Factor) (q : Asked) → Limited q.class (list q) → Limited q.class (picked m list q)
picked_limited Listed list q l = l
picked_limited Printed list q l = printed_limited q
picked_limited Both list q l = by_tier_limited q.class list printed_answer q l (printed_limited q)
picked_limited Neither list q l = none_limited q.class

-- whatever the mode, the table keeps the limits
pub table_limited : (s : Sources) (q : Asked) → Limited q.class (table_of s q)
table_limited s q = picked_limited s.mode (listed s) q (rows_limited q _)
