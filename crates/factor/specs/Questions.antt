-- A question in plain numbers, as tables hold it.
use Rattle.std.specs.Prelude.{ℕ, cond, nat_eq, Option}
use Rattle.kind.specs.Tiers.{letter_of}
use Rattle.factor.specs.declared.question.Factor.{Factor}
use Rattle.factor.specs.declared.question.Question.{Question}
use Rattle.factor.specs.Classes.{class_number, class_item}

-- class, item, tier letter and year
pub record Asked : Type 0 where
  pub class : ℕ
  pub item : ℕ
  pub tier : ℕ
  pub year : ℕ

abbrev pub asked_of : Question → Asked
asked_of q = record { class = class_number q.class; item = class_item q.class; tier = letter_of q.tier; year = q.year.number }

-- of two tables the first answers to measured values, whose letter is M, and the second to default ones
abbrev pub by_tier : (Asked → Option Factor) → (Asked → Option Factor) → Asked → Option Factor
by_tier measured default q = cond (nat_eq q.tier 77) (measured q) (default q)
