-- What the readers give of the months that a book holds.
use Rattle.std.specs.Prelude.{ℕ, cond, ◌&&◌, [], ◌∷◌, ℤ, pos, ◌-ℤ◌, Ok, Err, sum_by, Result, nat_le}
use Rattle.refusal.specs.declared.Layer.TheVariants.{Book}
use Rattle.refusal.specs.declared.Refusal.{Refusal}
use Rattle.refusal.specs.Said.{refusal}
use Rattle.calendar.specs.Months.{month_numbers}
use Rattle.months.specs.declared.account.Figure.{Figure}
use Rattle.months.specs.declared.year.Months.{Months}
use Rattle.months.specs.Accounts.{figure_at}

-- line l of the year: its twelve months added
abbrev pub year_figure : Months → ℕ → Figure
year_figure ms l = record { count = sum_by (λ m. (figure_at ms m l).count) month_numbers; grams = sum_by (λ m. (figure_at ms m l).grams) month_numbers }

abbrev pub line_read : Months → ℕ → ℕ → Result Figure Refusal
line_read ms m l =
    cond (nat_le 1 m && nat_le m 12)
    (cond (nat_le 1 l && nat_le l 7) (Ok (figure_at ms m l)) (Err (refusal Book 19 0)))
    (Err (refusal Book 19 0))

abbrev pub year_line_read : Months → ℕ → Result Figure Refusal
year_line_read ms l = cond (nat_le 1 l && nat_le l 7) (Ok (year_figure ms l)) (Err (refusal Book 19 0))

-- the count of all seven lines
abbrev pub total_count : Months → ℕ
total_count ms = sum_by (λ l. (year_figure ms l).count) (1 ∷ 2 ∷ 3 ∷ 4 ∷ 5 ∷ 6 ∷ 7 ∷ [])

-- lines 1 to 5 less lines 6 and 7
abbrev pub net_grams : Months → ℤ
net_grams ms = pos (sum_by (λ l. (year_figure ms l).grams) (1 ∷ 2 ∷ 3 ∷ 4 ∷ 5 ∷ [])) -ℤ pos (sum_by (λ l. (year_figure ms l).grams) (6 ∷ 7 ∷ []))
