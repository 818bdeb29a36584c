-- The months of a year by their lengths.
use Rattle.std.specs.Prelude.{ℕ, ◌+◌, ◌-◌, ◌<◌, ◌≤◌, Bool, cond, ◌&&◌, List, [], ◌∷◌, take, Some, None, sum, Option, nat_le}
use Rattle.calendar.specs.Calendar.{leap}

-- the lengths of the months from January on, in a leap year or a common one
abbrev pub lengths : Bool → List ℕ
lengths is_leap = 31 ∷ cond is_leap 29 28 ∷ 31 ∷ 30 ∷ 31 ∷ 30 ∷ 31 ∷ 31 ∷ 30 ∷ 31 ∷ 30 ∷ 31 ∷ []

-- a month's number; none where no month has it
abbrev pub month_in : ℕ → Option ℕ
month_in m = cond (nat_le 1 m && nat_le m 12) (Some m) None

-- the numbers of the months from January on
abbrev pub month_numbers : List ℕ
month_numbers = 1 ∷ 2 ∷ 3 ∷ 4 ∷ 5 ∷ 6 ∷ 7 ∷ 8 ∷ 9 ∷ 10 ∷ 11 ∷ 12 ∷ []

-- the day of the year on which month m begins
abbrev pub first_day : ℕ → ℕ → ℕ
first_day y m = 1 + sum (take (m - 1) (lengths (leap y)))

-- day d of year y lies in month m
pub record InMonth (y d m : ℕ) : Type 0 where
  pub from_january : 1 ≤ m
  pub to_december : m ≤ 12
  pub begun : first_day y m ≤ d
  pub before_next : d < first_day y (m + 1)

-- what a list adds up to before each of its entries, if s is added already
abbrev pub sums_from : ℕ → List ℕ → List ℕ
sums_from s [] = []
sums_from s (x ∷ xs) = s ∷ sums_from (s + x) xs

-- the days of a year before each month: the table's rule
abbrev pub days_before : Bool → List ℕ
days_before is_leap = sums_from 0 (lengths is_leap)
