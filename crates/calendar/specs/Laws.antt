-- What holds of every lawful date, and of some dates by name.
use Rattle.std.specs.Prelude.{◌≡◌, ℕ, false, T, sum}
use Rattle.calendar.specs.Calendar.{year_lawful, leap, days_in, day_lawful}
use Rattle.calendar.specs.Months.{lengths, InMonth}

-- month m holds day d of year y, and no other month does
pub record OnlyMonth (y d m : ℕ) : Type 0 where
  pub holds : InMonth y d m
  pub alone : (n : ℕ) → InMonth y d n → n ≡ m

-- every lawful day lies in exactly one month
abbrev pub OneMonth : Type 0
OneMonth = (y d : ℕ) → T (year_lawful y) → T (day_lawful y d) → (m : ℕ) × OnlyMonth y d m

-- a year's days are those of its months
abbrev pub MonthsFillTheYear : Type 0
MonthsFillTheYear = (y : ℕ) → days_in y ≡ sum (lengths (leap y))

-- a year divisible by 4 has a day 366, the last of December
abbrev pub LastOf2024 : Type 0
LastOf2024 = T (day_lawful 2024 366) × InMonth 2024 366 12

-- a common year ends with day 365
abbrev pub LastOf2023 : Type 0
LastOf2023 = (day_lawful 2023 366 ≡ false) × InMonth 2023 365 12

-- a year divisible by 100 and not by 400 is common
abbrev pub LastOf2100 : Type 0
LastOf2100 = day_lawful 2100 366 ≡ false

-- day 60 is 29 February in a leap year, and 1 March in a common one
abbrev pub Day60 : Type 0
Day60 = InMonth 2024 60 2 × InMonth 2023 60 3
