-- Which years and days a date may name.
use Rattle.std.specs.Prelude.{ℕ, ◌%◌, Bool, cond, not, ◌&&◌, ◌||◌, ◌==◌, nat_le}

-- the years of the ledger
abbrev pub year_lawful : ℕ → Bool
year_lawful y = nat_le 2000 y && nat_le y 2199

-- a leap year of the Gregorian calendar
abbrev pub leap : ℕ → Bool
leap y = y % 4 == 0 && (not (y % 100 == 0) || y % 400 == 0)

-- how many days a year has
abbrev pub days_in : ℕ → ℕ
days_in y = cond (leap y) 366 365

-- the days of a year, counted from 1
abbrev pub day_lawful : ℕ → ℕ → Bool
day_lawful y d = nat_le 1 d && nat_le d (days_in y)
