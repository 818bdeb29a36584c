-- What a date is refused for, and what its parts give or refuse.
use Rattle.std.specs.Prelude.{ℕ, cond, Ok, Err, Result}
use Rattle.refusal.specs.declared.Layer.TheVariants.{Record}
use Rattle.refusal.specs.declared.Refusal.{Refusal}
use Rattle.refusal.specs.Said.{refusal}
use Rattle.calendar.specs.declared.fault.DateFault.{DateFault}
use Rattle.calendar.specs.declared.fault.DateFault.TheVariants.{YearUnlawful, DayUnlawful}
use Rattle.calendar.specs.Calendar.{year_lawful, day_lawful}

-- a date that cannot be is refused as one, whichever part is wrong
abbrev pub refusal_of : DateFault → Refusal
refusal_of YearUnlawful = refusal Record 6 0
refusal_of DayUnlawful = refusal Record 6 0

-- a year's number, or its refusal
abbrev pub year_in : ℕ → Result ℕ Refusal
year_in y = cond (year_lawful y) (Ok y) (Err (refusal Record 6 0))

-- a day's year and number, or its refusal
abbrev pub day_in : ℕ → ℕ → Result (ℕ × ℕ) Refusal
day_in y d = cond (day_lawful y d) (Ok (y, d)) (Err (refusal Record 6 0))
