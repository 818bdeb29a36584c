-- The rules of records beyond those of kinds and readings.
use Rattle.std.specs.Prelude.{ℕ, Bool, true, false, cond, ◌&&◌, Some, None, Ok, Option, Result, ◌==◌, nat_le}
use Rattle.refusal.specs.declared.Refusal.{Refusal}
use Rattle.refusal.specs.Said.{then}
use Rattle.calendar.specs.Faults.{year_in, day_in}
use Rattle.kind.specs.Subject.{kind_in, tier_in, shape_in}
use Rattle.reading.specs.declared.sets.Shape.{Shape}
use Rattle.reading.specs.declared.sets.Shape.TheVariants.{Amount, Water, Steam, Wastewater}

abbrev pub at_most_whole : Option ℕ → Bool
at_most_whole None = true
at_most_whole (Some s) = nat_le s 1000

abbrev pub given : Option ℕ → Bool
given None = false
given (Some s) = true

-- the share in thousandths: the loss of bought CO2 must be given, the purity of a carbonate may be, and nothing else has one
abbrev pub share_lawful : ℕ → Option ℕ → Bool
share_lawful kind share =
    cond (kind == 3) (given share && at_most_whole share)
    (cond (kind == 2) (at_most_whole share) (cond (given share) false true))

abbrev pub shape_number : Shape → ℕ
shape_number Amount = 0
shape_number Water = 1
shape_number Steam = 2
shape_number Wastewater = 3

abbrev pub same_shape : Shape → Shape → Bool
same_shape a b = shape_number a == shape_number b

-- the readings and the share are those of the kind and its item
abbrev pub fitting : ℕ → ℕ → Shape → Option ℕ → Bool
fitting kind item shape share = same_shape shape (shape_in kind item) && share_lawful kind share

-- what stands before the readings: date, kind, item and tier
pub record Head : Type 0 where
  pub year : ℕ
  pub day : ℕ
  pub kind : ℕ
  pub item : ℕ
  pub tier : ℕ

-- the year is checked first, then the day, then kind and item, then the tier
abbrev pub head_in : (year day kind item tier : ℕ) → Result Head Refusal
head_in year day kind item tier =
    then (year_in year) (λ y. then (day_in y day) (λ d. then (kind_in kind item) (λ k. then (tier_in tier) (λ t.
    Ok (record { year = d.0; day = d.1; kind = k.0; item = k.1; tier = t })))))
