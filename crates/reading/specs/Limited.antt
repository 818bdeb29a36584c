-- The limits of each reading of a set, and which reading passes them first.
use Rattle.std.specs.Prelude.{ℕ, ◌+◌, Bool, true, cond, ◌&&◌, List, [], ◌∷◌, Ok, Err, Result, Float}
use Rattle.refusal.specs.declared.Refusal.{Refusal}
use Rattle.refusal.specs.declared.Layer.TheVariants.{Record}
use Rattle.refusal.specs.Said.{refusal}
use Rattle.reading.specs.Dyadic.{lawful}
use Rattle.reading.specs.declared.limits.Limits.{Limits}
use Rattle.reading.specs.declared.sets.ReadingSet.{ReadingSet}
use Rattle.reading.specs.declared.sets.ReadingSet.TheVariants.{Amount, Water, Steam, Wastewater}

-- a reading, its limits, and how many units of its quantity make one of its own
pub record Limited : Type 0 where
  pub value : Float
  pub low : ℕ
  pub high : ℕ
  pub scale : ℕ

-- a reading with its limits as the code has them
abbrev pub limited : Float × Limits → Limited
limited (x, l) = record { value = x; low = l.low; high = l.high; scale = l.scale }

-- kilograms and every reading with no limits of its own
abbrev pub amount : Float → Limited
amount x = record { value = x; low = 0; high = 800000; scale = 1 }

-- degrees Celsius, counted in hundredths
abbrev pub temperature : Float → Limited
temperature x = record { value = x; low = 20; high = 200; scale = 100 }

-- kilopascals
abbrev pub pressure : Float → Limited
pressure x = record { value = x; low = 1; high = 22000; scale = 1 }

-- cubic metres of wastewater
abbrev pub volume : Float → Limited
volume x = record { value = x; low = 0; high = 80000; scale = 1 }

-- COD, in grams per cubic metre
abbrev pub cod : Float → Limited
cod x = record { value = x; low = 0; high = 100000; scale = 1 }

-- the readings of a set in their order
abbrev pub readings_of : ReadingSet → List Limited
readings_of (Amount x) = amount x ∷ []
readings_of (Water w) = amount w.kilograms ∷ temperature w.celsius ∷ []
readings_of (Steam s) = amount s.kilograms ∷ pressure s.kilopascals ∷ []
readings_of (Wastewater w) = volume w.cubic_metres ∷ cod w.inlet ∷ cod w.outlet ∷ amount w.sludge ∷ amount w.recovered ∷ []

-- the reading keeps its limits
abbrev pub kept : Limited → Bool
kept r = lawful r.value r.low r.high

-- every reading of the list keeps its limits
abbrev pub all_kept : List Limited → Bool
all_kept [] = true
all_kept (r ∷ rs) = kept r && all_kept rs

-- the number, counted from n, of the first reading that does not; 0 where all do
abbrev pub first_past : ℕ → List Limited → ℕ
first_past n [] = 0
first_past n (r ∷ rs) = cond (kept r) (first_past (n + 1) rs) n

-- every reading of the set is lawful
abbrev pub lawful_set : ReadingSet → Bool
lawful_set set = all_kept (readings_of set)

-- the number of the first unlawful reading, from 1; 0 where all are lawful
abbrev pub first_unlawful : ReadingSet → ℕ
first_unlawful set = first_past 1 (readings_of set)

-- the set itself where every reading is lawful, else the refusal that names the first unlawful one
abbrev pub checked_set : ReadingSet → Result ReadingSet Refusal
checked_set set = cond (lawful_set set) (Ok set) (Err (refusal Record 9 (first_unlawful set)))
