-- The quantities of a set: of each reading the nearest whole number.
use Rattle.std.specs.Prelude.{ℕ, ◌*◌, List, [], ◌∷◌, Ok, Err, Result}
use Rattle.refusal.specs.declared.Refusal.{Refusal}
use Rattle.rounding.specs.Nearest.{nearest, Nearest}
use Rattle.reading.specs.Dyadic.{over, under}
use Rattle.reading.specs.Limited.{Limited, amount, temperature, pressure, volume, cod}
use Rattle.reading.specs.declared.sets.ReadingSet.{ReadingSet}
use Rattle.reading.specs.declared.sets.ReadingSet.TheVariants.{Amount, Water, Steam, Wastewater}
use Rattle.reading.specs.declared.sets.Quantities.{Quantities}
use Rattle.reading.specs.declared.sets.Quantities.TheVariants.{Amount as AmountOf, Water as WaterOf, Steam as SteamOf, Wastewater as WastewaterOf}

-- the whole number nearest to a reading, in units of its quantity
abbrev pub quantity_of : Limited → ℕ
quantity_of r = nearest (r.scale * over r.value) (under r.value)

-- a set's quantities
abbrev pub quantities_of : ReadingSet → Quantities
quantities_of (Amount x) = AmountOf (quantity_of (amount x))
quantities_of (Water w) = WaterOf (record { kilograms = quantity_of (amount w.kilograms); hundredths = quantity_of (temperature w.celsius) })
quantities_of (Steam s) = SteamOf (record { kilograms = quantity_of (amount s.kilograms); kilopascals = quantity_of (pressure s.kilopascals) })
quantities_of (Wastewater w) = WastewaterOf (record {
  cubic_metres = quantity_of (volume w.cubic_metres);
  inlet = quantity_of (cod w.inlet);
  outlet = quantity_of (cod w.outlet);
  sludge = quantity_of (amount w.sludge);
  recovered = quantity_of (amount w.recovered);
})

-- the answer on quantities that goes with an answer on a set
abbrev pub counted : Result ReadingSet Refusal → Result Quantities Refusal
counted (Ok set) = Ok (quantities_of set)
counted (Err refused) = Err refused

-- the quantities in their order
abbrev pub wholes_of : Quantities → List ℕ
wholes_of (AmountOf n) = n ∷ []
wholes_of (WaterOf q) = q.kilograms ∷ q.hundredths ∷ []
wholes_of (SteamOf q) = q.kilograms ∷ q.kilopascals ∷ []
wholes_of (WastewaterOf q) = q.cubic_metres ∷ q.inlet ∷ q.outlet ∷ q.sludge ∷ q.recovered ∷ []

-- each number is within a half of its reading
abbrev pub Rounded : List Limited → List ℕ → Type 0
Rounded [] [] = Unit {0}
Rounded [] (q ∷ qs) = ⊥
Rounded (r ∷ rs) [] = ⊥
Rounded (r ∷ rs) (q ∷ qs) = Nearest (r.scale * over r.value) (under r.value) q × Rounded rs qs
