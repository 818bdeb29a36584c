-- What it says of each reading that a set is lawful, and that each quantity is within a half of its reading.
use Rattle.std.proofs.Common.{◌≡◌, ℕ, ◌*◌, ◌≤◌, T, List, [], ◌∷◌, sym, ap, ◌∙◌, subst, lit≤}
use lib.Ieee.{Float}
use lib.Ieee.Fits.{and_l, and_r}
use Rattle.rounding.specs.Nearest.{Nearest}
use Rattle.rounding.proofs.Laws as rounding
use Rattle.reading.specs.Dyadic.{over, under}
use Rattle.reading.specs.Limited.{Limited, amount, temperature, pressure, volume, cod, kept, all_kept, readings_of, lawful_set}
use Rattle.reading.specs.Quantity.{quantity_of, quantities_of, wholes_of, Rounded}
use Rattle.reading.specs.declared.sets.ReadingSet.{ReadingSet}
use Rattle.reading.specs.declared.sets.ReadingSet.TheVariants.{Amount, Water, Steam, Wastewater}
use Rattle.reading.specs.declared.sets.Water.{Water as WaterReadings}
use Rattle.reading.specs.declared.sets.Steam.{Steam as SteamReadings}
use Rattle.reading.specs.declared.sets.Wastewater.{Wastewater as WastewaterReadings}
use Rattle.reading.specs.declared.sets.Quantities.{Quantities}
use Rattle.reading.specs.declared.sets.Quantities.TheVariants.{Amount as AmountOf, Water as WaterOf, Steam as SteamOf, Wastewater as WastewaterOf}
use Rattle.reading.proofs.Exactly.{under_pos}

-- each reading of the list keeps its limits
abbrev pub Each : List Limited → Type 0
Each [] = Unit {0}
Each (r ∷ rs) = T (kept r) × Each rs

pub each : (rs : List Limited) → T (all_kept rs) → Each rs
each [] t = tt
each (r ∷ rs) t = (and_l (kept r) (all_kept rs) t, each rs (and_r (kept r) (all_kept rs) t))

near : (r : Limited) → Nearest (r.scale * over r.value) (under r.value) (quantity_of r)
near r = rounding.holds (r.scale * over r.value) (under r.value) (under_pos r.value)

all_near : (set : ReadingSet) → Rounded (readings_of set) (wholes_of (quantities_of set))
all_near (Amount x) = (near (amount x), tt)
all_near (Water w) = (near (amount w.kilograms), (near (temperature w.celsius), tt))
all_near (Steam s) = (near (amount s.kilograms), (near (pressure s.kilopascals), tt))
all_near (Wastewater w) = (near (volume w.cubic_metres), (near (cod w.inlet), (near (cod w.outlet), (near (amount w.sludge), (near (amount w.recovered), tt)))))

pub rounded : (set : ReadingSet) (q : Quantities) → q ≡ quantities_of set → Rounded (readings_of set) (wholes_of q)
rounded set q e = subst (λ (z : Quantities). Rounded (readings_of set) (wholes_of z)) (sym e) (all_near set)

-- q is the reading's quantity if the reading keeps its limits, and these are no wider than any reading's
abbrev Counts : Limited → ℕ → Type 0
Counts r q = r.high ≤ 800000 → T (kept r) → q ≡ quantity_of r

module _ (set : ReadingSet) (lawful : T (lawful_set set)) where
  at : (other : ReadingSet) → set ≡ other → Each (readings_of other)
  at other e = each (readings_of other) (subst (λ (z : ReadingSet). T (lawful_set z)) e lawful)

  pub amount_counts : (x : Float) (a : ℕ) → set ≡ Amount x → Counts (amount x) a → AmountOf a ≡ quantities_of set
  amount_counts x a e p = ap AmountOf (p (lit≤ tt) (at (Amount x) e).0) ∙ ap quantities_of (sym e)

  pub water_counts : (w : WaterReadings) (a b : ℕ) → set ≡ Water w → Counts (amount w.kilograms) a → Counts (temperature w.celsius) b
      → WaterOf (record { kilograms = a; hundredths = b }) ≡ quantities_of set
  water_counts w a b e p q =
      let k = at (Water w) e in
      (λ i. WaterOf (record { kilograms = p (lit≤ tt) k.0 i; hundredths = q (lit≤ tt) k.1.0 i })) ∙ ap quantities_of (sym e)

  pub steam_counts : (s : SteamReadings) (a b : ℕ) → set ≡ Steam s → Counts (amount s.kilograms) a → Counts (pressure s.kilopascals) b
      → SteamOf (record { kilograms = a; kilopascals = b }) ≡ quantities_of set
  steam_counts s a b e p q =
      let k = at (Steam s) e in
      (λ i. SteamOf (record { kilograms = p (lit≤ tt) k.0 i; kilopascals = q (lit≤ tt) k.1.0 i })) ∙ ap quantities_of (sym e)

  pub wastewater_counts : (w : WastewaterReadings) (a b c d f : ℕ) → set ≡ Wastewater w → Counts (volume w.cubic_metres) a → Counts (cod w.inlet) b → Counts (cod w.outlet) c → Counts (amount w.sludge) d → Counts (amount w.recovered) f
      → WastewaterOf (record { cubic_metres = a; inlet = b; outlet = c; sludge = d; recovered = f }) ≡ quantities_of set
  wastewater_counts w a b c d f e p q r s t =
      let k = at (Wastewater w) e in
      (λ i. WastewaterOf (record {
        cubic_metres = p (lit≤ tt) k.0 i;
        inlet = q (lit≤ tt) k.1.0 i;
        outlet = r (lit≤ tt) k.1.1.0 i;
        sludge = s (lit≤ tt) k.1.1.1.0 i;
        recovered = t (lit≤ tt) k.1.1.1.1.0 i;
      }))
      ∙ ap quantities_of (sym e)
