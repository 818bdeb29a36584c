-- Figures that are known from outside, through the definitions of the calculation.
use Rattle.std.specs.Prelude.{◌≡◌, ℕ, Some, None, Ok, Err, Option}
use Rattle.refusal.specs.declared.Layer.TheVariants.{Factor as FactorLayer}
use Rattle.refusal.specs.Said.{refusal}
use Rattle.reading.specs.declared.sets.Quantities.{Quantities}
use Rattle.reading.specs.declared.sets.Quantities.TheVariants.{Amount, Water, Steam, Wastewater}
use Rattle.factor.specs.declared.question.Factor.{Factor}
use Rattle.factor.specs.Printed.{printed_answer}
use Rattle.emission.specs.Parts.{grams_of}
use Rattle.emission.specs.Emission.{emission_parts, methane_checked}

-- the grams of quantities under a factor
abbrev pub grams : (kind : ℕ) → Quantities → Option ℕ → Option Factor → ℕ
grams kind q share f = grams_of (emission_parts kind q share f)

-- what the printed table holds for a fuel in 2024, at the default tier
abbrev pub fuel_in_print : ℕ → Option Factor
fuel_in_print item = printed_answer (record { class = 1; item = item; tier = 68; year = 2024 })

-- a factor of a plant: a rate that counts whole
abbrev pub rate : ℕ → Option Factor
rate r = Some (record { rate = r; share = 1000 })

-- 100 m³ of wastewater from 2000 to 200 g/m³ of COD, with some kg of methane recovered
abbrev pub treated : ℕ → Quantities
treated recovered = Wastewater (record { cubic_metres = 100; inlet = 2000; outlet = 200; sludge = 0; recovered = recovered })

-- 0.075 t of methane per t of COD, a warming potential of 27.9
abbrev pub methane : Option Factor
methane = Some (record { rate = 7500; share = 279 })

pub record Figures : Type 0 where
  pub coal : grams 1 (Amount 1000) None (fuel_in_print 2) ≡ 1741750
  pub gas : grams 1 (Amount 1) None (fuel_in_print 21) ≡ 21622
  pub water_70 : grams 7 (Water (record { kilograms = 1000; hundredths = 7000 })) None (rate 1100) ≡ 23027
  pub water_20 : grams 7 (Water (record { kilograms = 1000; hundredths = 2000 })) None (rate 1100) ≡ 0
  pub steam_1000 : grams 7 (Steam (record { kilograms = 1000; kilopascals = 1000 })) None (rate 1100) ≡ 296259
  pub steam_950 : grams 7 (Steam (record { kilograms = 1000; kilopascals = 950 })) None (rate 1100) ≡ 296039
  pub wastewater : grams 4 (treated 0) None methane ≡ 376650
  pub recovered_13 : grams 4 (treated 13) None methane ≡ 13950
  pub recovered_13_passes : methane_checked (treated 13) methane ≡ Ok tt
  pub recovered_14 : methane_checked (treated 14) methane ≡ Err (refusal FactorLayer 13 0)
  pub power_5701 : grams 5 (Amount 5) None (rate 5701) ≡ 2851
  pub power_5703 : grams 5 (Amount 5) None (rate 5703) ≡ 2852
  pub bought : grams 3 (Amount 250) (Some 40) None ≡ 10000
  -- a missing purity counts as 98 %
  pub purity : grams 2 (Amount 1000) None (rate 43971) ≡ grams 2 (Amount 1000) (Some 980) (rate 43971)
