-- The parts are the exact emissions.
use Rattle.std.specs.Prelude.{◌≡◌, ℕ, ◌*◌, ◌≤◌}
use Rattle.emission.specs.Fraction.{◌/:◌}
use Rattle.emission.specs.Formulas.{fuel_grams, carbonate_grams, bought_grams, energy_grams, water_heat, steam_heat, heat_grams, wastewater_grams}
use Rattle.emission.specs.Parts.{IsParts, fuel_parts, carbonate_parts, bought_parts, energy_parts, water_parts, steam_parts, wastewater_parts}

pub record ExactParts : Type 0 where
  pub fuel : (q rate oxidised : ℕ) → IsParts (fuel_parts q rate oxidised) (fuel_grams q rate oxidised)
  pub carbonate : (q rate purity : ℕ) → IsParts (carbonate_parts q rate purity) (carbonate_grams q rate purity)
  pub bought : (q loss : ℕ) → IsParts (bought_parts q loss) (bought_grams q loss)
  pub energy : (q rate : ℕ) → IsParts (energy_parts q rate) (energy_grams q rate)
  pub water : (kg t rate : ℕ) → IsParts (water_parts kg t rate) (heat_grams (water_heat kg t) rate)
  pub steam : (kg over under k rate : ℕ) → 1 ≤ under → k * under ≡ 1000 → IsParts (steam_parts kg over under rate) (heat_grams (steam_heat kg (over /: under)) rate)
  pub wastewater : (cod rate recovered potential : ℕ) → IsParts (wastewater_parts cod rate recovered potential) (wastewater_grams cod rate recovered potential)
