-- The same emissions in whole parts of a gram.
use Rattle.std.specs.Prelude.{◌≡◌, ℕ, ◌-◌, ◌*◌, ◌/◌}
use Rattle.rounding.specs.Nearest.{nearest}
use Rattle.emission.specs.Fraction.{Fraction}

-- a gram has 3 × 10¹⁰ parts
abbrev pub parts_per_gram : ℕ
parts_per_gram = 30000000000

-- a number of parts is exactly that fraction of grams
abbrev pub IsParts : ℕ → Fraction → Type 0
IsParts parts grams = parts * grams.under ≡ grams.over * parts_per_gram

abbrev pub fuel_parts : (q rate oxidised : ℕ) → ℕ
fuel_parts q rate oxidised = (q * rate) * (oxidised * 1100)

abbrev pub carbonate_parts : (q rate purity : ℕ) → ℕ
carbonate_parts q rate purity = (q * rate) * (purity * 300000)

abbrev pub bought_parts : (q loss : ℕ) → ℕ
bought_parts q loss = (q * loss) * 30000000000

abbrev pub energy_parts : (q rate : ℕ) → ℕ
energy_parts q rate = (q * rate) * 3000000000

abbrev pub water_parts : (kg t rate : ℕ) → ℕ
water_parts kg t rate = (kg * (t - 2000)) * (rate * 125604)

-- the enthalpy's denominator divides 1000, so that its share of 30000 is whole
abbrev pub steam_parts : (kg over under rate : ℕ) → ℕ
steam_parts kg over under rate = (kg * (over - 8374 * under)) * (rate * (30000 / under))

abbrev pub wastewater_parts : (cod rate recovered potential : ℕ) → ℕ
wastewater_parts cod rate recovered potential = (cod * rate - recovered * 100000000) * (potential * 30000)

-- grams: the exact emission rounded once
abbrev pub grams_of : ℕ → ℕ
grams_of parts = nearest parts parts_per_gram

-- no entry has more grams
abbrev pub most_grams : ℕ
most_grams = 800000000000
