-- The emissions of the standard, in grams of CO2 equivalent, as exact fractions of quantities and factors.
use Rattle.std.specs.Prelude.{ℕ, ◌-◌, ◌*◌}
use Rattle.emission.specs.Fraction.{Fraction, ◌/:◌, ◌·◌, ◌less◌}

-- kilograms as tonnes; of a gas, tens of cubic metres as units of ten thousand
abbrev pub tonnes : ℕ → Fraction
tonnes q = q /: 1000

-- a tonne has a million grams
abbrev pub grams_per_tonne : Fraction
grams_per_tonne = 1000000 /: 1

-- fuel: tonnes × carbon per tonne (rate in 10⁻⁸) × oxidised part (thousandths) × 44/12, the mass of CO2 to that of carbon
abbrev pub fuel_grams : (q rate oxidised : ℕ) → Fraction
fuel_grams q rate oxidised = tonnes q · (rate /: 100000000) · (oxidised /: 1000) · (44 /: 12) · grams_per_tonne

-- carbonate: tonnes × CO2 per tonne (rate in 10⁻⁵) × purity (thousandths)
abbrev pub carbonate_grams : (q rate purity : ℕ) → Fraction
carbonate_grams q rate purity = tonnes q · (rate /: 100000) · (purity /: 1000) · grams_per_tonne

-- bought CO2: tonnes × the part that is lost (thousandths)
abbrev pub bought_grams : (q loss : ℕ) → Fraction
bought_grams q loss = tonnes q · (loss /: 1000) · grams_per_tonne

-- power in MWh, or heat in GJ, × its rate in 10⁻⁴ tonnes of CO2; the quantity counts thousandths of either
abbrev pub energy_grams : (q rate : ℕ) → Fraction
energy_grams q rate = (q /: 1000) · (rate /: 10000) · grams_per_tonne

-- the heat of hot water in GJ: kg × degrees above 20 °C (t in hundredths) × 4.1868 kJ, a GJ being a million kJ
abbrev pub water_heat : (kg t : ℕ) → Fraction
water_heat kg t = (kg /: 1) · ((t - 2000) /: 100) · (41868 /: 10000) · (1 /: 1000000)

-- the heat of steam in GJ: kg × its enthalpy, in hundredths of kJ/kg, above 83.74 kJ/kg, that of water at 20 °C
abbrev pub steam_heat : ℕ → Fraction → Fraction
steam_heat kg h = (kg /: 1) · (h less 8374) · (1 /: 100) · (1 /: 1000000)

-- heat in GJ × its rate
abbrev pub heat_grams : Fraction → ℕ → Fraction
heat_grams heat rate = heat · (rate /: 10000) · grams_per_tonne

-- wastewater: grams of COD removed, less the sludge (kg)
abbrev pub cod_removed : (m³ inlet outlet sludge : ℕ) → ℕ
cod_removed m³ inlet outlet sludge = m³ * (inlet - outlet) - 1000 * sludge

-- methane in grams: COD × methane per COD (rate in 10⁻⁵), less the methane recovered (kg)
abbrev pub methane_grams : (cod rate recovered : ℕ) → Fraction
methane_grams cod rate recovered = ((cod /: 1) · (rate /: 100000)) less (1000 * recovered)

-- its warming potential in tenths
abbrev pub wastewater_grams : (cod rate recovered potential : ℕ) → Fraction
wastewater_grams cod rate recovered potential = methane_grams cod rate recovered · (potential /: 10)
