-- The emission of quantities under a factor, and when there is none.
use Rattle.std.specs.Prelude.{ℕ, ◌-◌, ◌*◌, ◌≤◌, cond, Some, None, Ok, Err, Option, Result, ◌==◌, nat_le}
use Rattle.refusal.specs.declared.Refusal.{Refusal}
use Rattle.refusal.specs.declared.Layer.TheVariants.{Record as RecordLayer, Factor as FactorLayer}
use Rattle.refusal.specs.Said.{refusal}
use Rattle.reading.specs.declared.sets.Quantities.{Quantities}
use Rattle.reading.specs.declared.sets.Quantities.TheVariants.{Amount, Water, Steam, Wastewater}
use Rattle.reading.specs.declared.sets.WastewaterQuantities.{WastewaterQuantities}
use Rattle.factor.specs.declared.question.Factor.{Factor}
use Rattle.steam.specs.Line.{enthalpy_over, enthalpy_under}
use Rattle.emission.specs.Formulas.{cod_removed}
use Rattle.emission.specs.Parts.{fuel_parts, carbonate_parts, bought_parts, energy_parts, water_parts, steam_parts, wastewater_parts}

-- a factor's rate and share; a record that asks for none has none to use
abbrev pub rate_of : Option Factor → ℕ
rate_of None = 0
rate_of (Some f) = f.rate

abbrev pub share_of : Option Factor → ℕ
share_of None = 0
share_of (Some f) = f.share

-- the purity of a carbonate is 98 % where it is missing
abbrev pub purity_of : Option ℕ → ℕ
purity_of None = 980
purity_of (Some purity) = purity

-- the loss of bought CO2, which no lawful record of it lacks
abbrev pub loss_of : Option ℕ → ℕ
loss_of None = 0
loss_of (Some loss) = loss

-- the grams of COD removed from wastewater, less the sludge
abbrev pub cod_of : WastewaterQuantities → ℕ
cod_of w = cod_removed w.cubic_metres w.inlet w.outlet w.sludge

-- an amount is of fuel, carbonate, bought CO2, power or heat, by the number of its kind
abbrev pub amount_parts : (kind q : ℕ) → Option ℕ → Option Factor → ℕ
amount_parts kind q share f =
    cond (kind == 1) (fuel_parts q (rate_of f) (share_of f))
    (cond (kind == 2) (carbonate_parts q (rate_of f) (purity_of share))
    (cond (kind == 3) (bought_parts q (loss_of share)) (energy_parts q (rate_of f))))

-- the exact emission of a record, in parts
abbrev pub emission_parts : ℕ → Quantities → Option ℕ → Option Factor → ℕ
emission_parts kind (Amount q) share f = amount_parts kind q share f
emission_parts kind (Water w) share f = water_parts w.kilograms w.hundredths (rate_of f)
emission_parts kind (Steam s) share f = steam_parts s.kilograms (enthalpy_over s.kilopascals) (enthalpy_under s.kilopascals) (rate_of f)
emission_parts kind (Wastewater w) share f = wastewater_parts (cod_of w) (rate_of f) w.recovered (share_of f)

-- wastewater whose outlet has more COD than its inlet, or whose sludge has more than was removed, is refused
abbrev pub cod_checked : Quantities → Result (Unit {0}) Refusal
cod_checked (Amount q) = Ok tt
cod_checked (Water w) = Ok tt
cod_checked (Steam s) = Ok tt
cod_checked (Wastewater w) =
    cond (nat_le w.outlet w.inlet)
    (cond (nat_le (1000 * w.sludge) (w.cubic_metres * (w.inlet - w.outlet))) (Ok tt) (Err (refusal RecordLayer 11 2)))
    (Err (refusal RecordLayer 11 1))

-- more methane recovered than formed is refused; both in 10⁻⁵ g
abbrev pub methane_checked : Quantities → Option Factor → Result (Unit {0}) Refusal
methane_checked (Amount q) f = Ok tt
methane_checked (Water w) f = Ok tt
methane_checked (Steam s) f = Ok tt
methane_checked (Wastewater w) f = cond (nat_le (w.recovered * 100000000) (cod_of w * rate_of f)) (Ok tt) (Err (refusal FactorLayer 13 0))

-- a pressure of steam is one of the table's range
abbrev pub InRange : Quantities → Type 0
InRange (Amount q) = Unit {0}
InRange (Water w) = Unit {0}
InRange (Steam s) = (1 ≤ s.kilopascals) × (s.kilopascals ≤ 22000)
InRange (Wastewater w) = Unit {0}
