-- The parts are the exact emissions. Assumes nothing.
use Rattle.std.proofs.Common.{◌≡◌, ℕ, ◌-◌, ◌*◌, ◌/◌, ◌≤◌, sym, ap, ◌∙◌, mul_assoc, mul_comm, mul-one, arith}
use native.Mathlib.Nat.{div-eq_of_lt-le}
use Rattle.emission.specs.Fraction.{◌/:◌}
use Rattle.emission.specs.Formulas.{fuel_grams, carbonate_grams, bought_grams, energy_grams, water_heat, steam_heat, heat_grams, wastewater_grams}
use Rattle.emission.specs.Parts.{IsParts, fuel_parts, carbonate_parts, bought_parts, energy_parts, water_parts, steam_parts, wastewater_parts}

-- a product with a scaled factor
scaled : (a b k : ℕ) → a * (b * k) ≡ a * b * k
scaled a b k = sym (mul_assoc a b k)

pub fuel : (q r s : ℕ) → IsParts (fuel_parts q r s) (fuel_grams q r s)
fuel q r s = rw (scaled (q * r) s 1100) (omega arith)

pub carbonate : (q r p : ℕ) → IsParts (carbonate_parts q r p) (carbonate_grams q r p)
carbonate q r p = rw (scaled (q * r) p 300000) (omega arith)

pub bought : (q l : ℕ) → IsParts (bought_parts q l) (bought_grams q l)
bought q l = omega arith

pub energy : (q r : ℕ) → IsParts (energy_parts q r) (energy_grams q r)
energy q r = omega arith

moved : (a k r : ℕ) → a * k * 1 * r ≡ a * r * k
moved a k r = ap (λ x. x * r) (mul-one (a * k)) ∙ (mul_assoc a k r ∙ (ap (λ x. a * x) (mul_comm k r) ∙ sym (mul_assoc a r k)))

pub water : (kg t r : ℕ) → IsParts (water_parts kg t r) (heat_grams (water_heat kg t) r)
water kg t r = rw (scaled (kg * (t - 2000)) r 125604, moved (kg * (t - 2000)) 41868 r) (omega arith)

-- the denominator of an enthalpy in its share of 30000
share : (under k : ℕ) → 1 ≤ under → k * under ≡ 1000 → 30000 / under * under ≡ 30000
share under k u e = ap (λ x. x * under) (div-eq_of_lt-le {k = 30 * k} under {m = 30000} (omega arith) (omega arith)) ∙ omega arith

gathered : (a r g u : ℕ) → a * (r * g) * (u * 1000000000000) ≡ a * r * (g * u) * 1000000000000
gathered a r g u = ap (λ x. x * (u * 1000000000000)) (scaled a r g) ∙ (scaled (a * r * g) u 1000000000000 ∙ ap (λ x. x * 1000000000000) (mul_assoc (a * r) g u))

pub steam : (kg over under k rate : ℕ) → 1 ≤ under → k * under ≡ 1000 → IsParts (steam_parts kg over under rate) (heat_grams (steam_heat kg (over /: under)) rate)
steam kg over under k rate u e =
    let a = kg * (over - 8374 * under) in
    let g = 30000 / under in
    let w : 1 * under * 100 * 1000000 * 10000 * 1 ≡ under * 1000000000000 = omega arith in
    let one : a * 1 * 1 * rate ≡ a * rate = ap (λ x. x * rate) (mul-one (a * 1) ∙ mul-one a) in
    ap (λ x. a * (rate * g) * x) w ∙ (gathered a rate g under ∙ (ap (λ x. a * rate * x * 1000000000000) (share under k u e) ∙ (omega arith ∙ ap (λ x. x * 1000000 * 30000000000) (sym one))))

pub wastewater : (c r m s : ℕ) → IsParts (wastewater_parts c r m s) (wastewater_grams c r m s)
wastewater c r m s =
    let same : 1000 * m * 100000 ≡ m * 100000000 = omega arith in
    rw (same, scaled (c * r - m * 100000000) s 30000) (omega arith)
