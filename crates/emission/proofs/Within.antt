-- The quantities of a lawful set keep its limits. Assumes nothing.
use Rattle.std.proofs.Common.{◌≡◌, ℕ, ◌+◌, ◌*◌, ◌<◌, ◌≤◌, ◌&&◌, T, leb, sym, refl, subst, mul_assoc, mul-le-mul_left, one-mul, arith, leb→le}
use lib.Ieee.{Float}
use lib.Ieee.Fits.{and_l, and_r}
use Rattle.rounding.specs.Nearest.{nearest}
use Rattle.rounding.proofs.Laws.{holds, at_most}
use Rattle.reading.specs.Dyadic.{over, under, clear, lawful}
use Rattle.reading.specs.Limited.{Limited, kept, readings_of, lawful_set}
use Rattle.reading.specs.Quantity.{quantity_of, quantities_of}
use Rattle.reading.specs.declared.sets.ReadingSet.{ReadingSet}
use Rattle.reading.specs.declared.sets.ReadingSet.TheVariants.{Amount, Water, Steam, Wastewater}
use Rattle.reading.proofs.Exactly.{under_pos}
use Rattle.reading.proofs.Kept.{each}
use Rattle.emission.specs.Emission.{InRange}

-- the exact value of a reading that keeps its limits lies between them
between : (x : Float) (low high : ℕ) → T (lawful x low high) → (low * under x ≤ over x) × (over x ≤ high * under x)
unfolding lawful
between x low high t =
    let b = and_r (clear x) (leb (low * under x) (over x) && leb (over x) (high * under x)) t in
    (leb→le (low * under x) (over x) (and_l (leb (low * under x) (over x)) (leb (over x) (high * under x)) b), leb→le (over x) (high * under x) (and_r (leb (low * under x) (over x)) (leb (over x) (high * under x)) b))

pub most : (r : Limited) → T (kept r) → quantity_of r ≤ r.scale * r.high
most r t =
    let b = between r.value r.low r.high t in
    at_most (r.scale * over r.value) (under r.value) (r.scale * r.high) (under_pos r.value)
    (subst (λ n. r.scale * over r.value ≤ n) (sym (mul_assoc r.scale r.high (under r.value))) (mul-le-mul_left r.scale b.1))

-- one is at most the nearest number to what is at least one
pub one : (over under : ℕ) → 0 < under → 1 * under ≤ over → 1 ≤ nearest over under
one over under u h = by (nearest over under) (holds over under u).1
  where
    by : (q : ℕ) → 2 * over + under < 2 * q * under + 2 * under → 1 ≤ q
    by Prim.Native.Nat.zero l = absurd (omega arith)
    by (Prim.Native.Nat.suc q) l = omega arith

pub least_one : (r : Limited) → r.scale ≡ 1 → r.low ≡ 1 → T (kept r) → 1 ≤ quantity_of r
least_one r s l t =
    let b = between r.value r.low r.high t in
    one (r.scale * over r.value) (under r.value) (under_pos r.value) (rw (s, one-mul (over r.value)) (subst (λ n. n * under r.value ≤ over r.value) l b.0))

pub in_range : (set : ReadingSet) → T (lawful_set set) → InRange (quantities_of set)
in_range (Amount x) t = tt
in_range (Water w) t = tt
in_range (Steam s) t =
    let e = each (readings_of (Steam s)) t in
    (least_one _ refl refl e.1.0, most _ e.1.0)
in_range (Wastewater w) t = tt
