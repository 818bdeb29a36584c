-- The laws of `nearest`. Other crates use these and not its definition.
use Rattle.std.proofs.Common.{◌≡◌, ℕ, ◌+◌, ◌-◌, ◌*◌, ◌/◌, ◌%◌, ◌<◌, ◌≤◌, sym, mod-lt, div-lt_iff_lt-mul, arith}
use native.Mathlib.Nat.{div-add-mod, div-eq_of_lt-le}
use lib.Ieee.Nearest.{div_same}
use Rattle.rounding.specs.Nearest.{nearest}
use Rattle.rounding.specs.Laws.{Holds, Only}

pub holds : Holds
holds over under u =
    let n = 2 * over + under in
    let d = 2 * under in
    let positive : 0 < d = omega arith in
    (omega (arith, div-add-mod n d), omega (arith, div-add-mod n d, mod-lt n positive))

pub only : Only
only over under q u h = sym (div-eq_of_lt-le {k = q} (2 * under) {m = 2 * over + under} (omega arith) (omega arith))

-- equal fractions round to one number
pub same : (a b c d : ℕ) → 0 < b → 0 < d → a * d ≡ c * b → nearest a b ≡ nearest c d
same a b c d B D e = div_same (2 * a + b) (2 * b) (2 * c + d) (2 * d) (omega arith) (omega arith) (omega arith)

-- a fraction that is at most n rounds to at most n
pub at_most : (over under n : ℕ) → 0 < under → over ≤ n * under → nearest over under ≤ n
at_most over under n u h =
    let below : nearest over under < n + 1 = (div-lt_iff_lt-mul {k = 2 * under} {x = 2 * over + under} {y = n + 1} (omega arith)).1 (omega arith) in
    omega arith

-- the whole part where the rest is below the half, and one more where it is not
pub down : (over under : ℕ) → 0 < under → over % under < under - over % under → over / under ≡ nearest over under
down over under u h =
    let parts : over / under * under + over % under ≡ over = omega (arith, div-add-mod over under) in
    only over under (over / under) u (omega arith, omega arith)

pub up : (over under : ℕ) → 0 < under → under - over % under ≤ over % under → over / under + 1 ≡ nearest over under
up over under u h =
    let parts : over / under * under + over % under ≡ over = omega (arith, div-add-mod over under) in
    only over under (over / under + 1) u (omega arith, omega (arith, mod-lt over u))
