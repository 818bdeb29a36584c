-- A weighted sum of two enthalpies lies between their bounds. Assumes nothing.
use Rattle.std.proofs.Common.{ℕ, ◌+◌, ◌*◌, ◌≤◌, mul-le-mul_right, arith}

pub at_most : (g h m n : ℕ) → g ≤ 280190 → h ≤ 280190 → g * m + h * n ≤ 280190 * (m + n)
at_most g h m n p q = omega (arith, mul-le-mul_right m p, mul-le-mul_right n q)

pub at_least : (g h m n : ℕ) → 219250 ≤ g → 219250 ≤ h → 219250 * (m + n) ≤ g * m + h * n
at_least g h m n p q = omega (arith, mul-le-mul_right m p, mul-le-mul_right n q)
