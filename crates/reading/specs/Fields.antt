-- A binary32 pattern read by its fields, as IEEE 754 has them: a sign bit, 8 bits of exponent, 23 digits.
use Rattle.std.specs.Prelude.{◌≡◌, ℕ, ◌+◌, ◌-◌, ◌*◌, ◌/◌, ◌%◌, ◌^◌, ◌<◌, ◌≤◌, true, false, cond, nat_lt, Float}
use Rattle.reading.specs.Dyadic.{over, under, clear}

-- the value in steps of 2 ^ -149: the digits alone at exponent field 0, else the digits under a leading one, times 2 ^ (field - 1)
unfoldable pub steps : ℕ → ℕ
steps b = cond (nat_lt b (2 ^ 23)) b ((2 ^ 23 + b % 2 ^ 23) * 2 ^ (b / 2 ^ 23 - 1))

-- below 0x7F80_0000 the sign is clear and the value finite; all other patterns are negative, infinite or no number
pub record Meaning (b : ℕ) (x : Float) : Type 0 where
  pub finite : b < 0x7F80_0000 → clear x ≡ true
  pub exact : b < 0x7F80_0000 → over x * 2 ^ 149 ≡ steps b * under x
  pub other : 0x7F80_0000 ≤ b → clear x ≡ false
