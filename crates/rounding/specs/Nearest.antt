-- The whole number nearest to a fraction. This file alone decides a tie: it goes up.
use Rattle.std.specs.Prelude.{ℕ, ◌+◌, ◌*◌, ◌/◌, ◌<◌, ◌≤◌}

-- over / under + 1/2 without its fraction
abbrev pub nearest : ℕ → ℕ → ℕ
nearest over under = (2 * over + under) / (2 * under)

-- q - 1/2 ≤ over / under < q + 1/2, cleared of fractions
abbrev pub Nearest : ℕ → ℕ → ℕ → Type 0
Nearest over under q = (2 * q * under ≤ 2 * over + under) × (2 * over + under < 2 * q * under + 2 * under)
