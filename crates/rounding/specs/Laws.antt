-- What `nearest` is to its users.
use Rattle.std.specs.Prelude.{◌≡◌, ℕ, ◌≤◌}
use Rattle.rounding.specs.Nearest.{nearest, Nearest}

-- the answer is within the half on both sides
abbrev pub Holds : Type 0
Holds = (over under : ℕ) → 1 ≤ under → Nearest over under (nearest over under)

-- no other whole number is
abbrev pub Only : Type 0
Only = (over under q : ℕ) → 1 ≤ under → Nearest over under q → q ≡ nearest over under

-- both laws
abbrev pub Stands : Type 0
Stands = Holds × Only
