-- What holds of the whole table, and of the enthalpy at every pressure.
use Rattle.std.specs.Prelude.{◌≡◌, ℕ, ◌+◌, ◌-◌, ◌*◌, ◌<◌, ◌≤◌, length}
use Rattle.steam.specs.Table.{rows, row_at}
use Rattle.steam.specs.Line.{Saturated, enthalpy_over, enthalpy_under}

-- of the row at place i and the next
pub record Step (i : ℕ) : Type 0 where
  pub rises : (row_at i).0 < (row_at (i + 1)).0
  pub gaps : ℕ
  pub divides : gaps * ((row_at (i + 1)).0 - (row_at i).0) ≡ 1000

-- the printed table: its size, its ends, the range of its enthalpies, and its steps
pub record Table : Type 0 where
  pub size : length rows ≡ 72
  pub first : (row_at 0).0 ≡ 1
  pub last : (row_at 71).0 ≡ 22000
  pub least : (i : ℕ) → i < 72 → 219250 ≤ (row_at i).1
  pub most : (i : ℕ) → i < 72 → (row_at i).1 ≤ 280190
  pub steps : (i : ℕ) → i + 1 < 72 → Step i

-- at each pressure of the table's range there is one value: fractions that differ in form are equal
pub record OneValue (p : ℕ) : Type 0 where
  pub holds : Saturated p (enthalpy_over p) (enthalpy_under p)
  pub alone : (over under : ℕ) → Saturated p over under → over * enthalpy_under p ≡ enthalpy_over p * under

abbrev pub OneValueAtEach : Type 0
OneValueAtEach = (p : ℕ) → 1 ≤ p → p ≤ 22000 → OneValue p

-- of any two fractions for one pressure
abbrev pub SameValue : Type 0
SameValue = (p o₁ u₁ o₂ u₂ : ℕ) → Saturated p o₁ u₁ → Saturated p o₂ u₂ → o₁ * u₂ ≡ o₂ * u₁

-- a row's own pressure has the row's enthalpy
abbrev pub AtARow : Type 0
AtARow = (i over under : ℕ) → i < 72 → Saturated (row_at i).0 over under → over ≡ (row_at i).1 * under

-- what a caller may count on of an enthalpy
pub record Bounds (p over under : ℕ) : Type 0 where
  pub low : 1 ≤ p
  pub high : p ≤ 22000
  pub positive : 1 ≤ under
  pub narrow : under ≤ 1000
  pub parts : ℕ
  pub divides : parts * under ≡ 1000
  pub least : 219250 * under ≤ over
  pub most : over ≤ 280190 * under

abbrev pub Bounded : Type 0
Bounded = (p over under : ℕ) → Saturated p over under → Bounds p over under

-- the enthalpy at a pressure is a whole number of hundredths
abbrev pub Whole : ℕ → ℕ → Type 0
Whole p value = (over under : ℕ) → Saturated p over under → over ≡ value * under

-- at 950 kPa the enthalpy is the middle of those at 900 and 1,000 kPa
abbrev pub Middle : Type 0
Middle = (over under : ℕ) → Saturated 950 over under → 2 * over ≡ (277300 + 277700) * under
