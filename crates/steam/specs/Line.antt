-- The enthalpy between two rows: the straight line through both, as a fraction of hundredths of kJ/kg.
use Rattle.std.specs.Prelude.{◌≡◌, ℕ, ◌+◌, ◌-◌, ◌*◌, ◌<◌, ◌≤◌, cond, List, [], ◌∷◌, length, drop, nat_le}
use Rattle.steam.specs.Table.{Row, rows, row_at}

-- a and b are neighbouring rows of the table, and the pressure p lies between theirs
pub record Between (p : ℕ) (a b : Row) : Type 0 where
  pub place : ℕ
  pub inside : place + 1 < length rows
  pub lower : a ≡ row_at place
  pub upper : b ≡ row_at (place + 1)
  pub from : a.0 ≤ p
  pub to : p ≤ b.0

-- the line through rows a and b has the value over / under at pressure p
pub record OnLine (p : ℕ) (a b : Row) (over under : ℕ) : Type 0 where
  pub numerator : over ≡ a.1 * (b.0 - p) + b.1 * (p - a.0)
  pub denominator : under ≡ b.0 - a.0

-- over / under is the enthalpy of saturated steam at pressure p
pub record Saturated (p over under : ℕ) : Type 0 where
  pub a : Row
  pub b : Row
  pub between : Between p a b
  pub on_line : OnLine p a b over under

-- the value of the line through a and b at p, as its two numbers
abbrev pub line : ℕ → Row → Row → ℕ × ℕ
line p a b = (a.1 * (b.0 - p) + b.1 * (p - a.0), b.0 - a.0)

-- on the line to the first row after a whose pressure is at least p; past the last row, that row's own enthalpy
abbrev pub line_from : ℕ → Row → List Row → ℕ × ℕ
line_from p a [] = (a.1, 1)
line_from p a (b ∷ rest) = cond (nat_le p b.0) (line p a b) (line_from p b rest)

-- the enthalpy at p, from 1 to 22,000 kPa
unfoldable pub enthalpy : ℕ → ℕ × ℕ
enthalpy p = line_from p (row_at 0) (drop 1 rows)

abbrev pub enthalpy_over : ℕ → ℕ
enthalpy_over p = (enthalpy p).0

abbrev pub enthalpy_under : ℕ → ℕ
enthalpy_under p = (enthalpy p).1

-- p lies between a and b, and its enthalpy is on the line through them
pub record Neighbours (p : ℕ) (a b : Row) : Type 0 where
  pub between : Between p a b
  pub on_line : enthalpy p ≡ line p a b
