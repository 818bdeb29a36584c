-- A reading as an exact fraction. `fin s m e` is m * 2 ^ e, negative where s is true; its size is the fraction m * up e / down e.
use Rattle.std.specs.Prelude.{ℕ, ◌*◌, Bool, true, false, ◌&&◌, nat_le, Float}
use Rattle.std.specs.Float.{nan, inf, fin}
use Rattle.std.specs.Float.Ieee.{up, down}

-- the fraction's numerator
abbrev pub over : Float → ℕ
over nan = 0
over (inf s) = 0
over (fin s m e) = m * up e

-- the fraction's denominator
abbrev pub under : Float → ℕ
under nan = 1
under (inf s) = 1
under (fin s m e) = down e

-- finite, with a clear sign bit
unfoldable pub clear : Float → Bool
clear nan = false
clear (inf s) = false
clear (fin true m e) = false
clear (fin false m e) = true

-- finite, with a clear sign bit, and between two whole numbers, both ends included
unfoldable pub lawful : Float → ℕ → ℕ → Bool
lawful x low high = clear x && (nat_le (low * under x) (over x) && nat_le (over x) (high * under x))
