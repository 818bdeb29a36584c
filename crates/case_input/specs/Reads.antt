-- What is read off the front of the bytes that are left.
use Rattle.std.specs.Prelude.{◌≡◌, ℕ, ◌+◌, ◌*◌, ◌<◌, ◌≤◌, List, length, drop, slice_index}
use Rattle.std.specs.Char.{OutOfScalarRange}
use Rattle.factor.specs.declared.plant.PlantRow.{PlantRow}
use Rattle.case_input.specs.declared.fault.InputFault.{InputFault}
use Rattle.case_input.specs.declared.fault.InputFault.TheVariants.{CutOff, NoCharacter}
use Rattle.case_input.specs.declared.input.Input.{Input}

abbrev pub left_of : Input → List ℕ
left_of input = input.rest.now

-- so many bytes were there and are gone
pub record Past (n : ℕ) (before after : List ℕ) : Type 0 where
  pub there : n ≤ length before
  pub left : after ≡ drop n before

-- the input is cut off before so many bytes
pub record EndsBefore (n : ℕ) (before : List ℕ) (fault : InputFault) : Type 0 where
  pub is : fault ≡ CutOff
  pub short : length before < n

-- two bytes as a number, and four, the high byte first
abbrev pub two_at : List ℕ → ℕ → ℕ
two_at bytes i = slice_index bytes i * 256 + slice_index bytes (i + 1)

abbrev pub four : List ℕ → ℕ
four bytes = two_at bytes 0 * 65536 + two_at bytes 2

-- four bytes are there, and no character has their number
pub record NoLetter (before : List ℕ) (fault : InputFault) : Type 0 where
  pub is : fault ≡ NoCharacter
  pub there : 4 ≤ length before
  pub none : OutOfScalarRange (four before)

-- a plant list's row of sixteen bytes
abbrev pub row_of : List ℕ → PlantRow
row_of bytes = record {
  class = slice_index bytes 0;
  item = slice_index bytes 1;
  tier = four (drop 2 bytes);
  first_year = two_at bytes 6;
  last_year = two_at bytes 8;
  rate = four (drop 10 bytes);
  share = two_at bytes 14;
}
