-- A statement is read back from its bytes.
use Rattle.std.specs.Prelude.{◌≡◌, ℕ, ◌+◌, ◌*◌, ◌^◌, ◌-◌, ◌<◌, ◌≤◌, List, length, take, drop, slice_index, FitsSigned}
use Rattle.std.specs.Int.{w16, w64, from_be_bytes, cast_signed}
use Rattle.months.specs.declared.account.Figure.{Figure}
use Rattle.statement.specs.Statement.{Statement, statement_bytes}

-- every number fits its bytes
pub record Fits (s : Statement) : Type 0 where
  pub year : s.year < 2 ^ 16
  pub counts : (l : ℕ) → 1 ≤ l → l ≤ 7 → (s.figure l).count < 2 ^ 16
  pub grams : (l : ℕ) → 1 ≤ l → l ≤ 7 → (s.figure l).grams < 2 ^ 64
  pub count : s.count < 2 ^ 16
  pub net : FitsSigned w64 s.net

-- so many bytes at a place
abbrev pub bytes_at : ℕ → ℕ → List ℕ → List ℕ
bytes_at place n bytes = take n (drop place bytes)

abbrev pub two_at : ℕ → List ℕ → ℕ
two_at place bytes = from_be_bytes w16 (bytes_at place 2 bytes)

abbrev pub eight_at : ℕ → List ℕ → ℕ
eight_at place bytes = from_be_bytes w64 (bytes_at place 8 bytes)

-- where the bytes of line l's field begin, after its tag and length
abbrev pub line_place : ℕ → ℕ
line_place l = 14 * l - 6

-- what stands at a line's place
pub record LineReads (bytes : List ℕ) (l : ℕ) (f : Figure) : Type 0 where
  pub number : slice_index bytes (line_place l) ≡ l
  pub count : two_at (line_place l + 1) bytes ≡ f.count
  pub grams : eight_at (line_place l + 3) bytes ≡ f.grams

-- the bytes have a fixed length, and at fixed places each of the numbers
pub record Reads (bytes : List ℕ) (s : Statement) : Type 0 where
  pub size : length bytes ≡ 116
  pub year : two_at 3 bytes ≡ s.year
  pub lines : (l : ℕ) → 1 ≤ l → l ≤ 7 → LineReads bytes l (s.figure l)
  pub count : two_at 106 bytes ≡ s.count
  pub net : cast_signed w64 (eight_at 108 bytes) ≡ s.net

abbrev pub ReadsBack : Type 0
ReadsBack = (s : Statement) → Fits s → Reads (statement_bytes s) s
