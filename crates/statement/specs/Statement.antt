-- The yearly statement and its bytes.
use Rattle.std.specs.Prelude.{ℕ, ◌∷◌, ◌++◌, List, ℤ}
use Rattle.std.specs.List.{flat_map}
use Rattle.std.specs.Int.{w16, w64, to_be_bytes, cast_unsigned}
use Rattle.frame.specs.Format.{field}
use Rattle.months.specs.declared.account.Figure.{Figure}
use Rattle.months.specs.Lines.{line_numbers}
use Rattle.journal.specs.Contents.{Contents}
use Rattle.journal.specs.Reads.{year_figure, total_count, net_grams}

-- a year, the figure of each line by its number, and the count and the net grams of all
pub record Statement : Type 0 where
  pub year : ℕ
  pub figure : ℕ → Figure
  pub count : ℕ
  pub net : ℤ

-- what the statement of a book states
abbrev pub stated : Contents → Statement
stated b = record { year = b.year; figure = year_figure b.months; count = total_count b.months; net = net_grams b.months }

-- tag 11: the year in two bytes
abbrev pub year_field : ℕ → List ℕ
year_field y = field 0x11 (to_be_bytes w16 y)

-- tag 12: a line's number, its count in two bytes and its grams in eight
abbrev pub line_field : ℕ → Figure → List ℕ
line_field l f = field 0x12 (l ∷ (to_be_bytes w16 f.count ++ to_be_bytes w64 f.grams))

-- tag 13: the count of all in two bytes, and the net grams in eight, in two's complement
abbrev pub total_field : ℕ → ℤ → List ℕ
total_field count net = field 0x13 (to_be_bytes w16 count ++ to_be_bytes w64 (cast_unsigned w64 net))

-- the year, the seven lines and the total
unfoldable pub statement_bytes : Statement → List ℕ
statement_bytes s = year_field s.year ++ (flat_map (λ l. line_field l (s.figure l)) line_numbers ++ total_field s.count s.net)
