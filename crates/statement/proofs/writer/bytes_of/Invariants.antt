use Rattle.std.proofs.Common.{◌≡◌, ◌+◌, ◌*◌, ◌++◌, length, take}
use Rattle.std.specs.List.{flat_map}
use Rattle.months.specs.Lines.{line_number}
use Rattle.journal.specs.Reads.{year_figure}
use Rattle.statement.specs.Statement.{year_field, line_field}
use Rattle.statement.proofs.writer.bytes_of.Given as goal

-- the year and the lines before this one are written
abbrev pub invariant-loop-line : goal.invariant-loop-line
invariant-loop-line l =
    record {
      items : l.bytes.items ≡ year_field l.book.year.number ++ flat_map (λ x. line_field (line_number x) (year_figure l.book.months (line_number x))) (take l.line-index l.line-items);
      filled : length l.bytes.items ≡ 5 + 14 * l.line-index;
    }
