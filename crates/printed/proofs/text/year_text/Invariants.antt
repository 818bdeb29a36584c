use Rattle.std.proofs.Common.{◌≡◌, ◌+◌, ◌*◌, ◌≤◌, ◌++◌, length, take, pos}
use Rattle.std.specs.List.{flat_map}
use Rattle.months.specs.Lines.{line_number}
use Rattle.journal.specs.Reads.{year_figure}
use Rattle.printed.specs.Text.{first_text, line_text}
use Rattle.printed.proofs.text.year_text.Given as goal

-- the first text and the lines before this one are written
abbrev pub invariant-loop-line : goal.invariant-loop-line
invariant-loop-line l =
    record {
      items : l.text.items ≡ first_text l.book.year.number l.fn.counts.taken l.fn.counts.refused
          ++ flat_map (λ x. line_text (48 + line_number x) (year_figure l.book.months (line_number x)).count (pos (year_figure l.book.months (line_number x)).grams)) (take l.line-index l.line-items);
      filled : length l.text.items ≤ 64 + 64 * l.line-index;
    }
