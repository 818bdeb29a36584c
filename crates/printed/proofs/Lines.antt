-- The text of a year's line. Assumes nothing.
use Rattle.std.proofs.Common.{◌≡◌, ℕ, ◌+◌, List, pos, ap, ◌∙◌}
use Rattle.months.specs.declared.account.Figure.{Figure}
use Rattle.months.specs.declared.line.Line.{Line}
use Rattle.months.specs.declared.year.Months.{Months}
use Rattle.months.specs.Lines.{line_number}
use Rattle.journal.specs.Reads.{year_figure}
use Rattle.printed.specs.Text.{line_text}

-- the text of a line with the year's figure of it
abbrev pub line_of_year : Months → Line → List ℕ
line_of_year ms line = line_text (48 + line_number line) (year_figure ms (line_number line)).count (pos (year_figure ms (line_number line)).grams)

pub of_year : (ms : Months) (line : Line) {f : Figure} {text : List ℕ} → text ≡ line_text (48 + line_number line) f.count (pos f.grams) → f ≡ year_figure ms (line_number line) → text ≡ line_of_year ms line
of_year ms line e is = e ∙ ap (λ (f : Figure). line_text (48 + line_number line) f.count (pos f.grams)) is
