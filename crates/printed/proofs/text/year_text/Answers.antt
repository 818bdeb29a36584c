use Rattle.std.proofs.Common.{◌+◌, ◌++◌, length, pos, ap, ◌∙◌, arith, length-append}
use Rattle.journal.specs.Reads.{year_figure, total_count, net_grams}
use Rattle.statement.proofs.Writing.{put_together, one_more}
use Rattle.printed.proofs.Lines.{line_of_year, of_year}
use Rattle.printed.specs.Text.{first_text, line_text, year_text}
use Rattle.printed.proofs.text.year_text.Goals as goal

pub loop-line-preserved : goal.loop-line-preserved
loop-line-preserved c =
    let ms = c.args.book.now.months in
    let added = rw c.unwrap-in-loop-line.ensures at c.try_extend_from_slice-in-loop-line.ensures.ok in
    let piece = of_year ms _ (c.as_slice-in-loop-line.ensures.value ∙ c.figure_line-piece.ensures) c.year_figure.ensures.is in
    let all = one_more (line_of_year ms) c.all-line-items.result c.loop-line.line-index c.all-line-items.ensures c.loop-line-test.true _
    (first_text c.args.book.now.year.number c.args.counts.taken c.args.counts.refused) c.loop-line.text.items c.loop-line.invariant.items in
    record { items = added ∙ (ap (λ v. c.loop-line.text.items ++ v) piece ∙ all); filled = (let n = ap length added ∙ length-append c.loop-line.text.items c.as_slice-in-loop-line.result.now in omega (arith, n, c.as_slice-in-loop-line.ensures.fits, c.loop-line.invariant.filled)) }

pub returns : goal.returns
unfolding year_text
returns c =
    let ms = c.args.book.now.months in
    let added = rw c.unwrap-2.ensures at c.try_extend_from_slice-2.ensures.ok in
    let piece = c.as_slice-2.ensures.value ∙ (c.total_line.ensures ∙ (λ i. line_text 84 (c.total.ensures.count i) (c.total.ensures.net i))) in
    let all = put_together (λ n. line_text (48 + n) (year_figure ms n).count (pos (year_figure ms n).grams)) c.all-line-items.result c.loop-line.line-index c.all-line-items.ensures c.loop-line-test.false
    (first_text c.args.book.now.year.number c.args.counts.taken c.args.counts.refused) (line_text 84 (total_count ms) (net_grams ms)) c.loop-line.text.items c.loop-line.invariant.items in
    added ∙ (ap (λ v. c.loop-line.text.items ++ v) piece ∙ all)
