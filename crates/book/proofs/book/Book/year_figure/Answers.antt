use Rattle.std.proofs.Common.{◌≡◌, ◌+◌, ap, arith}
use Rattle.months.specs.declared.account.Figure.{Figure}
use Rattle.months.proofs.Changes.{line_bounds}
use Rattle.journal.proofs.Few.{line_few}
use Rattle.months.specs.Lines.{line_number}
use Rattle.journal.proofs.Years.{numbered, count_most, grams_most, count_more, grams_more, year_is, year_read}
use Rattle.journal.proofs.Runs.{year_line_told}
use Rattle.book.specs.Views.{contents_of}
use Rattle.book.proofs.Held.{sound}
use Rattle.book.proofs.book.Book.year_figure.Goals as goal

pub overflow_add-count : goal.overflow_add-count
overflow_add-count c =
    let b = contents_of c.args.self.now in
    let holds = sound c.args.self.now in
    let i = c.loop-month.month-index in
    let at = numbered c.all-month-items.result c.all-month-items.ensures i c.loop-month-test.true c.month-item.result in
    let more = count_more b holds c.args.line i c.loop-month-test.true _ at c.figure-figure.result c.figure-figure.ensures c.loop-month.count c.loop-month.invariant.0 in
    record { fits = omega (arith, more, count_most b holds c.args.line (i + 1)) }

pub overflow_add-grams : goal.overflow_add-grams
overflow_add-grams c =
    let b = contents_of c.args.self.now in
    let holds = sound c.args.self.now in
    let i = c.loop-month.month-index in
    let at = numbered c.all-month-items.result c.all-month-items.ensures i c.loop-month-test.true c.month-item.result in
    let more = grams_more b holds c.args.line i c.loop-month-test.true _ at c.figure-figure.result c.figure-figure.ensures c.loop-month.grams c.loop-month.invariant.1 in
    record { fits = omega (arith, more, grams_most b holds c.args.line (i + 1)) }

pub loop-month-preserved : goal.loop-month-preserved
loop-month-preserved c =
    let b = contents_of c.args.self.now in
    let holds = sound c.args.self.now in
    let i = c.loop-month.month-index in
    let at = numbered c.all-month-items.result c.all-month-items.ensures i c.loop-month-test.true c.month-item.result in (
      count_more b holds c.args.line i c.loop-month-test.true _ at c.figure-figure.result c.figure-figure.ensures c.loop-month.count c.loop-month.invariant.0,
      grams_more b holds c.args.line i c.loop-month-test.true _ at c.figure-figure.result c.figure-figure.ensures c.loop-month.grams c.loop-month.invariant.1,
    )

pub returns : goal.returns
returns c =
    let b = contents_of c.args.self.now in
    let holds = sound c.args.self.now in
    let i = c.loop-month.month-index in
    let inv = c.loop-month.invariant in
    let all : i ≡ 12 = omega (arith, c.loop-month-test.false) in
    let is = year_is b.months (line_number c.args.line) i c.loop-month.count c.loop-month.grams all inv.0 inv.1 in
    record {
      is = is;
      few = omega (arith, ap (λ (f : Figure). f.count) is, line_few b holds (line_number c.args.line) (line_bounds c.args.line).0 (line_bounds c.args.line).1);
      light = omega (arith, inv.1, grams_most b holds c.args.line i);
      told = year_line_told b holds (line_number c.args.line) _ (year_read b.months c.args.line _ is);
    }
