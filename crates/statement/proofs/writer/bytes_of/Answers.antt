use Rattle.std.proofs.Common.{◌≡◌, ◌++◌, sym, ap, ◌∙◌, subst}
use Rattle.journal.specs.Reads.{year_figure, total_count, net_grams}
use Rattle.book.specs.Views.{contents_of}
use Rattle.book.proofs.Held.{sound}
use Rattle.statement.specs.Statement.{year_field, line_field, total_field, stated, statement_bytes}
use Rattle.statement.specs.Laws.{Fits, Reads}
use Rattle.statement.proofs.Reading.{reads_back}
use Rattle.statement.proofs.Fitting.{year_fits, count_fits, grams_fit, total_fits, net_fits}
use Rattle.statement.proofs.Writing.{put_together}
use Rattle.statement.proofs.writer.bytes_of.Goals as goal
use Rattle.statement.proofs.writer.bytes_of.Goals.{After-unwrap-2}

wrote : (c : After-unwrap-2) → c.try_extend_from_slice-2.new.self.items ≡ statement_bytes (stated (contents_of c.args.book.now))
unfolding statement_bytes
wrote c =
    let ms = c.args.book.now.months in
    let added = rw c.unwrap-2.ensures at c.try_extend_from_slice-2.ensures.ok in
    let total : c.total_field.result ≡ total_field (total_count ms) (net_grams ms) = c.total_field.ensures ∙ (λ i. total_field (c.total.ensures.count i) (c.total.ensures.net i)) in
    let all = put_together (λ n. line_field n (year_figure ms n)) c.all-line-items.result c.loop-line.line-index c.all-line-items.ensures c.loop-line-test.false
    (year_field c.args.book.now.year.number) (total_field (total_count ms) (net_grams ms)) c.loop-line.bytes.items c.loop-line.invariant.items in
    added ∙ (ap (λ v. c.loop-line.bytes.items ++ v) total ∙ all)

fits : (c : After-unwrap-2) → Fits (stated (contents_of c.args.book.now))
fits c =
    let b = contents_of c.args.book.now in
    let holds = sound c.args.book.now in
    record { year = year_fits c.args.book.now.year; counts = count_fits b holds; grams = grams_fit b holds; count = total_fits b holds; net = net_fits b holds }

pub returns : goal.returns
returns c =
    let c' = (goal.at.returns c).After-unwrap-2 in
    record { bytes = wrote c'; reads = subst (λ v. Reads v (stated (contents_of c.args.book.now))) (sym (wrote c')) (reads_back _ (fits c')) }
