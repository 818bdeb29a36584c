use Rattle.std.proofs.Common.{sym, ap, ◌∙◌, subst}
use Rattle.book.specs.declared.book.Book.{Book}
use Rattle.book.specs.Views.{contents_of}
use Rattle.frame_log.specs.Log.{Handed}
use Rattle.book_log.specs.Log.{Answered, OfferedAll}
use Rattle.book_log.proofs.Offerings.{Kept, kept_none, kept_more, from_start}
use Rattle.book_log.proofs.offering.offer_frames.Goals as goal

pub returns : goal.returns
returns g c =
    let table = g.S.Source.table in
    let t = c.tally.ensures in
    let kept = from_start (Handed (Answered table)) (Kept table) (kept_more table) _ _ _ t.calls (kept_none table _) in
    let every : OfferedAll c.args.frames.now (table c.args.source.now) (contents_of c.args.book.now) c.tally.result.taken c.tally.result.refused (contents_of c.tally.new.taker.book.now) =
    record { frames = t.frames; rest = t.rest; spells = t.spells; offered = kept.offered; counted = t.counted } in
    let book = c.book-1.given.1 (sym kept.book) in
    let source = c.source-1.given.1 (sym kept.source) in
    record {
      offered = subst (λ (b : Book). OfferedAll c.args.frames.now (table c.args.source.now) (contents_of c.args.book.now) c.tally.result.taken c.tally.result.refused (contents_of b)) (sym book) every;
      same = ap table source ∙ kept.same;
      memory = ap (λ (b : Book). b.journal.rows.ghost_name) book ∙ kept.memory;
    }
