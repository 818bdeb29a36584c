use Rattle.std.proofs.Common.{sym, subst}
use Rattle.emission.specs.Entries.{Table}
use Rattle.journal.specs.Calls.{offer}
use Rattle.book.specs.Views.{contents_of}
use Rattle.year.specs.Replayed.{Called}
use Rattle.year.proofs.Replays.{tables_same, table_at}
use Rattle.year.proofs.replaying.offer_from.Goals as goal

pub returns-then-at-sources : goal.returns-then-at-sources
returns-then-at-sources g c =
    let f = g.S.Source.table in
    let xs = c.args.sources.now in
    let e = table_at f xs c.args.at c.index-sources-at.result c.if-at-sources.true in
    record {
      called = subst (λ (t : Table). Called (offer c.args.frame.now t) (contents_of c.args.book.now) (contents_of c.offer.new.self)) (sym e) (record { answer = _; step = c.offer.ensures.step });
      tables = tables_same f xs c.args.at c.index-sources-at.result c.offer.new.source c.if-at-sources.true c.offer.ensures.same;
      memory = c.offer.ensures.memory;
    }
