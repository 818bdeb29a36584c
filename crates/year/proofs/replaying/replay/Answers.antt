use Rattle.std.proofs.Common.{List, map, refl, ◌∙◌}
use Rattle.emission.specs.Entries.{Table}
use Rattle.book.proofs.Held.{sound}
use Rattle.year.specs.Law.{opened}
use Rattle.year.proofs.Main.{law}
use Rattle.year.proofs.Replays.{calls_more, calls_all, new_own, from_own, throughout_follows, throughout_law}
use Rattle.journal.proofs.Runs.{opened_follows}
use Rattle.year.proofs.replaying.replay.Goals as goal

pub loop-call-init : goal.loop-call-init
loop-call-init g c =
    let new = new_own c.open-book.ensures.follows in
    (opened new (law c.open-book.result.year.lawful (sound c.open-book.result) (opened_follows new)), refl, refl)

pub loop-call-preserved : goal.loop-call-preserved
loop-call-preserved g c =
    let ts : List Table = map g.S.Source.table c.args.sources.now in
    let i = c.loop-call.invariant in (
      calls_more _ _ c.open-book.result.year.lawful ts c.args.calls.now c.loop-call.call-index _ (map g.S.Source.table c.loop-call.sources) _ _ (sound c.replay_call.new.book) c.loop-call-test.true i.1 i.0 c.replay_call.ensures.called,
      c.replay_call.ensures.tables ∙ i.1,
      c.replay_call.ensures.memory ∙ i.2,
    )

pub returns : goal.returns
returns g c =
    let ts : List Table = map g.S.Source.table c.args.sources.now in
    let i = c.loop-call.invariant in
    let w = from_own c.open-book.ensures.follows (calls_all _ _ c.open-book.result.year.lawful ts c.args.calls.now c.loop-call.call-index _ c.loop-call-test.false i.0) in
    record { follows = throughout_follows w; law = throughout_law w; throughout = w; tables = i.1; memory = i.2 ∙ c.open-book.ensures.memory }
