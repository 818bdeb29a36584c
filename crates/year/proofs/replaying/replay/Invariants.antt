use Rattle.std.proofs.Common.{◌≡◌, map, take}
use Rattle.journal.specs.Contents.{usable}
use Rattle.book.specs.Views.{contents_of}
use Rattle.year.specs.Law.{Throughout}
use Rattle.year.specs.Replayed.{calls_of}
use Rattle.year.proofs.replaying.replay.Given as goal

-- the calls before this one were made, the law held throughout, and tables and memory are the same
abbrev pub invariant-loop-call : goal.invariant-loop-call
invariant-loop-call g l =
    Throughout l.initial.book.year.number (usable l.initial.book.journal.rows.now) (calls_of (map g.S.Source.table l.initial.sources) (take l.call-index l.calls)) (contents_of l.book)
    × (map g.S.Source.table l.sources ≡ map g.S.Source.table l.initial.sources)
    × (l.book.journal.rows.ghost_name ≡ l.initial.book.journal.rows.ghost_name)
