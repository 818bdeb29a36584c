use Rattle.frame.specs.Runs.{left, number_above}
use Rattle.frame.specs.Views.{told_of}
use Rattle.frame.proofs.Run.{Along}
use Rattle.frame.proofs.reader.read.Given as goal

abbrev pub invariant-loop-field : goal.invariant-loop-field
invariant-loop-field l =
    let run = l.field-iterator in
    Along l.frame run.offset (number_above run.above) (told_of l.seen) (left run)
