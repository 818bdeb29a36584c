use Rattle.frame_log.specs.Log.{left_of}
use Rattle.frame_log.proofs.Along.{Walk}
use Rattle.frame_log.proofs.walk.tally.Given as goal

abbrev pub invariant-loop-frame : goal.invariant-loop-frame
invariant-loop-frame g l = Walk g.T.Taker.answers l.frames l.initial.taker l.taken l.refused l.taker (left_of l.frame-iterator)
