use Rattle.std.proofs.Common.{true, false, sym, refl, ◌∙◌, arith}
use Rattle.frame_log.proofs.Along.{walk_more, walk_cut}
use Rattle.frame_log.proofs.walk.tally.Goals as goal
use Rattle.frame_log.proofs.walk.tally.Goals.{in-Ok, in-Err}

pub loop-frame-preserved-then-is_taken : goal.loop-frame-preserved-then-is_taken
loop-frame-preserved-then-is_taken g c = elim c.match-frame.branch [
  | in-Ok w ↦
      let s = rw w.in-Ok.is at c.in-Some.ensures.steps in
      let h = sym w.is_taken-is ∙ c.if-is_taken.true in
      rw w.taker-is (walk_more c.loop-frame.invariant true s.0 s.1 (rw h at w.takes-is_taken.ensures) (omega arith) (omega arith))
  | in-Err w ↦ (let h = sym w.is_taken-is ∙ c.if-is_taken.true in cc)
]

pub loop-frame-preserved : goal.loop-frame-preserved
loop-frame-preserved g c = elim c.match-frame.branch [
  | in-Ok w ↦
      let s = rw w.in-Ok.is at c.in-Some.ensures.steps in
      let h = sym w.is_taken-is ∙ c.if-is_taken.false in
      rw w.taker-is (walk_more c.loop-frame.invariant false s.0 s.1 (rw h at w.takes-is_taken.ensures) (omega arith) (omega arith))
  | in-Err w ↦
      let s = rw w.in-Err.is at c.in-Some.ensures.steps in
      rw w.taker-is (walk_cut c.loop-frame.invariant s.0 s.1 s.2 refl)
]
