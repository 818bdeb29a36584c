use Rattle.std.proofs.Common.{refl, ap}
use Rattle.journal.specs.Contents.{usable}
use Rattle.journal.proofs.Soundness.{sound_new}
use Rattle.book.proofs.book.Book.new.Goals as goal

pub invariant_of-result : goal.invariant_of-result
invariant_of-result c =
    let e = c.new-2.ensures in
    record { sound = ∣ sound_new c.args.year.number (usable c.args.memory.now) _ (record { year = refl; room = ap usable e.rows; months = c.new.ensures; used = e.count }) ∣₁ }
