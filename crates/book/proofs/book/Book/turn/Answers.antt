use Rattle.std.proofs.Common.{true, false, is_ok, refl}
use Rattle.std.proofs.lemmas.Result.{err_from_is_err_and}
use Rattle.journal.proofs.Steps.{event_sound, event_taken, event_forbidden, event_nowhere}
use Rattle.journal.proofs.Runs.{extends}
use Rattle.book.specs.Views.{contents_of}
use Rattle.book.proofs.Held.{sound}
use Rattle.book.proofs.book.Book.turn.Goals as goal

pub returns-in_err-named : goal.returns-in_err-named
returns-in_err-named c =
    let p = err_from_is_err_and c.from_residual.result c.from_residual.ensures.1 in
    let step = event_nowhere (contents_of c.args.self.now) c.args.month c.args.event c.in_err-named.ensures in
    rw (p.1, p.2) (record { step = step; follows = extends step; memory = refl {a = c.args.self.now.journal.rows.ghost_name} })

pub invariant_of-self : goal.invariant_of-self
invariant_of-self c =
    let b = contents_of c.args.self.now in
    record { sound = ∣ event_sound b c.args.month c.args.event c.in_ok-named.named c.in_ok-named.ensures (is_ok c.change.result) c.change.new.self c.change.ensures (sound c.args.self.now) ∣₁ }

pub returns-in_err-change : goal.returns-in_err-change
returns-in_err-change c =
    let p = err_from_is_err_and c.from_residual-in_err-change.result c.from_residual-in_err-change.ensures.1 in
    let step = event_forbidden (contents_of c.args.self.now) c.args.month c.args.event c.in_ok-named.named c.in_ok-named.ensures false c.change.new.self c.in_err-change.ensures refl in
    rw (p.1, p.2) (record { step = step; follows = extends step; memory = refl {a = c.args.self.now.journal.rows.ghost_name} })

pub returns : goal.returns
returns c =
    let step = event_taken (contents_of c.args.self.now) c.args.month c.args.event c.in_ok-named.named c.in_ok-named.ensures true c.change.new.self c.in_ok-change.ensures refl in
    record { step = step; follows = extends step; memory = refl {a = c.args.self.now.journal.rows.ghost_name} }
