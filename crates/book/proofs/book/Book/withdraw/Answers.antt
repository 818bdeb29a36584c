use Rattle.std.proofs.Common.{◌≡◌, ◌-◌, true, false, None, refl, ap, ◌∙◌, arith}
use Rattle.std.specs.Option.{ok_or}
use Rattle.std.proofs.lemmas.Result.{err_from_is_err_and}
use Rattle.journal.specs.declared.fault.BookFault.TheVariants.{NoStandingEntry}
use Rattle.journal.specs.Contents.{withdrawn_row}
use Rattle.journal.proofs.Steps.{no_standing, withdrawal_forbidden, withdrawal_sound, withdrawal_taken}
use Rattle.journal.proofs.Runs.{extends}
use Rattle.book.specs.Views.{contents_of}
use Rattle.book.proofs.Held.{sound, put_done, stood, none_stood}
use Rattle.book.proofs.book.Book.withdraw.Goals as goal

pub returns-in_err-row : goal.returns-in_err-row
returns-in_err-row c =
    let p = err_from_is_err_and c.from_residual.result c.from_residual.ensures.1 in
    let none : c.standing.result ≡ None = c.in_err-row.ensures.ok_part in
    let fault : c.in_err-row.field-0.0 ≡ NoStandingEntry = cc (c.in_err-row.ensures.value ∙ ap (λ o. ok_or o NoStandingEntry) none) in
    let step = no_standing (contents_of c.args.self.now) c.args.number (none_stood (contents_of c.args.self.now) c.args.number c.standing.result none c.standing.ensures) in
    rw (p.1, p.2, fault) (record { step = step; follows = extends step; memory = refl {a = c.args.self.now.journal.rows.ghost_name} })

pub returns-in_err-change : goal.returns-in_err-change
returns-in_err-change c =
    let p = err_from_is_err_and c.from_residual-in_err-change.result c.from_residual-in_err-change.ensures.1 in
    let b = contents_of c.args.self.now in
    let row = c.in_ok-row.row in
    let found = stood (contents_of c.args.self.now) c.args.number c.standing.result row c.in_ok-row.ensures.ok_part c.standing.ensures in
    let step = withdrawal_forbidden b (sound c.args.self.now) c.args.number row found.0 found.1 c.from-line.result c.from-line.ensures false c.change.new.self c.in_err-change.ensures refl in
    rw (p.1, p.2) (record { step = step; follows = extends step; memory = refl {a = c.args.self.now.journal.rows.ghost_name} })

pub invariant_of-self-2 : goal.invariant_of-self-2
invariant_of-self-2 c =
    let b = contents_of c.args.self.now in
    let holds = sound c.args.self.now in
    let row = c.in_ok-row.row in
    let found = stood (contents_of c.args.self.now) c.args.number c.standing.result row c.in_ok-row.ensures.ok_part c.standing.ensures in
    let at = found.0 in
    let stored = put_done (withdrawn_row row) b.memory b.used (c.args.number - 1) c.put.new.self.rows.now c.put.result c.put.ensures.change (omega (arith, at.counted, at.used)) (omega (arith, holds.fits)) in
    record { sound = ∣ withdrawal_sound b holds c.args.number row at found.1 c.from-line.result c.from-line.ensures true c.change.new.self c.in_ok-change.ensures c.put.new.self.rows.now c.put.new.self.length refl stored c.put.ensures.count ∣₁ }

pub returns : goal.returns
returns c =
    let b = contents_of c.args.self.now in
    let holds = sound c.args.self.now in
    let row = c.in_ok-row.row in
    let found = stood (contents_of c.args.self.now) c.args.number c.standing.result row c.in_ok-row.ensures.ok_part c.standing.ensures in
    let at = found.0 in
    let stored = put_done (withdrawn_row row) b.memory b.used (c.args.number - 1) c.put.new.self.rows.now c.put.result c.put.ensures.change (omega (arith, at.counted, at.used)) (omega (arith, holds.fits)) in
    let step = withdrawal_taken b holds c.args.number row at found.1 c.from-line.result c.from-line.ensures true c.change.new.self c.in_ok-change.ensures c.put.new.self.rows.now c.put.new.self.length refl stored c.put.ensures.count in
    record { step = step; follows = extends step; memory = c.put.ensures.memory }
