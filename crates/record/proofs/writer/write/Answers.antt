use Rattle.std.proofs.Common.{subst}
use Rattle.std.proofs.lemmas.Result.{err_from_is_err_and}
use Rattle.reading.specs.Layout.{Held}
use Rattle.record.specs.Views.{raw_of}
use Rattle.record.proofs.Lawful.{passed}
use Rattle.record.proofs.Writing.{write_long, write_unlawful, write_put}
use Rattle.record.proofs.writer.write.Goals as goal

pub returns-in_err-check_name : goal.returns-in_err-check_name
returns-in_err-check_name c =
    let p = err_from_is_err_and c.from_residual.result c.from_residual.ensures.1 in
    let w = write_long c.args.raw c.args.name.now c.args.out.now _ c.in_err-check_name.ensures in
    rw (p.1, p.2) (record { answers = w.0; leaves = w.1; held = tt })

pub returns-in_err-lawful : goal.returns-in_err-lawful
returns-in_err-lawful c =
    let p = err_from_is_err_and c.from_residual-in_err-lawful.result c.from_residual-in_err-lawful.ensures.1 in
    let w = write_unlawful c.args.raw c.args.name.now c.args.out.now _ c.in_ok-check_name.ensures c.in_err-lawful.ensures in
    rw (p.1, p.2) (record { answers = w.0; leaves = w.1; held = tt })

pub returns-in_err-put : goal.returns-in_err-put
returns-in_err-put c =
    let p = err_from_is_err_and c.from_residual-in_err-put.result c.from_residual-in_err-put.ensures.1 in
    let e = c.in_err-put.ensures in
    let w = write_put c.args.raw (raw_of c.in_ok-lawful.lawful) c.args.name.now c.args.out.now _ c.put.new.out
    c.in_ok-check_name.ensures c.in_ok-lawful.ensures e.answers e.leaves in
    rw (p.1, p.2) (record { answers = w.0; leaves = w.1; held = tt })

pub returns : goal.returns
returns c =
    let e = c.in_ok-put.ensures in
    let w = write_put c.args.raw (raw_of c.in_ok-lawful.lawful) c.args.name.now c.args.out.now _ c.put.new.out
    c.in_ok-check_name.ensures c.in_ok-lawful.ensures e.answers e.leaves in
    record { answers = w.0; leaves = w.1; held = subst (λ x. Held x.readings) (passed c.args.raw (raw_of c.in_ok-lawful.lawful) c.in_ok-lawful.ensures).0 e.held }
