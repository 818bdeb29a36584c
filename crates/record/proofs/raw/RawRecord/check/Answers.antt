use Rattle.std.proofs.lemmas.Result.{err_from_is_err_and}
use Rattle.record.specs.Views.{head_of}
use Rattle.record.proofs.Reading.{checked_headless, checked_whole}
use Rattle.record.proofs.raw.RawRecord.check.Goals as goal

pub returns-in_err-heading : goal.returns-in_err-heading
returns-in_err-heading c =
    let p = err_from_is_err_and c.from_residual.result c.from_residual.ensures.1 in
    rw (p.1, p.2) (checked_headless c.args.self _ c.in_err-heading.ensures)

pub returns : goal.returns
returns c = checked_whole c.args.self (head_of c.in_ok-heading.heading) _ c.in_ok-heading.ensures c.new-2.ensures
