use Rattle.std.proofs.Common.{◌∙◌}
use Rattle.std.proofs.lemmas.Result.{err_from_is_err_and}
use Rattle.frame.proofs.Run.{along_more, along_all, along_refused}
use Rattle.frame.proofs.reader.read.Goals as goal

pub returns-in_err-field : goal.returns-in_err-field
returns-in_err-field c =
    let p = err_from_is_err_and c.from_residual.result c.from_residual.ensures.1 in
    let s = rw c.in_err-field.was at c.in-Some.ensures.steps in
    rw (p.1, p.2) (along_refused _ _ _ _ _ _ c.loop-field.invariant s.0 s.1)

pub loop-field-preserved : goal.loop-field-preserved
loop-field-preserved c =
    let s = rw c.in_ok-field.was at c.in-Some.ensures.steps in
    along_more _ _ _ _ _ _ _ _ _ _ _ c.loop-field.invariant s.0 s.1.field_is s.1.offset_is s.1.above_is c.put.ensures

pub returns : goal.returns
returns c = c.whole.ensures ∙ along_all _ _ _ _ _ c.loop-field.invariant c.in-None.ensures.steps.0
