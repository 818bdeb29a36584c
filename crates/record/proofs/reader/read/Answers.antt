use Rattle.std.proofs.Common.{◌≡◌, None, sym, ap, ◌∙◌}
use Rattle.std.specs.Option.{ok_or}
use Rattle.std.proofs.lemmas.Result.{err_from_is_err_and}
use Rattle.frame.specs.Views.{parts_of}
use Rattle.reading.specs.declared.fault.ReadingFault.TheVariants.{SetWrong}
use Rattle.record.specs.Views.{head_of}
use Rattle.record.proofs.Reading.{read_headless, read_setless, read_whole}
use Rattle.record.proofs.reader.read.Goals as goal

pub returns-in_err-heading : goal.returns-in_err-heading
returns-in_err-heading c =
    let p = err_from_is_err_and c.from_residual-in_err-heading.result c.from_residual-in_err-heading.ensures.1 in
    rw (p.1, p.2) (read_headless c.args.frame.now (parts_of c.in_ok-fields.fields) c.year.result c.day.result c.year.ensures c.day.ensures c.in_ok-fields.ensures
    _ c.in_err-heading.ensures)

pub returns-in_err-set : goal.returns-in_err-set
returns-in_err-set c =
    let p = err_from_is_err_and c.from_residual-in_err-set.result c.from_residual-in_err-set.ensures.1 in
    let e = c.in_err-set.ensures in
    let none : c.read-2.result ≡ None = e.ok_part in
    let wrong : c.in_err-set.field-0.0 ≡ SetWrong = cc (e.value ∙ ap (λ o. ok_or o SetWrong) none) in
    rw (p.1, p.2, wrong)
    (read_setless c.args.frame.now (parts_of c.in_ok-fields.fields) c.year.result c.day.result c.year.ensures c.day.ensures c.in_ok-fields.ensures
    (head_of c.in_ok-heading.heading) c.shape.result c.in_ok-heading.ensures c.shape.ensures (sym none ∙ c.read-2.ensures.value))

pub returns : goal.returns
returns c =
    read_whole c.args.frame.now (parts_of c.in_ok-fields.fields) c.year.result c.day.result c.year.ensures c.day.ensures c.in_ok-fields.ensures
    (head_of c.in_ok-heading.heading) c.shape.result c.in_ok-heading.ensures c.shape.ensures
    c.in_ok-set.set c.share.result _ (sym c.in_ok-set.ensures.ok_part ∙ c.read-2.ensures.value) c.share.ensures c.new-2.ensures
