use Rattle.std.proofs.Common.{Option, sym, subst}
use Rattle.factor.specs.Questions.{asked_of}
use Rattle.factor.specs.Limited.{Limited, answer_within, rows_limited}
use Rattle.factor.specs.declared.question.Factor.{Factor}
use Rattle.factor.proofs.plant.PlantListSource.ask.Goals as goal

pub returns-clause-limits : goal.returns-clause-limits
returns-clause-limits c =
    let q = asked_of c.args.question in
    answer_within q.class c.first_fit.result (subst (λ (o : Option Factor). Limited q.class o) (sym c.first_fit.ensures) (rows_limited q c.as_slice.result.now))
