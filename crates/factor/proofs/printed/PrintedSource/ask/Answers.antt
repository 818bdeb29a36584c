use Rattle.std.proofs.Common.{◌≡◌, Option, sym, subst, rules}
use Rattle.factor.specs.declared.question.Factor.{Factor}
use Rattle.factor.specs.Printed.{printed_answer}
use Rattle.factor.specs.Questions.{asked_of}
use Rattle.factor.specs.Limited.{Limited, answer_within, printed_limited}
use Rattle.factor.proofs.printed.PrintedSource.ask.Goals as goal

pub returns-in-Default-clause-limits : goal.returns-in-Default-clause-limits
returns-in-Default-clause-limits c =
    let q = asked_of c.args.question in
    let answer : c.default_factor.result ≡ printed_answer q = search rules in
    answer_within q.class c.default_factor.result (subst (λ (o : Option Factor). Limited q.class o) (sym answer) (printed_limited q))
