use Rattle.std.proofs.Common.{refl}
use Rattle.factor.proofs.FirstRow.{answer_is_first, first_answers, no_answer, none_answers}
use Rattle.factor.specs.Limited.{rows_limited, printed_limited}
use Rattle.factor.proofs.stands.factors_stand.Goals as goal

pub returns : goal.returns
returns c =
    record {
      zero = refl;
      first = answer_is_first;
      answers = first_answers;
      nothing = no_answer;
      none = none_answers;
      printed = (refl, tt);
      rows = rows_limited;
      table = printed_limited;
    }
