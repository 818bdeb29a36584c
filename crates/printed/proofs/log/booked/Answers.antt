use Rattle.std.proofs.Common.{ap, ◌∙◌, Option}
use Rattle.factor.specs.declared.plant.PlantList.{PlantList}
use Rattle.factor.specs.declared.question.Factor.{Factor}
use Rattle.factor.specs.Questions.{Asked, by_tier}
use Rattle.factor.specs.Printed.{printed_answer}
use Rattle.printed.proofs.Booked.{empty_list, printed_year}
use Rattle.printed.proofs.log.booked.Goals as goal

pub returns : goal.returns
returns c =
    let empty = empty_list c.new-pair.result.measured (ap (λ (l : PlantList). l.list.length) c.new-pair.ensures.measured ∙ c.new.ensures.count) in
    let d = printed_year _ _ _ c.offer_frames-counts.new.book _ _ _ _ _ c.open-book.ensures.follows c.offer_frames-counts.ensures.offered
    (ap (λ (t : Asked → Option Factor). by_tier t printed_answer) empty) c.year_text.ensures in
    record { printed = d.printed; alone = d.alone }
