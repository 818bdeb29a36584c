use Rattle.desk.specs.Done.{called}
use Rattle.desk.proofs.open.OpenBook.offer.Goals as goal

pub returns-in_err-format-in-Ok : goal.returns-in_err-format-in-Ok
returns-in_err-format-in-Ok c = called c.offer.ensures.step

pub returns-in_ok-format-in-Ok : goal.returns-in_ok-format-in-Ok
returns-in_ok-format-in-Ok c = called c.offer.ensures.step

pub returns-in-Err : goal.returns-in-Err
returns-in-Err c = called c.offer.ensures.step
