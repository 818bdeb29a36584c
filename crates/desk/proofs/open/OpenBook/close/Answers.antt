use Rattle.desk.specs.Done.{called}
use Rattle.desk.proofs.open.OpenBook.close.Goals as goal

pub returns-in_err-month : goal.returns-in_err-month
returns-in_err-month c = rw (← c.small.ensures) (called c.close.ensures.step)

pub returns-in_err-format : goal.returns-in_err-format
returns-in_err-format c = rw (← c.small.ensures) (called c.close.ensures.step)

pub returns : goal.returns
returns c = rw (← c.small.ensures) (called c.close.ensures.step)
