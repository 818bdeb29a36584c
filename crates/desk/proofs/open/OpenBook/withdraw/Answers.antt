use Rattle.desk.specs.Done.{called}
use Rattle.desk.proofs.open.OpenBook.withdraw.Goals as goal

pub returns-in_err-booked : goal.returns-in_err-booked
returns-in_err-booked c = called c.withdraw.ensures.step

pub returns-in_err-format : goal.returns-in_err-format
returns-in_err-format c = called c.withdraw.ensures.step

pub returns : goal.returns
returns c = called c.withdraw.ensures.step
