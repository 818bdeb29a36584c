use Rattle.std.proofs.Common.{rules}
use Rattle.journal.proofs.Runs.{line_told}
use Rattle.book.specs.Views.{contents_of}
use Rattle.book.proofs.Held.{sound}
use Rattle.book.proofs.book.Book.line.Goals as goal

pub returns-in_err-month-clause-told : goal.returns-in_err-month-clause-told
returns-in_err-month-clause-told c = line_told (contents_of c.args.self.now) (sound c.args.self.now) c.args.month c.args.line _ (search rules)

pub returns-in_err-line-clause-told : goal.returns-in_err-line-clause-told
returns-in_err-line-clause-told c = line_told (contents_of c.args.self.now) (sound c.args.self.now) c.args.month c.args.line _ (search rules)

pub returns-clause-told : goal.returns-clause-told
returns-clause-told c = line_told (contents_of c.args.self.now) (sound c.args.self.now) c.args.month c.args.line _ (search rules)
