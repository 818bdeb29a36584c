use Rattle.std.proofs.Common.{rules}
use Rattle.journal.proofs.Runs.{year_line_told}
use Rattle.book.specs.Views.{contents_of}
use Rattle.book.proofs.Held.{sound}
use Rattle.book.proofs.book.Book.year_line.Goals as goal

pub returns-in_err-try_from-clause-told : goal.returns-in_err-try_from-clause-told
returns-in_err-try_from-clause-told c = year_line_told (contents_of c.args.self.now) (sound c.args.self.now) c.args.line _ (search rules)
