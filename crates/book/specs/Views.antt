-- What the values of the code hold, in plain terms.
use Rattle.journal.specs.declared.row.Booked.{Booked}
use Rattle.journal.specs.Calls.{Given, an_entry}
use Rattle.journal.specs.Contents.{Contents}
use Rattle.book.specs.declared.book.Book.{Book}

abbrev pub contents_of : Book → Contents
contents_of b = record { year = b.year.number; months = b.months; memory = b.journal.rows.now; used = b.journal.length }

abbrev pub booked_of : Booked → Given
booked_of x = an_entry x.number x.grams
