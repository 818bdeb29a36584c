-- The layer, number and place of each refusal of a call of the book.
use Rattle.refusal.specs.declared.Layer.TheVariants.{Book}
use Rattle.refusal.specs.declared.Refusal.{Refusal}
use Rattle.refusal.specs.Said.{refusal}
use Rattle.record.specs.Faults as records
use Rattle.emission.specs.Faults as emissions
use Rattle.journal.specs.declared.fault.BookFault.{BookFault}
use Rattle.journal.specs.declared.fault.BookFault.TheVariants.{Record, Emission, OtherYear, MonthNotOpen, JournalFull, NoStandingEntry, StateForbids, NoSuchMonth, NoSuchLine}

abbrev pub refusal_of : BookFault → Refusal
refusal_of (Record fault) = records.refusal_of fault
refusal_of (Emission fault) = emissions.refusal_of fault
refusal_of OtherYear = refusal Book 14 0
refusal_of MonthNotOpen = refusal Book 15 0
refusal_of JournalFull = refusal Book 16 0
refusal_of NoStandingEntry = refusal Book 17 0
refusal_of StateForbids = refusal Book 18 0
refusal_of NoSuchMonth = refusal Book 19 0
refusal_of NoSuchLine = refusal Book 19 0
