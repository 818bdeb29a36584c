-- How the reason is printed why a line is not done.
use Rattle.std.specs.Prelude.{ℕ, List, codes}
use Rattle.commands.specs.declared.fault.Reason.{Reason}
use Rattle.commands.specs.declared.fault.Reason.TheVariants.{UnknownCommand, WordCount, NotANumber, NumberTooLarge, NotHexadecimal, NotALetter, UnknownSource, NotReadings, TooManyEntries, TooManyRows, TooManyBytes, NoYear}

abbrev pub reason_text : Reason → List ℕ
reason_text UnknownCommand = codes "unknown command"
reason_text WordCount = codes "wrong number of words"
reason_text NotANumber = codes "not a number"
reason_text NumberTooLarge = codes "number too large"
reason_text NotHexadecimal = codes "not hexadecimal"
reason_text NotALetter = codes "not a letter"
reason_text UnknownSource = codes "unknown source"
reason_text NotReadings = codes "not readings"
reason_text TooManyEntries = codes "too many entries"
reason_text TooManyRows = codes "too many rows"
reason_text TooManyBytes = codes "too many bytes"
reason_text NoYear = codes "no year is open"
