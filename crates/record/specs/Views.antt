-- What the values of the code hold, in plain numbers.
use Rattle.record.specs.declared.heading.Heading.{Heading}
use Rattle.record.specs.declared.record.Record.{Record}
use Rattle.record.specs.declared.raw.RawRecord.{RawRecord}
use Rattle.kind.specs.Kinds.{numbers_of}
use Rattle.kind.specs.Tiers.{letter_of}
use Rattle.record.specs.Rules.{Head}

abbrev pub head_of : Heading → Head
head_of h = record { year = h.day.year.number; day = h.day.number; kind = (numbers_of h.kind).0; item = (numbers_of h.kind).1; tier = letter_of h.tier }

abbrev pub raw_of : Record → RawRecord
raw_of r = record {
  year = r.day.year.number;
  day = r.day.number;
  kind = (numbers_of r.kind).0;
  item = (numbers_of r.kind).1;
  tier = letter_of r.tier;
  share = r.share;
  readings = r.readings.set;
}
