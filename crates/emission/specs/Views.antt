-- What the values of the code hold, in plain numbers.
use Rattle.kind.specs.Kinds.{numbers_of}
use Rattle.kind.specs.Tiers.{letter_of}
use Rattle.emission.specs.declared.entry.Entry.{Entry}
use Rattle.emission.specs.Entries.{Kept}

abbrev pub kept_of : Entry → Kept
kept_of e = record {
  day = e.day;
  kind = (numbers_of e.kind).0;
  item = (numbers_of e.kind).1;
  tier = letter_of e.tier;
  share = e.share;
  quantities = e.quantities;
  factor = e.factor;
  grams = e.grams;
}
