-- What the values of the code hold.
use Rattle.std.specs.Prelude.{ℕ, List, [], ◌∷◌, Some, None, Option}
use Rattle.std.specs.Borrow.{Bor}
use Rattle.frame.specs.declared.field.Field.{Field}
use Rattle.frame.specs.declared.field.Field.TheVariants.{When, Kind, Item, Tier, Readings, Share, Name}
use Rattle.frame.specs.declared.fields.Fields.{Fields}
use Rattle.frame.specs.declared.reader.Seen.{Seen}
use Rattle.frame.specs.Format.{Parts}
use Rattle.frame.specs.Reading.{Told}

abbrev pub tag_of : Field → ℕ
tag_of (When b) = 1
tag_of (Kind b) = 2
tag_of (Item b) = 3
tag_of (Tier b) = 4
tag_of (Readings b) = 5
tag_of (Share b) = 6
tag_of (Name b) = 7

abbrev pub bytes_of : Field → List ℕ
bytes_of (When b) = b.now
bytes_of (Kind b) = b.now ∷ []
bytes_of (Item b) = b.now ∷ []
bytes_of (Tier b) = b.now ∷ []
bytes_of (Readings b) = b.now
bytes_of (Share b) = b.now
bytes_of (Name b) = b.now

abbrev pub bytes_at : Bor (List ℕ) → List ℕ
bytes_at r = r.now

abbrev pub held : Option (Bor (List ℕ)) → Option (List ℕ)
held None = None
held (Some b) = Some b.now

abbrev pub held_byte : Option (Bor ℕ) → Option (List ℕ)
held_byte None = None
held_byte (Some b) = Some (b.now ∷ [])

abbrev pub told_of : Seen → Told
told_of s = record {
  f1 = held s.when;
  f2 = held_byte s.kind;
  f3 = held_byte s.item;
  f4 = held_byte s.tier;
  f5 = held s.readings;
  f6 = held s.share;
  f7 = held s.name;
}

abbrev pub parts_of : Fields → Parts
parts_of f = record {
  when = f.when;
  kind = f.kind;
  item = f.item;
  tier = f.tier;
  readings = f.readings.now;
  share = f.share;
  name = f.name.now;
}
