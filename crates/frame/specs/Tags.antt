-- The numbers of the fields' tags.
use Rattle.std.specs.Prelude.{ℕ, cond, Some, None, Option}
use Rattle.frame.specs.Format.{known}
use Rattle.frame.specs.declared.tag.Tag.{Tag}
use Rattle.frame.specs.declared.tag.Tag.TheVariants.{When, Kind, Item, Tier, Readings, Share, Name}

abbrev pub number_of : Tag → ℕ
number_of When = 1
number_of Kind = 2
number_of Item = 3
number_of Tier = 4
number_of Readings = 5
number_of Share = 6
number_of Name = 7

-- the tag of a number, by its own number
abbrev pub tag_in : ℕ → Option ℕ
tag_in n = cond (known n) (Some n) None
