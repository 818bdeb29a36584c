-- A set's bytes: the readings in their order, four bytes each.
use Rattle.std.specs.Prelude.{◌≡◌, ℕ, ◌*◌, ◌<◌, true, cond, List, [], ◌∷◌, ◌++◌, length, take, drop, Some, None, Option, ◌==◌, slice_index, Float}
use Rattle.std.specs.Float.{binary32}
use Rattle.std.specs.Float.Ieee.{fits}
use Rattle.std.specs.List.{AllByRecursion}
use Rattle.reading.specs.Limited.{Limited, readings_of}
use Rattle.reading.specs.Wire.{decode, encode}
use Rattle.reading.specs.declared.sets.Shape.{Shape}
use Rattle.reading.specs.declared.sets.Shape.TheVariants.{Amount as AmountShape, Water as WaterShape, Steam as SteamShape, Wastewater as WastewaterShape}
use Rattle.reading.specs.declared.sets.ReadingSet.{ReadingSet}
use Rattle.reading.specs.declared.sets.ReadingSet.TheVariants.{Amount, Water, Steam, Wastewater}

-- which readings the set has
abbrev pub shape_of : ReadingSet → Shape
shape_of (Amount x) = AmountShape
shape_of (Water w) = WaterShape
shape_of (Steam s) = SteamShape
shape_of (Wastewater w) = WastewaterShape

-- how many readings a set of this shape has
abbrev pub count : Shape → ℕ
count AmountShape = 1
count WaterShape = 2
count SteamShape = 2
count WastewaterShape = 5

-- the reading at a place, counted from 0
abbrev pub reading_at : ℕ → List ℕ → Float
reading_at place bytes = decode (take 4 (drop (4 * place) bytes))

-- the set of this shape that the bytes hold
abbrev pub set_of : Shape → List ℕ → ReadingSet
set_of AmountShape bytes = Amount (reading_at 0 bytes)
set_of WaterShape bytes = Water (record { kilograms = reading_at 0 bytes; celsius = reading_at 1 bytes })
set_of SteamShape bytes = Steam (record { kilograms = reading_at 0 bytes; kilopascals = reading_at 1 bytes })
set_of WastewaterShape bytes = Wastewater (record { cubic_metres = reading_at 0 bytes; inlet = reading_at 1 bytes; outlet = reading_at 2 bytes; sludge = reading_at 3 bytes; recovered = reading_at 4 bytes })

-- no set unless the bytes are as many as the shape's readings take
unfoldable pub set_in : Shape → List ℕ → Option ReadingSet
set_in shape bytes = cond (length bytes == 4 * count shape) (Some (set_of shape bytes)) None

-- the bytes of readings, joined
abbrev pub joined : List Limited → List ℕ
joined [] = []
joined (r ∷ rs) = encode r.value ++ joined rs

-- the bytes of a set
unfoldable pub set_bytes : ReadingSet → List ℕ
set_bytes set = joined (readings_of set)

-- each reading of the set is a binary32 number
abbrev pub Held : ReadingSet → Type 0
Held set = AllByRecursion (λ r. fits binary32 r.value ≡ true) (readings_of set)

-- each number is a byte
abbrev pub Bytes : List ℕ → Type 0
Bytes bytes = (k : ℕ) → k < length bytes → slice_index bytes k < 256
