-- What holds of every set and of its bytes, and of some readings.
use Rattle.std.specs.Prelude.{◌≡◌, ℕ, ◌*◌, true, false, T, List, length, Some, from_bits}
use Rattle.std.specs.Float.{binary32}
use Rattle.reading.specs.Limited.{lawful_set, amount, temperature, kept}
use Rattle.reading.specs.Quantity.{quantity_of}
use Rattle.reading.specs.Layout.{shape_of, count, set_in, set_bytes, Held, Bytes}
use Rattle.reading.specs.declared.sets.Shape.{Shape}
use Rattle.reading.specs.declared.sets.ReadingSet.{ReadingSet}

-- bytes that hold a lawful set are the bytes of that set
abbrev pub ReadBack : Type 0
ReadBack = (shape : Shape) (bytes : List ℕ) (set : ReadingSet) → Bytes bytes → set_in shape bytes ≡ Some set → T (lawful_set set) → set_bytes set ≡ bytes

-- the bytes of a set hold that set
abbrev pub WrittenBack : Type 0
WrittenBack = (set : ReadingSet) → Held set → set_in (shape_of set) (set_bytes set) ≡ Some set

-- a set has four bytes to a reading
abbrev pub Sized : Type 0
Sized = (set : ReadingSet) → length (set_bytes set) ≡ 4 * count (shape_of set)

-- they are bytes
abbrev pub Written : Type 0
Written = (set : ReadingSet) → Bytes (set_bytes set)

-- the four laws
abbrev pub Stands : Type 0
Stands = ReadBack × WrittenBack × Sized × Written

-- 20.125 °C is 2013 hundredths, 0.5 is 1, what is next below it is 0, and so is the smallest number above 0;
-- 800000 is lawful and the next number is not, +0 is lawful and -0 is not, nor is a NaN or an infinity
abbrev pub Examples : Type 0
Examples =
    (quantity_of (temperature (from_bits binary32 0x41A1_0000)) ≡ 2013)
    × (quantity_of (amount (from_bits binary32 0x3F00_0000)) ≡ 1)
    × (quantity_of (amount (from_bits binary32 0x3EFF_FFFF)) ≡ 0)
    × (quantity_of (amount (from_bits binary32 0x0000_0001)) ≡ 0)
    × (kept (amount (from_bits binary32 0x4943_5000)) ≡ true)
    × (kept (amount (from_bits binary32 0x4943_5001)) ≡ false)
    × (kept (amount (from_bits binary32 0x0000_0000)) ≡ true)
    × (kept (amount (from_bits binary32 0x8000_0000)) ≡ false)
    × (kept (amount (from_bits binary32 0x7FC0_0000)) ≡ false)
    × (kept (amount (from_bits binary32 0x7F80_0000)) ≡ false)
