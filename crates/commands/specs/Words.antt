-- What a word of a command says.
use Rattle.std.specs.Prelude.{◌≡◌, ℕ, ◌^◌, ◌≤◌, List, [], codes, Ok, Err}
use Rattle.std.specs.declared.alloc.AllocError.{AllocError}
use Rattle.hex.specs.declared.error.FromHexError.{FromHexError}
use Rattle.hex.specs.Hex.{decode_of}
use Rattle.commands.specs.declared.fault.Fault.{Fault}
use Rattle.commands.specs.declared.fault.Fault.TheVariants.{Reason as ReasonFault, Memory}
use Rattle.std.specs.Str.Parse.{IsNumeral, digits_value}
use Rattle.commands.specs.declared.fault.Reason.{Reason}
use Rattle.commands.specs.declared.fault.Reason.TheVariants.{NotANumber, NumberTooLarge, NotHexadecimal}

-- the word is not decimal digits alone, or more than 32 bits hold
pub data NoNumber (word : List ℕ) : Reason → Type 0 where
  not_a_number : (IsNumeral 10 word → ⊥) → NoNumber word NotANumber
  too_large : IsNumeral 10 word → 2 ^ 32 ≤ digits_value 10 word → NoNumber word NumberTooLarge

-- a dash is no bytes, and any other word is bytes in hexadecimal
pub data HexWord (word bytes : List ℕ) : Type 0 where
  dash : word ≡ codes "-" → bytes ≡ [] → HexWord word bytes
  digits : decode_of word ≡ Ok bytes → HexWord word bytes

-- the word is no dash and no hexadecimal, or there is no memory for its bytes
pub data NoBytes (word : List ℕ) : Fault → Type 0 where
  not_hexadecimal : {e : FromHexError} → (word ≡ codes "-" → ⊥) → decode_of word ≡ Err e → NoBytes word (ReasonFault NotHexadecimal)
  no_memory : {e : AllocError} → NoBytes word (Memory e)
