use Rattle.std.proofs.Common.{◌≡◌, ℕ, Bool, false, true, List, [], ◌∷◌, ◌⊎◌, Err, eqb, ap, ◌∙◌, inl, inr}
use lib.Pointwise.{pointwise}
use Rattle.hex.specs.declared.error.FromHexError.{FromHexError}
use Rattle.hex.specs.declared.error.FromHexError.TheVariants.{OutOfMemory}
use Rattle.hex.specs.Hex.{decode_of}
use Rattle.commands.specs.declared.fault.Fault.TheVariants.{Reason as ReasonFault}
use Rattle.commands.specs.declared.fault.Reason.TheVariants.{NotHexadecimal}
use Rattle.commands.specs.Words.{NoBytes, no_memory, not_hexadecimal}
use Rattle.commands.proofs.words.bytes.Goals as goal

-- a word that is no dash, and whose bytes are missing for another cause than memory
no_digits : {word : List ℕ} {e : FromHexError} → false ≡ pointwise eqb word (45 ∷ []) → (e ≡ OutOfMemory) ⊎ (decode_of word ≡ Err e) → (e ≡ OutOfMemory → ⊥) → NoBytes word (ReasonFault NotHexadecimal)
no_digits d (inl m) n = absurd (n m)
no_digits d (inr h) n = not_hexadecimal (λ e. (let x : ◌≡◌ {A = Bool} false true = d ∙ ap (λ w. pointwise eqb w (45 ∷ [])) e in cc)) h

pub returns-in-Err-OutOfMemory : goal.returns-in-Err-OutOfMemory
returns-in-Err-OutOfMemory c = no_memory

pub returns-in-Err-OddLength : goal.returns-in-Err-OddLength
returns-in-Err-OddLength c = no_digits c.if-eq.ensures (rw (c.in-Err-OddLength.is, c.in-Err-OddLength.field-0-is) at c.decode.ensures.err) (λ e. cc)

pub returns-in-Err-InvalidStringLength : goal.returns-in-Err-InvalidStringLength
returns-in-Err-InvalidStringLength c = no_digits c.if-eq.ensures (rw (c.in-Err-InvalidStringLength.is, c.in-Err-InvalidStringLength.field-0-is) at c.decode.ensures.err) (λ e. cc)

pub returns-in-Err-InvalidHexCharacter : goal.returns-in-Err-InvalidHexCharacter
returns-in-Err-InvalidHexCharacter c = no_digits c.if-eq.ensures (rw (c.in-Err-InvalidHexCharacter.is, c.in-Err-InvalidHexCharacter.field-0-is) at c.decode.ensures.err) (λ e. cc)
