-- What a buffer that is too short refuses.
use Rattle.refusal.specs.declared.Refusal.{Refusal}
use Rattle.refusal.specs.declared.Layer.TheVariants.{Book}
use Rattle.refusal.specs.Said.{refusal}
use Rattle.statement.specs.declared.fault.BufferShort.{BufferShort}

-- the place is how many bytes are needed
abbrev pub refusal_of : BufferShort → Refusal
refusal_of e = refusal Book 20 e.needed
