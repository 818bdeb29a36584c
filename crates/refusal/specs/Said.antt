-- A call's answer in the subject's terms: what it gives, or what it refuses.
use Rattle.std.specs.Prelude.{ℕ, Ok, Err, Result}
use Rattle.refusal.specs.declared.Layer.{Layer}
use Rattle.refusal.specs.declared.Refusal.{Refusal}

abbrev pub refusal : Layer → ℕ → ℕ → Refusal
refusal l n p = record { layer = l; number = n; place = p }

-- an answer of the code, its value read by f and its fault by g
abbrev pub said : {T U E : Type 0} → (T → U) → (E → Refusal) → Result T E → Result U Refusal
said f g (Ok x) = Ok (f x)
said f g (Err e) = Err (g e)

-- one answer after another: the first refusal is the whole answer
abbrev pub then : {T U : Type 0} → Result T Refusal → (T → Result U Refusal) → Result U Refusal
then (Ok x) go = go x
then (Err r) go = Err r
