-- Answers that follow one another. Assumes nothing.
use Rattle.std.proofs.Common.{◌≡◌, ℕ, Bool, true, false, cond, Ok, Err, Result, refl, arith}
use Rattle.refusal.specs.declared.Refusal.{Refusal}
use Rattle.refusal.specs.Said.{then}

pub then_ok : {T U : Type 0} (r : Result T Refusal) (go : T → Result U Refusal) (x : T) → Ok x ≡ r → then r go ≡ go x
then_ok r go x e = rw (← e) refl

pub then_err : {T U : Type 0} (r : Result T Refusal) (go : T → Result U Refusal) (e : Refusal) → Err e ≡ r → then r go ≡ Err e
then_err r go e h = rw (← h) refl

-- and backwards: an answer that is given was given at each step
pub then_given : {T U : Type 0} (r : Result T Refusal) (go : T → Result U Refusal) (y : U) → Ok y ≡ then r go → (x : T) × (Ok x ≡ r) × (Ok y ≡ go x)
then_given (Ok x) go y e = (x, refl, e)
then_given (Err r) go y e = let z : ◌≡◌ {A = ℕ} 0 1 = cc in absurd (omega arith)

pub cond_given : {T : Type 0} (b : Bool) (r : Result T Refusal) (e : Refusal) (y : T) → Ok y ≡ cond b r (Err e) → (b ≡ true) × (Ok y ≡ r)
cond_given true r e y h = (refl, h)
cond_given false r e y h = let z : ◌≡◌ {A = ℕ} 0 1 = cc in absurd (omega arith)

pub same_ok : {T : Type 0} (x y : T) → ◌≡◌ {A = Result T Refusal} (Ok x) (Ok y) → x ≡ y
same_ok x y h = cc
