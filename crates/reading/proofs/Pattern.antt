-- What a pattern's fields say of the reading.
use Rattle.std.proofs.Common.{◌≡◌, ℕ, zero, suc, ◌+◌, ◌-◌, ◌*◌, ◌/◌, ◌%◌, ◌^◌, ◌<◌, ◌≤◌, Bool, true, false, cond, eqb, leb, sym, refl, ap, ◌∙◌, subst, inl, inr, true≢false, arith, le-ltb, lt-ltb, ne_eqb}
use borrow.Author.Tests.{lt-leb}
use Rattle.std.proofs.lemmas.Bool.Decides.{leb_tells}
use lib.Ieee.{Float, nan, inf, fin, binary32, odd, of_bits, of_fields}
use lib.Ieee.Exact.{HasValue, odd_sign}
use Rattle.reading.specs.Dyadic.{over, under, clear}
use Rattle.reading.specs.Fields.{steps, Meaning}

pub steps_low : (b : ℕ) → b < 2 ^ 23 → steps b ≡ b
unfolding steps
steps_low b h = rw (lt-ltb b (2 ^ 23) h) refl

pub steps_high : (b : ℕ) → 2 ^ 23 ≤ b → steps b ≡ (2 ^ 23 + b % 2 ^ 23) * 2 ^ (b / 2 ^ 23 - 1)
unfolding steps
steps_high b h = rw (le-ltb b (2 ^ 23) h) refl

fields : (s : Bool) (x t b : ℕ) → x < 255 → t < 2 ^ 23 → b ≡ x * 2 ^ 23 + t → HasValue (of_fields binary32 s x t) s (steps b) (2 ^ 149)
unfolding of_fields
fields s zero t b X H e =
    let v : t * 2 ^ 0 ≡ steps b = omega (arith, steps_low b (omega arith)) in
    subst (λ (a : ℕ). HasValue (odd 24 s t 0 149) s a (2 ^ 149)) v (odd_sign 24 s t 0 149)
fields s (suc j) t b X H e =
    let p : t ≡ b % 2 ^ 23 = omega arith in
    let q : j ≡ b / 2 ^ 23 - 1 = omega arith in
    let v : (2 ^ 23 + t) * 2 ^ j ≡ steps b = (λ i. (2 ^ 23 + p i) * 2 ^ q i) ∙ sym (steps_high b (omega arith)) in
    subst (λ (k : Bool). HasValue (cond k (cond (eqb t 0) (inf s) nan) (odd 24 s (2 ^ 23 + t) j 149)) s (steps b) (2 ^ 149)) (sym (ne_eqb (suc j) 255 (omega arith)))
    (subst (λ (a : ℕ). HasValue (odd 24 s (2 ^ 23 + t) j 149) s a (2 ^ 149)) v (odd_sign 24 s (2 ^ 23 + t) j 149))

read : (b : ℕ) → b < 0x7F80_0000 → HasValue (of_bits binary32 b) false (steps b) (2 ^ 149)
unfolding of_bits
read b h =
    subst (λ (s : Bool). HasValue (of_fields binary32 s (b % 2 ^ 31 / 2 ^ 23) (b % 2 ^ 23)) false (steps b) (2 ^ 149)) (sym (lt-leb (2 ^ 31) b (omega arith)))
    (fields false (b % 2 ^ 31 / 2 ^ 23) (b % 2 ^ 23) b (omega arith) (omega arith) (omega arith))

of_value : (x : Float) (a c : ℕ) → HasValue x false a c → (clear x ≡ true) × (over x * c ≡ a * under x)
unfolding clear
of_value nan a c v = absurd v
of_value (inf s) a c v = absurd v
of_value (fin true m e) a c v = absurd (true≢false v.0)
of_value (fin false m e) a c v = (refl, v.1)

no_odd : (d q k l : ℕ) → clear (odd d true q k l) ≡ false
unfolding odd clear
no_odd d zero k l = refl
no_odd d (suc q) k l = refl

negative : (x t : ℕ) → clear (of_fields binary32 true x t) ≡ false
unfolding of_fields clear
negative zero t = no_odd 24 t 0 149
negative (suc x) t = go (eqb (suc x) 255) (eqb t 0)
  where
    go : (p q : Bool) → clear (cond p (cond q (inf true) nan) (odd 24 true (2 ^ 23 + t) x 149)) ≡ false
    go true true = refl
    go true false = refl
    go false q = no_odd 24 (2 ^ 23 + t) x 149

at_top : (s : Bool) (t : ℕ) → clear (of_fields binary32 s 255 t) ≡ false
unfolding of_fields clear
at_top s t = go (eqb t 0)
  where
    go : (q : Bool) → clear (cond q (inf s) nan) ≡ false
    go true = refl
    go false = refl

unclear : (b : ℕ) → b < 2 ^ 32 → 0x7F80_0000 ≤ b → clear (of_bits binary32 b) ≡ false
unfolding of_bits
unclear b h g = elim (leb_tells (2 ^ 31) b) [
  | inl l ↦ ap (λ (s : Bool). clear (of_fields binary32 s (b % 2 ^ 31 / 2 ^ 23) (b % 2 ^ 23))) l.0 ∙ negative (b % 2 ^ 31 / 2 ^ 23) (b % 2 ^ 23)
  | inr l ↦ (let e : b % 2 ^ 31 / 2 ^ 23 ≡ 255 = omega (arith, l.1) in ap (λ (x : ℕ). clear (of_fields binary32 (leb (2 ^ 31) b) x (b % 2 ^ 23))) e ∙ at_top (leb (2 ^ 31) b) (b % 2 ^ 23))
]

pub meaning : (b : ℕ) → b < 2 ^ 32 → Meaning b (of_bits binary32 b)
meaning b h = record {
  finite = λ l. (of_value (of_bits binary32 b) (steps b) (2 ^ 149) (read b l)).0;
  exact = λ l. (of_value (of_bits binary32 b) (steps b) (2 ^ 149) (read b l)).1;
  other = λ g. unclear b h g;
}
