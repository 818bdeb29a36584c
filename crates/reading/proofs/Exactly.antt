-- What is exact in the arithmetic on readings.
use Rattle.std.proofs.Common.{◌≡◌, ℕ, zero, suc, ◌+◌, ◌-◌, ◌*◌, ◌%◌, ◌^◌, ◌<◌, ◌≤◌, Bool, true, false, ◌&&◌, ◌||◌, T, eqb, ltb, leb, ℤ, pos, negsuc, sym, refl, ap, ◌∙◌, subst, true≢false, le_trans, le_of_eq, lt_of_lt_of_le, lt_of_le_of_lt, le_of_lt, lt_irrefl, mul_assoc, mul-le-mul_left, mul-pos, lt_of_not-le, mul-one, arith, lit<, lit≤, le→leb, eqb→eq, ltb→lt, leb→le, pow_pos, pow_mono, pow-add, shl_lt}
use Rattle.std.proofs.lemmas.Nat.{mul-lt}
use lib.Pow.{pow-lt}
use lib.Ieee.{Float, nan, inf, fin, binary32, binary64, up, down, round, mul, le, lt, eq, of_int, in_float, to_unsigned, fits}
use lib.Ieee.Bits.{is_true}
use lib.Ieee.Fits.{down_pos, and_l, and_r}
use lib.Ieee.Exact.{HasValue, round_exact}
use lib.Ieee.Order.{transfer, le_of_values}
use lib.Ieee.Scale.{round_same}
use lib.Ieee.Back.{round_whole, unsigned_back}
use Rattle.std.specs.Float.{float_is_finite, is_sign_negative, round_with, float_round}
use Rattle.rounding.specs.Nearest.{nearest}
use Rattle.rounding.proofs.Laws as rounding
use Rattle.reading.specs.Dyadic.{over, under, clear, lawful}

same : (p q : Bool) → (T p → T q) → (T q → T p) → p ≡ q
same true true f g = refl
same true false f g = absurd (f tt)
same false true f g = absurd (g tt)
same false false f g = refl

-- ---- the order of two values that are not negative

weak : (a b : ℕ) → T (ltb a b || (eqb a b && true)) → a ≤ b
weak a b t = go (ltb a b) (eqb a b) (ltb→lt a b) (eqb→eq a b) t
  where
    go : (p q : Bool) → (T p → a < b) → (T q → a ≡ b) → T (p || (q && true)) → a ≤ b
    go true q f g t = le_of_lt (f tt)
    go false true f g t = le_of_eq (g tt)
    go false false f g t = absurd t

back : (x y : Float) (a c b d : ℕ) → HasValue x false a c → HasValue y false b d → T (le x y) → a * d ≤ b * c
unfolding le lt eq
back nan y a c b d v w h = absurd v
back (inf s) y a c b d v w h = absurd v
back (fin true m e) y a c b d v w h = absurd (true≢false v.0)
back (fin false m e) nan a c b d v w h = absurd w
back (fin false m e) (inf s) a c b d v w h = absurd w
back (fin false m e) (fin true n k) a c b d v w h = absurd (true≢false w.0)
back (fin false m e) (fin false n k) a c b d v w h =
    transfer a b c d (m * up e) (n * up k) (down e) (down k) (down_pos e) (down_pos k) (sym v.1) (sym w.1) (weak (m * up e * down k) (n * up k * down e) h)

le_at : (x y : Float) (a c b d : ℕ) → 0 < c → 0 < d → HasValue x false a c → HasValue y false b d → le x y ≡ leb (a * d) (b * c)
le_at x y a c b d C D v w = same (le x y) (leb (a * d) (b * c)) (λ h. le→leb (a * d) (b * c) (back x y a c b d v w h)) (λ h. le_of_values x y a c b d C D v w (leb→le (a * d) (b * c) h))

-- ---- a reading's own fraction

pub under_pos : (x : Float) → 0 < under x
under_pos nan = omega arith
under_pos (inf s) = omega arith
under_pos (fin s m e) = down_pos e

own : (x : Float) → T (clear x) → HasValue x false (over x) (under x)
unfolding clear
own nan h = absurd h
own (inf s) h = absurd h
own (fin true m e) h = absurd h
own (fin false m e) h = (refl, refl)

pub is_clear : (x : Float) → float_is_finite x ≡ true → is_sign_negative x ≡ false → T (clear x)
unfolding clear float_is_finite is_sign_negative
is_clear nan f n = absurd (true≢false (sym f))
is_clear (inf s) f n = absurd (true≢false (sym f))
is_clear (fin true m e) f n = absurd (true≢false n)
is_clear (fin false m e) f n = tt

pub not_finite : (x : Float) → float_is_finite x ≡ false → clear x ≡ false
unfolding clear float_is_finite
not_finite nan f = refl
not_finite (inf s) f = refl
not_finite (fin s m e) f = absurd (true≢false f)

pub not_positive : (x : Float) → is_sign_negative x ≡ true → clear x ≡ false
unfolding clear is_sign_negative
not_positive nan f = refl
not_positive (inf s) f = refl
not_positive (fin true m e) f = refl
not_positive (fin false m e) f = absurd (true≢false (sym f))

-- ---- limits

whole : (n : ℕ) → n ≤ 2 ^ 53 → HasValue (of_int binary64 (pos n)) false n 1
unfolding of_int
whole n h = round_whole binary64 false n h

between : (x : Float) (a b : ℕ) → T (clear x) → a ≤ 2 ^ 53 → b ≤ 2 ^ 53 → (le (of_int binary64 (pos a)) x && le x (of_int binary64 (pos b))) ≡ lawful x a b
unfolding lawful
between x a b c A B =
    rw (le_at (of_int binary64 (pos a)) x a 1 (over x) (under x) (omega arith) (under_pos x) (whole a A) (own x c), le_at x (of_int binary64 (pos b)) (over x) (under x) b 1 (under_pos x) (omega arith) (own x c) (whole b B), is_true (clear x) c, mul-one (over x)) refl

module _ (x w l h : Float) (a b : ℕ) (c : T (clear x)) (W : w ≡ x) (L : l ≡ of_int binary64 (pos a)) (A : a ≤ 2 ^ 53) (B : b ≤ 2 ^ 53) where
  pub passes : h ≡ of_int binary64 (pos b) → le l w ≡ true → le w h ≡ lawful x a b
  passes H t = (λ i. le (W i) (H i)) ∙ ap (λ (z : Bool). z && le x (of_int binary64 (pos b))) (sym t ∙ (λ i. le (L i) (W i))) ∙ between x a b c A B

  pub stops : le l w ≡ false → le l w ≡ lawful x a b
  stops t = t ∙ ap (λ (z : Bool). z && le x (of_int binary64 (pos b))) (sym t ∙ (λ i. le (L i) (W i))) ∙ between x a b c A B

pub refused : (x : Float) (a b : ℕ) → clear x ≡ false → false ≡ lawful x a b
unfolding lawful
refused x a b h = ap (λ (z : Bool). z && (leb (a * under x) (over x) && leb (over x) (b * under x))) (sym h)

-- ---- the product is exact: a reading has 24 digits, a scale 16, and an f64 keeps 53

abbrev Holds : ℕ → ℤ → Type 0
Holds m e = (m < 2 ^ 24) × (down e ≤ 2 ^ 149) × (m * up e < 2 ^ 128 * down e)

holds : (m : ℕ) (e : ℤ) → T (fits binary32 (fin false m e)) → Holds m e
unfolding fits
holds zero e h = (omega arith, small e (eqb→eq (up e * down e) 1 h), omega (arith, down_pos e))
  where
    small : (i : ℤ) → up i * down i ≡ 1 → down i ≤ 2 ^ 149
    small (pos k) p = omega arith
    small (negsuc k) p = omega arith
holds (suc m) e h =
    let A = eqb (suc m % 2) 1 in
    let B = ltb (suc m) (2 ^ 24) in
    let C = leb (down e) (2 ^ 149) in
    let D = ltb (suc m * up e) (2 ^ 128 * down e) in
    (ltb→lt (suc m) (2 ^ 24) (and_r A B (and_l (A && B) C (and_l (A && B && C) D h))), leb→le (down e) (2 ^ 149) (and_r (A && B) C (and_l (A && B && C) D h)), ltb→lt (suc m * up e) (2 ^ 128 * down e) (and_r (A && B && C) D h))

exact : (m : ℕ) (e : ℤ) (k : ℕ) → Holds m e → k < 2 ^ 16 → HasValue (round binary64 false (k * (m * up e)) (down e)) false (k * (m * up e)) (down e)
exact m (pos i) k h K =
    round_exact binary64 false (k * (m * 2 ^ i)) 1 (k * m) (i + 1074) (omega arith) (omega (arith, mul-lt k m (2 ^ 16) (2 ^ 24) K h.0))
    (subst (λ (z : ℕ). z < 2 ^ 2098) (sym p) (lt_of_lt_of_le (shl_lt 144 1074 (omega (arith, mul-lt k (m * 2 ^ i) (2 ^ 16) (2 ^ 128) K (omega (arith, h.2))))) (pow_mono {i = 144 + 1074} {j = 2098} (lit≤ tt))))
    (sym (mul-one (k * m * 2 ^ (i + 1074)) ∙ p))
  where
    p : k * m * 2 ^ (i + 1074) ≡ k * (m * 2 ^ i) * 2 ^ 1074
    p = ap (λ (z : ℕ). k * m * z) (pow-add 2 i 1074) ∙ simp mul_assoc
exact m (negsuc i) k h K =
    round_exact binary64 false (k * (m * 1)) (2 ^ suc i) (k * m) (1074 - suc i) (pow_pos (suc i)) q
    (lt_of_lt_of_le (shl_lt 53 (1074 - suc i) q) (pow_mono {i = 53 + (1074 - suc i)} {j = 2098} (omega arith)))
    (ap (λ (z : ℕ). k * z * 2 ^ 1074) (mul-one m) ∙ ap (λ (z : ℕ). k * m * 2 ^ z) (sym (rejoin (below (suc i) h.1))) ∙ ap (λ (z : ℕ). k * m * z) (pow-add 2 (1074 - suc i) (suc i)) ∙ sym (mul_assoc (k * m) (2 ^ (1074 - suc i)) (2 ^ suc i)))
  where
    q : k * m < 2 ^ 53
    q = omega (arith, mul-lt k m (2 ^ 16) (2 ^ 24) K h.0)

    below : (j : ℕ) → 2 ^ j ≤ 2 ^ 149 → j ≤ 149
    below j b =
        let r : j < 150 = lt_of_not-le (λ (g : 150 ≤ j). lt_irrefl (2 ^ 149) (lt_of_lt_of_le (pow-lt {i = 149} {j = 150} (lit< tt)) (le_trans (pow_mono g) b))) in
        omega arith

    rejoin : {j : ℕ} → j ≤ 149 → 1074 - j + j ≡ 1074
    rejoin b = omega arith

product : (m : ℕ) (e : ℤ) (y : Float) (k : ℕ) → HasValue y false k 1 → mul binary64 (fin false m e) y ≡ round binary64 false (k * (m * up e)) (down e)
unfolding mul
product m e nan k v = absurd v
product m e (inf s) k v = absurd v
product m e (fin true n d) k v = absurd (true≢false v.0)
product m e (fin false n d) k v =
    round_same binary64 false (m * up e * (n * up d)) (down e * down d) (k * (m * up e)) (down e) (mul-pos (down_pos e) (down_pos d)) (down_pos e)
    (ap (λ (z : ℕ). m * up e * z * down e) (sym (mul-one (n * up d)) ∙ v.1) ∙ omega arith)

scaled : (x y : Float) (k : ℕ) → T (clear x) → T (fits binary32 x) → k < 2 ^ 16 → HasValue y false k 1 → HasValue (mul binary64 x y) false (k * over x) (under x)
unfolding clear
scaled nan y k c f K v = absurd c
scaled (inf s) y k c f K v = absurd c
scaled (fin true m e) y k c f K v = absurd c
scaled (fin false m e) y k c f K v = subst (λ (z : Float). HasValue z false (k * (m * up e)) (down e)) (sym (product m e y k v)) (exact m e k (holds m e f) K)

-- ---- rounding

half_up : (y : Float) (a c : ℕ) → 0 < c → HasValue y false a c → float_round binary64 y ≡ round binary64 false (nearest a c) 1
unfolding round_with
half_up nan a c C v = absurd v
half_up (inf s) a c C v = absurd v
half_up (fin true m e) a c C v = absurd (true≢false v.0)
half_up (fin false m e) a c C v = ap (λ (z : ℕ). round binary64 false z 1) (rounding.same (m * up e) (down e) a c (down_pos e) C v.1)

below_high : (x : Float) (low high : ℕ) → T (lawful x low high) → over x ≤ high * under x
unfolding lawful
below_high x low high l =
    leb→le (over x) (high * under x) (and_r (leb (low * under x) (over x)) (leb (over x) (high * under x)) (and_r (clear x) (leb (low * under x) (over x) && leb (over x) (high * under x)) l))

pub lawful_clear : (x : Float) (low high : ℕ) → T (lawful x low high) → T (clear x)
unfolding lawful
lawful_clear x low high l = and_l (clear x) (leb (low * under x) (over x) && leb (over x) (high * under x)) l

small : (x : Float) (k low high : ℕ) → k < 2 ^ 8 → high ≤ 800000 → T (lawful x low high) → nearest (k * over x) (under x) < 2 ^ 31
small x k low high K H l =
    let bound : k * over x ≤ k * high * under x = le_trans (mul-le-mul_left k (below_high x low high l)) (le_of_eq (sym (mul_assoc k high (under x)))) in
    let most : k * high < 2 ^ 8 * 800001 = mul-lt k high (2 ^ 8) 800001 K (omega arith) in
    lt_of_le_of_lt (rounding.at_most (k * over x) (under x) (k * high) (under_pos x) bound) (lt_of_lt_of_le most (lit≤ tt))

back_to : (n : ℕ) → n < 2 ^ 31 → to_unsigned 32 (round binary64 false n 1) ≡ n
unfolding of_int in_float
back_to n h = (unsigned_back binary64 32 n (le→leb n (2 ^ 53) (omega arith)) (omega arith)).1

pub quantity_is : (x : Float) (k low high : ℕ) → T (fits binary32 x) → k < 2 ^ 8 → high ≤ 800000 → T (lawful x low high)
    → to_unsigned 32 (float_round binary64 (mul binary64 x (of_int binary64 (pos k)))) ≡ nearest (k * over x) (under x)
quantity_is x k low high f K H l =
    ap (to_unsigned 32) (half_up (mul binary64 x (of_int binary64 (pos k))) (k * over x) (under x) (under_pos x) (scaled x (of_int binary64 (pos k)) k (lawful_clear x low high l) f (omega arith) (whole k (omega arith))))
    ∙ back_to (nearest (k * over x) (under x)) (small x k low high K H l)
