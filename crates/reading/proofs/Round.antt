-- A reading to its four bytes and back.
use Rattle.std.proofs.Common.{◌≡◌, ℕ, ◌+◌, ◌*◌, ◌/◌, ◌%◌, ◌^◌, ◌<◌, not, T, List, [], ◌∷◌, length, get_or, sym, ap, ◌∙◌, arith}
use native.Mathlib.Nat.{div-div-eq-div-mul}
use lib.Ieee.{Float, nan, inf, fin, binary32, fits, is_nan, of_bits, to_bits}
use lib.Ieee.Bits.{of_bits-to_bits, to_bits-of_bits, to_bits-lt}
use Rattle.reading.specs.Dyadic.{clear}
use Rattle.reading.specs.Wire.{decode, encode}

digits : (n : ℕ) → n < 2 ^ 32 → n / 16777216 % 256 * 16777216 + n / 65536 % 256 * 65536 + n / 256 % 256 * 256 + n % 256 ≡ n
digits n h =
    let two : n / 65536 ≡ n / 256 / 256 = sym (div-div-eq-div-mul n 256 256) in
    let three : n / 16777216 ≡ n / 256 / 256 / 256 = sym (ap (λ (z : ℕ). z / 256) (div-div-eq-div-mul n 256 256) ∙ div-div-eq-div-mul n 65536 256) in
    rw (two, three) (omega arith)

pub decode_encode : (x : Float) → T (fits binary32 x) → decode (encode x) ≡ x
decode_encode x f = ap (of_bits binary32) (digits (to_bits binary32 x) (to_bits-lt binary32 x f)) ∙ of_bits-to_bits binary32 x f

number : (x : Float) → T (clear x) → T (not (is_nan x))
unfolding clear is_nan
number nan c = absurd c
number (inf s) c = tt
number (fin s m e) c = tt

abbrev pub Bytes4 : ℕ → ℕ → ℕ → ℕ → Type 0
Bytes4 a b c d = (a < 256) × (b < 256) × (c < 256) × (d < 256)

at_3 : (a b c d : ℕ) → Bytes4 a b c d → (a * 16777216 + b * 65536 + c * 256 + d) / 16777216 % 256 ≡ a
at_3 a b c d h = omega arith

at_2 : (a b c d : ℕ) → Bytes4 a b c d → (a * 16777216 + b * 65536 + c * 256 + d) / 65536 % 256 ≡ b
at_2 a b c d h = omega arith

at_1 : (a b c d : ℕ) → Bytes4 a b c d → (a * 16777216 + b * 65536 + c * 256 + d) / 256 % 256 ≡ c
at_1 a b c d h = omega arith

at_0 : (a b c d : ℕ) → Bytes4 a b c d → (a * 16777216 + b * 65536 + c * 256 + d) % 256 ≡ d
at_0 a b c d h = omega arith

pub encode_decode : (a b c d : ℕ) → Bytes4 a b c d → T (clear (decode (a ∷ b ∷ c ∷ d ∷ []))) → encode (decode (a ∷ b ∷ c ∷ d ∷ [])) ≡ a ∷ b ∷ c ∷ d ∷ []
encode_decode a b c d h t =
    let n = a * 16777216 + b * 65536 + c * 256 + d in
    let e : to_bits binary32 (of_bits binary32 n) ≡ n = to_bits-of_bits binary32 n (omega arith) (number (of_bits binary32 n) t) in
    (λ i. (e i / 16777216 % 256) ∷ (e i / 65536 % 256) ∷ (e i / 256 % 256) ∷ (e i % 256) ∷ [])
    ∙ (λ i. at_3 a b c d h i ∷ at_2 a b c d h i ∷ at_1 a b c d h i ∷ at_0 a b c d h i ∷ [])

pub encode_back : (bs : List ℕ) → length bs ≡ 4 → Bytes4 (get_or bs 0 0) (get_or bs 1 0) (get_or bs 2 0) (get_or bs 3 0) → T (clear (decode bs)) → encode (decode bs) ≡ bs
encode_back [] l h t = absurd (omega arith)
encode_back (a ∷ []) l h t = absurd (omega arith)
encode_back (a ∷ b ∷ []) l h t = absurd (omega arith)
encode_back (a ∷ b ∷ c ∷ []) l h t = absurd (omega arith)
encode_back (a ∷ b ∷ c ∷ d ∷ []) l h t = encode_decode a b c d h t
encode_back (a ∷ b ∷ c ∷ d ∷ e ∷ r) l h t = absurd (omega arith)
