-- Four bytes in a list, read at a place.
use Rattle.std.proofs.Common.{◌≡◌, ℕ, suc, ◌+◌, ◌*◌, ◌<◌, Bool, cond, ◌≢◌, List, [], length, get_or, take, drop, Some, None, sym, ap, ◌∙◌, arith, get_or-drop, get_or-take, eq-eqb, ne_eqb, zero, ◌/◌, ◌%◌, refl, drop-drop}
use lib.Ieee.{Float, nan}
use Rattle.std.specs.Simd.{first_chunks}
use Rattle.reading.specs.Wire.{decode}
use Rattle.reading.specs.Layout.{count, reading_at, set_of, set_in}
use Rattle.reading.specs.declared.sets.Shape.{Shape}

pub byte_at : (bs : List ℕ) (n k : ℕ) → k < 4 → get_or (take 4 (drop n bs)) k 0 ≡ get_or bs (n + k) 0
byte_at bs n k h = rw (get_or-take, get_or-drop)

chunk_at : (m k : ℕ) (bs : List ℕ) → k < m → get_or (first_chunks 4 m bs) k [] ≡ take 4 (drop (4 * k) bs)
chunk_at zero k bs h = absurd (omega arith)
chunk_at (suc m) zero bs h = refl
chunk_at (suc m) (suc k) bs h = chunk_at m k (drop 4 bs) (omega arith) ∙ ap (take 4) (drop-drop (4 * k) 4 bs ∙ ap (λ (n : ℕ). drop n bs) (omega arith))

-- readings decoded from the chunks of four are those at their places
pub all_at : (bs : List ℕ) (chunks : List (List ℕ)) (xs : List Float) (n : ℕ) → chunks ≡ first_chunks 4 (length bs / 4) bs → length chunks ≡ length bs / 4 → length chunks ≡ n
    → ((k : ℕ) → k < n → get_or xs k nan ≡ decode (get_or chunks k [])) → (k : ℕ) → k < n → get_or xs k nan ≡ reading_at k bs
all_at bs chunks xs n front long count each k h =
    each k h ∙ ap decode (ap (λ (z : List (List ℕ)). get_or z k []) front ∙ chunk_at (length bs / 4) k bs (omega arith))

pub wrong_length : (shape : Shape) (bs : List ℕ) → length bs ≢ 4 * count shape → None ≡ set_in shape bs
unfolding set_in
wrong_length shape bs h = ap (λ (b : Bool). cond b (Some (set_of shape bs)) None) (sym (ne_eqb (length bs) (4 * count shape) h))

-- as many chunks of four as the shape has readings, and nothing after them, or not
module _ (shape other : Shape) (bs : List ℕ) (chunks rest : ℕ) (is : shape ≡ other) (front : chunks ≡ length bs / 4) (back : rest ≡ length bs % 4) where
  unequal : chunks ≢ count other → length bs ≢ 4 * count shape
  unequal h e = h (omega (arith, ap count is))

  pub wrong_count : chunks ≢ count other → None ≡ set_in shape bs
  wrong_count h = wrong_length shape bs (unequal h)

  pub right_count : rest ≡ 0 → chunks ≡ count other → Some (set_of other bs) ≡ set_in shape bs
  unfolding set_in
  right_count r e = ap (λ (s : Shape). Some (set_of s bs)) (sym is) ∙ ap (λ (b : Bool). cond b (Some (set_of shape bs)) None) (sym (eq-eqb (length bs) (4 * count shape) (omega (arith, ap count is))))
