-- Laws of a field that is put into a buffer. Assumes nothing.
use Rattle.std.proofs.Common.{◌≡◌, ℕ, ◌+◌, ◌-◌, ◌<◌, ◌≤◌, true, false, leb, List, [], ◌∷◌, ◌++◌, length, take, drop, Ok, Err, sym, ap, ◌∙◌, arith}
use borrow.Rule.Slice.PartMut.{put_mid}
use Rattle.std.proofs.lemmas.List.{append_assoc, drop-drop, take_at, drop_at, length-append}
use Rattle.std.proofs.lemmas.Slice.{take-put_mid, drop-put_mid}
use Rattle.std.proofs.lemmas.Bool.{lt-leb, le-leb}
use Rattle.refusal.specs.declared.Layer.TheVariants.{Frame, Book}
use Rattle.refusal.specs.Said.{refusal}
use Rattle.frame.specs.Format.{Parts, written, sound, write_answers, write_leaves}

-- a header of three bytes and then the bytes after it
pub field_put : (xs bs ys zs : List ℕ) (at a b c : ℕ) → ys ≡ a ∷ b ∷ c ∷ [] → zs ≡ bs → at + length (a ∷ b ∷ c ∷ bs) ≤ length xs
    → put_mid (at + 3) (at + 3 + length bs - (at + 3)) (put_mid at (at + 3 - at) xs ys) zs ≡ take at xs ++ (a ∷ b ∷ c ∷ (bs ++ drop (at + length (a ∷ b ∷ c ∷ bs)) xs))
field_put xs bs ys zs at a b c ey ez h =
    let three : length ys ≡ at + 3 - at = rw ey (omega arith) in
    let from : at + 3 ≡ at + length ys = rw ey (omega arith) in
    let in_range : at ≤ length xs = omega arith in
    let end : at + 3 + (at + 3 + length bs - (at + 3)) ≡ at + length (a ∷ b ∷ c ∷ bs) = omega arith in
    let past : at + (at + 3 - at) ≤ at + length (a ∷ b ∷ c ∷ bs) = omega arith in
    rw (take-put_mid at _ xs ys (at + 3) from in_range, drop-drop (at + 3 + length bs - (at + 3)) (at + 3) _, end, drop-put_mid at _ xs ys _ past in_range three, ey, ez) (simp append_assoc)

-- a buffer that begins with w, and has the old bytes after it
pub record Begun (old w : List ℕ) (at : ℕ) (out : List ℕ) : Type 0 where
  pub at_is : at ≡ length w
  pub out_is : out ≡ w ++ drop (length w) old

pub begun_more : (old w : List ℕ) (at : ℕ) (out f : List ℕ) (at' : ℕ) (out' : List ℕ) → Begun old w at out → at' ≡ at + length f
    → out' ≡ take at out ++ (f ++ drop (at + length f) out) → Begun old (w ++ f) at' out'
begun_more old w at out f at' out' b ea eo =
    let l : at' ≡ length (w ++ f) = simp length-append (omega (arith, b.at_is)) in
    let t : take at out ≡ w = rw b.out_is (take_at w (drop (length w) old) at (sym b.at_is)) in
    let d : drop (at + length f) out ≡ drop (length (w ++ f)) old =
    rw (b.out_is, ← drop-drop, drop_at w (drop (length w) old) at (sym b.at_is), drop-drop) (ap (λ m. drop m old) (simp length-append (omega arith))) in
    record { at_is = l; out_is = eo ∙ rw (t, d) (simp append_assoc) }

-- the three outcomes of a write
pub write_unsound : (p : Parts) (old : List ℕ) → sound p ≡ false → (Err (refusal Frame 4 0) ≡ write_answers p (length old)) × (old ≡ write_leaves p old)
unfolding write_answers write_leaves
write_unsound p old s = (simp s, simp s)

pub write_short : (p : Parts) (old : List ℕ) (n : ℕ) → sound p ≡ true → n ≡ length (written p) → length old < n → (Err (refusal Book 20 n) ≡ write_answers p (length old)) × (old ≡ write_leaves p old)
unfolding write_answers write_leaves
write_short p old n s en h =
    let g : leb (length (written p)) (length old) ≡ false = rw (← en) (lt-leb n (length old) h) in
    (simp (s, g, en), simp (s, g))

pub write_done : (p : Parts) (old : List ℕ) (n : ℕ) → sound p ≡ true → n ≡ length (written p) → n ≤ length old → (Ok n ≡ write_answers p (length old)) × (written p ++ drop (length (written p)) old ≡ write_leaves p old)
unfolding write_answers write_leaves
write_done p old n s en h =
    let g : leb (length (written p)) (length old) ≡ true = rw (← en) (le-leb n (length old) h) in
    (simp (s, g, en), simp (s, g))
