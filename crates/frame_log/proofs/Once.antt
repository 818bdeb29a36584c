-- Bytes spell one list of frames. Assumes nothing.
use Rattle.std.proofs.Common.{◌≡◌, ℕ, ◌/◌, ◌%◌, List, [], ◌∷◌, ◌++◌, length, get_or, take, drop, sym, refl, ap, ◌∙◌, subst, arith}
use Rattle.std.proofs.lemmas.List.{append_assoc, length-append, take_at, drop_at}
use Rattle.frame_log.specs.Log.{framed, spelled, Ended, all_read, length_cut, frame_cut, SpellsOnce}

-- a frame that is there is no end
no_end : (f more : List ℕ) → Ended (framed f ++ more) → ⊥
no_end f more (all_read z) = omega arith
no_end f more (length_cut z) = omega arith
no_end f more (frame_cut h l) = omega (arith, length-append f more)

digits : (m n : ℕ) → m / 256 ≡ n / 256 → m % 256 ≡ n % 256 → m ≡ n
digits m n p q = omega arith

same_frame : (f g x y : List ℕ) → framed f ++ x ≡ framed g ++ y → (f ≡ g) × (x ≡ y)
same_frame f g x y e =
    let high : length f / 256 ≡ length g / 256 = ap (λ v. get_or v 0 0) e in
    let low : length f % 256 ≡ length g % 256 = ap (λ v. get_or v 1 0) e in
    let n : length f ≡ length g = digits (length f) (length g) high low in
    let r : f ++ x ≡ g ++ y = ap (drop 2) e in (
      sym (take_at f x (length f) refl) ∙ (ap (take (length f)) r ∙ take_at g y (length f) (sym n)),
      sym (drop_at f x (length f) refl) ∙ (ap (drop (length f)) r ∙ drop_at g y (length f) (sym n)),
    )

once : (fs gs : List (List ℕ)) (r s : List ℕ) → Ended r → Ended s → spelled fs ++ r ≡ spelled gs ++ s → (fs ≡ gs) × (r ≡ s)
once [] [] r s p q e = (refl, e)
once [] (g ∷ gs) r s p q e = absurd (no_end g (spelled gs ++ s) (subst Ended (e ∙ append_assoc (framed g) (spelled gs) s) p))
once (f ∷ fs) [] r s p q e = absurd (no_end f (spelled fs ++ r) (subst Ended (sym e ∙ append_assoc (framed f) (spelled fs) r) q))
once (f ∷ fs) (g ∷ gs) r s p q e =
    let h = same_frame f g (spelled fs ++ r) (spelled gs ++ s) (sym (append_assoc (framed f) (spelled fs) r) ∙ (e ∙ append_assoc (framed g) (spelled gs) s)) in
    let t = once fs gs r s p q h.1 in
    ((λ i. h.0 i ∷ t.0 i), t.1)

pub spells_once : SpellsOnce
spells_once bytes fs gs r s a b = once fs gs r s a.ended b.ended (a.is ∙ sym b.is)
