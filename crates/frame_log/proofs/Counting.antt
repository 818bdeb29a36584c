-- The counts of a log. Assumes nothing.
use Rattle.std.proofs.Common.{◌≡◌, ℕ, ◌+◌, Bool, true, false, cond, List, [], ◌∷◌, ◌++◌, length, drop, sym, refl, ap, ◌∙◌, subst, add_assoc, arith}
use Rattle.std.proofs.lemmas.Fn.{chained_keeps}
use Rattle.frame.specs.Format.{word}
use Rattle.frame_log.specs.Log.{taken_by, taken_count, refused_count, Names, Yearless, year_cut, unlawful, Handed, Tallied, CountedIn, Counted}

taken_push : (year : ℕ) (fs : List (List ℕ)) (f : List ℕ) → taken_count year (fs ++ f ∷ []) ≡ taken_count year fs + cond (taken_by year f) 1 0
taken_push year [] f = omega arith
taken_push year (g ∷ fs) f = ap (λ n. cond (taken_by year g) 1 0 + n) (taken_push year fs f) ∙ sym (add_assoc (cond (taken_by year g) 1 0) (taken_count year fs) (cond (taken_by year f) 1 0))

-- each frame is taken or refused
both : (year : ℕ) (fs : List (List ℕ)) → taken_count year fs + refused_count year fs ≡ length fs
both year [] = refl
both year (f ∷ fs) = one (taken_by year f) (both year fs)
  where
    one : (b : Bool) → taken_count year fs + refused_count year fs ≡ length fs → cond b 1 0 + taken_count year fs + (cond b 0 1 + refused_count year fs) ≡ length (f ∷ fs)
    one true h = omega (arith, h)
    one false h = omega (arith, h)

module _ {F : Type 0} (g : F → List ℕ → Bool → F → Type 0) {f : F} (year : ℕ) (says : (x : List ℕ) (b : Bool) (q : F) → g f x b q → (b ≡ taken_by year x) × (q ≡ f)) where
  step : (xs : List (List ℕ)) (p : F × ℕ) (x : List ℕ) (q : F × ℕ) → (p.0 ≡ f) × (p.1 ≡ taken_count year xs) → Handed g p x q → (q.0 ≡ f) × (q.1 ≡ taken_count year (xs ++ x ∷ []))
  step xs p x q h t =
      let s = says x t.0 q.0 (subst (λ (r : F). g r x t.0 q.0) h.0 t.1) in
      (s.1, t.2 ∙ ((λ i. h.1 i + cond (s.0 i) 1 0) ∙ sym (taken_push year xs x)))

  -- a taker that takes the frames of the year counts them
  pub counted_in : {bytes : List ℕ} {taken refused : ℕ} {f' : F} → Tallied g bytes f taken refused f' → CountedIn year bytes year taken refused
  counted_in {bytes = bytes} {taken = taken} {refused = refused} {f' = f'} t =
      let k = chained_keeps (Handed g) (λ xs q. (q.0 ≡ f) × (q.1 ≡ taken_count year xs)) step t.frames (f, 0) (f', taken) (refl, refl) t.calls in
      record {
        frames = t.frames;
        rest = t.rest;
        spells = t.spells;
        year_is = refl;
        taken_is = k.1;
        refused_is = omega (arith, k.1, t.counted, both year t.frames);
      }

pub yearless_log : (log : List ℕ) → Yearless log → Counted log 0 0 0
yearless_log log (year_cut h) = record {
  yearless = λ _. (refl, refl, refl);
  unlawful = λ _ _. (refl, refl, refl);
  lawful = λ l _. absurd (omega arith);
}
yearless_log log (unlawful h u) = record {
  yearless = λ _. (refl, refl, refl);
  unlawful = λ _ _. (refl, refl, refl);
  lawful = λ _ f. (let z : ◌≡◌ {A = ℕ} 0 1 = (let x = sym u ∙ f in cc) in absurd (omega arith));
}

pub lawful_log : (log rest : List ℕ) (y taken refused : ℕ) → Names log y → rest ≡ drop 2 log → CountedIn y rest y taken refused → Counted log y taken refused
lawful_log log rest y taken refused n r k = record {
  yearless = λ l. absurd (omega (arith, n.long));
  unlawful = λ _ f. (let z : ◌≡◌ {A = ℕ} 0 1 = (let x = sym n.lawful ∙ f in cc) in absurd (omega arith));
  lawful = λ _ _. subst (λ v. CountedIn (word log 0) v y taken refused) r (subst (λ m. CountedIn m rest y taken refused) n.is k);
}
