-- What stands comes to one sum. Assumes nothing.
use Rattle.std.proofs.Common.{◌≡◌, ℕ, ◌+◌, List, sym, refl, subst, arith}
use Rattle.emission.specs.Entries.{Kept}
use Rattle.journal.specs.Calls.{Call}
use Rattle.journal.specs.Words.{Taken, Stands}
use Rattle.journal.specs.Figures.{Sum, with, AddsUp, none, picked, passed, Standing}

module _ {y n : ℕ} {h : List Call} {P : Kept → Type 0} (one_entry : (k : ℕ) (e e' : Kept) → Stands y n h k e → Stands y n h k e' → e ≡ e') where
  adds_one : {j k : ℕ} {s s' : Sum} → AddsUp y n h P j s → AddsUp y n h P k s' → j ≡ k → s ≡ s'
  adds_one none none is = refl
  adds_one none (picked _ _ _) is = absurd (omega arith)
  adds_one none (passed _ _) is = absurd (omega arith)
  adds_one (picked _ _ _) none is = absurd (omega arith)
  adds_one (passed _ _) none is = absurd (omega arith)
  adds_one (picked {k = j} {e = e} sums stands _) (picked {k = k} {e = e'} sums' stands' _) is =
      let before = adds_one sums sums' (omega arith) in
      let same = one_entry (j + 1) e e' stands (subst (λ (i : ℕ). Stands y n h i e') (sym is) stands') in
      λ i. with (before i) (same i)
  adds_one (picked {e = e} _ stands picks) (passed {k = k} _ left) is = absurd (left e (subst (λ (i : ℕ). Stands y n h i e) is stands) picks)
  adds_one (passed {k = j} _ left) (picked {e = e} _ stands picks) is = absurd (left e (subst (λ (i : ℕ). Stands y n h i e) (sym is) stands) picks)
  adds_one (passed sums _) (passed sums' _) is = adds_one sums sums' (omega arith)

-- if no number has two entries, and the calls take but one number of offerings
pub standing_one : {y n : ℕ} {h : List Call} {P : Kept → Type 0} {s s' : Sum} → Standing y n h P s → Standing y n h P s' → ((k : ℕ) (e e' : Kept) → Stands y n h k e → Stands y n h k e' → e ≡ e') → ((i j : ℕ) → Taken y n h i → Taken y n h j → i ≡ j) → s ≡ s'
standing_one a b one_entry one-taken = adds_one one_entry a.adds b.adds (one-taken a.taken b.taken a.numbered b.numbered)
