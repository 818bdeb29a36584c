-- Laws of the run of fields. Assumes nothing.
use Rattle.std.proofs.Common.{◌≡◌, ℕ, zero, suc, ◌+◌, ◌≤◌, List, [], length, Err, sym, refl, ap, ◌∙◌, arith}
use Rattle.std.proofs.lemmas.Bool.{eq-eqb, ne_eqb}
use Rattle.std.proofs.lemmas.List.{nil_from_length}
use Rattle.refusal.specs.declared.Refusal.{Refusal}
use Rattle.frame.specs.Reading.{told, refuses, front, Told, put, whole, reads, frame_of}
use Rattle.frame.proofs.Front.{front_length}

pub reads_end : (k at above : ℕ) (t : Told) (bs : List ℕ) → length bs ≡ 0 → reads k at above t bs ≡ whole t
unfolding reads
reads_end zero at above t bs h = refl
reads_end (suc k) at above t bs h = simp (eq-eqb (length bs) 0 h)

pub reads_refused : (k at above : ℕ) (t : Told) (bs : List ℕ) (r : Refusal) → (length bs ≡ 0 → ⊥) → length bs ≤ k → refuses r ≡ front at above bs → reads k at above t bs ≡ Err r
unfolding reads
reads_refused zero at above t bs r h l e = absurd (h (omega arith))
reads_refused (suc k) at above t bs r h l e = rw (ne_eqb (length bs) 0 h, ← e)

pub reads_told : (k at above : ℕ) (t : Told) (bs : List ℕ) (tag : ℕ) (bytes left : List ℕ) → (length bs ≡ 0 → ⊥) → length bs ≤ k → told tag bytes left ≡ front at above bs
    → (j : ℕ) × (length left ≤ j) × (reads k at above t bs ≡ reads j (at + (3 + length bytes)) tag (put tag bytes t) left)
unfolding reads
reads_told zero at above t bs tag bytes left h l e = absurd (h (omega arith))
reads_told (suc k) at above t bs tag bytes left h l e = (k, omega (arith, front_length at above bs tag bytes left e), rw (ne_eqb (length bs) 0 h, ← e))

-- what a loop over the fields keeps: what is left gives what the frame means
pub record Along (bs : List ℕ) (at above : ℕ) (t : Told) (rest : List ℕ) : Type 0 where
  pub k : ℕ
  pub enough : length rest ≤ k
  pub gives : reads k at above t rest ≡ frame_of bs

pub along_more : (bs : List ℕ) (at above : ℕ) (t : Told) (rest : List ℕ) (tag : ℕ) (bytes left : List ℕ) (at' above' : ℕ) (t' : Told)
    → Along bs at above t rest → (rest ≡ [] → ⊥) → told tag bytes left ≡ front at above rest
    → at' ≡ at + (3 + length bytes) → above' ≡ tag → t' ≡ put tag bytes t → Along bs at' above' t' left
along_more bs at above t rest tag bytes left at' above' t' a ne e ea ev et =
    let s = reads_told a.k at above t rest tag bytes left (λ z. ne (nil_from_length rest z)) a.enough e in
    record { k = s.0; enough = s.1; gives = rw (ea, ev, et) (sym s.2 ∙ a.gives) }

pub along_all : (bs : List ℕ) (at above : ℕ) (t : Told) (rest : List ℕ) → Along bs at above t rest → rest ≡ [] → whole t ≡ frame_of bs
along_all bs at above t rest a z = sym (reads_end a.k at above t rest (ap length z)) ∙ a.gives

pub along_refused : (bs : List ℕ) (at above : ℕ) (t : Told) (rest : List ℕ) (r : Refusal) → Along bs at above t rest → (rest ≡ [] → ⊥)
    → refuses r ≡ front at above rest → Err r ≡ frame_of bs
along_refused bs at above t rest r a ne e = sym (reads_refused a.k at above t rest r (λ z. ne (nil_from_length rest z)) a.enough e) ∙ a.gives
