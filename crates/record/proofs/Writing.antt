-- The ways that writing a record ends. Assumes nothing.
use Rattle.std.proofs.Common.{◌≡◌, ℕ, Bool, true, false, cond, leb, List, ◌++◌, length, drop, Some, None, Ok, Err, Option, Result, sym, refl, ap, ◌∙◌}
use Rattle.refusal.specs.declared.Refusal.{Refusal}
use Rattle.refusal.specs.declared.Layer.TheVariants.{Book}
use Rattle.refusal.specs.Said.{refusal}
use Rattle.frame.specs.Format.{Parts, written, sound, length_fits, optional_fits, name_answers, write_answers, write_leaves}
use Rattle.reading.specs.declared.sets.ReadingSet.{ReadingSet}
use Rattle.reading.specs.declared.sets.ReadingSet.TheVariants.{Amount, Water, Steam, Wastewater}
use Rattle.reading.specs.Layout.{set_bytes}
use Rattle.record.specs.declared.raw.RawRecord.{RawRecord}
use Rattle.record.specs.Records.{checked, share_bytes, parts_for, record_bytes, fitted, write_says, left}
use Rattle.record.proofs.Chain.{then_ok, then_err, cond_given}
use Rattle.record.proofs.Lawful.{passed}

-- a set's bytes fill a field of readings
set_fits : (set : ReadingSet) → length_fits 5 (length (set_bytes set)) ≡ true
unfolding set_bytes
set_fits (Amount x) = refl
set_fits (Water w) = refl
set_fits (Steam s) = refl
set_fits (Wastewater w) = refl

share_fits : (share : Option ℕ) → optional_fits 6 (share_bytes share) ≡ true
share_fits None = refl
share_fits (Some s) = refl

pub sound_for : (r : RawRecord) (name : List ℕ) → leb (length name) 16 ≡ true → sound (parts_for r name) ≡ true
sound_for r name n = simp (set_fits r.readings, share_fits r.share, n)

-- a refusal before the buffer is looked at
abbrev pub Wrote : RawRecord → (name old : List ℕ) → Result ℕ Refusal → List ℕ → Type 0
Wrote r name old o out = (o ≡ write_says r name (length old)) × (out ≡ left (record_bytes r name) old (write_says r name (length old)))

refused : (r : RawRecord) (name old : List ℕ) (e : Refusal) → write_says r name (length old) ≡ Err e → Wrote r name old (Err e) old
refused r name old e s = (sym s, ap (left (record_bytes r name) old) (sym s))

pub write_long : (r : RawRecord) (name old : List ℕ) (e : Refusal) → Err e ≡ name_answers name → Wrote r name old (Err e) old
unfolding write_says
write_long r name old e n = refused r name old e (then_err _ _ e n)

pub write_unlawful : (r : RawRecord) (name old : List ℕ) (e : Refusal) → Ok tt ≡ name_answers name → Err e ≡ checked r → Wrote r name old (Err e) old
unfolding write_says
write_unlawful r name old e n c = refused r name old e (then_ok _ _ tt n ∙ then_err _ _ e c)

-- sound parts are written as they fit
put_sound : (p : Parts) (old : List ℕ) → sound p ≡ true
    → (write_answers p (length old) ≡ fitted (length (written p)) (length old)) × (write_leaves p old ≡ left (written p) old (fitted (length (written p)) (length old)))
unfolding write_answers write_leaves
put_sound p old s = (simp s, simp s (by (leb (length (written p)) (length old))))
  where
    by : (b : Bool) → cond b (written p ++ drop (length (written p)) old) old ≡ left (written p) old (cond b (Ok (length (written p))) (Err (refusal Book 20 (length (written p)))))
    by true = refl
    by false = refl

pub write_put : (r s : RawRecord) (name old : List ℕ) (o : Result ℕ Refusal) (out : List ℕ) → Ok tt ≡ name_answers name → Ok s ≡ checked r
    → o ≡ write_answers (parts_for s name) (length old) → out ≡ write_leaves (parts_for s name) old → Wrote r name old o out
unfolding write_says
write_put r s name old o out n c a l =
    let same = (passed r s c).0 in
    let fits = (cond_given (leb (length name) 16) (Ok tt) _ tt n).0 in
    let put = put_sound (parts_for r name) old (sound_for r name fits) in
    let says : write_says r name (length old) ≡ fitted (length (record_bytes r name)) (length old) = then_ok _ _ tt n ∙ then_ok _ _ s c in (
      a ∙ (ap (λ x. write_answers (parts_for x name) (length old)) same ∙ (put.0 ∙ sym says)),
      l ∙ (ap (λ x. write_leaves (parts_for x name) old) same ∙ (put.1 ∙ ap (left (record_bytes r name) old) (sym says))),
    )
