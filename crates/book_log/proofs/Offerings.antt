-- Frames offered one after another. Assumes nothing.
use Rattle.std.proofs.Common.{◌≡◌, ℕ, ◌+◌, cond, List, [], ◌∷◌, ◌++◌, is_ok, Ok, Err, Result, sym, refl, ◌∙◌, subst, add-zero, add_assoc}
use Rattle.std.proofs.lemmas.Fn.{chained_keeps}
use Rattle.std.specs.List.{FoldsTo}
use Rattle.refusal.specs.declared.Refusal.{Refusal}
use Rattle.refusal.specs.Said.{said}
use Rattle.emission.specs.Entries.{Table}
use Rattle.journal.specs.declared.row.Booked.{Booked}
use Rattle.journal.specs.declared.fault.BookFault.{BookFault}
use Rattle.journal.specs.Calls.{Call, offer, Given}
use Rattle.journal.specs.Faults.{refusal_of}
use Rattle.journal.specs.Words.{Taken, one_more, refused, Answers, to_offer}
use Rattle.journal.specs.Contents.{Contents, Follows}
use Rattle.journal.specs.Runs.{Extends}
use Rattle.journal.proofs.Rules.{ok_not_err}
use Rattle.journal.proofs.Following.{agrees}
use Rattle.book.specs.Views.{booked_of, contents_of}
use Rattle.frame_log.specs.Log.{Handed}
use Rattle.book_log.specs.declared.taker.Offering.{Offering}
use Rattle.book_log.specs.Log.{offerings, Offered, Answered}

offerings_append : (t : Table) (fs gs : List (List ℕ)) (h : List Call) → offerings t (fs ++ gs) h ≡ offerings t gs (offerings t fs h)
offerings_append t [] gs h = refl
offerings_append t (f ∷ fs) gs h = offerings_append t fs gs (offer f t ∷ h)

pub offered_none : {t : Table} {b : Contents} → Offered [] t b 0 b
offered_none = record { follows = λ y n h w. w; takes = λ y n k h w z. subst (Taken y n h) (sym (add-zero k)) z }

pub offered_more : {fs gs : List (List ℕ)} {t : Table} {a b c : Contents} {j k : ℕ} → Offered fs t a j b → Offered gs t b k c → Offered (fs ++ gs) t a (j + k) c
offered_more {fs = fs} {gs = gs} {t = t} {c = c} {j = j} {k = k} p q = record {
  follows = λ y n h w. subst (λ (l : List Call). Follows y n l c) (sym (offerings_append t fs gs h)) (q.follows y n (offerings t fs h) (p.follows y n h w));
  takes = λ y n i h w z.
      subst (Taken y n (offerings t (fs ++ gs) h)) (add_assoc i j k)
      (subst (λ (l : List Call). Taken y n l (i + j + k)) (sym (offerings_append t fs gs h))
      (q.takes y n (i + j) (offerings t fs h) (p.follows y n h w) (p.takes y n i h w z)));
}

module _ {y n : ℕ} {h : List Call} {f : List ℕ} {t : Table} {k : ℕ} (one : (j : ℕ) → Taken y n h j → j ≡ k) where
  ok_taken : {g : Given} → Answers y n h (offer f t) (Ok g) → Taken y n (offer f t ∷ h) (k + 1)
  ok_taken (to_offer {k = j} {o = Ok a} c p e) = subst (λ (i : ℕ). Taken y n (offer f t ∷ h) (i + 1)) (one j c) (one_more c p)
  ok_taken (to_offer {o = Err x} c p e) = absurd (ok_not_err (sym e))

  err_refused : {x : Refusal} → Answers y n h (offer f t) (Err x) → Taken y n (offer f t ∷ h) k
  err_refused (to_offer {k = j} {o = Err x} c p e) = subst (Taken y n (offer f t ∷ h)) (one j c) (refused c p)
  err_refused (to_offer {o = Ok a} c p e) = absurd (ok_not_err e)

-- an answer of the book is what the list determines, and a list counts its offerings in one way
pub offered_one : {f : List ℕ} {t : Table} {b b' : Contents} (r : Result Booked BookFault) → Extends b (offer f t) (said booked_of refusal_of r) b' → Offered (f ∷ []) t b (cond (is_ok r) 1 0) b'
offered_one (Ok x) g = record {
  follows = λ y n h w. (g y n h w).follows;
  takes = λ y n k h w z. ok_taken (λ j c. (agrees w).counted j c ∙ sym ((agrees w).counted k z)) (g y n h w).answers;
}
offered_one {f = f} {t = t} (Err x) g = record {
  follows = λ y n h w. (g y n h w).follows;
  takes = λ y n k h w z. subst (Taken y n (offer f t ∷ h)) (sym (add-zero k)) (err_refused (λ j c. (agrees w).counted j c ∙ sym ((agrees w).counted k z)) (g y n h w).answers);
}

-- what each frame that is handed over keeps of the book and of the source
pub record Kept {S : Type 0} (table : S → Table) (p : Offering S × ℕ) (frames : List (List ℕ)) (q : Offering S × ℕ) : Type 0 where
  pub offered : Offered frames (table p.0.source.now) (contents_of p.0.book.now) q.1 (contents_of q.0.book.now)
  pub same : table q.0.source.now ≡ table p.0.source.now
  pub memory : q.0.book.now.journal.rows.ghost_name ≡ p.0.book.now.journal.rows.ghost_name
  pub book : q.0.book.ghost_name ≡ p.0.book.ghost_name
  pub source : q.0.source.ghost_name ≡ p.0.source.ghost_name

pub kept_none : {S : Type 0} (table : S → Table) (o : Offering S) → Kept table (o, 0) [] (o, 0)
kept_none table o = record { offered = offered_none; same = refl; memory = refl; book = refl; source = refl }

pub kept_more : {S : Type 0} (table : S → Table) (p : Offering S × ℕ) (xs : List (List ℕ)) (q : Offering S × ℕ) (x : List ℕ) (v : Offering S × ℕ)
    → Kept table p xs q → Handed (Answered table) q x v → Kept table p (xs ++ x ∷ []) v
kept_more table p xs q x v k h =
    let a = h.1 in
    let one = subst (λ (t : Table). Offered (x ∷ []) t (contents_of q.0.book.now) (cond h.0 1 0) (contents_of v.0.book.now)) k.same a.offered in
    record {
      offered = subst (λ (n : ℕ). Offered (xs ++ x ∷ []) (table p.0.source.now) (contents_of p.0.book.now) n (contents_of v.0.book.now)) (sym h.2) (offered_more k.offered one);
      same = a.same ∙ k.same;
      memory = a.memory ∙ k.memory;
      book = a.book ∙ k.book;
      source = a.source ∙ k.source;
    }

-- what holds from the first state on, and after each call, holds after all calls
pub from_start : {A P : Type 0} (R : P → A → P → Type 0) (J : P → List A → P → Type 0) → ((p : P) (xs : List A) (q : P) (x : A) (v : P) → J p xs q → R q x v → J p (xs ++ x ∷ []) v)
    → (xs : List A) (p q : P) → FoldsTo R p xs q → J p [] p → J p xs q
from_start R J keeps xs p q h first = chained_keeps R (J p) (keeps p) xs p q first h
