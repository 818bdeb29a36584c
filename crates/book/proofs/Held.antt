-- What every book holds of its contents, and a row that is put where there is one. Assumes nothing.
use Rattle.std.proofs.Common.{◌≡◌, ℕ, ◌<◌, ◌≤◌, Bool, true, false, not, eqb, List, Some, None, Option, MatchOption, Ok, Err, Result, MatchResult, length, set, refl, subst, arith}
use Rattle.std.proofs.lemmas.Bool.{eqb-true, eqb-false}
use Rattle.rows.specs.declared.NoRow.{NoRow}
use Rattle.rows.specs.Held.{Replaced, Kept}
use Rattle.emission.specs.Entries.{Kept as KeptEntry}
use Rattle.journal.specs.declared.row.JournalEntry.{JournalEntry}
use Rattle.journal.specs.Contents.{Contents, Row, Marked}
use Rattle.journal.specs.Sound.{Sound}
use Rattle.journal.proofs.Soundness.{sound_is}
use Rattle.book.specs.declared.book.Book.{Book}
use Rattle.book.specs.Views.{contents_of}

pub sound : (b : Book) → Sound (contents_of b)
sound b = sound_is (contents_of b) b.sound

pub put_done : {A : Type 0} (row : A) (before : List A) (n at : ℕ) (after : List A) (r : Result (Unit {0}) NoRow) → MatchResult r (λ _. Replaced row before n at after) (λ _. Kept before n at after) → at < n → n ≤ length before → after ≡ set before at row
put_done row before n at after (Ok _) h below fits = h.stored
put_done row before n at after (Err _) h below fits = let past = h.absent below in absurd (omega arith)

-- what is found under a number: the row of an entry that stands, or nothing
abbrev Found : Contents → ℕ → Option JournalEntry → Type 0
Found b number found = MatchOption found ((e : KeptEntry) → Marked b number e → ⊥) (λ row. Row b number row × (row.stands ≡ true))

pub stood : (b : Contents) (number : ℕ) (found : Option JournalEntry) (row : JournalEntry) → found ≡ Some row → Found b number found → Row b number row × (row.stands ≡ true)
stood b number found row e h = subst (Found b number) e h

pub none_stood : (b : Contents) (number : ℕ) (found : Option JournalEntry) → found ≡ None → Found b number found → (e : KeptEntry) → Marked b number e → ⊥
none_stood b number found e h = subst (Found b number) e h

-- two years as they are compared
not_true : (x : Bool) → true ≡ not x → x ≡ false
not_true true e = e
not_true false e = refl

not_false : (x : Bool) → false ≡ not x → x ≡ true
not_false true e = refl
not_false false e = e

pub differ : (y z : ℕ) → true ≡ not (eqb y z) → y ≡ z → ⊥
differ y z e = eqb-false y z (not_true _ e)

pub alike : (y z : ℕ) → false ≡ not (eqb y z) → y ≡ z
alike y z e = eqb-true y z (not_false _ e)
