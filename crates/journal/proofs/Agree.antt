-- The words of a list of calls, held against what a book holds: they say the same of months, entries and answers. Assumes nothing.
use Rattle.std.proofs.Common.{◌≡◌, ℕ, ◌-◌, ◌≤◌, List, length, Result, sym, refl, ap, ◌∙◌, subst, arith}
use Rattle.std.proofs.lemmas.List.{get_or_read}
use Rattle.refusal.specs.declared.Refusal.{Refusal}
use Rattle.calendar.specs.Months.{InMonth}
use Rattle.emission.specs.Entries.{Kept, Table}
use Rattle.emission.specs.Views.{kept_of}
use Rattle.months.specs.declared.state.State.{State}
use Rattle.months.specs.Accounts.{Shaped}
use Rattle.journal.specs.declared.row.JournalEntry.{JournalEntry}
use Rattle.journal.specs.Calls.{Call, Given, entry_told, month_told}
use Rattle.journal.specs.Rules.{OfferAnswer, WithdrawAnswer, IsMonth}
use Rattle.journal.specs.Words.{StateIs, Taken, Stands, Answers, to_offer, to_withdrawal, to_event}
use Rattle.journal.specs.Contents.{Contents, usable, InState, Row, Marked, Step, offer_refused, offer_taken, withdrawal_refused, withdrawal_taken, event_refused, event_taken}
use Rattle.journal.proofs.Rules.{offer_there, turn_there, withdraw_there, offer_one, turn_one, withdraw_one}

-- the words hold of the contents, and of nothing else
pub record Agree (y n : ℕ) (h : List Call) (b : Contents) : Type 0 where
  pub year : b.year ≡ y
  pub room : usable b.memory ≡ n
  pub fits : b.used ≤ length b.memory
  pub shaped : Shaped b.months
  pub is_in : (m : ℕ) (s : State) → IsMonth m → InState b m s → StateIs h m s
  pub in_is : (m : ℕ) (s : State) → IsMonth m → StateIs h m s → InState b m s
  pub taken : Taken y n h b.used
  pub counted : (k : ℕ) → Taken y n h k → k ≡ b.used
  pub marked : (k : ℕ) (e : Kept) → Marked b k e → Stands y n h k e
  pub stands : (k : ℕ) (e : Kept) → Stands y n h k e → Marked b k e
  pub dated : (k : ℕ) (row : JournalEntry) → Row b k row → InMonth b.year row.entry.day row.month.number

-- one row and one entry under a number
pub row_one : (b : Contents) (k : ℕ) (x z : JournalEntry) → b.used ≤ length b.memory → Row b k x → Row b k z → x ≡ z
row_one b k x z f p q = p.is ∙ sym (get_or_read b.memory (k - 1) z (omega (arith, f, p.used, p.counted)) q.is x)

pub mark_one : (b : Contents) → b.used ≤ length b.memory → (k : ℕ) (e e' : Kept) → Marked b k e → Marked b k e' → e ≡ e'
mark_one b f k e e' p q = sym p.kept ∙ (ap (λ (r : JournalEntry). kept_of r.entry) (row_one b k p.row q.row f p.at q.at) ∙ q.kept)

state_one : (b : Contents) (m : ℕ) (s s' : State) → InState b m s → InState b m s' → s ≡ s'
state_one b m s s' p q = sym p ∙ q

-- the answers of the book are those of the list, and the other way round
module _ {y n : ℕ} {h : List Call} {b : Contents} (a : Agree y n h b) where
  pub offer_told : {f : List ℕ} {t : Table} {o : Result (ℕ × Kept) Refusal} → OfferAnswer b.year (usable b.memory) b.used (InState b) f t o → OfferAnswer y n b.used (StateIs h) f t o
  offer_told {f = f} {t = t} {o = o} p =
      offer_there a.is_in (subst (λ (x : ℕ). OfferAnswer x n b.used (InState b) f t o) a.year (subst (λ (x : ℕ). OfferAnswer b.year x b.used (InState b) f t o) a.room p))

  pub offer_held : {f : List ℕ} {t : Table} {k : ℕ} {o : Result (ℕ × Kept) Refusal} → Taken y n h k → OfferAnswer y n k (StateIs h) f t o → OfferAnswer y n b.used (InState b) f t o
  offer_held {f = f} {t = t} {k = k} {o = o} c p =
      subst (λ (x : ℕ). OfferAnswer y n x (InState b) f t o) (a.counted k c) (offer_there a.in_is p)

  pub offer_same : {f : List ℕ} {t : Table} {k : ℕ} {o o' : Result (ℕ × Kept) Refusal} → OfferAnswer b.year (usable b.memory) b.used (InState b) f t o → Taken y n h k → OfferAnswer y n k (StateIs h) f t o' → o ≡ o'
  offer_same p c q = offer_one (state_one b) (offer_there a.in_is (offer_told p)) (offer_held c q)

  pub withdraw_told : {k : ℕ} {o : Result (ℕ × Kept) Refusal} → WithdrawAnswer b.year (InState b) (Marked b) k o → WithdrawAnswer y (StateIs h) (Stands y n h) k o
  withdraw_told {k = k} {o = o} p = withdraw_there a.is_in (a.marked k) (a.stands k) (subst (λ (x : ℕ). WithdrawAnswer x (InState b) (Marked b) k o) a.year p)

  pub withdraw_held : {k : ℕ} {o : Result (ℕ × Kept) Refusal} → WithdrawAnswer y (StateIs h) (Stands y n h) k o → WithdrawAnswer y (InState b) (Marked b) k o
  withdraw_held {k = k} p = withdraw_there a.in_is (a.stands k) (a.marked k) p

  -- the answer of a step is what the list determines
  pub answered : {c : Call} {r : Result Given Refusal} {b' : Contents} → Step b c r b' → Answers y n h c r
  answered (offer_refused p e) = to_offer a.taken (offer_told p) refl
  answered (offer_taken row p e) = to_offer a.taken (offer_told p) refl
  answered (withdrawal_refused p e) = to_withdrawal (withdraw_told p) refl
  answered (withdrawal_taken row p e) = to_withdrawal (withdraw_told p) refl
  answered (event_refused p e) = to_event (turn_there a.is_in p) refl
  answered (event_taken p e) = to_event (turn_there a.is_in p) refl

  -- and the list determines one
  pub answers_one : {c : Call} {r r' : Result Given Refusal} → Answers y n h c r → Answers y n h c r' → r ≡ r'
  answers_one (to_offer c p e) (to_offer c' p' e') =
      sym e ∙ (ap entry_told (offer_one (state_one b) (offer_held c p) (offer_held c' p')) ∙ e')
  answers_one (to_withdrawal p e) (to_withdrawal p' e') =
      sym e ∙ (ap entry_told (withdraw_one (state_one b) (mark_one b a.fits) (withdraw_held p) (withdraw_held p')) ∙ e')
  answers_one (to_event p e) (to_event p' e') =
      sym e ∙ (ap month_told (turn_one (state_one b) (turn_there a.in_is p) (turn_there a.in_is p')) ∙ e')
