-- A taken withdrawal keeps book and words in agreement. Assumes nothing.
use Rattle.std.proofs.Common.{◌≡◌, ℕ, ◌-◌, ◌<◌, min, ◌⊎◌, List, ◌∷◌, length, get_or, set, Ok, sym, ap, ◌∙◌, subst, inl, inr, arith, length-set, get_or-set_other, get_or-set_same}
use Rattle.std.proofs.lemmas.Bool.Decides.{eqb_tells}
use Rattle.std.proofs.lemmas.Bool.{true≢false}
use Rattle.calendar.specs.Months.{InMonth}
use Rattle.emission.specs.Entries.{Kept}
use Rattle.emission.specs.Views.{kept_of}
use Rattle.months.specs.declared.state.State.{State}
use Rattle.months.specs.declared.state.State.TheVariants.{Closed}
use Rattle.months.specs.declared.account.Change.TheVariants.{Withdraw}
use Rattle.months.specs.Accounts.{account_at, state_at}
use Rattle.journal.specs.declared.row.JournalEntry.{JournalEntry}
use Rattle.journal.specs.Calls.{Call, withdraw}
use Rattle.journal.specs.Rules.{WithdrawAnswer, withdrawn, IsMonth}
use Rattle.journal.specs.Words.{Taken, past_withdrawal, Stands, still}
use Rattle.journal.specs.Contents.{Contents, usable, InState, Row, Marked, Left, withdrawn_row}
use Rattle.journal.proofs.Rules.{same_number, month_of}
use Rattle.journal.proofs.Agree.{Agree, mark_one}
use Rattle.journal.proofs.Changed.{withdraw_state, changed_to, shaped_there, states_kept}
use Rattle.journal.proofs.Refusing.{past_withdraw, stood_withdraw, past_is_in, past_in_is, withdraw_turns_none}
use Rattle.journal.proofs.Offering.{row_month}

pub withdrawn_from : {y k : ℕ} {Is : ℕ → State → Type 0} {P : ℕ → Kept → Type 0} {e : ℕ × Kept} → WithdrawAnswer y Is P k (Ok e) → (m : ℕ) × (s : State) × P k e.1 × InMonth y e.1.day m × Is m s × (s ≡ Closed → ⊥)
withdrawn_from (withdrawn {m = m} {s = s} p i q x) = (m, s, p, i, q, x)

module _ {y n : ℕ} {h : List Call} {b : Contents} (a : Agree y n h b) (k : ℕ) (b' : Contents) (row : JournalEntry) (p : WithdrawAnswer b.year (InState b) (Marked b) k (Ok (k, kept_of row.entry))) (w : Left k row b b') where
  left_same : (m : ℕ) → IsMonth m → state_at b'.months m ≡ state_at b.months m
  left_same =
      let i = row_month row in
      let ch = Withdraw w.line row.entry.grams in
      let c = changed_to b.months b'.months a.shaped row.month.number i ch w.months in
      states_kept b.months b'.months a.shaped row.month.number i ch w.months (withdraw_state (account_at b.months row.month.number) c.0 w.line row.entry.grams c.1).1

  left_fits : k - 1 < length b.memory
  left_fits = omega (arith, w.at.counted, w.at.used, a.fits)

  -- other rows stay
  left_other : (j : ℕ) (r : JournalEntry) → (k ≡ j → ⊥) → Row b j r → Row b' j r
  left_other j r d q =
      record {
        counted = q.counted;
        used = omega (arith, q.used, w.used);
        is = q.is ∙ sym (ap (λ (m : List JournalEntry). get_or m (j - 1) r) w.memory ∙ get_or-set_other b.memory (k - 1) (j - 1) (withdrawn_row row) r (λ e. d (omega (arith, q.counted, w.at.counted))));
      }

  left_back : (j : ℕ) (r : JournalEntry) → Row b' j r → ((k ≡ j) × (r ≡ withdrawn_row row)) ⊎ ((k ≡ j → ⊥) × Row b j r)
  left_back j r q =
      elim (eqb_tells k j) [
        | inl t ↦ inl (t.1, q.is ∙ (ap (λ (m : List JournalEntry). get_or m (j - 1) r) w.memory ∙ (ap (λ (i : ℕ). get_or (set b.memory (k - 1) (withdrawn_row row)) (i - 1) r) (sym t.1) ∙ get_or-set_same b.memory (k - 1) (withdrawn_row row) r left_fits)))
        | inr t ↦ inr (
          t.1,
          record {
            counted = q.counted;
            used = omega (arith, q.used, w.used);
            is = q.is ∙ (ap (λ (m : List JournalEntry). get_or m (j - 1) r) w.memory ∙ get_or-set_other b.memory (k - 1) (j - 1) (withdrawn_row row) r (λ e. t.1 (omega (arith, q.counted, w.at.counted))));
          },
        )
      ]

  left_marked : (j : ℕ) (e : Kept) → Marked b' j e → Stands y n (withdraw k ∷ h) j e
  left_marked j e q =
      elim (left_back j q.row q.at) [
        | inl o ↦ absurd (true≢false (sym q.stands ∙ ap (λ (r : JournalEntry). r.stands) o.1))
        | inr o ↦ still (a.marked j e (record { row = q.row; at = o.1; kept = q.kept; stands = q.stands })) (λ z. o.0 (same_number z.is))
      ]

  left_stands : (j : ℕ) (e : Kept) → Stands y n (withdraw k ∷ h) j e → Marked b' j e
  left_stands j e q =
      let s = stood_withdraw q in
      let o = a.stands j e s.0 in
      elim (eqb_tells k j) [
        | inl t ↦
            (let v = withdrawn_from p in
            let e-is : kept_of row.entry ≡ e = mark_one b a.fits j (kept_of row.entry) e (subst (λ (i : ℕ). Marked b i (kept_of row.entry)) t.1 v.2) o in
            let lies : InMonth y e.day v.0 = subst (λ (x : Kept). InMonth y x.day v.0) e-is (subst (λ (x : ℕ). InMonth x row.entry.day v.0) a.year v.3) in
            absurd (s.1 (record {
              is = ap withdraw t.1;
              month = v.0;
              lies = lies;
              state = v.1;
              in_state = a.is_in v.0 v.1 (month_of lies) v.4;
              not_closed = v.5;
            })))
        | inr t ↦ record { row = o.row; at = left_other j o.row t.1 o.at; kept = o.kept; stands = o.stands }
      ]

  left_dated : (j : ℕ) (r : JournalEntry) → Row b' j r → InMonth b'.year r.entry.day r.month.number
  left_dated j r q =
      subst (λ (x : ℕ). InMonth x r.entry.day r.month.number) (sym w.year)
      (elim (left_back j r q) [
        | inl o ↦ subst (λ (x : JournalEntry). InMonth b.year x.entry.day x.month.number) (sym o.1) (a.dated k row w.at)
        | inr o ↦ a.dated j r o.1
      ])

  pub withdraw_agrees : Agree y n (withdraw k ∷ h) b'
  withdraw_agrees =
      record {
        year = w.year ∙ a.year;
        room = ap usable w.memory ∙ (ap (min 60000) (length-set b.memory (k - 1) (withdrawn_row row)) ∙ a.room);
        fits = let l : length b'.memory ≡ length b.memory = ap length w.memory ∙ length-set b.memory (k - 1) (withdrawn_row row) in omega (arith, w.used, a.fits, l);
        shaped = shaped_there b.months b'.months a.shaped row.month.number (row_month row) (Withdraw w.line row.entry.grams) w.months;
        is_in = past_is_in a (withdraw k) b' left_same (withdraw_turns_none a k);
        in_is = past_in_is a (withdraw k) b' left_same (withdraw_turns_none a k);
        taken = past_withdrawal (subst (Taken y n h) (sym w.used) a.taken);
        counted = λ j q. a.counted j (past_withdraw q) ∙ sym w.used;
        marked = left_marked;
        stands = left_stands;
        dated = left_dated;
      }
