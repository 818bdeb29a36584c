-- A taken offering keeps book and words in agreement. Assumes nothing.
use Rattle.std.proofs.Common.{◌≡◌, ℕ, ◌+◌, ◌-◌, ◌<◌, ◌≤◌, min, ◌⊎◌, List, ◌∷◌, length, get_or, set, Ok, sym, refl, ap, ◌∙◌, subst, inl, inr, arith, length-set, get_or-set_other, get_or-set_same}
use native.Mathlib.Nat.{min-le_right}
use Rattle.std.proofs.lemmas.Bool.Decides.{eqb_tells}
use Rattle.calendar.specs.Months.{InMonth}
use Rattle.emission.specs.Entries.{Kept, Table}
use Rattle.emission.specs.Views.{kept_of}
use Rattle.months.specs.declared.state.State.{State}
use Rattle.months.specs.declared.account.Change.TheVariants.{Book}
use Rattle.months.specs.Accounts.{account_at, state_at}
use Rattle.months.proofs.Changes.{month_bounds}
use Rattle.journal.specs.declared.row.JournalEntry.{JournalEntry}
use Rattle.journal.specs.Calls.{Call, offer}
use Rattle.journal.specs.Rules.{OfferAnswer, entered, IsMonth}
use Rattle.journal.specs.Words.{Taken, one_more, refused, Stands, entry, still}
use Rattle.journal.specs.Contents.{Contents, usable, InState, Row, Marked, Entered}
use Rattle.journal.proofs.Rules.{offer_not_withdraw, ok_not_err, same_ok}
use Rattle.journal.proofs.Agree.{Agree, offer_told, offer_same}
use Rattle.journal.proofs.Changed.{book_state, changed_to, shaped_there, states_kept}
use Rattle.journal.proofs.Refusing.{past_is_in, past_in_is, offer_turns_none}

usable_fits : (memory : List JournalEntry) → usable memory ≤ length memory
usable_fits memory = omega (arith, min-le_right 60000 (length memory))

entered_number : {y n k : ℕ} {Is : ℕ → State → Type 0} {f : List ℕ} {t : Table} {e : ℕ × Kept} → OfferAnswer y n k Is f t (Ok e) → (e.0 ≡ k + 1) × (k < n)
entered_number (entered e i s x) = (refl, x)

pub row_month : (row : JournalEntry) → IsMonth row.month.number
row_month row = record { from_january = (month_bounds row.month).0; to_december = (month_bounds row.month).1 }

-- rows after one is written behind the used ones
module _ (row : JournalEntry) (b b' : Contents) (fits : b.used < length b.memory) (mem : b'.memory ≡ set b.memory b.used row) (more : b'.used ≡ b.used + 1) where
  pub row_old : (k : ℕ) (r : JournalEntry) → Row b k r → Row b' k r
  row_old k r p =
      record {
        counted = p.counted;
        used = omega (arith, p.used);
        is = p.is ∙ sym (ap (λ (m : List JournalEntry). get_or m (k - 1) r) mem ∙ get_or-set_other b.memory b.used (k - 1) row r (λ e. omega (arith, p.used, p.counted)));
      }

  pub row_new : Row b' (b.used + 1) row
  row_new =
      record {
        counted = omega arith;
        used = omega arith;
        is =
            let z : b.used + 1 - 1 ≡ b.used = omega arith in
            sym (ap (λ (m : List JournalEntry). get_or m (b.used + 1 - 1) row) mem ∙ (ap (λ (i : ℕ). get_or (set b.memory b.used row) i row) z ∙ get_or-set_same b.memory b.used row row fits));
      }

  pub row_back : (k : ℕ) (r : JournalEntry) → Row b' k r → ((k ≡ b.used + 1) × (r ≡ row)) ⊎ Row b k r
  row_back k r p =
      elim (eqb_tells k (b.used + 1)) [
        | inl t ↦ inl (t.1, p.is ∙ (ap (λ (m : List JournalEntry). get_or m (k - 1) r) mem ∙ (ap (λ (i : ℕ). get_or (set b.memory b.used row) i r) (omega (arith, t.1)) ∙ get_or-set_same b.memory b.used row r fits)))
        | inr t ↦ inr (record {
          counted = p.counted;
          used = let d = t.1 in omega (arith, p.used);
          is = p.is ∙ (ap (λ (m : List JournalEntry). get_or m (k - 1) r) mem ∙ get_or-set_other b.memory b.used (k - 1) row r (λ e. t.1 (omega (arith, p.counted))));
        })
      ]

-- a taken offering
module _ {y n : ℕ} {h : List Call} {b : Contents} (a : Agree y n h b) (f : List ℕ) (t : Table) (k : ℕ) (b' : Contents) (row : JournalEntry) (p : OfferAnswer b.year (usable b.memory) b.used (InState b) f t (Ok (k, kept_of row.entry))) (w : Entered row b b') where
  in_memory : b.used < length b.memory
  in_memory = omega (arith, (entered_number p).1, usable_fits b.memory)

  entered_same : (m : ℕ) → IsMonth m → state_at b'.months m ≡ state_at b.months m
  entered_same =
      let i = row_month row in
      let ch = Book w.line row.entry.grams in
      let c = changed_to b.months b'.months a.shaped row.month.number i ch w.months in
      states_kept b.months b'.months a.shaped row.month.number i ch w.months (book_state (account_at b.months row.month.number) c.0 w.line row.entry.grams c.1).1

  entered_counts : (j : ℕ) → Taken y n (offer f t ∷ h) j → j ≡ b'.used
  entered_counts j (one_more c q) = ap (λ (x : ℕ). x + 1) (a.counted _ c) ∙ sym w.used
  entered_counts j (refused c q) = absurd (ok_not_err (offer_same a p c q))

  entered_marked : (j : ℕ) (e : Kept) → Marked b' j e → Stands y n (offer f t ∷ h) j e
  entered_marked j e q =
      elim (row_back row b b' in_memory w.memory w.used j q.row q.at) [
        | inl o ↦
            (let j-is : k ≡ j = (entered_number p).0 ∙ sym o.0 in
            let e-is : kept_of row.entry ≡ e = ap (λ (r : JournalEntry). kept_of r.entry) (sym o.1) ∙ q.kept in
            subst (λ (x : ℕ). Stands y n (offer f t ∷ h) x e) j-is (subst (λ (x : Kept). Stands y n (offer f t ∷ h) k x) e-is (entry a.taken (offer_told a p))))
        | inr r ↦ still (a.marked j e (record { row = q.row; at = r; kept = q.kept; stands = q.stands })) (λ z. offer_not_withdraw z.is)
      ]

  entered_stands : (j : ℕ) (e : Kept) → Stands y n (offer f t ∷ h) j e → Marked b' j e
  entered_stands j e (entry c q) =
      let x : (k, kept_of row.entry) ≡ (j, e) = same_ok (offer_same a p c q) in
      let j-is : b.used + 1 ≡ j = sym (entered_number p).0 ∙ ap (λ (z : ℕ × Kept). z.0) x in
      subst (λ (i : ℕ). Marked b' i e) j-is (record { row = row; at = row_new row b b' in_memory w.memory w.used; kept = ap (λ (z : ℕ × Kept). z.1) x; stands = w.stands })
  entered_stands j e (still q z) =
      let o = a.stands j e q in
      record { row = o.row; at = row_old row b b' in_memory w.memory w.used j o.row o.at; kept = o.kept; stands = o.stands }

  entered_dated : (j : ℕ) (r : JournalEntry) → Row b' j r → InMonth b'.year r.entry.day r.month.number
  entered_dated j r q =
      subst (λ (x : ℕ). InMonth x r.entry.day r.month.number) (sym w.year)
      (elim (row_back row b b' in_memory w.memory w.used j r q) [
        | inl o ↦ subst (λ (x : JournalEntry). InMonth b.year x.entry.day x.month.number) (sym o.1) w.lies
        | inr o ↦ a.dated j r o
      ])

  pub offer_agrees : Agree y n (offer f t ∷ h) b'
  offer_agrees =
      record {
        year = w.year ∙ a.year;
        room = ap usable w.memory ∙ (ap (min 60000) (length-set b.memory b.used row) ∙ a.room);
        fits = let l : length b'.memory ≡ length b.memory = ap length w.memory ∙ length-set b.memory b.used row in omega (arith, w.used, in_memory, l);
        shaped = shaped_there b.months b'.months a.shaped row.month.number (row_month row) (Book w.line row.entry.grams) w.months;
        is_in = past_is_in a (offer f t) b' entered_same (offer_turns_none a f t);
        in_is = past_in_is a (offer f t) b' entered_same (offer_turns_none a f t);
        taken = subst (Taken y n (offer f t ∷ h)) (sym w.used) (one_more a.taken (offer_told a p));
        counted = entered_counts;
        marked = entered_marked;
        stands = entered_stands;
        dated = entered_dated;
      }
