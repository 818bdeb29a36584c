-- Each call has an answer that the list before it determines. Assumes nothing.
use Rattle.std.proofs.Common.{◌≡◌, ℕ, zero, suc, ◌-◌, ◌<◌, ◌≤◌, true, ◌⊎◌, List, [], ◌∷◌, length, get_or, Some, None, Ok, Err, Option, Result, sym, refl, ap, ◌∙◌, inl, inr, arith}
use Rattle.std.proofs.lemmas.Bool.Decides.{eqb_tells, leb_tells}
use Rattle.std.proofs.lemmas.Bool.{cases_Bool, true≢false}
use Rattle.refusal.specs.declared.Refusal.{Refusal}
use Rattle.emission.specs.Entries.{Kept, Table}
use Rattle.emission.specs.Views.{kept_of}
use Rattle.months.specs.declared.state.State.{State}
use Rattle.months.specs.declared.state.State.TheVariants.{Open, Held, Closed}
use Rattle.months.specs.declared.state.Event.{Event}
use Rattle.months.specs.States.{made}
use Rattle.months.specs.Accounts.{state_at}
use Rattle.journal.specs.declared.row.JournalEntry.{JournalEntry}
use Rattle.journal.specs.Calls.{Call, offer, withdraw, turn}
use Rattle.journal.specs.Rules.{offered, OfferAnswer, refused_below, other_year, not_open, full, entered, WithdrawAnswer, none_stands, closed, withdrawn, TurnAnswer, no_month, forbidden, turned, IsMonth}
use Rattle.journal.specs.Words.{to_offer, to_withdrawal, to_event}
use Rattle.journal.specs.Contents.{Contents, InState, Row, Marked, usable}
use Rattle.journal.proofs.Rules.{turn_there}
use Rattle.journal.proofs.Agree.{Agree, offer_told, withdraw_told, row_one}
use Rattle.year.specs.Law.{Determined}
use Rattle.year.proofs.Dates.{offered_month}

is_open : (s : State) → (s ≡ Open) ⊎ (s ≡ Open → ⊥)
is_open Open = inl refl
is_open Held = inr (λ e. let z : ◌≡◌ {A = ℕ} 0 1 = cc in omega arith)
is_open Closed = inr (λ e. let z : ◌≡◌ {A = ℕ} 0 1 = cc in omega arith)

is_closed : (s : State) → (s ≡ Closed) ⊎ (s ≡ Closed → ⊥)
is_closed Open = inr (λ e. let z : ◌≡◌ {A = ℕ} 0 1 = cc in omega arith)
is_closed Held = inr (λ e. let z : ◌≡◌ {A = ℕ} 0 1 = cc in omega arith)
is_closed Closed = inl refl

is_month : (m : ℕ) → IsMonth m ⊎ (IsMonth m → ⊥)
is_month m =
    elim (leb_tells 1 m) [
      | inl p ↦ elim (leb_tells m 12) [
        | inl q ↦ inl (record { from_january = p.1; to_december = q.1 })
        | inr q ↦ inr (λ i. omega (arith, q.1, i.to_december))
      ]
      | inr p ↦ inr (λ i. omega (arith, p.1, i.from_january))
    ]

-- an offering
module _ (b : Contents) (f : List ℕ) (t : Table) where
  Offered : Type 0
  Offered = (o : Result (ℕ × Kept) Refusal) × OfferAnswer b.year (usable b.memory) b.used (InState b) f t o

  offer_in : (e : Kept) → offered f t ≡ Ok (b.year, e) → Offered
  unfolding Offered
  offer_in e h =
      let m = offered_month f t b.year e h in
      elim (is_open (state_at b.months m.0)) [
        | inl s ↦ elim (leb_tells (usable b.memory) b.used) [
          | inl p ↦ (_, full h m.1 s p.1)
          | inr p ↦ (_, entered h m.1 s p.1)
        ]
        | inr s ↦ (_, not_open h m.1 refl s)
      ]

  offer_decided : (r : Result (ℕ × Kept) Refusal) → offered f t ≡ r → Offered
  unfolding Offered
  offer_decided (Err x) h = (_, refused_below h)
  offer_decided (Ok e) h =
      elim (eqb_tells e.0 b.year) [
        | inl p ↦ offer_in e.1 (h ∙ ap (λ (z : ℕ). Ok (z, e.1)) p.1)
        | inr p ↦ (_, other_year h p.1)
      ]

-- a row that is there
row_at : {A : Type 0} (xs : List A) (i : ℕ) → i < length xs → (x : A) × (x ≡ get_or xs i x)
row_at [] i h = absurd (omega arith)
row_at (x ∷ xs) zero h = (x, refl)
row_at (x ∷ xs) (suc i) h = row_at xs i (omega arith)

module _ {y n : ℕ} {h : List Call} {b : Contents} (a : Agree y n h b) (k : ℕ) where
  Withdrawn : Type 0
  Withdrawn = (o : Result (ℕ × Kept) Refusal) × WithdrawAnswer b.year (InState b) (Marked b) k o

  withdraw_standing : (row : JournalEntry) → 1 ≤ k → k ≤ b.used → row ≡ get_or b.memory (k - 1) row → row.stands ≡ true → Withdrawn
  unfolding Withdrawn
  withdraw_standing row low high is s =
      let at : Row b k row = record { counted = low; used = high; is = is } in
      let mark : Marked b k (kept_of row.entry) = record { row = row; at = at; kept = refl; stands = s } in
      let lies = a.dated k row at in
      elim (is_closed (state_at b.months row.month.number)) [
        | inl p ↦ (_, closed mark lies p)
        | inr p ↦ (_, withdrawn mark lies refl p)
      ]

  withdraw_decided : Withdrawn
  unfolding Withdrawn
  withdraw_decided =
      elim (leb_tells 1 k) [
        | inr p ↦ (_, none_stands (λ e q. omega (arith, p.1, q.at.counted)))
        | inl p ↦ elim (leb_tells k b.used) [
          | inr q ↦ (_, none_stands (λ e w. omega (arith, q.1, w.at.used)))
          | inl q ↦
              (let r = row_at b.memory (k - 1) (omega (arith, p.1, q.1, a.fits)) in
              elim (cases_Bool r.0.stands) [
                | inl s ↦ withdraw_standing r.0 p.1 q.1 r.1 s
                | inr s ↦ (_, none_stands (λ e w. true≢false (sym w.stands ∙ (ap (λ (x : JournalEntry). x.stands) (row_one b k w.row r.0 a.fits w.at (record { counted = p.1; used = q.1; is = r.1 })) ∙ s))))
              ])
        ]
      ]

turn_decided : (b : Contents) (m : ℕ) (v : Event) → (o : Result ℕ Refusal) × TurnAnswer (InState b) m v o
turn_decided b m v = elim (is_month m) [ inl i ↦ go i (made (state_at b.months m) v) refl | inr n ↦ (_, no_month n) ]
  where
    go : IsMonth m → (o : Option State) → made (state_at b.months m) v ≡ o → (o : Result ℕ Refusal) × TurnAnswer (InState b) m v o
    go i None e = (_, forbidden i refl e)
    go i (Some s) e = (_, turned i refl e)

pub determined : {y n : ℕ} {h : List Call} {b : Contents} → Agree y n h b → (c : Call) → Determined y n h c
unfolding Offered Withdrawn
determined {b = b} a (offer f t) = let o = offer_decided b f t (offered f t) refl in record { answer = _; is = to_offer a.taken (offer_told a o.1) refl }
determined a (withdraw k) = let o = withdraw_decided a k in record { answer = _; is = to_withdrawal (withdraw_told a o.1) refl }
determined {b = b} a (turn m v) = let o = turn_decided b m v in record { answer = _; is = to_event (turn_there a.is_in o.1) refl }
