-- A closed month takes no change. Assumes nothing.
use Rattle.std.proofs.Common.{◌≡◌, ℕ, List, ◌∷◌, Some, Result, sym, refl, ap, ◌∙◌, arith}
use Rattle.refusal.specs.declared.Refusal.{Refusal}
use Rattle.months.specs.declared.state.State.{State}
use Rattle.months.specs.declared.state.State.TheVariants.{Open, Closed}
use Rattle.months.specs.declared.state.Event.{Event}
use Rattle.months.specs.declared.state.Event.TheVariants.{Hold, Release, Close}
use Rattle.months.specs.declared.account.Account.{Account}
use Rattle.months.specs.declared.account.Change.TheVariants.{Book, Withdraw, Turn}
use Rattle.months.specs.States.{made}
use Rattle.months.specs.Accounts.{account_at, state_at}
use Rattle.journal.specs.Calls.{Call, Given}
use Rattle.journal.specs.Rules.{IsMonth}
use Rattle.journal.specs.Contents.{Contents, InState, Step, offer_refused, offer_taken, withdrawal_refused, withdrawal_taken, event_refused, event_taken, After, start, then_call}
use Rattle.journal.proofs.Rules.{some_not_none}
use Rattle.journal.proofs.Agree.{Agree}
use Rattle.journal.proofs.Following.{agrees_on}
use Rattle.journal.proofs.Changed.{book_state, withdraw_state, turn_state, changed_to, account_same}
use Rattle.journal.proofs.Offering.{row_month}
use Rattle.journal.proofs.Turning.{turned_from}

open_not_closed : Open ≡ Closed → ⊥
open_not_closed e = let z : ◌≡◌ {A = ℕ} 0 1 = cc in omega arith

closed_takes_none : (v : Event) (s : State) → made Closed v ≡ Some s → ⊥
closed_takes_none Hold s e = some_not_none (sym e)
closed_takes_none Release s e = some_not_none (sym e)
closed_takes_none Close s e = some_not_none (sym e)

module _ {y n : ℕ} {m : ℕ} (i : IsMonth m) where
  step_same : {h : List Call} {b b' : Contents} {c : Call} {r : Result Given Refusal} → Agree y n h b → InState b m Closed → Step b c r b' → account_at b'.months m ≡ account_at b.months m
  step_same a s (offer_refused p e) = ap (λ (x : Contents). account_at x.months m) (sym e)
  step_same {b = b} {b' = b'} a s (offer_taken row p w) =
      let j = row_month row in
      let ch = Book w.line row.entry.grams in
      let c = changed_to b.months b'.months a.shaped row.month.number j ch w.months in
      account_same b.months b'.months a.shaped row.month.number j ch w.months m i
      (λ q. open_not_closed (sym (book_state (account_at b.months row.month.number) c.0 w.line row.entry.grams c.1).0 ∙ (ap (state_at b.months) q ∙ s)))
  step_same a s (withdrawal_refused p e) = ap (λ (x : Contents). account_at x.months m) (sym e)
  step_same {b = b} {b' = b'} a s (withdrawal_taken row p w) =
      let j = row_month row in
      let ch = Withdraw w.line row.entry.grams in
      let c = changed_to b.months b'.months a.shaped row.month.number j ch w.months in
      account_same b.months b'.months a.shaped row.month.number j ch w.months m i
      (λ q. (withdraw_state (account_at b.months row.month.number) c.0 w.line row.entry.grams c.1).0 (ap (state_at b.months) q ∙ s))
  step_same a s (event_refused p e) = ap (λ (x : Contents). account_at x.months m) (sym e)
  step_same {b = b} {b' = b'} a s (event_taken {m = k} {v = v} p w) =
      let j = (turned_from p).2 in
      let c = changed_to b.months b'.months a.shaped k j (Turn v) w.months in
      account_same b.months b'.months a.shaped k j (Turn v) w.months m i
      (λ q. closed_takes_none v _ (ap (λ (x : State). made x v) (sym (ap (state_at b.months) q ∙ s)) ∙ turn_state (account_at b.months k) c.0 v c.1))

  -- the month after any later calls
  pub closed_after : {b : Contents} {later : List Call} {b' : Contents} {h : List Call} → Agree y n h b → InState b m Closed → After b later b' → (g : List Call) × Agree y n g b' × (account_at b'.months m ≡ account_at b.months m)
  closed_after {h = h} a s start = (h, a, refl)
  closed_after a s (then_call {c = c} p q) =
      let e = closed_after a s p in
      (c ∷ e.0, agrees_on e.1 q, step_same e.1 (ap (λ (x : Account). x.state) e.2 ∙ s) q ∙ e.2)
