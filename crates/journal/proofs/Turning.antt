-- A taken event keeps book and words in agreement. Assumes nothing.
use Rattle.std.proofs.Common.{◌≡◌, ℕ, ◌-◌, List, ◌∷◌, length, get_or, Some, Ok, Option, sym, refl, ap, ◌∙◌, subst, inl, inr, arith}
use Rattle.std.proofs.lemmas.Bool.Decides.{eqb_tells}
use Rattle.calendar.specs.Months.{InMonth}
use Rattle.months.specs.declared.state.State.{State}
use Rattle.months.specs.declared.state.Event.{Event}
use Rattle.months.specs.declared.account.Account.{Account}
use Rattle.months.specs.declared.account.Change.TheVariants.{Turn}
use Rattle.months.specs.States.{made}
use Rattle.months.specs.Accounts.{account_at, state_at}
use Rattle.journal.specs.declared.row.JournalEntry.{JournalEntry}
use Rattle.journal.specs.Calls.{Call, turn}
use Rattle.journal.specs.Rules.{TurnAnswer, turned, IsMonth}
use Rattle.journal.specs.Words.{Turns, StateIs, taken_event, any_other, Taken, past_event, still}
use Rattle.journal.specs.Contents.{Contents, usable, InState, Row, Turned}
use Rattle.journal.proofs.Rules.{turn_not_withdraw, same_turn}
use Rattle.journal.proofs.Agree.{Agree}
use Rattle.journal.proofs.Changed.{turn_state, changed_to, account_same, account_new, shaped_there}
use Rattle.journal.proofs.Refusing.{past_turn, stood_turn}

pub turned_from : {Is : ℕ → State → Type 0} {m k : ℕ} {v : Event} → TurnAnswer Is m v (Ok k) → (s : State) × (s' : State) × IsMonth m × Is m s × (made s v ≡ Some s')
turned_from (turned {s = s} {s' = s'} i q e) = (s, s', i, q, e)

module _ {y n : ℕ} {h : List Call} {b : Contents} (a : Agree y n h b) (m : ℕ) (v : Event) (b' : Contents) (p : TurnAnswer (InState b) m v (Ok m)) (w : Turned m v b b') where
  its_month : IsMonth m
  its_month = (turned_from p).2

  -- the state that the event makes
  made_there : made (state_at b.months m) v ≡ Some (state_at b'.months m)
  made_there =
      let c = changed_to b.months b'.months a.shaped m its_month (Turn v) w.months in
      turn_state (account_at b.months m) c.0 v c.1 ∙ ap (λ (x : Account). Some x.state) (sym (account_new b.months b'.months a.shaped m its_month (Turn v) w.months))

  others_same : (k : ℕ) → IsMonth k → (m ≡ k → ⊥) → state_at b'.months k ≡ state_at b.months k
  others_same k i d = ap (λ (x : Account). x.state) (account_same b.months b'.months a.shaped m its_month (Turn v) w.months k i d)

  the_turn : Turns m (state_at b.months m) (turn m v)
  the_turn = record { month = its_month; event = v; to = state_at b'.months m; is = refl; allowed = made_there }

  turned_is_in : (k : ℕ) (s : State) → IsMonth k → InState b' k s → StateIs (turn m v ∷ h) k s
  unfolding the_turn
  turned_is_in k s i q =
      elim (eqb_tells m k) [
        | inl t ↦ subst (λ (x : ℕ). StateIs (turn m v ∷ h) x s) t.1 (taken_event (a.is_in m (state_at b.months m) its_month refl) the_turn (ap (state_at b'.months) t.1 ∙ q))
        | inr t ↦ any_other (a.is_in k s i (sym (others_same k i t.1) ∙ q)) (λ z. t.1 (same_turn z.is).0)
      ]

  some_same : {x z : State} → ◌≡◌ {A = Option State} (Some x) (Some z) → x ≡ z
  some_same e = cc

  turned_in_is : (k : ℕ) (s : State) → IsMonth k → StateIs (turn m v ∷ h) k s → InState b' k s
  turned_in_is k s i (taken_event {s = s₀} q z e) =
      let mk = same_turn z.is in
      let s-is : state_at b.months m ≡ s₀ = ap (state_at b.months) mk.0 ∙ a.in_is k s₀ i q in
      let to_is : state_at b'.months m ≡ z.to = some_same (sym made_there ∙ (ap (λ (x : State). made x v) s-is ∙ (ap (made s₀) mk.1 ∙ z.allowed))) in
      sym (ap (state_at b'.months) mk.0) ∙ (to_is ∙ e)
  turned_in_is k s i (any_other q z) =
      elim (eqb_tells m k) [
        | inl t ↦ absurd (z (subst (λ (x : State). Turns k x (turn m v)) (ap (state_at b.months) t.1 ∙ a.in_is k s i q) (subst (λ (x : ℕ). Turns x (state_at b.months m) (turn m v)) t.1 the_turn)))
        | inr t ↦ others_same k i t.1 ∙ a.in_is k s i q
      ]

  row_there : (k : ℕ) (r : JournalEntry) → Row b k r → Row b' k r
  row_there k r q = record { counted = q.counted; used = omega (arith, q.used, w.used); is = q.is ∙ ap (λ (x : List JournalEntry). get_or x (k - 1) r) (sym w.memory) }

  row_here : (k : ℕ) (r : JournalEntry) → Row b' k r → Row b k r
  row_here k r q = record { counted = q.counted; used = omega (arith, q.used, w.used); is = q.is ∙ ap (λ (x : List JournalEntry). get_or x (k - 1) r) w.memory }

  pub turn_agrees : Agree y n (turn m v ∷ h) b'
  turn_agrees =
      record {
        year = w.year ∙ a.year;
        room = ap usable w.memory ∙ a.room;
        fits = let l : length b'.memory ≡ length b.memory = ap length w.memory in omega (arith, w.used, a.fits, l);
        shaped = shaped_there b.months b'.months a.shaped m its_month (Turn v) w.months;
        is_in = turned_is_in;
        in_is = turned_in_is;
        taken = past_event (subst (Taken y n h) (sym w.used) a.taken);
        counted = λ j q. a.counted j (past_turn q) ∙ sym w.used;
        marked = λ k e q. still (a.marked k e (record { row = q.row; at = row_here k q.row q.at; kept = q.kept; stands = q.stands })) (λ z. turn_not_withdraw z.is);
        stands = λ k e q. (let o = a.stands k e (stood_turn q) in record { row = o.row; at = row_there k o.row o.at; kept = o.kept; stands = o.stands });
        dated = λ k r q. subst (λ (x : ℕ). InMonth x r.entry.day r.month.number) (sym w.year) (a.dated k r (row_here k r q));
      }
