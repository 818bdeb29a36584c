-- A refused call leaves book and words in agreement. Assumes nothing.
use Rattle.std.proofs.Common.{◌≡◌, ℕ, List, ◌∷◌, Err, sym, refl, ap, ◌∙◌, subst}
use Rattle.refusal.specs.declared.Refusal.{Refusal}
use Rattle.calendar.specs.Months.{InMonth}
use Rattle.calendar.proofs.Places.{same_month}
use Rattle.emission.specs.Entries.{Kept, Table}
use Rattle.months.specs.declared.state.State.{State}
use Rattle.months.specs.declared.state.Event.{Event}
use Rattle.months.specs.States.{made}
use Rattle.months.specs.Accounts.{state_at}
use Rattle.journal.specs.Calls.{Call, offer, withdraw, turn}
use Rattle.journal.specs.Rules.{OfferAnswer, WithdrawAnswer, none_stands, closed, TurnAnswer, no_month, forbidden, IsMonth}
use Rattle.journal.specs.Words.{Turns, StateIs, taken_event, any_other, Taken, one_more, refused, past_withdrawal, past_event, Withdraws, Stands, entry, still}
use Rattle.journal.specs.Contents.{Contents, usable, InState, Marked}
use Rattle.journal.proofs.Rules.{offer_not_withdraw, offer_not_turn, withdraw_not_turn, turn_not_withdraw, same_number, same_turn, ok_not_err, some_not_none, month_of}
use Rattle.journal.proofs.Agree.{Agree, mark_one, offer_told, offer_same}

-- what is left of a word when its newest call is taken off
pub past_withdraw : {y n : ℕ} {h : List Call} {j k : ℕ} → Taken y n (withdraw j ∷ h) k → Taken y n h k
past_withdraw (past_withdrawal p) = p

pub past_turn : {y n : ℕ} {h : List Call} {m k : ℕ} {v : Event} → Taken y n (turn m v ∷ h) k → Taken y n h k
past_turn (past_event p) = p

pub stood_withdraw : {y n : ℕ} {h : List Call} {j k : ℕ} {e : Kept} → Stands y n (withdraw j ∷ h) k e → Stands y n h k e × (Withdraws y h k e (withdraw j) → ⊥)
stood_withdraw (still p z) = (p, z)

pub stood_turn : {y n : ℕ} {h : List Call} {m k : ℕ} {v : Event} {e : Kept} → Stands y n (turn m v ∷ h) k e → Stands y n h k e
stood_turn (still p z) = p

module _ {y n : ℕ} {h : List Call} {b : Contents} (a : Agree y n h b) where
  -- months under a call that turns none of them
  module _ (c : Call) (b' : Contents) (same : (m : ℕ) → IsMonth m → state_at b'.months m ≡ state_at b.months m) (none : (m : ℕ) (s : State) → IsMonth m → InState b m s → Turns m s c → ⊥) where
    pub past_is_in : (m : ℕ) (s : State) → IsMonth m → InState b' m s → StateIs (c ∷ h) m s
    past_is_in m s i p = let q : InState b m s = sym (same m i) ∙ p in any_other (a.is_in m s i q) (none m s i q)

    pub past_in_is : (m : ℕ) (s : State) → IsMonth m → StateIs (c ∷ h) m s → InState b' m s
    past_in_is m s i (taken_event {s = s₀} p t e) = absurd (none m s₀ i (a.in_is m s₀ i p) t)
    past_in_is m s i (any_other p z) = same m i ∙ a.in_is m s i p

  -- a call that leaves all as it was
  unchanged : (c : Call) → ((m : ℕ) (s : State) → IsMonth m → InState b m s → Turns m s c → ⊥) → Taken y n (c ∷ h) b.used → ((k : ℕ) → Taken y n (c ∷ h) k → k ≡ b.used) → ((k : ℕ) (e : Kept) → Marked b k e → Withdraws y h k e c → ⊥) → ((k : ℕ) (e : Kept) → Stands y n (c ∷ h) k e → Marked b k e) → Agree y n (c ∷ h) b
  unchanged c none tk ct mk st =
      record {
        year = a.year;
        room = a.room;
        fits = a.fits;
        shaped = a.shaped;
        is_in = past_is_in c b (λ m i. refl) none;
        in_is = past_in_is c b (λ m i. refl) none;
        taken = tk;
        counted = ct;
        marked = λ k e p. still (a.marked k e p) (mk k e p);
        stands = st;
        dated = a.dated;
      }

  pub offer_turns_none : (f : List ℕ) (t : Table) (m : ℕ) (s : State) → IsMonth m → InState b m s → Turns m s (offer f t) → ⊥
  offer_turns_none f t m s i p w = offer_not_turn w.is

  pub withdraw_turns_none : (k m : ℕ) (s : State) → IsMonth m → InState b m s → Turns m s (withdraw k) → ⊥
  withdraw_turns_none k m s i p w = withdraw_not_turn w.is

  module _ (f : List ℕ) (t : Table) (x : Refusal) (p : OfferAnswer b.year (usable b.memory) b.used (InState b) f t (Err x)) where
    refused_counts : (k : ℕ) → Taken y n (offer f t ∷ h) k → k ≡ b.used
    refused_counts k (one_more c q) = absurd (ok_not_err (sym (offer_same a p c q)))
    refused_counts k (refused c q) = a.counted k c

    refused_stands : (k : ℕ) (e : Kept) → Stands y n (offer f t ∷ h) k e → Marked b k e
    refused_stands k e (entry c q) = absurd (ok_not_err (sym (offer_same a p c q)))
    refused_stands k e (still q z) = a.stands k e q

    pub offer_kept : Agree y n (offer f t ∷ h) b
    offer_kept =
        unchanged (offer f t) (offer_turns_none f t) (refused a.taken (offer_told a p)) refused_counts
        (λ k e q w. offer_not_withdraw w.is) refused_stands

  module _ (j : ℕ) where
    -- a refused withdrawal withdraws nothing
    withdraws_none : {x : Refusal} → WithdrawAnswer b.year (InState b) (Marked b) j (Err x) → (k : ℕ) (e : Kept) → Marked b k e → Withdraws y h k e (withdraw j) → ⊥
    withdraws_none (none_stands z) k e q w = z e (subst (λ (i : ℕ). Marked b i e) (sym (same_number w.is)) q)
    withdraws_none (closed {e = e'} {m = m} q' i s) k e q w =
        let eq : e ≡ e' = mark_one b a.fits j e e' (subst (λ (i : ℕ). Marked b i e) (sym (same_number w.is)) q) q' in
        let i' : InMonth y e'.day m = subst (λ (z : ℕ). InMonth z e'.day m) a.year i in
        let mm : w.month ≡ m = same_month y e'.day w.month m (subst (λ (z : Kept). InMonth y z.day w.month) eq w.lies) i' in
        w.not_closed (sym (a.in_is w.month w.state (month_of w.lies) w.in_state) ∙ (ap (state_at b.months) mm ∙ s))

    pub withdraw_kept : {x : Refusal} → WithdrawAnswer b.year (InState b) (Marked b) j (Err x) → Agree y n (withdraw j ∷ h) b
    withdraw_kept p =
        unchanged (withdraw j) (withdraw_turns_none j) (past_withdrawal a.taken) (λ k q. a.counted k (past_withdraw q))
        (withdraws_none p) (λ k e q. a.stands k e (stood_withdraw q).0)

  module _ (m : ℕ) (v : Event) where
    turns_none : {x : Refusal} → TurnAnswer (InState b) m v (Err x) → (k : ℕ) (s : State) → IsMonth k → InState b k s → Turns k s (turn m v) → ⊥
    turns_none (no_month z) k s i p w = z (subst IsMonth (sym (same_turn w.is).0) i)
    turns_none (forbidden {s = s'} i' q e) k s i p w =
        let mk = same_turn w.is in
        let ss : s ≡ s' = sym p ∙ (ap (state_at b.months) (sym mk.0) ∙ q) in
        some_not_none (sym w.allowed ∙ (ap (made s) (sym mk.1) ∙ (ap (λ (z : State). made z v) ss ∙ e)))

    pub turn_kept : {x : Refusal} → TurnAnswer (InState b) m v (Err x) → Agree y n (turn m v ∷ h) b
    turn_kept p =
        unchanged (turn m v) (turns_none p) (past_event a.taken) (λ k q. a.counted k (past_turn q))
        (λ k e q w. turn_not_withdraw w.is) (λ k e q. a.stands k e (stood_turn q))
