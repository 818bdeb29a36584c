-- What a list of calls says, the newest call first. No book is named here: each word is read off the calls alone.
use Rattle.std.specs.Prelude.{◌≡◌, ℕ, ◌+◌, List, [], ◌∷◌, Some, Ok, Err, Result}
use Rattle.refusal.specs.declared.Refusal.{Refusal}
use Rattle.calendar.specs.Months.{InMonth}
use Rattle.emission.specs.Entries.{Kept, Table}
use Rattle.months.specs.declared.state.State.{State}
use Rattle.months.specs.declared.state.State.TheVariants.{Open, Closed}
use Rattle.months.specs.declared.state.Event.{Event}
use Rattle.months.specs.States.{made}
use Rattle.journal.specs.Calls.{Call, offer, withdraw, turn, Given, entry_told, month_told}
use Rattle.journal.specs.Rules.{IsMonth, OfferAnswer, WithdrawAnswer, TurnAnswer}

-- the call is an event that month m, in state s, takes: the rule of `TurnAnswer` for a state that is given
pub record Turns (m : ℕ) (s : State) (c : Call) : Type 0 where
  pub month : IsMonth m
  pub event : Event
  pub to : State
  pub is : c ≡ turn m event
  pub allowed : made s event ≡ Some to

-- month m is in a state: what its taken events made it
pub data StateIs : List Call → ℕ → State → Type 0 where
  new : {m : ℕ} → StateIs [] m Open
  taken_event : {h : List Call} {c : Call} {m : ℕ} {s s' : State} → StateIs h m s → (t : Turns m s c) → t.to ≡ s' → StateIs (c ∷ h) m s'
  any_other : {h : List Call} {c : Call} {m : ℕ} {s : State} → StateIs h m s → (Turns m s c → ⊥) → StateIs (c ∷ h) m s

-- so many offerings were taken by year y, of whose entries n may be used
pub data Taken (y n : ℕ) : List Call → ℕ → Type 0 where
  none_yet : Taken y n [] 0
  one_more : {h : List Call} {f : List ℕ} {t : Table} {k : ℕ} {a : ℕ × Kept} → Taken y n h k → OfferAnswer y n k (StateIs h) f t (Ok a) → Taken y n (offer f t ∷ h) (k + 1)
  refused : {h : List Call} {f : List ℕ} {t : Table} {k : ℕ} {x : Refusal} → Taken y n h k → OfferAnswer y n k (StateIs h) f t (Err x) → Taken y n (offer f t ∷ h) k
  past_withdrawal : {h : List Call} {k j : ℕ} → Taken y n h k → Taken y n (withdraw j ∷ h) k
  past_event : {h : List Call} {k m : ℕ} {v : Event} → Taken y n h k → Taken y n (turn m v ∷ h) k

-- the call withdraws entry number k, which is e, while its month is not closed: the rule of `WithdrawAnswer` for an entry that stands
pub record Withdraws (y : ℕ) (h : List Call) (k : ℕ) (e : Kept) (c : Call) : Type 0 where
  pub is : c ≡ withdraw k
  pub month : ℕ
  pub lies : InMonth y e.day month
  pub state : State
  pub in_state : StateIs h month state
  pub not_closed : state ≡ Closed → ⊥

-- e stands as entry number k: its offering was taken under that number, and no withdrawal of it since
pub data Stands (y n : ℕ) : List Call → ℕ → Kept → Type 0 where
  entry : {h : List Call} {f : List ℕ} {t : Table} {j k : ℕ} {e : Kept} → Taken y n h j → OfferAnswer y n j (StateIs h) f t (Ok (k, e)) → Stands y n (offer f t ∷ h) k e
  still : {h : List Call} {c : Call} {k : ℕ} {e : Kept} → Stands y n h k e → (Withdraws y h k e c → ⊥) → Stands y n (c ∷ h) k e

-- what the calls before it determine a call to answer
pub data Answers (y n : ℕ) (h : List Call) : Call → Result Given Refusal → Type 0 where
  to_offer : {f : List ℕ} {t : Table} {k : ℕ} {o : Result (ℕ × Kept) Refusal} {a : Result Given Refusal} → Taken y n h k → OfferAnswer y n k (StateIs h) f t o → entry_told o ≡ a → Answers y n h (offer f t) a
  to_withdrawal : {k : ℕ} {o : Result (ℕ × Kept) Refusal} {a : Result Given Refusal} → WithdrawAnswer y (StateIs h) (Stands y n h) k o → entry_told o ≡ a → Answers y n h (withdraw k) a
  to_event : {m : ℕ} {v : Event} {o : Result ℕ Refusal} {a : Result Given Refusal} → TurnAnswer (StateIs h) m v o → month_told o ≡ a → Answers y n h (turn m v) a
