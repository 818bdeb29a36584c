-- When a call is taken, and when it is refused with which number: each rule once.
-- `Is m s` says that month m is in state s, and `Stands k e` that e stands as entry number k.
use Rattle.std.specs.Prelude.{◌≡◌, ℕ, ◌+◌, ◌<◌, ◌≤◌, List, Some, None, Ok, Err, Result, ◌≢◌}
use Rattle.refusal.specs.declared.Layer.TheVariants.{Book}
use Rattle.refusal.specs.declared.Refusal.{Refusal}
use Rattle.refusal.specs.Said.{refusal, then}
use Rattle.calendar.specs.Months.{InMonth}
use Rattle.record.specs.Records.{record_in}
use Rattle.emission.specs.Entries.{Kept, Table, entry_in}
use Rattle.months.specs.declared.state.State.{State}
use Rattle.months.specs.declared.state.State.TheVariants.{Open, Closed}
use Rattle.months.specs.declared.state.Event.{Event}
use Rattle.months.specs.States.{made}

-- the year that a frame's record names and what is kept of it, or the refusal of a lower layer
abbrev pub offered : List ℕ → Table → Result (ℕ × Kept) Refusal
offered f t = then (record_in f) (λ r. then (entry_in r t) (λ e. Ok (r.year, e)))

-- a frame offered to year y, of whose entries n may be used and k are
pub data OfferAnswer (y n k : ℕ) (Is : ℕ → State → Type 0) (f : List ℕ) (t : Table) : Result (ℕ × Kept) Refusal → Type 0 where
  refused_below : {x : Refusal} → offered f t ≡ Err x → OfferAnswer y n k Is f t (Err x)
  other_year : {z : ℕ} {e : Kept} → offered f t ≡ Ok (z, e) → (z ≢ y) → OfferAnswer y n k Is f t (Err (refusal Book 14 0))
  not_open : {e : Kept} {m : ℕ} {s : State} → offered f t ≡ Ok (y, e) → InMonth y e.day m → Is m s → (s ≢ Open) → OfferAnswer y n k Is f t (Err (refusal Book 15 0))
  full : {e : Kept} {m : ℕ} → offered f t ≡ Ok (y, e) → InMonth y e.day m → Is m Open → n ≤ k → OfferAnswer y n k Is f t (Err (refusal Book 16 0))
  entered : {e : Kept} {m : ℕ} → offered f t ≡ Ok (y, e) → InMonth y e.day m → Is m Open → k < n → OfferAnswer y n k Is f t (Ok (k + 1, e))

-- entry number k withdrawn from year y
pub data WithdrawAnswer (y : ℕ) (Is : ℕ → State → Type 0) (Stands : ℕ → Kept → Type 0) (k : ℕ) : Result (ℕ × Kept) Refusal → Type 0 where
  none_stands : ((e : Kept) → Stands k e → ⊥) → WithdrawAnswer y Is Stands k (Err (refusal Book 17 0))
  closed : {e : Kept} {m : ℕ} → Stands k e → InMonth y e.day m → Is m Closed → WithdrawAnswer y Is Stands k (Err (refusal Book 18 0))
  withdrawn : {e : Kept} {m : ℕ} {s : State} → Stands k e → InMonth y e.day m → Is m s → (s ≢ Closed) → WithdrawAnswer y Is Stands k (Ok (k, e))

-- a month's number
pub record IsMonth (m : ℕ) : Type 0 where
  pub from_january : 1 ≤ m
  pub to_december : m ≤ 12

-- an event for month m
pub data TurnAnswer (Is : ℕ → State → Type 0) (m : ℕ) (v : Event) : Result ℕ Refusal → Type 0 where
  no_month : (IsMonth m → ⊥) → TurnAnswer Is m v (Err (refusal Book 19 0))
  forbidden : {s : State} → IsMonth m → Is m s → made s v ≡ None → TurnAnswer Is m v (Err (refusal Book 18 0))
  turned : {s s' : State} → IsMonth m → Is m s → made s v ≡ Some s' → TurnAnswer Is m v (Ok m)
