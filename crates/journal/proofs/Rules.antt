-- The rules under another reading of months and entries, and that they give one answer. Assumes nothing.
use Rattle.std.proofs.Common.{◌≡◌, ℕ, ◌+◌, List, Some, None, Ok, Err, Option, Result, sym, refl, ap, ◌∙◌, subst, arith}
use Rattle.refusal.specs.declared.Refusal.{Refusal}
use Rattle.calendar.specs.Months.{InMonth}
use Rattle.calendar.proofs.Places.{same_month}
use Rattle.emission.specs.Entries.{Kept, Table}
use Rattle.months.specs.declared.state.State.{State}
use Rattle.months.specs.declared.state.Event.{Event}
use Rattle.months.specs.States.{made}
use Rattle.journal.specs.Calls.{Call, offer, withdraw, turn}
use Rattle.journal.specs.Rules.{OfferAnswer, refused_below, other_year, not_open, full, entered, WithdrawAnswer, none_stands, closed, withdrawn, TurnAnswer, no_month, forbidden, turned, IsMonth}

-- calls told apart
tag : Call → ℕ
tag (offer f t) = 0
tag (withdraw k) = 1
tag (turn m v) = 2

number : Call → ℕ
number (offer f t) = 0
number (withdraw k) = k
number (turn m v) = m

event_or : Event → Call → Event
event_or d (offer f t) = d
event_or d (withdraw k) = d
event_or d (turn m v) = v

pub offer_not_withdraw : {f : List ℕ} {t : Table} {k : ℕ} → offer f t ≡ withdraw k → ⊥
unfolding tag
offer_not_withdraw e = let z : ◌≡◌ {A = ℕ} 0 1 = ap tag e in omega arith

pub offer_not_turn : {f : List ℕ} {t : Table} {m : ℕ} {v : Event} → offer f t ≡ turn m v → ⊥
unfolding tag
offer_not_turn e = let z : ◌≡◌ {A = ℕ} 0 2 = ap tag e in omega arith

pub withdraw_not_turn : {k : ℕ} {m : ℕ} {v : Event} → withdraw k ≡ turn m v → ⊥
unfolding tag
withdraw_not_turn e = let z : ◌≡◌ {A = ℕ} 1 2 = ap tag e in omega arith

pub turn_not_withdraw : {k : ℕ} {m : ℕ} {v : Event} → turn m v ≡ withdraw k → ⊥
unfolding tag
turn_not_withdraw e = let z : ◌≡◌ {A = ℕ} 2 1 = ap tag e in omega arith

pub same_number : {j k : ℕ} → withdraw j ≡ withdraw k → j ≡ k
unfolding number
same_number e = ap number e

pub same_turn : {j k : ℕ} {v w : Event} → turn j v ≡ turn k w → (j ≡ k) × (v ≡ w)
unfolding number event_or
same_turn {v = v} e = (ap number e, ap (event_or v) e)

-- results told apart
pub ok_not_err : {A : Type 0} {x : A} {r : Refusal} → ◌≡◌ {A = Result A Refusal} (Ok x) (Err r) → ⊥
ok_not_err e = let z : ◌≡◌ {A = ℕ} 0 1 = cc in omega arith

pub same_ok : {A : Type 0} {x z : A} → ◌≡◌ {A = Result A Refusal} (Ok x) (Ok z) → x ≡ z
same_ok e = cc

pub same_err : {A : Type 0} {x z : Refusal} → ◌≡◌ {A = Result A Refusal} (Err x) (Err z) → x ≡ z
same_err e = cc

pub some_not_none : {A : Type 0} {x : A} → ◌≡◌ {A = Option A} (Some x) None → ⊥
some_not_none e = let z : ◌≡◌ {A = ℕ} 0 1 = cc in omega arith

pub month_of : {y d m : ℕ} → InMonth y d m → IsMonth m
month_of i = record { from_january = i.from_january; to_december = i.to_december }

-- the rules as another reading says them
module _ {Is Js : ℕ → State → Type 0} (there : (m : ℕ) (s : State) → IsMonth m → Is m s → Js m s) where
  pub offer_there : {y n k : ℕ} {f : List ℕ} {t : Table} {o : Result (ℕ × Kept) Refusal} → OfferAnswer y n k Is f t o → OfferAnswer y n k Js f t o
  offer_there (refused_below e) = refused_below e
  offer_there (other_year e z) = other_year e z
  offer_there (not_open e i s x) = not_open e i (there _ _ (month_of i) s) x
  offer_there (full e i s x) = full e i (there _ _ (month_of i) s) x
  offer_there (entered e i s x) = entered e i (there _ _ (month_of i) s) x

  pub turn_there : {m : ℕ} {v : Event} {o : Result ℕ Refusal} → TurnAnswer Is m v o → TurnAnswer Js m v o
  turn_there (no_month n) = no_month n
  turn_there (forbidden i s e) = forbidden i (there _ _ i s) e
  turn_there (turned i s e) = turned i (there _ _ i s) e

  pub withdraw_there : {P Q : ℕ → Kept → Type 0} {y k : ℕ} {o : Result (ℕ × Kept) Refusal} → ((e : Kept) → P k e → Q k e) → ((e : Kept) → Q k e → P k e) → WithdrawAnswer y Is P k o → WithdrawAnswer y Js Q k o
  withdraw_there to from (none_stands n) = none_stands (λ e q. n e (from e q))
  withdraw_there to from (closed {e = e} p i s) = closed (to e p) i (there _ _ (month_of i) s)
  withdraw_there to from (withdrawn {e = e} p i s x) = withdrawn (to e p) i (there _ _ (month_of i) s) x

-- one answer, where a month is in one state and one entry stands under a number
module _ {Is : ℕ → State → Type 0} (one : (m : ℕ) (s s' : State) → Is m s → Is m s' → s ≡ s') where
  taken_once : {y : ℕ} {r : Result (ℕ × Kept) Refusal} {e e' : Kept} → r ≡ Ok (y, e) → r ≡ Ok (y, e') → e ≡ e'
  taken_once p q = ap (λ (x : ℕ × Kept). x.1) (same_ok (sym p ∙ q))

  state_once : {y m m' : ℕ} {e e' : Kept} {s s' : State} → e ≡ e' → InMonth y e.day m → InMonth y e'.day m' → Is m s → Is m' s' → s ≡ s'
  state_once {y = y} {m = m} {m' = m'} {e = e} {e' = e'} {s = s} {s' = s'} p i i' a a' =
      let q : m ≡ m' = same_month y e'.day m m' (subst (λ (x : Kept). InMonth y x.day m) p i) i' in
      one m' s s' (subst (λ (x : ℕ). Is x s) q a) a'

  pub offer_one : {y n k : ℕ} {f : List ℕ} {t : Table} {o o' : Result (ℕ × Kept) Refusal} → OfferAnswer y n k Is f t o → OfferAnswer y n k Is f t o' → o ≡ o'
  offer_one (refused_below e) (refused_below e') = ap Err (same_err (sym e ∙ e'))
  offer_one (refused_below e) (other_year e' z) = absurd (ok_not_err (sym e' ∙ e))
  offer_one (refused_below e) (not_open e' i s x) = absurd (ok_not_err (sym e' ∙ e))
  offer_one (refused_below e) (full e' i s x) = absurd (ok_not_err (sym e' ∙ e))
  offer_one (refused_below e) (entered e' i s x) = absurd (ok_not_err (sym e' ∙ e))
  offer_one (other_year e z) (refused_below e') = absurd (ok_not_err (sym e ∙ e'))
  offer_one (other_year e z) (other_year e' z') = refl
  offer_one (other_year e z) (not_open e' i s x) = absurd (z (ap (λ (x : ℕ × Kept). x.0) (same_ok (sym e ∙ e'))))
  offer_one (other_year e z) (full e' i s x) = absurd (z (ap (λ (x : ℕ × Kept). x.0) (same_ok (sym e ∙ e'))))
  offer_one (other_year e z) (entered e' i s x) = absurd (z (ap (λ (x : ℕ × Kept). x.0) (same_ok (sym e ∙ e'))))
  offer_one (not_open e i s x) (refused_below e') = absurd (ok_not_err (sym e ∙ e'))
  offer_one (not_open e i s x) (other_year e' z) = absurd (z (ap (λ (x : ℕ × Kept). x.0) (same_ok (sym e' ∙ e))))
  offer_one (not_open e i s x) (not_open e' i' s' x') = refl
  offer_one (not_open e i s x) (full e' i' s' x') = absurd (x (state_once (taken_once e e') i i' s s'))
  offer_one (not_open e i s x) (entered e' i' s' x') = absurd (x (state_once (taken_once e e') i i' s s'))
  offer_one (full e i s x) (refused_below e') = absurd (ok_not_err (sym e ∙ e'))
  offer_one (full e i s x) (other_year e' z) = absurd (z (ap (λ (x : ℕ × Kept). x.0) (same_ok (sym e' ∙ e))))
  offer_one (full e i s x) (not_open e' i' s' x') = absurd (x' (state_once (taken_once e' e) i' i s' s))
  offer_one (full e i s x) (full e' i' s' x') = refl
  offer_one (full e i s x) (entered e' i' s' x') = absurd (omega arith)
  offer_one (entered e i s x) (refused_below e') = absurd (ok_not_err (sym e ∙ e'))
  offer_one (entered e i s x) (other_year e' z) = absurd (z (ap (λ (x : ℕ × Kept). x.0) (same_ok (sym e' ∙ e))))
  offer_one (entered e i s x) (not_open e' i' s' x') = absurd (x' (state_once (taken_once e' e) i' i s' s))
  offer_one (entered e i s x) (full e' i' s' x') = absurd (omega arith)
  offer_one {k = k} (entered e i s x) (entered e' i' s' x') = ap (λ (z : Kept). Ok (k + 1, z)) (taken_once e e')

  pub turn_one : {m : ℕ} {v : Event} {o o' : Result ℕ Refusal} → TurnAnswer Is m v o → TurnAnswer Is m v o' → o ≡ o'
  turn_one (no_month n) (no_month n') = refl
  turn_one (no_month n) (forbidden i s e) = absurd (n i)
  turn_one (no_month n) (turned i s e) = absurd (n i)
  turn_one (forbidden i s e) (no_month n) = absurd (n i)
  turn_one (forbidden i s e) (forbidden i' s' e') = refl
  turn_one {v = v} (forbidden i s e) (turned i' s' e') = absurd (some_not_none (sym e' ∙ (ap (λ (x : State). made x v) (one _ _ _ s' s) ∙ e)))
  turn_one (turned i s e) (no_month n) = absurd (n i)
  turn_one {v = v} (turned i s e) (forbidden i' s' e') = absurd (some_not_none (sym e ∙ (ap (λ (x : State). made x v) (one _ _ _ s s') ∙ e')))
  turn_one (turned i s e) (turned i' s' e') = refl

  module _ {P : ℕ → Kept → Type 0} (only : (k : ℕ) (e e' : Kept) → P k e → P k e' → e ≡ e') where
    pub withdraw_one : {y k : ℕ} {o o' : Result (ℕ × Kept) Refusal} → WithdrawAnswer y Is P k o → WithdrawAnswer y Is P k o' → o ≡ o'
    withdraw_one (none_stands n) (none_stands n') = refl
    withdraw_one (none_stands n) (closed p i s) = absurd (n _ p)
    withdraw_one (none_stands n) (withdrawn p i s x) = absurd (n _ p)
    withdraw_one (closed p i s) (none_stands n) = absurd (n _ p)
    withdraw_one (closed p i s) (closed p' i' s') = refl
    withdraw_one (closed p i s) (withdrawn p' i' s' x) = absurd (x (state_once (only _ _ _ p' p) i' i s' s))
    withdraw_one (withdrawn p i s x) (none_stands n) = absurd (n _ p)
    withdraw_one (withdrawn p i s x) (closed p' i' s') = absurd (x (state_once (only _ _ _ p p') i i' s s'))
    withdraw_one {k = k} (withdrawn p i s x) (withdrawn p' i' s' x') = ap (λ (z : Kept). Ok (k, z)) (only _ _ _ p p')
