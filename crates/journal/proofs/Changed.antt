-- A change of one month, seen from every month. Assumes nothing.
use Rattle.std.proofs.Common.{◌≡◌, ℕ, true, cond, eqb, Some, None, Option, sym, refl, ap, ◌∙◌, subst, inl, inr, arith}
use Rattle.std.proofs.lemmas.Bool.Decides.{eqb_tells}
use Rattle.std.proofs.lemmas.Bool.{true≢false}
use Rattle.months.specs.declared.state.State.{State}
use Rattle.months.specs.declared.state.State.TheVariants.{Open, Held, Closed}
use Rattle.months.specs.declared.state.Event.{Event}
use Rattle.months.specs.declared.line.Line.{Line}
use Rattle.months.specs.declared.account.Account.{Account}
use Rattle.months.specs.declared.account.Change.{Change}
use Rattle.months.specs.declared.account.Change.TheVariants.{Book, Withdraw, Turn}
use Rattle.months.specs.declared.year.Months.{Months}
use Rattle.months.specs.States.{made}
use Rattle.months.specs.Accounts.{account_at, state_at, account_after, ChangedTo, Changed, with_account, Shaped}
use Rattle.months.proofs.Changes.{account_set, shaped_set, after_lines}
use Rattle.journal.specs.Rules.{IsMonth}
use Rattle.journal.proofs.Rules.{some_not_none}

-- a change of one month, seen from every month
changed_some : (o : Option Account) (ms ms' : Months) (m : ℕ) → ChangedTo o ms m true ms' → (a : Account) × (o ≡ Some a) × (ms' ≡ with_account ms m a)
changed_some None ms ms' m c = absurd (true≢false c.0)
changed_some (Some a) ms ms' m c = (a, refl, c.1)

pub book_state : (a a' : Account) (line : Line) (g : ℕ) → account_after a (Book line g) ≡ Some a' → (a.state ≡ Open) × (a'.state ≡ a.state)
book_state a a' line g e = go a.state refl e
  where
    go : (s : State) → a.state ≡ s → account_after a (Book line g) ≡ Some a' → (a.state ≡ Open) × (a'.state ≡ a.state)
    go Open p e = (p, let q = rw p at e in cc)
    go Held p e = let q = rw p at e in absurd (some_not_none (sym q))
    go Closed p e = let q = rw p at e in absurd (some_not_none (sym q))

pub withdraw_state : (a a' : Account) (line : Line) (g : ℕ) → account_after a (Withdraw line g) ≡ Some a' → (a.state ≡ Closed → ⊥) × (a'.state ≡ a.state)
withdraw_state a a' line g e = go a.state refl e
  where
    go : (s : State) → a.state ≡ s → account_after a (Withdraw line g) ≡ Some a' → (a.state ≡ Closed → ⊥) × (a'.state ≡ a.state)
    go Open p e = (λ z. let w : Open ≡ Closed = sym p ∙ z in let u : ◌≡◌ {A = ℕ} 0 1 = cc in omega arith, let q = rw p at e in cc)
    go Held p e = (λ z. let w : Held ≡ Closed = sym p ∙ z in let u : ◌≡◌ {A = ℕ} 0 1 = cc in omega arith, let q = rw p at e in cc)
    go Closed p e = let q = rw p at e in absurd (some_not_none (sym q))

pub turn_state : (a a' : Account) (v : Event) → account_after a (Turn v) ≡ Some a' → made a.state v ≡ Some a'.state
turn_state a a' v e = go (made a.state v) refl e
  where
    go : (o : Option State) → made a.state v ≡ o → account_after a (Turn v) ≡ Some a' → o ≡ Some a'.state
    go None p e = let q = rw p at e in absurd (some_not_none (sym q))
    go (Some s) p e = let q = rw p at e in cc

module _ (ms ms' : Months) (shape : Shaped ms) (m : ℕ) (i : IsMonth m) (ch : Change) (c : Changed ms m ch true ms') where
  pub changed_to : (a : Account) × (account_after (account_at ms m) ch ≡ Some a) × (ms' ≡ with_account ms m a)
  changed_to = changed_some (account_after (account_at ms m) ch) ms ms' m c

  pub account_there : (k : ℕ) → IsMonth k → account_at ms' k ≡ cond (eqb m k) changed_to.0 (account_at ms k)
  account_there k j = ap (λ (x : Months). account_at x k) changed_to.2 ∙ account_set ms shape m i.from_january i.to_december changed_to.0 k j.from_january

  pub account_same : (k : ℕ) → IsMonth k → (m ≡ k → ⊥) → account_at ms' k ≡ account_at ms k
  account_same k j d = account_there k j ∙ elim (eqb_tells m k) [ inl t ↦ absurd (d t.1) | inr t ↦ rw t.0 refl ]

  pub account_new : account_at ms' m ≡ changed_to.0
  account_new = account_there m i ∙ elim (eqb_tells m m) [ inl t ↦ rw t.0 refl | inr t ↦ absurd (t.1 refl) ]

  pub shaped_there : Shaped ms'
  shaped_there =
      let l = after_lines (account_at ms m) ch changed_to.0 changed_to.1 (shape.1 m i.from_january i.to_december) in
      subst Shaped (sym changed_to.2) (shaped_set ms shape m i.from_january i.to_december changed_to.0 l)

  pub states_kept : (changed_to.0.state ≡ state_at ms m) → (k : ℕ) → IsMonth k → state_at ms' k ≡ state_at ms k
  states_kept e k j =
      elim (eqb_tells m k) [
        | inl t ↦ subst (λ (x : ℕ). state_at ms' x ≡ state_at ms x) t.1 (ap (λ (x : Account). x.state) account_new ∙ e)
        | inr t ↦ ap (λ (x : Account). x.state) (account_same k j t.1)
      ]
