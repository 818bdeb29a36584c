-- A book that has followed a list of calls agrees with it. Assumes nothing.
use Rattle.std.proofs.Common.{◌≡◌, ℕ, List, [], ◌∷◌, Result, sym, refl, ap, ◌∙◌, subst, arith}
use Rattle.refusal.specs.declared.Refusal.{Refusal}
use Rattle.emission.specs.Entries.{Kept}
use Rattle.months.specs.declared.state.State.{State}
use Rattle.months.specs.declared.state.State.TheVariants.{Open}
use Rattle.months.specs.declared.year.Months.{Months}
use Rattle.months.specs.Accounts.{state_at, Shaped}
use Rattle.months.proofs.Changes.{shaped_new, new_open}
use Rattle.journal.specs.Calls.{Call, Given}
use Rattle.journal.specs.Rules.{IsMonth}
use Rattle.journal.specs.Words.{StateIs, new, Taken, none_yet, Stands}
use Rattle.journal.specs.Contents.{Contents, Step, offer_refused, offer_taken, withdrawal_refused, withdrawal_taken, event_refused, event_taken, New, After, start, then_call, Follows}
use Rattle.journal.proofs.Agree.{Agree}
use Rattle.journal.proofs.Refusing.{offer_kept, withdraw_kept, turn_kept}
use Rattle.journal.proofs.Offering.{offer_agrees}
use Rattle.journal.proofs.Withdrawing.{withdraw_agrees}
use Rattle.journal.proofs.Turning.{turn_agrees}

-- every step keeps the words
pub agrees_on : {y n : ℕ} {h : List Call} {b b' : Contents} {c : Call} {r : Result Given Refusal} → Agree y n h b → Step b c r b' → Agree y n (c ∷ h) b'
agrees_on {y = y} {n = n} a (offer_refused {f = f} {t = t} {x = x} p e) = subst (Agree y n _) e (offer_kept a f t x p)
agrees_on {b' = b'} a (offer_taken {f = f} {t = t} {k = k} row p w) = offer_agrees a f t k b' row p w
agrees_on {y = y} {n = n} a (withdrawal_refused {k = k} p e) = subst (Agree y n _) e (withdraw_kept a k p)
agrees_on {b' = b'} a (withdrawal_taken {k = k} row p w) = withdraw_agrees a k b' row p w
agrees_on {y = y} {n = n} a (event_refused {m = m} {v = v} p e) = subst (Agree y n _) e (turn_kept a m v p)
agrees_on {b' = b'} a (event_taken {m = m} {v = v} p w) = turn_agrees a m v b' p w

-- a new year has none of them
new_states : {m : ℕ} {s : State} → StateIs [] m s → Open ≡ s
new_states new = refl

new_taken : {y n k : ℕ} → Taken y n [] k → 0 ≡ k
new_taken none_yet = refl

new_stands : {y n k : ℕ} {e : Kept} {P : Type 0} → Stands y n [] k e → P
new_stands p = elim p [ ]

pub agrees_new : {y n : ℕ} {b : Contents} → New y n b → Agree y n [] b
agrees_new {y = y} {n = n} {b = b} w =
    let opened : (m : ℕ) → IsMonth m → state_at b.months m ≡ Open = λ m i. ap (λ (x : Months). state_at x m) w.months ∙ new_open m i.from_january i.to_december in
    record {
      year = w.year;
      room = w.room;
      fits = omega (arith, w.used);
      shaped = subst Shaped (sym w.months) shaped_new;
      is_in = λ m s i p. subst (StateIs [] m) (sym (opened m i) ∙ p) new;
      in_is = λ m s i p. opened m i ∙ new_states p;
      taken = subst (Taken y n []) (sym w.used) none_yet;
      counted = λ k p. sym (new_taken p) ∙ sym w.used;
      marked = λ k e p. absurd (omega (arith, p.at.counted, p.at.used, w.used));
      stands = λ k e p. new_stands p;
      dated = λ k r p. absurd (omega (arith, p.counted, p.used, w.used));
    }

agrees_after : {y n : ℕ} {o : Contents} {h : List Call} {b : Contents} → New y n o → After o h b → Agree y n h b
agrees_after w start = agrees_new w
agrees_after w (then_call p s) = agrees_on (agrees_after w p) s

pub agrees : {y n : ℕ} {h : List Call} {b : Contents} → Follows y n h b → Agree y n h b
agrees f = agrees_after f.new f.after
