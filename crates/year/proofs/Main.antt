-- The law, from what a book that has followed a list of calls agrees with. Assumes nothing.
use Rattle.std.proofs.Common.{◌≡◌, ℕ, T, List, ◌∷◌, Ok, Err, Result, sym, refl, ap, ◌∙◌, subst, arith}
use Rattle.refusal.specs.declared.Refusal.{Refusal}
use Rattle.calendar.specs.Calendar.{year_lawful, day_lawful}
use Rattle.frame.specs.Format.{year_named, day_named}
use Rattle.record.specs.declared.raw.RawRecord.{RawRecord}
use Rattle.record.specs.Records.{record_in}
use Rattle.emission.specs.Entries.{Kept, Table}
use Rattle.months.specs.declared.state.State.{State}
use Rattle.months.specs.declared.account.Account.{Account}
use Rattle.months.specs.Accounts.{line_at}
use Rattle.calendar.specs.Months.{InMonth}
use Rattle.journal.specs.Calls.{Call, offer, withdraw, Given, entry_told}
use Rattle.journal.specs.Rules.{OfferAnswer, refused_below, other_year, not_open, full, entered, WithdrawAnswer, withdrawn}
use Rattle.journal.specs.Words.{StateIs, Taken, Stands, still, Answers, to_offer, to_withdrawal}
use Rattle.journal.specs.Contents.{Contents, Follows}
use Rattle.journal.specs.Sound.{Sound}
use Rattle.journal.proofs.Rules.{same_ok, same_err, ok_not_err, same_number}
use Rattle.journal.proofs.Refusing.{stood_withdraw}
use Rattle.journal.proofs.Withdrawing.{withdrawn_from}
use Rattle.journal.proofs.Following.{agrees}
use Rattle.journal.proofs.Agree.{Agree, answered, answers_one, mark_one}
use Rattle.journal.proofs.Sums.{line_standing, total_standing}
use Rattle.journal.proofs.SumsNear.{near, near_net}
use Rattle.journal.proofs.SumsOne.{standing_one}
use Rattle.journal.proofs.Runs.{tied}
use Rattle.year.specs.Law.{Law, Took, Refused, NamesDayOf, newest, earlier}
use Rattle.year.proofs.Dates.{offered_record, offered_year, late_offered}
use Rattle.year.proofs.Decided.{determined}
use Rattle.year.proofs.Closing.{closed_after}

-- the record of a frame that was taken is of this year
answer_year : {y n k : ℕ} {Is : ℕ → State → Type 0} {f : List ℕ} {t : Table} {e : ℕ × Kept} → OfferAnswer y n k Is f t (Ok e) → (r : RawRecord) × (Ok r ≡ record_in f) × (r.year ≡ y)
answer_year {y = y} {f = f} {t = t} (entered {e = e} o i s x) = offered_record f t y e o

-- how an offering was answered
offer_taken : {y n : ℕ} {h : List Call} {f : List ℕ} {t : Table} {g : Given} → Answers y n h (offer f t) (Ok g) → (k : ℕ) × (e : ℕ × Kept) × OfferAnswer y n k (StateIs h) f t (Ok e)
offer_taken {y = y} {n = n} {h = h} {f = f} {t = t} {g = g} (to_offer {k = k} {o = o} c p e) = go o p e
  where
    go : (o : Result (ℕ × Kept) Refusal) → OfferAnswer y n k (StateIs h) f t o → entry_told o ≡ Ok g → (k : ℕ) × (e : ℕ × Kept) × OfferAnswer y n k (StateIs h) f t (Ok e)
    go (Ok x) p e = (k, x, p)
    go (Err x) p e = absurd (ok_not_err (sym e))

offer_refused : {y n : ℕ} {h : List Call} {f : List ℕ} {t : Table} {x : Refusal} → Answers y n h (offer f t) (Err x) → (k : ℕ) × OfferAnswer y n k (StateIs h) f t (Err x)
offer_refused {y = y} {n = n} {h = h} {f = f} {t = t} {x = x} (to_offer {k = k} {o = o} c p e) = go o p e
  where
    go : (o : Result (ℕ × Kept) Refusal) → OfferAnswer y n k (StateIs h) f t o → entry_told o ≡ Err x → (k : ℕ) × OfferAnswer y n k (StateIs h) f t (Err x)
    go (Ok z) p e = absurd (ok_not_err e)
    go (Err z) p e = (k, subst (λ (r : Refusal). OfferAnswer y n k (StateIs h) f t (Err r)) (same_err e) p)

-- how a withdrawal was
withdrawal_taken : {y n : ℕ} {h : List Call} {k : ℕ} {g : Given} → Answers y n h (withdraw k) (Ok g) → (e : ℕ × Kept) × WithdrawAnswer y (StateIs h) (Stands y n h) k (Ok e)
withdrawal_taken {y = y} {n = n} {h = h} {k = k} {g = g} (to_withdrawal {o = o} p e) = go o p e
  where
    go : (o : Result (ℕ × Kept) Refusal) → WithdrawAnswer y (StateIs h) (Stands y n h) k o → entry_told o ≡ Ok g → (e : ℕ × Kept) × WithdrawAnswer y (StateIs h) (Stands y n h) k (Ok e)
    go (Ok x) p e = (x, p)
    go (Err x) p e = absurd (ok_not_err (sym e))

-- an entry stands until a withdrawal of it is taken
module _ {y n : ℕ} {h : List Call} {b : Contents} (a : Agree y n h b) where
  entry_one : (k : ℕ) (e e' : Kept) → Stands y n h k e → Stands y n h k e' → e ≡ e'
  entry_one k e e' p q = mark_one b a.fits k e e' (a.stands k e p) (a.stands k e' q)

  stays : (k j : ℕ) (e : Kept) (x : Refusal) → Stands y n h k e → Answers y n h (withdraw j) (Err x) → Stands y n (withdraw j ∷ h) k e
  stays k j e x p q =
      still p (λ w. ok_not_err (answers_one a (to_withdrawal (withdrawn (subst (λ (i : ℕ). Stands y n h i e) (sym (same_number w.is)) p) w.lies w.in_state w.not_closed) refl) q))

  leaves : (k : ℕ) (e : Kept) (g : Given) → Answers y n h (withdraw k) (Ok g) → Stands y n (withdraw k ∷ h) k e → ⊥
  leaves k e g q p =
      let s = stood_withdraw p in
      let r = withdrawal_taken q in
      let v = withdrawn_from r.1 in
      let same : r.0.1 ≡ e = entry_one k r.0.1 e v.2 s.0 in
      s.1 (record { is = refl; month = v.0; lies = subst (λ (z : Kept). InMonth y z.day v.0) same v.3; state = v.1; in_state = v.4; not_closed = v.5 })

took_year : {y n : ℕ} {f : List ℕ} {h : List Call} → Took y n f h → (r : RawRecord) × (Ok r ≡ record_in f) × (r.year ≡ y)
took_year (newest p) = answer_year (offer_taken p).2
took_year (earlier p) = took_year p

same_year : {y n : ℕ} {f : List ℕ} {h : List Call} {y₂ n₂ : ℕ} {h₂ : List Call} → Took y n f h → Took y₂ n₂ f h₂ → y ≡ y₂
same_year p q =
    let a = took_year p in
    let b = took_year q in
    sym a.2 ∙ (ap (λ (r : RawRecord). r.year) (same_ok (a.1 ∙ sym b.1)) ∙ b.2)

-- a frame in date is refused neither for its date nor for its year
in_time : {y n k : ℕ} {Is : ℕ → State → Type 0} {f : List ℕ} {t : Table} {x : Refusal} → T (year_lawful y) → NamesDayOf y f → OfferAnswer y n k Is f t (Err x) → (x.number ≡ 6 → ⊥) × (x.number ≡ 14 → ⊥)
in_time {y = y} {f = f} {t = t} {x = x} ly w (refused_below e) =
    let ty : T (year_lawful (year_named w.parts)) = subst (λ (z : ℕ). T (year_lawful z)) (sym w.year) ly in
    let td : T (day_lawful (year_named w.parts) (day_named w.parts)) = subst (λ (z : ℕ). T (day_lawful z (day_named w.parts))) (sym w.year) w.day in
    let l = (late_offered f t w.parts w.reads ty td).numbered x e in
    (λ z. omega (arith, l.0, z), λ z. omega (arith, l.1, z))
in_time {f = f} {t = t} ly w (other_year {z = z} {e = e} o n) = absurd (n (offered_year f t w.parts w.reads z e o ∙ w.year))
in_time ly w (not_open o i s n) = (λ z. omega (arith, z), λ z. omega (arith, z))
in_time ly w (full o i s n) = (λ z. omega (arith, z), λ z. omega (arith, z))

in_time_all : {y n : ℕ} {f : List ℕ} {x : Refusal} {h : List Call} → T (year_lawful y) → NamesDayOf y f → Refused y n f x h → (x.number ≡ 6 → ⊥) × (x.number ≡ 14 → ⊥)
in_time_all ly w (newest p) = in_time ly w (offer_refused p).1
in_time_all ly w (earlier p) = in_time_all ly w p

pub law : {y n : ℕ} {h : List Call} {b : Contents} → T (year_lawful y) → Sound b → Follows y n h b → Law y n h b
law {y = y} {n = n} {h = h} {b = b} ly s f =
    let a = agrees f in
    let one_entry = entry_one a in
    let one-taken : (i j : ℕ) → Taken y n h i → Taken y n h j → i ≡ j = λ i j p q. a.counted i p ∙ sym (a.counted j q) in
    record {
      determined = determined a;
      answers = λ c r b' p. answered a p;
      one_answer = λ c r r' p q. answers_one a p q;
      still = stays a;
      withdrawn = leaves a;
      lines = λ p. (let o = line_standing s (tied f) p in record { sum = o.0; standing = o.1; alone = λ s q. standing_one q o.1 one_entry one-taken; figures = o.2; near = near o.1 });
      total = (let o = total_standing s (tied f) in record { told = o; all_alone = λ x q. standing_one q o.all_is one_entry one-taken; added_alone = λ x q. standing_one q o.added_is one_entry one-taken; deducted_alone = λ x q. standing_one q o.deducted_is one_entry one-taken; near = near_net (near o.added_is) (near o.deducted_is) o.splits });
      closed = λ m i p later b' q l. ap (λ (x : Account). line_at x l) (closed_after i a (a.in_is m _ i p) q).2;
      own_year = λ g p y₂ n₂ h₂ q. same_year p q;
      in_date = λ g x w p. in_time_all ly w p;
    }
