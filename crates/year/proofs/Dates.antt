-- Which refusals a frame can have that names a lawful day, and which year a taken frame names. Assumes nothing.
use Rattle.std.proofs.Common.{◌≡◌, ℕ, ◌-◌, ◌*◌, ◌≤◌, Bool, true, false, cond, T, leb, List, Some, None, Ok, Err, Option, Result, sym, ap, ◌∙◌, subst, lit≤}
use lib.Ieee.Bits.{is_true}
use Rattle.refusal.specs.declared.Refusal.{Refusal}
use Rattle.refusal.specs.Said.{then}
use Rattle.calendar.specs.Calendar.{year_lawful, day_lawful}
use Rattle.kind.specs.Subject.{kind_in, tier_in, kind_known, tier_known, shape_in}
use Rattle.reading.specs.declared.sets.ReadingSet.{ReadingSet}
use Rattle.reading.specs.declared.sets.Quantities.{Quantities}
use Rattle.reading.specs.declared.sets.Quantities.TheVariants.{Amount, Water, Steam, Wastewater}
use Rattle.reading.specs.Quantity.{quantities_of}
use Rattle.reading.specs.Limited.{lawful_set}
use Rattle.reading.specs.Layout.{shape_of}
use Rattle.frame.specs.Format.{Parts, year_named, day_named, share_named}
use Rattle.factor.specs.declared.question.Factor.{Factor}
use Rattle.factor.specs.Questions.{Asked}
use Rattle.record.specs.declared.raw.RawRecord.{RawRecord}
use Rattle.record.specs.Rules.{Head, head_in, same_shape, share_lawful}
use Rattle.record.specs.Records.{record_in, record_by, with_set, completed}
use Rattle.record.proofs.Chain.{then_given}
use Rattle.record.proofs.Lawful.{headed, filled}
use Rattle.calendar.specs.Months.{InMonth}
use Rattle.calendar.proofs.Places.{one_month}
use Rattle.emission.specs.Emission.{cod_checked, methane_checked, cod_of, rate_of}
use Rattle.emission.specs.Entries.{Kept, Table, asked, factor_in, held, entry_in}
use Rattle.frame.specs.Reading.{frame_of}
use Rattle.journal.specs.Rules.{offered}
use Rattle.journal.proofs.Rules.{ok_not_err, same_ok, same_err}

-- a refusal with a number from 7 to 13, if there is one
pub record Late {A : Type 0} (r : Result A Refusal) : Type 0 where
  pub numbered : (x : Refusal) → r ≡ Err x → (7 ≤ x.number) × (x.number ≤ 13)

late_ok : {A : Type 0} (a : A) → Late (Ok a)
late_ok a = record { numbered = λ x e. absurd (ok_not_err e) }

late_err : {A : Type 0} (r : Refusal) → 7 ≤ r.number → r.number ≤ 13 → Late {A = A} (Err r)
late_err r p q = record { numbered = λ x e. (let s : r ≡ x = same_err e in (subst (λ (z : Refusal). 7 ≤ z.number) s p, subst (λ (z : Refusal). z.number ≤ 13) s q)) }

late_then : {A B : Type 0} (r : Result A Refusal) (go : A → Result B Refusal) → Late r → ((a : A) → Late (go a)) → Late (then r go)
late_then (Ok a) go p q = q a
late_then (Err z) go p q = record { numbered = λ x e. p.numbered x (ap Err (same_err e)) }

late_cond : {A : Type 0} (b : Bool) (p q : Result A Refusal) → Late p → Late q → Late (cond b p q)
late_cond true p q u v = u
late_cond false p q u v = v

late_completed : (h : Head) (s : ReadingSet) (share : Option ℕ) → Late (completed h s share)
late_completed h s share =
    late_cond (same_shape (shape_of s) (shape_in h.kind h.item)) _ _
    (late_cond (lawful_set s) _ _
    (late_cond (share_lawful h.kind share) _ _ (late_ok _) (late_err _ (lit≤ tt) (lit≤ tt)))
    (late_err _ (lit≤ tt) (lit≤ tt)))
    (late_err _ (lit≤ tt) (lit≤ tt))

late_set : (h : Head) (share : Option ℕ) (o : Option ReadingSet) → Late (with_set h share o)
late_set h share None = late_err _ (lit≤ tt) (lit≤ tt)
late_set h share (Some s) = late_completed h s share

late_head : (y d kind item tier : ℕ) → T (year_lawful y) → T (day_lawful y d) → Late (head_in y d kind item tier)
late_head y d kind item tier ty td =
    rw (is_true (year_lawful y) ty) (rw (is_true (day_lawful y d) td)
    (late_then (kind_in kind item) _ (late_cond (kind_known kind item) _ _ (late_ok _) (late_err _ (lit≤ tt) (lit≤ tt)))
    (λ k. late_then (tier_in tier) _ (late_cond (tier_known tier) _ _ (late_ok _) (late_err _ (lit≤ tt) (lit≤ tt))) (λ t. late_ok _))))

-- a frame's record
pub late_record : (p : Parts) → T (year_lawful (year_named p)) → T (day_lawful (year_named p) (day_named p)) → Late (record_by p)
unfolding record_by
late_record p ty td = late_then (head_in (year_named p) (day_named p) p.kind p.item p.tier) _ (late_head (year_named p) (day_named p) p.kind p.item p.tier ty td) (λ h. late_set h (share_named p) _)

late_cod : (q : Quantities) → Late (cod_checked q)
late_cod (Amount q) = late_ok tt
late_cod (Water w) = late_ok tt
late_cod (Steam s) = late_ok tt
late_cod (Wastewater w) = late_cond (leb w.outlet w.inlet) _ _ (late_cond (leb (1000 * w.sludge) (w.cubic_metres * (w.inlet - w.outlet))) _ _ (late_ok tt) (late_err _ (lit≤ tt) (lit≤ tt))) (late_err _ (lit≤ tt) (lit≤ tt))

late_methane : (q : Quantities) (f : Option Factor) → Late (methane_checked q f)
late_methane (Amount q) f = late_ok tt
late_methane (Water w) f = late_ok tt
late_methane (Steam s) f = late_ok tt
late_methane (Wastewater w) f = late_cond (leb (w.recovered * 100000000) (cod_of w * rate_of f)) _ _ (late_ok tt) (late_err _ (lit≤ tt) (lit≤ tt))

late_held : (o : Option Factor) → Late (held o)
late_held None = late_err _ (lit≤ tt) (lit≤ tt)
late_held (Some f) = late_ok (Some f)

late_factor : (o : Option Asked) (t : Table) → Late (factor_in o t)
late_factor None t = late_ok None
late_factor (Some a) t = late_held (t a)

-- its entry
pub late_entry : (r : RawRecord) (t : Table) → Late (entry_in r t)
unfolding entry_in
late_entry r t =
    late_then (cod_checked (quantities_of r.readings)) _ (late_cod (quantities_of r.readings))
    (λ u. late_then (factor_in (asked r) t) _ (late_factor (asked r) t)
    (λ f. late_then (methane_checked (quantities_of r.readings) f) _ (late_methane (quantities_of r.readings) f) (λ v. late_ok _)))

-- a record has the date that its frame names, and a lawful one
pub record Dated (y d : ℕ) (r : RawRecord) : Type 0 where
  pub year : r.year ≡ y
  pub day : r.day ≡ d
  pub year_ok : year_lawful y ≡ true
  pub day_ok : day_lawful y d ≡ true

set_dated : (h : Head) (share : Option ℕ) (o : Option ReadingSet) (r : RawRecord) → Ok r ≡ with_set h share o → (r.year ≡ h.year) × (r.day ≡ h.day)
set_dated h share None r e = absurd (ok_not_err e)
set_dated h share (Some s) r e = let q = (filled h s share r e).0 in (ap (λ (x : RawRecord). x.year) q, ap (λ (x : RawRecord). x.day) q)

record_dated : (p : Parts) (r : RawRecord) → Ok r ≡ record_by p → Dated (year_named p) (day_named p) r
unfolding record_by
record_dated p r e =
    let a = then_given (head_in (year_named p) (day_named p) p.kind p.item p.tier) _ r e in
    let h = headed (year_named p) (day_named p) p.kind p.item p.tier a.0 a.1 in
    let d = set_dated a.0 (share_named p) _ r a.2 in
    record { year = d.0 ∙ ap (λ (x : Head). x.year) h.0; day = d.1 ∙ ap (λ (x : Head). x.day) h.0; year_ok = h.1.year_ok; day_ok = h.1.day_ok }

entry_day : (r : RawRecord) (t : Table) (e : Kept) → Ok e ≡ entry_in r t → e.day ≡ r.day
unfolding entry_in
entry_day r t e is =
    let cod = then_given (cod_checked (quantities_of r.readings)) _ e is in
    let factor = then_given (factor_in (asked r) t) _ e cod.2 in
    let methane = then_given (methane_checked (quantities_of r.readings) factor.0) _ e factor.2 in
    ap (λ (k : Kept). k.day) (same_ok methane.2)

-- what is offered has a record, whose year is the one told
pub offered_record : (f : List ℕ) (t : Table) (z : ℕ) (e : Kept) → offered f t ≡ Ok (z, e) → (r : RawRecord) × (Ok r ≡ record_in f) × (r.year ≡ z)
offered_record f t z e h =
    let a = then_given (record_in f) _ (z, e) (sym h) in
    let b = then_given (entry_in a.0 t) _ (z, e) a.2 in
    (a.0, a.1, sym (ap (λ (x : ℕ × Kept). x.0) (same_ok b.2)))

pub offered_year : (f : List ℕ) (t : Table) (p : Parts) → frame_of f ≡ Ok p → (z : ℕ) (e : Kept) → offered f t ≡ Ok (z, e) → z ≡ year_named p
offered_year f t p reads z e h =
    let a = offered_record f t z e h in
    sym a.2 ∙ (record_dated p a.0 (a.1 ∙ ap (λ (x : Result Parts Refusal). then x record_by) reads)).year

-- what is offered lies in a month
pub offered_month : (f : List ℕ) (t : Table) (z : ℕ) (e : Kept) → offered f t ≡ Ok (z, e) → (m : ℕ) × InMonth z e.day m
offered_month f t z e h =
    let a = then_given (record_in f) _ (z, e) (sym h) in
    let b = then_given (entry_in a.0 t) _ (z, e) a.2 in
    let both : (z, e) ≡ (a.0.year, b.0) = same_ok b.2 in
    let p = then_given (frame_of f) record_by a.0 a.1 in
    let d = record_dated p.0 a.0 p.2 in
    let year_is : year_named p.0 ≡ z = sym d.year ∙ sym (ap (λ (x : ℕ × Kept). x.0) both) in
    let day-is : day_named p.0 ≡ e.day = sym d.day ∙ (sym (entry_day a.0 t b.0 b.1) ∙ sym (ap (λ (x : ℕ × Kept). x.1.day) both)) in
    let o = one_month (year_named p.0) (day_named p.0) (subst T (sym d.year_ok) tt) (subst T (sym d.day_ok) tt) in
    (o.0, subst (λ (x : ℕ). InMonth x e.day o.0) year_is (subst (λ (x : ℕ). InMonth (year_named p.0) x o.0) day-is o.1.holds))

pub late_offered : (f : List ℕ) (t : Table) (p : Parts) → frame_of f ≡ Ok p → T (year_lawful (year_named p)) → T (day_lawful (year_named p) (day_named p)) → Late (offered f t)
late_offered f t p reads ty td =
    late_then (record_in f) _ (subst (λ (x : Result Parts Refusal). Late (then x record_by)) (sym reads) (late_record p ty td))
    (λ r. late_then (entry_in r t) _ (late_entry r t) (λ e. late_ok _))
