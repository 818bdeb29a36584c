-- The grams of what stands lie near its exact emission. Assumes nothing.
use Rattle.std.proofs.Common.{◌≡◌, ℕ, ◌+◌, List, Ok, Result, sym, refl, ap, ◌∙◌, subst, arith, lit≤}
use Rattle.refusal.specs.declared.Refusal.{Refusal}
use Rattle.rounding.proofs.Laws.{holds}
use Rattle.reading.specs.Quantity.{quantities_of}
use Rattle.record.specs.declared.raw.RawRecord.{RawRecord}
use Rattle.record.specs.Records.{record_in}
use Rattle.record.proofs.Chain.{then_given, same_ok}
use Rattle.emission.specs.Parts.{parts_per_gram, grams_of}
use Rattle.emission.specs.Emission.{cod_checked, methane_checked}
use Rattle.emission.specs.Entries.{Kept, Table, asked, factor_in, kept_parts, entry_in}
use Rattle.months.specs.declared.state.State.{State}
use Rattle.journal.specs.Calls.{Call}
use Rattle.journal.specs.Rules.{offered, OfferAnswer, refused_below, other_year, not_open, full, entered}
use Rattle.journal.specs.Words.{Stands, entry, still}
use Rattle.journal.specs.Figures.{Sum, AddsUp, none, picked, passed, Standing, Near, NearNet}

-- an entry's grams are its exact emission rounded
entry_grams : (r : RawRecord) (t : Table) (e : Kept) → Ok e ≡ entry_in r t → e.grams ≡ grams_of (kept_parts e)
unfolding entry_in
entry_grams r t e is =
    let cod = then_given (cod_checked (quantities_of r.readings)) _ e is in
    let factor = then_given (factor_in (asked r) t) _ e cod.2 in
    let methane = then_given (methane_checked (quantities_of r.readings) factor.0) _ e factor.2 in
    let kept = same_ok e _ methane.2 in
    ap (λ (k : Kept). k.grams) kept ∙ sym (ap (λ (k : Kept). grams_of (kept_parts k)) kept)

offered_grams : (f : List ℕ) (t : Table) (z : ℕ) (e : Kept) → offered f t ≡ Ok (z, e) → e.grams ≡ grams_of (kept_parts e)
offered_grams f t z e is =
    let r = then_given (record_in f) _ (z, e) (sym is) in
    let k = then_given (entry_in r.0 t) _ (z, e) r.2 in
    let same : k.0 ≡ e = sym (ap (λ (p : ℕ × Kept). p.1) (same_ok (z, e) _ k.2)) in
    entry_grams r.0 t e (ap Ok (sym same) ∙ k.1)

taken_grams : {y n k : ℕ} {Is : ℕ → State → Type 0} {f : List ℕ} {t : Table} {o : Result (ℕ × Kept) Refusal} → OfferAnswer y n k Is f t o → (j : ℕ) (e : Kept) → o ≡ Ok (j, e) → e.grams ≡ grams_of (kept_parts e)
taken_grams (refused_below _) j e is = let z : ◌≡◌ {A = ℕ} 0 1 = cc in absurd (omega arith)
taken_grams (other_year _ _) j e is = let z : ◌≡◌ {A = ℕ} 0 1 = cc in absurd (omega arith)
taken_grams (not_open _ _ _ _) j e is = let z : ◌≡◌ {A = ℕ} 0 1 = cc in absurd (omega arith)
taken_grams (full _ _ _ _) j e is = let z : ◌≡◌ {A = ℕ} 0 1 = cc in absurd (omega arith)
taken_grams {y} {f = f} {t = t} (entered {e = e'} found _ _ _) j e is =
    let same : e' ≡ e = ap (λ (p : ℕ × Kept). p.1) (same_ok _ (j, e) is) in
    subst (λ (k : Kept). k.grams ≡ grams_of (kept_parts k)) same (offered_grams f t y e' found)

pub stands_grams : {y n : ℕ} {h : List Call} {k : ℕ} {e : Kept} → Stands y n h k e → e.grams ≡ grams_of (kept_parts e)
stands_grams (entry {k = k} {e = e} _ taken) = taken_grams taken k e refl
stands_grams (still stands _) = stands_grams stands

adds_near : {y n : ℕ} {h : List Call} {P : Kept → Type 0} {k : ℕ} {s : Sum} → AddsUp y n h P k s → Near s
adds_near none = record { from_below = lit≤ tt; from_above = lit≤ tt }
adds_near (picked {s = s} {e = e} sums stands _) =
    let before = adds_near sums in
    let grams = stands_grams stands in
    let half = holds (kept_parts e) parts_per_gram (lit≤ tt) in
    record { from_below = omega (arith, before.from_below, half.0); from_above = omega (arith, before.from_above, half.1) }
adds_near (passed sums _) = adds_near sums

-- half a gram for each entry
pub near : {y n : ℕ} {h : List Call} {P : Kept → Type 0} {s : Sum} → Standing y n h P s → Near s
near standing = adds_near standing.adds

pub near_net : {all added deducted : Sum} → Near added → Near deducted → all.count ≡ added.count + deducted.count → NearNet all added deducted
near_net a d splits = record { from_below = omega (arith, a.from_below, d.from_above); from_above = omega (arith, a.from_above, d.from_below) }
