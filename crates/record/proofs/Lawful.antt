-- What is known of a record that was checked. Assumes nothing.
use Rattle.std.proofs.Common.{◌≡◌, ℕ, true, Ok, Option, sym, ◌∙◌, subst}
use Rattle.calendar.specs.Calendar.{year_lawful, day_lawful}
use Rattle.calendar.specs.Faults.{year_in, day_in}
use Rattle.reading.specs.declared.sets.ReadingSet.{ReadingSet}
use Rattle.reading.specs.Limited.{lawful_set}
use Rattle.reading.specs.Layout.{shape_of}
use Rattle.record.specs.declared.raw.RawRecord.{RawRecord}
use Rattle.kind.specs.Subject.{kind_known, kind_in, tier_known, tier_in, shape_in}
use Rattle.record.specs.Rules.{Head, head_in, same_shape, share_lawful}
use Rattle.record.specs.Records.{completed, checked}
use Rattle.record.proofs.Chain.{then_ok, then_given, cond_given, same_ok}

-- the year, day, kind, item and tier are lawful
pub record Headed (year day kind item tier : ℕ) : Type 0 where
  pub year_ok : year_lawful year ≡ true
  pub day_ok : day_lawful year day ≡ true
  pub kind_ok : kind_known kind item ≡ true
  pub tier_ok : tier_known tier ≡ true

-- so are the readings and the share, for that kind and item
pub record Filled (kind item : ℕ) (set : ReadingSet) (share : Option ℕ) : Type 0 where
  pub shape_ok : same_shape (shape_of set) (shape_in kind item) ≡ true
  pub set_ok : lawful_set set ≡ true
  pub share_ok : share_lawful kind share ≡ true

abbrev pub head : (year day kind item tier : ℕ) → Head
head year day kind item tier = record { year = year; day = day; kind = kind; item = item; tier = tier }

pub headed : (y d k i t : ℕ) (h : Head) → Ok h ≡ head_in y d k i t → (h ≡ head y d k i t) × Headed y d k i t
headed y d k i t h e =
    let a = then_given (year_in y) _ h e in
    let ya = cond_given (year_lawful y) (Ok y) _ a.0 a.1 in
    let ye = same_ok a.0 y ya.1 in
    let b = then_given (day_in a.0 d) _ h a.2 in
    let db = cond_given (day_lawful a.0 d) (Ok (a.0, d)) _ b.0 b.1 in
    let de = same_ok b.0 (a.0, d) db.1 in
    let c = then_given (kind_in k i) _ h b.2 in
    let kc = cond_given (kind_known k i) (Ok (k, i)) _ c.0 c.1 in
    let ke = same_ok c.0 (k, i) kc.1 in
    let f = then_given (tier_in t) _ h c.2 in
    let tf = cond_given (tier_known t) (Ok t) _ f.0 f.1 in
    let te = same_ok f.0 t tf.1 in (
      same_ok h _ f.2 ∙ (λ j. record { year = (de j).0; day = (de j).1; kind = (ke j).0; item = (ke j).1; tier = te j }) ∙ (λ j. record { year = ye j; day = d; kind = k; item = i; tier = t }),
      record { year_ok = ya.0; day_ok = subst (λ z. day_lawful z d ≡ true) ye db.0; kind_ok = kc.0; tier_ok = tf.0 },
    )

pub head_is : (y d k i t : ℕ) → Headed y d k i t → Ok (head y d k i t) ≡ head_in y d k i t
head_is y d k i t h = simp (h.year_ok, h.day_ok, h.kind_ok, h.tier_ok)

abbrev pub raw_with : Head → ReadingSet → Option ℕ → RawRecord
raw_with h set share = record { year = h.year; day = h.day; kind = h.kind; item = h.item; tier = h.tier; share = share; readings = set }

pub filled : (h : Head) (set : ReadingSet) (share : Option ℕ) (r : RawRecord) → Ok r ≡ completed h set share → (r ≡ raw_with h set share) × Filled h.kind h.item set share
filled h set share r e =
    let a = cond_given (same_shape (shape_of set) (shape_in h.kind h.item)) _ _ r e in
    let b = cond_given (lawful_set set) _ _ r a.1 in
    let c = cond_given (share_lawful h.kind share) _ _ r b.1 in
    (same_ok r _ c.1, record { shape_ok = a.0; set_ok = b.0; share_ok = c.0 })

pub completed_is : (h : Head) (set : ReadingSet) (share : Option ℕ) → Filled h.kind h.item set share → Ok (raw_with h set share) ≡ completed h set share
completed_is h set share f = simp (f.shape_ok, f.set_ok, f.share_ok)

-- a record that passed is the record stated
pub record Passed (r : RawRecord) : Type 0 where
  pub heading : Headed r.year r.day r.kind r.item r.tier
  pub rest : Filled r.kind r.item r.readings r.share

pub passed : (r s : RawRecord) → Ok s ≡ checked r → (s ≡ r) × Passed r
unfolding checked
passed r s e =
    let a = then_given (head_in r.year r.day r.kind r.item r.tier) _ s e in
    let h = headed r.year r.day r.kind r.item r.tier a.0 a.1 in
    let c = subst (λ x. Ok s ≡ completed x r.readings r.share) h.0 a.2 in
    let f = filled (head r.year r.day r.kind r.item r.tier) r.readings r.share s c in
    (f.0, record { heading = h.1; rest = f.1 })

pub checked_is : (r : RawRecord) → Passed r → checked r ≡ Ok r
unfolding checked
checked_is r p =
    then_ok _ _ _ (head_is r.year r.day r.kind r.item r.tier p.heading)
    ∙ sym (completed_is (head r.year r.day r.kind r.item r.tier) r.readings r.share p.rest)
