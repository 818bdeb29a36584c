-- Records and frames, there and back. Assumes nothing.
use Rattle.std.proofs.Common.{◌≡◌, ℕ, suc, ◌+◌, ◌*◌, ◌/◌, ◌%◌, ◌<◌, true, T, leb, List, [], ◌∷◌, ◌++◌, length, get_or, take, drop, IfOk, Some, None, Ok, Err, Option, Result, sym, refl, ap, ◌∙◌, subst, arith, w8, Fits}
use Rattle.std.proofs.lemmas.Bool.{eqb-true, le-leb, leb-true}
use Rattle.std.proofs.lemmas.List.{take_at}
use Rattle.std.proofs.ByRecursion.{All-get_or}
use Rattle.refusal.specs.declared.Refusal.{Refusal}
use Rattle.refusal.specs.Said.{said}
use Rattle.frame.specs.Format.{Parts, field, optional, optional_fits, named, written, word, year_named, day_named, share_named, number_in, name_answers}
use Rattle.frame.specs.Reading.{frame_of, name_by, name_of}
use Rattle.frame.proofs.Sizes.{measured}
use Rattle.frame_laws.specs.Runs.{Bytes}
use Rattle.frame_laws.proofs.Main.{written_reads, read_writes}
use Rattle.reading.specs.declared.sets.ReadingSet.{ReadingSet}
use Rattle.reading.specs.declared.sets.Shape.{Shape}
use Rattle.reading.specs.declared.sets.Shape.TheVariants.{Amount, Water, Steam, Wastewater}
use Rattle.reading.specs.Layout.{Held, shape_of, set_in, set_bytes}
use Rattle.reading.proofs.Joined.{read_back, written_back}
use Rattle.record.specs.declared.raw.RawRecord.{RawRecord}
use Rattle.kind.specs.Subject.{shape_in}
use Rattle.record.specs.Rules.{Head, head_in, same_shape}
use Rattle.record.specs.Records.{completed, checked, with_set, record_by, record_in, two_bytes, share_bytes, parts_for, record_bytes, fitted, write_says, left}
use Rattle.record.specs.declared.fault.RecordFault.{RecordFault}
use Rattle.record.specs.Faults.{refusal_of}
use Rattle.record.proofs.Chain.{then_ok, then_given, cond_given, same_ok}
use Rattle.record.proofs.Lawful.{Headed, Filled, head, headed, head_is, raw_with, filled, completed_is, Passed, passed, checked_is}
use Rattle.record.proofs.Writing.{sound_for}
use Rattle.record_laws.specs.Laws as laws

-- ---- numbers in two bytes

two_back : (n : ℕ) → n / 256 * 256 + n % 256 ≡ n
two_back n = omega arith

share_back : (s : Option ℕ) → number_in (share_bytes s) ≡ s
share_back None = refl
share_back (Some s) = ap Some (two_back s)

high : (a b : ℕ) → b < 256 → (a * 256 + b) / 256 ≡ a
high a b h = omega arith

low : (a b : ℕ) → b < 256 → (a * 256 + b) % 256 ≡ b
low a b h = omega arith

four_back : (bs : List ℕ) → length bs ≡ 4 → Bytes bs → two_bytes (word bs 0) ++ two_bytes (word bs 2) ≡ bs
four_back [] h a = absurd (omega arith)
four_back (p ∷ []) h a = absurd (omega arith)
four_back (p ∷ q ∷ []) h a = absurd (omega arith)
four_back (p ∷ q ∷ r ∷ []) h a = absurd (omega arith)
four_back (p ∷ q ∷ r ∷ s ∷ []) h a = let lq : q < 256 = a.1.0 in let ls : s < 256 = a.1.1.1.0 in λ i. high p q lq i ∷ low p q lq i ∷ high r s ls i ∷ low r s ls i ∷ []
four_back (p ∷ q ∷ r ∷ s ∷ t ∷ bs) h a = absurd (omega arith)

pair_back : (bs : List ℕ) → length bs ≡ 2 → Bytes bs → two_bytes (word bs 0) ≡ bs
pair_back [] h a = absurd (omega arith)
pair_back (p ∷ []) h a = absurd (omega arith)
pair_back (p ∷ q ∷ []) h a = let lq : q < 256 = a.1.0 in λ i. high p q lq i ∷ low p q lq i ∷ []
pair_back (p ∷ q ∷ r ∷ bs) h a = absurd (omega arith)

optional_back : (o : Option (List ℕ)) → optional_fits 6 o ≡ true → Bytes (optional 6 o) → share_bytes (number_in o) ≡ o
optional_back None f a = refl
optional_back (Some bs) f a = ap Some (pair_back bs (eqb-true (length bs) 2 f) a.1.1.1)

-- ---- shapes

shape_is_same : (a b : Shape) → same_shape a b ≡ true → a ≡ b
shape_is_same Amount Amount e = refl
shape_is_same Amount Water e = let z : ◌≡◌ {A = ℕ} 0 1 = cc in absurd (omega arith)
shape_is_same Amount Steam e = let z : ◌≡◌ {A = ℕ} 0 1 = cc in absurd (omega arith)
shape_is_same Amount Wastewater e = let z : ◌≡◌ {A = ℕ} 0 1 = cc in absurd (omega arith)
shape_is_same Water Amount e = let z : ◌≡◌ {A = ℕ} 0 1 = cc in absurd (omega arith)
shape_is_same Water Water e = refl
shape_is_same Water Steam e = let z : ◌≡◌ {A = ℕ} 0 1 = cc in absurd (omega arith)
shape_is_same Water Wastewater e = let z : ◌≡◌ {A = ℕ} 0 1 = cc in absurd (omega arith)
shape_is_same Steam Amount e = let z : ◌≡◌ {A = ℕ} 0 1 = cc in absurd (omega arith)
shape_is_same Steam Water e = let z : ◌≡◌ {A = ℕ} 0 1 = cc in absurd (omega arith)
shape_is_same Steam Steam e = refl
shape_is_same Steam Wastewater e = let z : ◌≡◌ {A = ℕ} 0 1 = cc in absurd (omega arith)
shape_is_same Wastewater Amount e = let z : ◌≡◌ {A = ℕ} 0 1 = cc in absurd (omega arith)
shape_is_same Wastewater Water e = let z : ◌≡◌ {A = ℕ} 0 1 = cc in absurd (omega arith)
shape_is_same Wastewater Steam e = let z : ◌≡◌ {A = ℕ} 0 1 = cc in absurd (omega arith)
shape_is_same Wastewater Wastewater e = refl

-- ---- written, then read

pub record_back : (r : RawRecord) (name : List ℕ) → Held r.readings → Passed r → record_by (parts_for r name) ≡ Ok r
unfolding record_by
record_back r name held p =
    let q = parts_for r name in
    let h = head r.year r.day r.kind r.item r.tier in
    let e : Ok h ≡ head_in (year_named q) (day_named q) r.kind r.item r.tier =
    head_is r.year r.day r.kind r.item r.tier p.heading ∙ sym (λ i. head_in (two_back r.year i) (two_back r.day i) r.kind r.item r.tier) in
    let shape : shape_of r.readings ≡ shape_in r.kind r.item = shape_is_same _ _ p.rest.shape_ok in
    let set : set_in (shape_in r.kind r.item) (set_bytes r.readings) ≡ Some r.readings = ap (λ s. set_in s (set_bytes r.readings)) (sym shape) ∙ written_back r.readings held in
    then_ok _ _ h e ∙ ((λ i. with_set h (share_back r.share i) (set i)) ∙ sym (completed_is h r.readings r.share p.rest))

pub written_back_again : laws.WrittenReads
written_back_again r name held c n =
    let p = (passed r r (sym c)).1 in
    let f = written_reads (parts_for r name) (sound_for r name (le-leb (length name) 16 n)) in
    (then_ok _ _ _ (sym f) ∙ record_back r name held p, ap name_by f)

-- ---- read, then written

set_given : (h : Head) (share : Option ℕ) (o : Option ReadingSet) (r : RawRecord) → Ok r ≡ with_set h share o → (set : ReadingSet) × (o ≡ Some set) × (Ok r ≡ completed h set share)
set_given h share None r e = let z : ◌≡◌ {A = ℕ} 0 1 = cc in absurd (omega arith)
set_given h share (Some set) r e = (set, refl, e)

-- what is known of parts that a record was read from
pub record Source (p : Parts) (r : RawRecord) : Type 0 where
  pub set : ReadingSet
  pub read : set_in (shape_in p.kind p.item) p.readings ≡ Some set
  pub is : r ≡ raw_with (head (year_named p) (day_named p) p.kind p.item p.tier) set (share_named p)
  pub heading : Headed (year_named p) (day_named p) p.kind p.item p.tier
  pub rest : Filled p.kind p.item set (share_named p)

source : (p : Parts) (r : RawRecord) → Ok r ≡ record_by p → Source p r
unfolding record_by
source p r e =
    let a = then_given (head_in (year_named p) (day_named p) p.kind p.item p.tier) _ r e in
    let h = headed (year_named p) (day_named p) p.kind p.item p.tier a.0 a.1 in
    let g = head (year_named p) (day_named p) p.kind p.item p.tier in
    let w = subst (λ x. Ok r ≡ with_set x (share_named p) (set_in (shape_in x.kind x.item) p.readings)) h.0 a.2 in
    let s = set_given g (share_named p) (set_in (shape_in p.kind p.item) p.readings) r w in
    let f = filled g s.0 (share_named p) r s.2 in
    record { set = s.0; read = s.1; is = f.0; heading = h.1; rest = f.1 }

all_left : (xs ys : List ℕ) → Bytes (xs ++ ys) → Bytes xs × Bytes ys
all_left [] ys a = (tt, a)
all_left (x ∷ xs) ys a = let b = all_left xs ys a.1 in ((a.0, b.0), b.1)

-- the bytes of the parts of a frame
record Whole (p : Parts) : Type 0 where
  when : Bytes p.when
  readings : Bytes p.readings
  share : Bytes (optional 6 p.share)

whole : (p : Parts) → Bytes (written p) → Whole p
unfolding written
whole p a =
    let t6 = optional 6 p.share ++ optional 7 (named p.name) in
    let t5 = field 5 p.readings ++ t6 in
    let t4 = field 4 (p.tier ∷ []) ++ t5 in
    let t3 = field 3 (p.item ∷ []) ++ t4 in
    let b1 = all_left (field 1 p.when) (field 2 (p.kind ∷ []) ++ t3) a in
    let b2 = all_left (field 2 (p.kind ∷ [])) t3 b1.1 in
    let b3 = all_left (field 3 (p.item ∷ [])) t4 b2.1 in
    let b4 = all_left (field 4 (p.tier ∷ [])) t5 b3.1 in
    let b5 = all_left (field 5 p.readings) t6 b4.1 in
    let b6 = all_left (optional 6 p.share) (optional 7 (named p.name)) b5.1 in
    record { when = b1.0.1.1.1; readings = b5.0.1.1.1; share = b6.0 }

pub same_frame : laws.ReadWrites
same_frame bs r name a (e, n) =
    let f = then_given (frame_of bs) record_by r (sym e) in
    let p = f.0 in
    let w = read_writes bs p a (sym f.1) in
    let m = measured p w.1 in
    let b = whole p (subst Bytes (sym w.0) a) in
    let s = source p r f.2 in
    let named-is : p.name ≡ name = (let g = ap name_by f.1 ∙ n in cc) in
    let set_is : set_bytes s.set ≡ p.readings =
    read_back (shape_in p.kind p.item) p.readings s.set (λ k l. All-get_or (λ x. x < 256) p.readings k 0 l b.readings) s.read (subst T (sym s.rest.set_ok) tt) in
    ap (λ x. record_bytes x name) s.is
    ∙ (ap written (λ i. record {
      when = four_back p.when m.when_4 b.when i;
      kind = p.kind;
      item = p.item;
      tier = p.tier;
      readings = set_is i;
      share = optional_back p.share m.share_fits b.share i;
      name = sym named-is i;
    })
    ∙ w.0)

pub lawful_read : laws.ReadLawful
lawful_read bs r e =
    let f = then_given (frame_of bs) record_by r (sym e) in
    let s = source f.0 r f.2 in
    subst (λ x. checked x ≡ Ok x) (sym s.is) (checked_is _ (record { heading = s.heading; rest = s.rest }))

-- ---- the calls

-- a lawful record with a short name is written as its frame fits
says_fitted : (r s : RawRecord) (name : List ℕ) (room : ℕ) → Ok tt ≡ name_answers name → Ok s ≡ checked r → write_says r name room ≡ fitted (length (record_bytes r name)) room
unfolding write_says
says_fitted r s name room n c = then_ok _ _ tt n ∙ then_ok _ _ s c

pub copied : (bs old : List ℕ) (r : RawRecord) (name : List ℕ) (o : Result ℕ Refusal) (out : List ℕ) → Bytes bs → Ok r ≡ record_in bs → Ok name ≡ name_of bs
    → o ≡ write_says r name (length old) → out ≡ left (record_bytes r name) old (write_says r name (length old))
    → (o ≡ laws.copy_says bs (length old)) × (out ≡ left bs old (laws.copy_says bs (length old)))
copied bs old r name o out a e n w l =
    let f = then_given (frame_of bs) record_by r e in
    let p = f.0 in
    let m = measured p (read_writes bs p a (sym f.1)).1 in
    let named-is : p.name ≡ name = (let g = ap name_by f.1 ∙ sym n in cc) in
    let short : Ok tt ≡ name_answers name = (let h : leb (length name) 16 ≡ true = subst (λ v. leb (length v) 16 ≡ true) named-is (le-leb (length p.name) 16 m.name_16) in simp h) in
    let same = same_frame bs r name a (sym e, sym n) in
    let says : write_says r name (length old) ≡ laws.copy_says bs (length old) =
    says_fitted r r name (length old) short (sym (lawful_read bs r (sym e))) ∙ (ap (λ v. fitted (length v) (length old)) same ∙ sym (then_ok (record_in bs) (λ _. fitted (length bs) (length old)) r e)) in
    (w ∙ says, l ∙ (λ i. left (same i) old (says i)))

pub wrote_back : (r : RawRecord) (name old out : List ℕ) (o : Result ℕ RecordFault) → IfOk o (λ _. Held r.readings) → said (λ n. n) refusal_of o ≡ write_says r name (length old)
    → out ≡ left (record_bytes r name) old (write_says r name (length old)) → IfOk o (λ n. laws.ReadsBack r name (take n out))
unfolding write_says
wrote_back r name old out (Err e) held w l = tt
wrote_back r name old out (Ok n) held w l =
    let a = then_given (name_answers name) _ n w in
    let s = (cond_given (leb (length name) 16) (Ok tt) _ a.0 a.1).0 in
    let b = then_given (checked r) _ n a.2 in
    let c = passed r b.0 b.1 in
    let d = cond_given (leb (length (record_bytes r name)) (length old)) (Ok (length (record_bytes r name))) _ n b.2 in
    let is : n ≡ length (record_bytes r name) = same_ok n (length (record_bytes r name)) d.1 in
    let cut : take n out ≡ record_bytes r name = rw (l ∙ ap (left (record_bytes r name) old) (sym w)) (take_at (record_bytes r name) (drop n old) n (sym is)) in
    subst (laws.ReadsBack r name) (sym cut) (written_back_again r name held (checked_is r c.1) (leb-true (length name) 16 s))

-- the bytes of a slice, as its type has them
pub all_bytes : (xs : List ℕ) → ((i : ℕ) → Fits w8 (get_or xs i 0)) → Bytes xs
all_bytes [] h = tt
all_bytes (x ∷ xs) h = (let f = h 0 in omega arith, all_bytes xs (λ i. h (suc i)))
