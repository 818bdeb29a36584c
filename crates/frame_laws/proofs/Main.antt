-- The laws of frames. Assumes nothing.
use Rattle.std.proofs.Common.{◌≡◌, ℕ, suc, ◌+◌, ◌≤◌, Bool, true, false, cond, ◌||◌, eqb, ◌⊎◌, List, [], ◌∷◌, ◌++◌, length, is_some, Some, None, Ok, Err, Option, sym, refl, ap, ◌∙◌, subst, inl, inr, zero-add, arith}
use Rattle.std.proofs.lemmas.List.{append-nil}
use Rattle.refusal.specs.declared.Refusal.{Refusal}
use Rattle.refusal.specs.declared.Layer.TheVariants.{Frame}
use Rattle.refusal.specs.Said.{refusal}
use Rattle.std.proofs.lemmas.Bool.{le-leb}
use Rattle.frame.specs.Format.{length_fits, field, optional, optional_fits, named, Parts, written, sound}
use Rattle.frame.specs.Reading.{Told, put, whole, nothing, frame_of}
use Rattle.frame.proofs.Sizes.{measured}
use Rattle.frame.proofs.Run.{reads_end, reads_refused}
use Rattle.frame_laws.specs.Runs.{Bytes, Field, Rising, laid, last, has, first_missing}
use Rattle.frame_laws.specs.Laws.{Accepts, Refuses, RefusesAsFrame, Faulty}
use Rattle.frame_laws.proofs.Split.{tell, came, reads_run, fault_front}
use Rattle.frame_laws.proofs.Canon.{laid_wr, sized_run, whole_written}

-- ---- what is written is read

one : ℕ → List ℕ → Field
one tag bs = record { tag = tag; bytes = bs }

run_option : ℕ → Option (List ℕ) → List Field
run_option tag None = []
run_option tag (Some bs) = one tag bs ∷ []

run_of : Parts → List Field
run_of p = one 1 p.when ∷ one 2 (p.kind ∷ []) ∷ one 3 (p.item ∷ []) ∷ one 4 (p.tier ∷ []) ∷ one 5 p.readings ∷ (run_option 6 p.share ++ run_option 7 (named p.name))

laid_run : (p : Parts) → laid (run_of p) ≡ written p
unfolding run_of run_option one written
laid_run p = go p.share p.name
  where
    go : (s : Option (List ℕ)) (n : List ℕ)
        → laid (one 1 p.when ∷ one 2 (p.kind ∷ []) ∷ one 3 (p.item ∷ []) ∷ one 4 (p.tier ∷ []) ∷ one 5 p.readings ∷ (run_option 6 s ++ run_option 7 (named n)))
        ≡ field 1 p.when ++ (field 2 (p.kind ∷ []) ++ (field 3 (p.item ∷ []) ++ (field 4 (p.tier ∷ []) ++ (field 5 p.readings ++ (optional 6 s ++ optional 7 (named n))))))
    go None [] = refl
    go None (b ∷ bs) = simp (append-nil bs)
    go (Some s) [] = simp (append-nil s)
    go (Some s) (b ∷ bs) = simp (append-nil bs)

name_fits : (n : ℕ) → 1 ≤ n → n ≤ 16 → length_fits 7 n ≡ true
name_fits n h l = simp (le-leb 1 n h, le-leb n 16 l)

rising_run : (p : Parts) → sound p ≡ true → Rising 0 (run_of p)
unfolding run_of run_option one
rising_run p h =
    let m = measured p h in (
      refl,
      omega arith,
      rw m.when_4 refl,
      (
        refl,
        omega arith,
        refl,
        (
          refl,
          omega arith,
          refl,
          (
            refl,
            omega arith,
            refl,
            (
              refl,
              omega arith,
              m.readings_fit,
              go p.share p.name m.share_fits m.name_16,
            ),
          ),
        ),
      ),
    )
  where
    go : (s : Option (List ℕ)) (n : List ℕ) → optional_fits 6 s ≡ true → length n ≤ 16 → Rising 5 (run_option 6 s ++ run_option 7 (named n))
    go None [] f l = tt
    go None (b ∷ bs) f l = (refl, omega arith, name_fits (suc (length bs)) (omega arith) l, tt)
    go (Some s) [] f l = (refl, omega arith, f, tt)
    go (Some s) (b ∷ bs) f l = (refl, omega arith, f, (refl, omega arith, name_fits (suc (length bs)) (omega arith) l, tt))

whole_run : (p : Parts) → whole (tell nothing (run_of p)) ≡ Ok p
unfolding run_of run_option one
whole_run p = go p.share p.name
  where
    go : (s : Option (List ℕ)) (n : List ℕ)
        → whole (tell nothing (one 1 p.when ∷ one 2 (p.kind ∷ []) ∷ one 3 (p.item ∷ []) ∷ one 4 (p.tier ∷ []) ∷ one 5 p.readings ∷ (run_option 6 s ++ run_option 7 (named n))))
        ≡ Ok (record { when = p.when; kind = p.kind; item = p.item; tier = p.tier; readings = p.readings; share = s; name = n })
    go None [] = refl
    go None (b ∷ bs) = refl
    go (Some s) [] = refl
    go (Some s) (b ∷ bs) = refl

-- a rising run alone is read as what it tells
run_whole : (fs : List Field) → Rising 0 fs → frame_of (laid fs) ≡ whole (tell nothing fs)
run_whole fs r =
    let e = append-nil (laid fs) in
    let s = reads_run fs (length (laid fs ++ [])) 0 0 nothing [] r (omega arith) in
    ap frame_of (sym e) ∙ (s.2 ∙ reads_end s.0 (0 + length (laid fs)) (last 0 fs) (tell nothing fs) [] refl)

pub written_reads : (p : Parts) → sound p ≡ true → frame_of (written p) ≡ Ok p
written_reads p h = ap frame_of (sym (laid_run p)) ∙ (run_whole (run_of p) (rising_run p h) ∙ whole_run p)

-- ---- what is read is what is written

pub read_writes : (bs : List ℕ) (p : Parts) → Bytes bs → frame_of bs ≡ Ok p → (written p ≡ bs) × (sound p ≡ true)
read_writes bs p a e =
    let c = came (length bs) 0 0 nothing bs (omega arith) a in
    elim c.ends [
      | inl d ↦
          let fs = c.run in
          let t = tell nothing fs in
          let w = whole_written t.f1 t.f2 t.f3 t.f4 t.f5 t.f6 t.f7 p (sized_run fs c.rising) (sym d.1 ∙ e) in
          (w.0 ∙ (laid_wr fs c.rising ∙ (sym (append-nil (laid fs)) ∙ (ap (λ v. laid fs ++ v) (sym d.0) ∙ c.is))), w.1)
      | inr d ↦ (let f = sym d.2 ∙ e in let z : ◌≡◌ {A = ℕ} 0 1 = cc in absurd (omega arith))
    ]

pub accepts : Accepts
accepts bs p a = (read_writes bs p a, λ h. subst (λ x. frame_of x ≡ Ok p) h.0 (written_reads p h.1))

-- ---- what is refused has the fault that is named

-- the first of five that is missing, or 0
lack : Bool → Bool → Bool → Bool → Bool → ℕ
lack a b c d e = cond a (cond b (cond c (cond d (cond e 0 5) 4) 3) 2) 1

lack_of : Told → ℕ
lack_of t = lack (is_some t.f1) (is_some t.f2) (is_some t.f3) (is_some t.f4) (is_some t.f5)

Lacking : Told → Type 0
Lacking t = ((p : Parts) × (whole t ≡ Ok p) × (lack_of t ≡ 0)) ⊎ ((1 ≤ lack_of t) × (whole t ≡ Err (refusal Frame 5 (lack_of t))))

lacking : (a b c d e f g : Option (List ℕ)) → Lacking (record { f1 = a; f2 = b; f3 = c; f4 = d; f5 = e; f6 = f; f7 = g })
unfolding Lacking lack_of lack
lacking None b c d e f g = inr (omega arith, refl)
lacking (Some a) None c d e f g = inr (omega arith, refl)
lacking (Some a) (Some b) None d e f g = inr (omega arith, refl)
lacking (Some a) (Some b) (Some c) None e f g = inr (omega arith, refl)
lacking (Some a) (Some b) (Some c) (Some d) None f g = inr (omega arith, refl)
lacking (Some a) (Some b) (Some c) (Some d) (Some e) f g = inl (_, refl, refl)

-- a field is told exactly if the run has it
told_has : (i : ℕ) (f : Told → Option (List ℕ)) → ((tag : ℕ) (bs : List ℕ) (t : Told) → f (put tag bs t) ≡ cond (eqb tag i) (Some bs) (f t))
    → (fs : List Field) (t : Told) → is_some (f (tell t fs)) ≡ (has i fs || is_some (f t))
told_has i f h [] t = refl
told_has i f h (g ∷ fs) t =
    told_has i f h fs (put g.tag g.bytes t) ∙ (ap (λ o. has i fs || is_some o) (h g.tag g.bytes t) ∙ by (eqb g.tag i) (has i fs) (f t))
  where
    by : (b c : Bool) (o : Option (List ℕ)) → (c || is_some (cond b (Some g.bytes) o)) ≡ ((b || c) || is_some o)
    by true true o = refl
    by true false o = refl
    by false c o = refl

has_told : (i : ℕ) (f : Told → Option (List ℕ)) → ((tag : ℕ) (bs : List ℕ) (t : Told) → f (put tag bs t) ≡ cond (eqb tag i) (Some bs) (f t)) → is_some (f nothing) ≡ false
    → (fs : List Field) → is_some (f (tell nothing fs)) ≡ has i fs
has_told i f h n fs = told_has i f h fs nothing ∙ (ap (λ b. has i fs || b) n ∙ or_false (has i fs))
  where
    or_false : (b : Bool) → (b || false) ≡ b
    or_false true = refl
    or_false false = refl

first_missing_is : (fs : List Field) → lack_of (tell nothing fs) ≡ first_missing fs
unfolding lack_of lack
first_missing_is fs =
    λ i. lack
    (has_told 1 (λ t. t.f1) (λ tag bs t. refl) refl fs i)
    (has_told 2 (λ t. t.f2) (λ tag bs t. refl) refl fs i)
    (has_told 3 (λ t. t.f3) (λ tag bs t. refl) refl fs i)
    (has_told 4 (λ t. t.f4) (λ tag bs t. refl) refl fs i)
    (has_told 5 (λ t. t.f5) (λ tag bs t. refl) refl fs i)

lacking_of : (t : Told) → Lacking t
lacking_of t = lacking t.f1 t.f2 t.f3 t.f4 t.f5 t.f6 t.f7

whole_refused : (fs : List Field) (r : Refusal) → whole (tell nothing fs) ≡ Err r → (r ≡ refusal Frame 5 (first_missing fs)) × (1 ≤ first_missing fs)
unfolding Lacking
whole_refused fs r e =
    elim (lacking_of (tell nothing fs)) [
      | inl l ↦ (let f = sym l.1 ∙ e in let z : ◌≡◌ {A = ℕ} 0 1 = cc in absurd (omega arith))
      | inr l ↦ (let f = sym e ∙ (l.1 ∙ ap (λ q. Err (refusal Frame 5 q)) (first_missing_is fs)) in (cc, subst (λ q. 1 ≤ q) (first_missing_is fs) l.0))
    ]

whole_lacks : (fs : List Field) → 1 ≤ first_missing fs → whole (tell nothing fs) ≡ Err (refusal Frame 5 (first_missing fs))
unfolding Lacking
whole_lacks fs h =
    elim (lacking_of (tell nothing fs)) [
      | inl l ↦ absurd (omega (arith, first_missing_is fs, l.2))
      | inr l ↦ l.1 ∙ ap (λ q. Err (refusal Frame 5 q)) (first_missing_is fs)
    ]

-- every refusal, with what it is of
refused : (bs : List ℕ) (r : Refusal) → Bytes bs → frame_of bs ≡ Err r → (n q : ℕ) × (r ≡ refusal Frame n q) × Faulty bs n q
refused bs r a e =
    let c = came (length bs) 0 0 nothing bs (omega arith) a in
    elim c.ends [
      | inl d ↦
          (let w = whole_refused c.run r (sym d.1 ∙ e) in
          let is : laid c.run ≡ bs = sym (append-nil (laid c.run)) ∙ (ap (λ v. laid c.run ++ v) (sym d.0) ∙ c.is) in
          (5, first_missing c.run, w.0, inr (refl, record { all = c.run; rising = c.rising; is = is; required = w.1; missing = refl })))
      | inr d ↦
          (let f = sym e ∙ d.2 in
          (d.0, 0 + length (laid c.run), cc, inl (record { before = c.run; rest = c.rest; rising = c.rising; is = c.is; place_is = zero-add (length (laid c.run)); fault = d.1 })))
    ]

pub refuses_as_frame : RefusesAsFrame
refuses_as_frame bs r a e = let f = refused bs r a e in ap (λ x. x.layer) f.2

faulty_refused : (bs : List ℕ) (n q : ℕ) → Faulty bs n q → frame_of bs ≡ Err (refusal Frame n q)
faulty_refused bs n q (inl f) =
    let s = reads_run f.before (length (laid f.before ++ f.rest)) 0 0 nothing f.rest f.rising (omega arith) in
    let w = fault_front (0 + length (laid f.before)) (last 0 f.before) f.rest n f.fault in
    ap frame_of (sym f.is) ∙ (s.2 ∙ (reads_refused s.0 (0 + length (laid f.before)) (last 0 f.before) (tell nothing f.before) f.rest _ w.0 s.1 w.1
    ∙ ap (λ p. Err (refusal Frame n p)) (zero-add (length (laid f.before)) ∙ sym f.place_is)))
faulty_refused bs n q (inr (five, l)) =
    ap frame_of (sym l.is) ∙ (run_whole l.all l.rising ∙ (whole_lacks l.all (rw l.missing l.required) ∙ (λ i. Err (refusal Frame (sym five i) (l.missing i)))))

pub refuses : Refuses
refuses bs n q a = (
  λ e. (let f = refused bs (refusal Frame n q) a e in
      let m : f.0 ≡ n = sym (ap (λ x. x.number) f.2) in
      let p : f.1 ≡ q = sym (ap (λ x. x.place) f.2) in
      subst (λ y. Faulty bs n y) p (subst (λ x. Faulty bs x f.1) m f.3)),
  faulty_refused bs n q,
)
