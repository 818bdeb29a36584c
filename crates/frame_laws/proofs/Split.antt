-- What reading makes of any bytes: a rising run, and then the end or a fault. Assumes nothing.
use Rattle.std.proofs.Common.{◌≡◌, ℕ, zero, suc, ◌+◌, ◌*◌, ◌/◌, ◌%◌, ◌<◌, ◌≤◌, Bool, true, false, eqb, ltb, leb, ◌⊎◌, List, [], ◌∷◌, ◌++◌, length, get_or, take, drop, Err, Result, sym, refl, ap, ◌∙◌, subst, inl, inr, add-zero, arith, length-drop}
use Rattle.std.proofs.lemmas.List.{take_at, drop_at, length-append, append_assoc, length-take-le, take-append-drop, nil_from_length}
use Rattle.std.proofs.lemmas.Bool.{leb-true, ltb-true, cases_Bool, eqb-true, leb-false, ltb-false, le-leb, lt-ltb, lt-leb, le-ltb}
use Rattle.std.proofs.ByRecursion.{All-drop}
use Rattle.refusal.specs.declared.Refusal.{Refusal}
use Rattle.refusal.specs.declared.Layer.TheVariants.{Frame}
use Rattle.refusal.specs.Said.{refusal}
use Rattle.frame.specs.Format.{known, length_fits, word, field, Parts}
use Rattle.frame.specs.Reading.{Front, told, refuses, front, Told, put, whole, reads}
use Rattle.frame.proofs.Front.{Headed, front_headed, Stands, front_stands, front_length}
use Rattle.frame.proofs.Run.{reads_end, reads_told}
use Rattle.frame_laws.specs.Runs.{Bytes, Field, Rising, laid, last, Fault, header_cut, tag_unknown, tag_not_rising, length_wrong, bytes_cut}

-- the fields of a run, told one after the other
abbrev pub tell : Told → List Field → Told
tell t [] = t
tell t (f ∷ fs) = tell (put f.tag f.bytes t) fs

-- ---- a run that is written is read

front_field : (at above tag : ℕ) (bs rest : List ℕ) → known tag ≡ true → above < tag → length_fits tag (length bs) ≡ true → told tag bs rest ≡ front at above (field tag bs ++ rest)
front_field at above tag bs rest kn u s =
    let n : length bs ≡ length bs / 256 * 256 + length bs % 256 = omega arith in
    let h : Headed above (field tag bs ++ rest) tag (length bs) = record { head = omega arith; tagged = simp kn; up = u; sized = n } in
    let l : length bs ≤ length (bs ++ rest) = simp length-append (omega arith) in
    sym (front_headed at above (field tag bs ++ rest) tag (length bs) h
    ∙ rw (s, le-leb (length bs) (length (bs ++ rest)) l, take_at bs rest (length bs) refl, drop_at bs rest (length bs) refl))

pub reads_run : (fs : List Field) (k at above : ℕ) (t : Told) (rest : List ℕ) → Rising above fs → length (laid fs ++ rest) ≤ k
    → (j : ℕ) × (length rest ≤ j) × (reads k at above t (laid fs ++ rest) ≡ reads j (at + length (laid fs)) (last above fs) (tell t fs) rest)
reads_run [] k at above t rest r l = (k, l, ap (λ n. reads k n above t rest) (sym (add-zero at)))
reads_run (f ∷ fs) k at above t rest r l =
    let b = f.bytes in
    let more = laid fs ++ rest in
    let assoc : (field f.tag b ++ laid fs) ++ rest ≡ field f.tag b ++ more = append_assoc (field f.tag b) (laid fs) rest in
    let l' : length (field f.tag b ++ more) ≤ k = subst (λ (v : List ℕ). length v ≤ k) assoc l in
    let e = front_field at above f.tag b more r.0 r.1 r.2 in
    let s = reads_told k at above t (field f.tag b ++ more) f.tag b more (λ z. omega arith) l' e in
    let ih = reads_run fs s.0 (at + (3 + length b)) f.tag (put f.tag b t) rest r.3 s.1 in
    let n : at + (3 + length b) + length (laid fs) ≡ at + length (field f.tag b ++ laid fs) = simp length-append (omega arith) in
    (ih.0, ih.1, ap (reads k at above t) assoc ∙ (s.2 ∙ (ih.2 ∙ ap (λ m. reads ih.0 m (last f.tag fs) (tell (put f.tag b t) fs) rest) n)))

-- ---- bytes that are read are a run, and then the end or a fault

-- a field that stands at the front, written out
stands_field : (above : ℕ) (bs : List ℕ) (tag : ℕ) (bytes left : List ℕ) → Bytes bs → Stands above bs tag bytes left → (length bytes ≡ word bs 1) × (field tag bytes ++ left ≡ bs)
stands_field above bs tag bytes left a s = cut bs a s.head s.room s.tag_is s.bytes_is s.left_is
  where
    cut : (bs : List ℕ) → Bytes bs → 3 ≤ length bs → word bs 1 ≤ length (drop 3 bs) → tag ≡ get_or bs 0 0 → bytes ≡ take (word bs 1) (drop 3 bs) → left ≡ drop (word bs 1) (drop 3 bs)
        → (length bytes ≡ word bs 1) × (field tag bytes ++ left ≡ bs)
    cut [] a h r t b l = absurd (omega arith)
    cut (x ∷ []) a h r t b l = absurd (omega arith)
    cut (x ∷ y ∷ []) a h r t b l = absurd (omega arith)
    cut (x ∷ y ∷ z ∷ bs) a h r t b l =
        let ly : y < 256 = a.1.0 in
        let lz : z < 256 = a.1.1.0 in
        let n : length bytes ≡ y * 256 + z = rw b (length-take-le (y * 256 + z) bs r) in
        let q : length bytes / 256 ≡ y = omega arith in
        let m : length bytes % 256 ≡ z = omega arith in
        let j : bytes ++ left ≡ bs = rw (b, l) (take-append-drop (y * 256 + z) bs) in
        (n, rw (t, q, m, j))

-- a refusal at the front is of a fault there
abbrev Named : (at above : ℕ) (bs : List ℕ) → Refusal → Type 0
Named at above bs r = (n : ℕ) × (r ≡ refusal Frame n at) × Fault above bs n

front_fault : (at above : ℕ) (bs : List ℕ) (r : Refusal) → 1 ≤ length bs → front at above bs ≡ refuses r → Named at above bs r
front_fault at above bs r some e =
    elim (cases_Bool (leb 3 (length bs))) [
      | inr c ↦ (1, is 1 (simp c at e), header_cut some (leb-false 3 (length bs) c))
      | inl c ↦ (let h = leb-true 3 (length bs) c in let e = simp c at e in
          elim (cases_Bool (known tag)) [
            | inr k ↦ (2, is 2 (simp k at e), tag_unknown h k)
            | inl k ↦ (let e = simp k at e in
                elim (cases_Bool (ltb above tag)) [
                  | inr u ↦ (3, is 3 (simp u at e), tag_not_rising h k (ltb-false above tag u))
                  | inl u ↦ (let up = ltb-true above tag u in let e = simp u at e in
                      elim (cases_Bool (length_fits tag (word bs 1))) [
                        | inr f ↦ (4, is 4 (simp f at e), length_wrong h k up f)
                        | inl f ↦ (let e = simp f at e in
                            elim (cases_Bool (leb (word bs 1) (length (drop 3 bs)))) [
                              | inr s ↦ (1, is 1 (simp s at e), bytes_cut h k up f (omega (arith, leb-false (word bs 1) (length (drop 3 bs)) s, length-drop 3 bs)))
                              | inl s ↦ (let e = simp s at e in let z : ◌≡◌ {A = ℕ} 0 1 = cc in absurd (omega arith))
                            ])
                      ])
                ])
          ])
    ]
  where
    tag : ℕ
    tag = get_or bs 0 0

    is : (n : ℕ) → refuses (refusal Frame n at) ≡ refuses r → r ≡ refusal Frame n at
    is n e = cc

-- and the other way round
pub fault_front : (at above : ℕ) (bs : List ℕ) (n : ℕ) → Fault above bs n → (length bs ≡ 0 → ⊥) × (refuses (refusal Frame n at) ≡ front at above bs)
fault_front at above bs n (header_cut some short) = (λ z. omega arith, simp (lt-leb 3 (length bs) short))
fault_front at above bs n (tag_unknown h k) = (λ z. omega arith, simp (le-leb 3 (length bs) h, k))
fault_front at above bs n (tag_not_rising h k u) = (λ z. omega arith, simp (le-leb 3 (length bs) h, k, le-ltb above (get_or bs 0 0) u))
fault_front at above bs n (length_wrong h k u f) = (λ z. omega arith, simp (le-leb 3 (length bs) h, k, lt-ltb above (get_or bs 0 0) u, f))
fault_front at above bs n (bytes_cut h k u f s) =
    let short : length (drop 3 bs) < word bs 1 = omega (arith, length-drop 3 bs) in
    (λ z. omega arith, simp (le-leb 3 (length bs) h, k, lt-ltb above (get_or bs 0 0) u, f, lt-leb (word bs 1) (length (drop 3 bs)) short))

-- what reading came to: the end after a run, or a fault after it
pub record Came (bs : List ℕ) (at above : ℕ) (t : Told) (o : Result Parts Refusal) : Type 0 where
  pub run : List Field
  pub rest : List ℕ
  pub rising : Rising above run
  pub is : laid run ++ rest ≡ bs
  pub ends : ((rest ≡ []) × (o ≡ whole (tell t run))) ⊎ ((n : ℕ) × Fault (last above run) rest n × (o ≡ Err (refusal Frame n (at + length (laid run)))))

came_end : (k at above : ℕ) (t : Told) (bs : List ℕ) → length bs ≡ 0 → Came bs at above t (reads k at above t bs)
came_end k at above t bs z = record { run = []; rest = bs; rising = tt; is = refl; ends = inl (nil_from_length bs z, reads_end k at above t bs z) }

came_step : (k at above : ℕ) (t : Told) (bs : List ℕ)
    → ((at above : ℕ) (t : Told) (bs : List ℕ) → length bs ≤ k → Bytes bs → Came bs at above t (reads k at above t bs))
    → length bs ≤ suc k → Bytes bs → (length bs ≡ 0 → ⊥) → (o : Front) → o ≡ front at above bs
    → Came bs at above t (elim o [ told tag bytes left ↦ reads k (at + (3 + length bytes)) tag (put tag bytes t) left | refuses r ↦ Err r ])
came_step k at above t bs ih l a ne (told tag bytes left) f =
    let s = front_stands at above bs tag bytes left f in
    let n = front_length at above bs tag bytes left f in
    let w = stands_field above bs tag bytes left a s in
    let a' : Bytes left = rw s.left_is (All-drop (λ b. b < 256) (word bs 1) (drop 3 bs) (All-drop (λ b. b < 256) 3 bs a)) in
    let c = ih (at + (3 + length bytes)) tag (put tag bytes t) left (omega arith) a' in
    let fit : length_fits tag (length bytes) ≡ true = rw w.0 s.sized in
    record {
      run = record { tag = tag; bytes = bytes } ∷ c.run;
      rest = c.rest;
      rising = (s.tagged, s.up, fit, c.rising);
      is = append_assoc (field tag bytes) (laid c.run) c.rest ∙ (ap (λ v. field tag bytes ++ v) c.is ∙ w.1);
      ends = elim c.ends [
        | inl e ↦ inl e
        | inr e ↦ inr (e.0, e.1, e.2 ∙ ap (λ m. Err (refusal Frame e.0 m)) (simp length-append (omega arith)))
      ];
    }
came_step k at above t bs ih l a ne (refuses r) f =
    let c = front_fault at above bs r (omega (arith, some)) (sym f) in
    record { run = []; rest = bs; rising = tt; is = refl; ends = inr (c.0, c.2, ap Err c.1 ∙ ap (λ m. Err (refusal Frame c.0 m)) (sym (add-zero at))) }
  where
    some : 1 ≤ length bs
    some = at_least (length bs) ne
      where
        at_least : (n : ℕ) → (n ≡ 0 → ⊥) → 1 ≤ n
        at_least zero h = absurd (h refl)
        at_least (suc n) h = omega arith

pub came : (k at above : ℕ) (t : Told) (bs : List ℕ) → length bs ≤ k → Bytes bs → Came bs at above t (reads k at above t bs)
unfolding reads
came zero at above t bs l a = came_end zero at above t bs (omega arith)
came (suc k) at above t bs l a =
    elim (cases_Bool (eqb (length bs) 0)) [
      | inl z ↦ came_end (suc k) at above t bs (eqb-true (length bs) 0 z)
      | inr z ↦ rw z (came_step k at above t bs (came k) l a (λ e. let y : eqb (length bs) 0 ≡ true = rw e refl in let x : ◌≡◌ {A = Bool} true false = sym y ∙ z in let w : ◌≡◌ {A = ℕ} 0 1 = cc in omega arith) (front at above bs) refl)
    ]
