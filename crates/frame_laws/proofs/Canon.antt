-- A rising run is the fields told, in the order of their tags. Assumes nothing.
use Rattle.std.proofs.Common.{◌≡◌, ℕ, zero, suc, ◌<◌, true, cond, eqb, leb, List, [], ◌∷◌, ◌++◌, length, Some, None, Ok, Option, sym, refl, ap, ◌∙◌, subst, arith}
use Rattle.std.proofs.lemmas.List.{append_assoc, append-nil}
use Rattle.std.proofs.lemmas.Bool.{ne_eqb, and_parts, leb-true, eqb-true, cond_both}
use Rattle.frame.specs.Format.{known, length_fits, field, optional, optional_fits, named, Parts, written, sound}
use Rattle.frame.specs.Reading.{Told, put, whole, first, bytes_or, nothing}
use Rattle.frame.proofs.Front.{one_byte}
use Rattle.frame_laws.specs.Runs.{Field, Rising, laid}
use Rattle.frame_laws.proofs.Split.{tell}

-- the fields told, written out
unfoldable pub wr : Told → List ℕ
wr t = optional 1 t.f1 ++ (optional 2 t.f2 ++ (optional 3 t.f3 ++ (optional 4 t.f4 ++ (optional 5 t.f5 ++ (optional 6 t.f6 ++ optional 7 t.f7)))))

-- no field past a tag was told
pub record Upto (above : ℕ) (t : Told) : Type 0 where
  pub u1 : above < 1 → t.f1 ≡ None
  pub u2 : above < 2 → t.f2 ≡ None
  pub u3 : above < 3 → t.f3 ≡ None
  pub u4 : above < 4 → t.f4 ≡ None
  pub u5 : above < 5 → t.f5 ≡ None
  pub u6 : above < 6 → t.f6 ≡ None
  pub u7 : above < 7 → t.f7 ≡ None

upto_one : (tag u : ℕ) (bs : List ℕ) (o : Option (List ℕ)) → tag < u → o ≡ None → cond (eqb tag u) (Some bs) o ≡ None
upto_one tag u bs o h e = rw (ne_eqb tag u (λ z. omega arith), e)

upto_put : (above tag : ℕ) (bs : List ℕ) (t : Told) → above < tag → Upto above t → Upto tag (put tag bs t)
upto_put above tag bs t h u = record {
  u1 = λ l. upto_one tag 1 bs t.f1 l (u.u1 (omega arith));
  u2 = λ l. upto_one tag 2 bs t.f2 l (u.u2 (omega arith));
  u3 = λ l. upto_one tag 3 bs t.f3 l (u.u3 (omega arith));
  u4 = λ l. upto_one tag 4 bs t.f4 l (u.u4 (omega arith));
  u5 = λ l. upto_one tag 5 bs t.f5 l (u.u5 (omega arith));
  u6 = λ l. upto_one tag 6 bs t.f6 l (u.u6 (omega arith));
  u7 = λ l. upto_one tag 7 bs t.f7 l (u.u7 (omega arith));
}

-- what holds of 1 to 7 holds of a known tag
known_cases : (P : ℕ → Type 0) (tag : ℕ) → known tag ≡ true → P 1 → P 2 → P 3 → P 4 → P 5 → P 6 → P 7 → P tag
known_cases P zero k p1 p2 p3 p4 p5 p6 p7 = cc
known_cases P (suc zero) k p1 p2 p3 p4 p5 p6 p7 = p1
known_cases P (suc (suc zero)) k p1 p2 p3 p4 p5 p6 p7 = p2
known_cases P (suc (suc (suc zero))) k p1 p2 p3 p4 p5 p6 p7 = p3
known_cases P (suc (suc (suc (suc zero)))) k p1 p2 p3 p4 p5 p6 p7 = p4
known_cases P (suc (suc (suc (suc (suc zero))))) k p1 p2 p3 p4 p5 p6 p7 = p5
known_cases P (suc (suc (suc (suc (suc (suc zero)))))) k p1 p2 p3 p4 p5 p6 p7 = p6
known_cases P (suc (suc (suc (suc (suc (suc (suc zero))))))) k p1 p2 p3 p4 p5 p6 p7 = p7
known_cases P (suc (suc (suc (suc (suc (suc (suc (suc n)))))))) k p1 p2 p3 p4 p5 p6 p7 = let m = (suc (suc (suc (suc (suc (suc (suc (suc n)))))))) in absurd (omega (arith, leb-true m 7 (and_parts (leb 1 m) (leb m 7) k).1))

wr_put : (above tag : ℕ) (bs : List ℕ) (t : Told) → above < tag → known tag ≡ true → Upto above t → wr (put tag bs t) ≡ wr t ++ field tag bs
unfolding wr
wr_put above tag bs t h kn u =
    known_cases (λ n. above < n → wr (put n bs t) ≡ wr t ++ field n bs) tag kn
    (λ l. simp (u.u1 l, u.u2 (omega arith), u.u3 (omega arith), u.u4 (omega arith), u.u5 (omega arith), u.u6 (omega arith), u.u7 (omega arith), append_assoc) (simp (append-nil bs)))
    (λ l. simp (u.u2 l, u.u3 (omega arith), u.u4 (omega arith), u.u5 (omega arith), u.u6 (omega arith), u.u7 (omega arith), append_assoc) (simp (append-nil bs)))
    (λ l. simp (u.u3 l, u.u4 (omega arith), u.u5 (omega arith), u.u6 (omega arith), u.u7 (omega arith), append_assoc) (simp (append-nil bs)))
    (λ l. simp (u.u4 l, u.u5 (omega arith), u.u6 (omega arith), u.u7 (omega arith), append_assoc) (simp (append-nil bs)))
    (λ l. simp (u.u5 l, u.u6 (omega arith), u.u7 (omega arith), append_assoc) (simp (append-nil bs)))
    (λ l. simp (u.u6 l, u.u7 (omega arith), append_assoc) (simp (append-nil bs)))
    (λ l. simp (u.u7 l, append_assoc))
    h

-- a rising run after the fields told so far
wr_tell : (fs : List Field) (above : ℕ) (t : Told) → Rising above fs → Upto above t → wr (tell t fs) ≡ wr t ++ laid fs
wr_tell [] above t r u = sym (append-nil (wr t))
wr_tell (f ∷ fs) above t r u =
    wr_tell fs f.tag (put f.tag f.bytes t) r.3 (upto_put above f.tag f.bytes t r.1 u)
    ∙ (ap (λ v. v ++ laid fs) (wr_put above f.tag f.bytes t r.1 r.0 u) ∙ append_assoc (wr t) (field f.tag f.bytes) (laid fs))

pub laid_wr : (fs : List Field) → Rising 0 fs → wr (tell nothing fs) ≡ laid fs
unfolding wr
laid_wr fs r =
    let none : (n : ℕ) → 0 < n → ◌≡◌ {A = Option (List ℕ)} None None = λ n h. refl in
    wr_tell fs 0 nothing r (record { u1 = none 1; u2 = none 2; u3 = none 3; u4 = none 4; u5 = none 5; u6 = none 6; u7 = none 7 })

-- the fields told have lengths of their tags
pub record Sized (t : Told) : Type 0 where
  pub s1 : optional_fits 1 t.f1 ≡ true
  pub s2 : optional_fits 2 t.f2 ≡ true
  pub s3 : optional_fits 3 t.f3 ≡ true
  pub s4 : optional_fits 4 t.f4 ≡ true
  pub s5 : optional_fits 5 t.f5 ≡ true
  pub s6 : optional_fits 6 t.f6 ≡ true
  pub s7 : optional_fits 7 t.f7 ≡ true

sized_one : (tag u : ℕ) (bs : List ℕ) (o : Option (List ℕ)) → length_fits tag (length bs) ≡ true → optional_fits u o ≡ true → optional_fits u (cond (eqb tag u) (Some bs) o) ≡ true
sized_one tag u bs o h s =
    cond_both (eqb tag u) (Some bs) o (λ x. optional_fits u x ≡ true) (λ e. subst (λ v. length_fits v (length bs) ≡ true) (eqb-true tag u e) h) (λ _. s)

sized_tell : (fs : List Field) (above : ℕ) (t : Told) → Rising above fs → Sized t → Sized (tell t fs)
sized_tell [] above t r s = s
sized_tell (f ∷ fs) above t r s =
    let g = f.tag in let b = f.bytes in let h = r.2 in
    sized_tell fs g (put g b t) r.3 (record {
      s1 = sized_one g 1 b t.f1 h s.s1;
      s2 = sized_one g 2 b t.f2 h s.s2;
      s3 = sized_one g 3 b t.f3 h s.s3;
      s4 = sized_one g 4 b t.f4 h s.s4;
      s5 = sized_one g 5 b t.f5 h s.s5;
      s6 = sized_one g 6 b t.f6 h s.s6;
      s7 = sized_one g 7 b t.f7 h s.s7;
    })

pub sized_run : (fs : List Field) → Rising 0 fs → Sized (tell nothing fs)
sized_run fs r = sized_tell fs 0 nothing r (record { s1 = refl; s2 = refl; s3 = refl; s4 = refl; s5 = refl; s6 = refl; s7 = refl })

-- a name that was told is not empty
named_told : (g : Option (List ℕ)) → optional_fits 7 g ≡ true → (named (bytes_or g) ≡ g) × (leb (length (bytes_or g)) 16 ≡ true)
named_told None h = (refl, refl)
named_told (Some []) h = let z : ◌≡◌ {A = ℕ} 0 1 = cc in absurd (omega arith)
named_told (Some (b ∷ bs)) h = (refl, (and_parts (leb 1 (suc (length bs))) (leb (suc (length bs)) 16) h).1)

-- what is whole, written out, is what was told, and its lengths are right
pub whole_written : (a b c d e f g : Option (List ℕ)) (p : Parts) → Sized (record { f1 = a; f2 = b; f3 = c; f4 = d; f5 = e; f6 = f; f7 = g })
    → whole (record { f1 = a; f2 = b; f3 = c; f4 = d; f5 = e; f6 = f; f7 = g }) ≡ Ok p
    → (written p ≡ wr (record { f1 = a; f2 = b; f3 = c; f4 = d; f5 = e; f6 = f; f7 = g })) × (sound p ≡ true)
unfolding wr written
whole_written None b c d e f g p s h = let z : ◌≡◌ {A = ℕ} 0 1 = cc in absurd (omega arith)
whole_written (Some a) None c d e f g p s h = let z : ◌≡◌ {A = ℕ} 0 1 = cc in absurd (omega arith)
whole_written (Some a) (Some b) None d e f g p s h = let z : ◌≡◌ {A = ℕ} 0 1 = cc in absurd (omega arith)
whole_written (Some a) (Some b) (Some c) None e f g p s h = let z : ◌≡◌ {A = ℕ} 0 1 = cc in absurd (omega arith)
whole_written (Some a) (Some b) (Some c) (Some d) None f g p s h = let z : ◌≡◌ {A = ℕ} 0 1 = cc in absurd (omega arith)
whole_written (Some a) (Some b) (Some c) (Some d) (Some e) f g p s h =
    let q : record { when = a; kind = first b; item = first c; tier = first d; readings = e; share = f; name = bytes_or g } ≡ p = cc in
    let n = named_told g s.s7 in
    let kb = one_byte b (eqb-true (length b) 1 s.s2) in
    let kc = one_byte c (eqb-true (length c) 1 s.s3) in
    let kd = one_byte d (eqb-true (length d) 1 s.s4) in (
      ap written (sym q) ∙ (λ i. field 1 a ++ (field 2 (kb i) ++ (field 3 (kc i) ++ (field 4 (kd i) ++ (field 5 e ++ (optional 6 f ++ optional 7 (n.0 i))))))),
      subst (λ x. sound x ≡ true) q (simp (s.s1, s.s5, s.s6, n.1)),
    )
