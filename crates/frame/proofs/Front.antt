-- Laws of the field at the front. Assumes nothing.
use Rattle.std.proofs.Common.{◌≡◌, ℕ, ◌+◌, ◌<◌, ◌≤◌, Bool, true, false, cond, leb, List, [], ◌∷◌, length, get_or, take, drop, Some, sym, refl, arith, length-drop}
use Rattle.std.proofs.lemmas.Bool.{le-leb, lt-ltb, leb-true, ltb-true}
use Rattle.std.proofs.lemmas.List.{length-take-le}
use Rattle.std.proofs.lemmas.Option.{cond_some}
use Rattle.refusal.specs.declared.Refusal.{Refusal}
use Rattle.refusal.specs.declared.Layer.TheVariants.{Frame}
use Rattle.refusal.specs.Said.{refusal}
use Rattle.frame.specs.Format.{known, length_fits, word}
use Rattle.frame.specs.Tags.{tag_in}
use Rattle.frame.specs.Reading.{Front, told, refuses, front}

pub one_byte : (xs : List ℕ) → length xs ≡ 1 → get_or xs 0 0 ∷ [] ≡ xs
one_byte [] h = absurd (omega arith)
one_byte (x ∷ []) h = refl
one_byte (x ∷ y ∷ xs) h = absurd (omega arith)

-- a header that is complete, with a known tag above the one before
pub record Headed (above : ℕ) (bs : List ℕ) (tag n : ℕ) : Type 0 where
  pub head : 3 ≤ length bs
  pub tagged : Some tag ≡ tag_in (get_or bs 0 0)
  pub up : above < tag
  pub sized : n ≡ word bs 1

pub front_headed : (at above : ℕ) (bs : List ℕ) (tag n : ℕ) → Headed above bs tag n
    → front at above bs
    ≡ cond (length_fits tag n)
    (cond (leb n (length (drop 3 bs))) (told tag (take n (drop 3 bs)) (drop n (drop 3 bs))) (refuses (refusal Frame 1 at)))
    (refuses (refusal Frame 4 at))
front_headed at above bs tag n h =
    let t = cond_some (known (get_or bs 0 0)) (get_or bs 0 0) tag (sym h.tagged) in
    let k : known tag ≡ true = rw t.1 at t.0 in
    rw (h.sized) (simp (le-leb 3 (length bs) h.head, t.1, k, lt-ltb above tag h.up))

inside : (b : Bool) (x : Front) (r : Refusal) (tag : ℕ) (bytes left : List ℕ) → told tag bytes left ≡ cond b x (refuses r) → (b ≡ true) × (told tag bytes left ≡ x)
inside true x r tag bytes left e = (refl, e)
inside false x r tag bytes left e = let z : ◌≡◌ {A = ℕ} 0 1 = cc in absurd (omega arith)

same_told : (t u : ℕ) (a b c d : List ℕ) → told t a c ≡ told u b d → (t ≡ u) × (a ≡ b) × (c ≡ d)
same_told t u a b c d e = (cc, cc, cc)

-- what is known of a field that stands at the front
pub record Stands (above : ℕ) (bs : List ℕ) (tag : ℕ) (bytes left : List ℕ) : Type 0 where
  pub head : 3 ≤ length bs
  pub tagged : known tag ≡ true
  pub up : above < tag
  pub sized : length_fits tag (word bs 1) ≡ true
  pub room : word bs 1 ≤ length (drop 3 bs)
  pub tag_is : tag ≡ get_or bs 0 0
  pub bytes_is : bytes ≡ take (word bs 1) (drop 3 bs)
  pub left_is : left ≡ drop (word bs 1) (drop 3 bs)

pub front_stands : (at above : ℕ) (bs : List ℕ) (tag : ℕ) (bytes left : List ℕ) → told tag bytes left ≡ front at above bs → Stands above bs tag bytes left
front_stands at above bs tag bytes left e =
    let a = inside _ _ _ tag bytes left e in
    let b = inside _ _ _ tag bytes left a.1 in
    let c = inside _ _ _ tag bytes left b.1 in
    let d = inside _ _ _ tag bytes left c.1 in
    let f = inside _ _ _ tag bytes left d.1 in
    let g : told tag bytes left ≡ told (get_or bs 0 0) (take (word bs 1) (drop 3 bs)) (drop (word bs 1) (drop 3 bs)) = f.1 in
    let same = same_told _ _ _ _ _ _ g in
    let t : tag ≡ get_or bs 0 0 = same.0 in
    record {
      head = leb-true 3 (length bs) a.0;
      tagged = rw t b.0;
      up = rw t (ltb-true above (get_or bs 0 0) c.0);
      sized = rw t d.0;
      room = leb-true (word bs 1) (length (drop 3 bs)) f.0;
      tag_is = t;
      bytes_is = same.1;
      left_is = same.2;
    }

pub front_length : (at above : ℕ) (bs : List ℕ) (tag : ℕ) (bytes left : List ℕ) → told tag bytes left ≡ front at above bs → 3 + length bytes + length left ≡ length bs
front_length at above bs tag bytes left e =
    let s = front_stands at above bs tag bytes left e in
    let h = s.room in
    rw (s.bytes_is, s.left_is) (simp (length-take-le, length-drop) (omega (arith, s.head, s.room, length-drop 3 bs)))
