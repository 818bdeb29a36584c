-- A set and its bytes determine each other.
use Rattle.std.proofs.Common.{◌≡◌, ℕ, ◌+◌, ◌*◌, ◌/◌, ◌%◌, ◌<◌, ◌≤◌, Bool, true, false, cond, T, eqb, List, [], ◌∷◌, ◌++◌, length, get_or, take, drop, Some, None, sym, refl, ap, ◌∙◌, subst, mod-lt, arith, eqb→eq, length-drop, take-append-drop, length-take, drop-drop}
use lib.Ieee.{Float, binary32, fits, to_bits}
use Rattle.std.specs.List.{AllByRecursion}
use Rattle.std.proofs.ByRecursion.{All-get_or}
use Rattle.std.proofs.lemmas.List.{drop_all}
use Rattle.reading.specs.Dyadic.{clear}
use Rattle.reading.specs.Wire.{decode, encode}
use Rattle.reading.specs.Limited.{Limited, readings_of, kept, lawful_set}
use Rattle.reading.specs.Layout.{shape_of, count, set_of, set_in, set_bytes, joined, Held, Bytes}
use Rattle.reading.specs.Laws.{ReadBack, WrittenBack, Sized, Written}
use Rattle.reading.specs.declared.sets.Shape.{Shape}
use Rattle.reading.specs.declared.sets.Shape.TheVariants.{Amount as AmountShape, Water as WaterShape, Steam as SteamShape, Wastewater as WastewaterShape}
use Rattle.reading.specs.declared.sets.ReadingSet.{ReadingSet}
use Rattle.reading.specs.declared.sets.ReadingSet.TheVariants.{Amount, Water, Steam, Wastewater}
use Rattle.reading.proofs.Exactly.{lawful_clear}
use Rattle.reading.proofs.Round.{encode_back, decode_encode}
use Rattle.reading.proofs.Kept.{Each, each}
use Rattle.reading.proofs.Places.{byte_at}

-- ---- from bytes to a set and back

module _ (bs : List ℕ) (bytes : Bytes bs) where
  piece : (n : ℕ) → n + 4 ≤ length bs → T (clear (decode (take 4 (drop n bs)))) → encode (decode (take 4 (drop n bs))) ≡ take 4 (drop n bs)
  piece n h t = encode_back (take 4 (drop n bs)) (simp (length-take, length-drop) (omega arith)) (byte 0 (omega arith), byte 1 (omega arith), byte 2 (omega arith), byte 3 (omega arith)) t
    where
      byte : (k : ℕ) → k < 4 → get_or (take 4 (drop n bs)) k 0 < 256
      byte k l = subst (λ (z : ℕ). z < 256) (sym (byte_at bs n k l)) (bytes (n + k) (omega arith))

  -- the bytes of a reading that keeps its limits, and of what stands after it
  step : (n : ℕ) (r : Limited) (rest : List ℕ) → n + 4 ≤ length bs → r.value ≡ decode (take 4 (drop n bs)) → T (kept r) → rest ≡ drop (n + 4) bs → encode r.value ++ rest ≡ drop n bs
  step n r rest h v k e =
      (λ i. encode (v i) ++ e i)
      ∙ ap (λ (z : List ℕ). z ++ drop (n + 4) bs) (piece n h (subst (λ (x : Float). T (clear x)) v (lawful_clear r.value r.low r.high k)))
      ∙ ap (λ (z : List ℕ). take 4 (drop n bs) ++ z) (sym (drop-drop 4 n bs))
      ∙ take-append-drop 4 (drop n bs)

  -- from n on the bytes hold these readings and no more
  abbrev Reads : ℕ → List Limited → Type 0
  Reads n [] = length bs ≡ n
  Reads n (r ∷ rs) = (r.value ≡ decode (take 4 (drop n bs))) × Reads (n + 4) rs

  within : (n : ℕ) (rs : List Limited) → Reads n rs → n ≤ length bs
  within n [] h = omega arith
  within n (r ∷ rs) h = omega (arith, within (n + 4) rs h.1)

  joined_back : (n : ℕ) (rs : List Limited) → Reads n rs → Each rs → joined rs ≡ drop n bs
  joined_back n [] h k = sym (drop_all n bs (omega arith))
  joined_back n (r ∷ rs) h k = step n r (joined rs) (within (n + 4) rs h.1) h.0 k.0 (joined_back (n + 4) rs h.1 k.1)

  back_of : (shape : Shape) → length bs ≡ 4 * count shape → T (lawful_set (set_of shape bs)) → set_bytes (set_of shape bs) ≡ bs
  unfolding set_bytes
  back_of AmountShape h t = let rs = readings_of (set_of AmountShape bs) in joined_back 0 rs (refl, h) (each rs t)
  back_of WaterShape h t = let rs = readings_of (set_of WaterShape bs) in joined_back 0 rs (refl, (refl, h)) (each rs t)
  back_of SteamShape h t = let rs = readings_of (set_of SteamShape bs) in joined_back 0 rs (refl, (refl, h)) (each rs t)
  back_of WastewaterShape h t = let rs = readings_of (set_of WastewaterShape bs) in joined_back 0 rs (refl, (refl, (refl, (refl, (refl, h))))) (each rs t)

is_set : (shape : Shape) (bs : List ℕ) (set : ReadingSet) → set_in shape bs ≡ Some set → (length bs ≡ 4 * count shape) × (set_of shape bs ≡ set)
unfolding set_in
is_set shape bs set h = go (eqb (length bs) (4 * count shape)) (eqb→eq (length bs) (4 * count shape)) h
  where
    go : (b : Bool) → (T b → length bs ≡ 4 * count shape) → cond b (Some (set_of shape bs)) None ≡ Some set → (length bs ≡ 4 * count shape) × (set_of shape bs ≡ set)
    go true f e = (f tt, cc)
    go false f e = let z : ◌≡◌ {A = ℕ} 0 1 = cc in absurd (omega arith)

pub read_back : ReadBack
read_back shape bs set bytes e t =
    let p = is_set shape bs set e in
    ap set_bytes (sym p.1) ∙ back_of bs bytes shape p.0 (subst (λ (z : ReadingSet). T (lawful_set z)) (sym p.1) t)

-- ---- from a set to bytes and back

again : (x : Float) → fits binary32 x ≡ true → decode (encode x) ≡ x
again x f = decode_encode x (subst T (sym f) tt)

pub written_back : WrittenBack
unfolding set_in set_bytes
written_back (Amount x) h = λ i. Some (Amount (again x h.0 i))
written_back (Water w) h = λ i. Some (Water (record { kilograms = again w.kilograms h.0 i; celsius = again w.celsius h.1.0 i }))
written_back (Steam s) h = λ i. Some (Steam (record { kilograms = again s.kilograms h.0 i; kilopascals = again s.kilopascals h.1.0 i }))
written_back (Wastewater w) h = λ i. Some (Wastewater (record {
  cubic_metres = again w.cubic_metres h.0 i;
  inlet = again w.inlet h.1.0 i;
  outlet = again w.outlet h.1.1.0 i;
  sludge = again w.sludge h.1.1.1.0 i;
  recovered = again w.recovered h.1.1.1.1.0 i;
}))

pub sized : Sized
unfolding set_bytes
sized (Amount x) = refl
sized (Water w) = refl
sized (Steam s) = refl
sized (Wastewater w) = refl

low : (n : ℕ) → n % 256 < 256
low n = mod-lt n (omega arith)

all_bytes : (rs : List Limited) → AllByRecursion (λ b. b < 256) (joined rs)
all_bytes [] = tt
all_bytes (r ∷ rs) =
    let n = to_bits binary32 r.value in
    (low (n / 16777216), (low (n / 65536), (low (n / 256), (low n, all_bytes rs))))

pub written : Written
unfolding set_bytes
written set k h = All-get_or (λ b. b < 256) (joined (readings_of set)) k 0 h (all_bytes (readings_of set))

-- ---- at a call

-- what a call that wrote a set gives
pub wrote : (set : ReadingSet) (bs : List ℕ) → bs ≡ set_bytes set → Held set → set_in (shape_of set) bs ≡ Some set
wrote set bs e h = ap (set_in (shape_of set)) e ∙ written_back set h

-- what a call that read a set gives
pub was_read : (shape : Shape) (bs : List ℕ) (set : ReadingSet) → Bytes bs → Some set ≡ set_in shape bs → T (lawful_set set) → set_bytes set ≡ bs
was_read shape bs set bytes e t = read_back shape bs set bytes (sym e) t
