-- Sums over lists, and over numbers that follow one another. Assumes nothing.
use Rattle.std.proofs.Common.{◌≡◌, ℕ, zero, suc, ◌+◌, ◌<◌, ◌≤◌, Bool, true, false, cond, ◌&&◌, eqb, ltb, leb, List, [], ◌∷◌, sum_by, sym, refl, ap, ◌∙◌, arith}
use mathlib.Core.Path.{fun_ext}
use Rattle.std.proofs.lemmas.List.Sums.{sum_by-cons}
use Rattle.std.proofs.lemmas.Bool.Decides.{nat_tests}

-- n numbers from a on
abbrev pub up_from : ℕ → ℕ → List ℕ
up_from a zero = []
up_from a (suc n) = a ∷ up_from (suc a) n

-- a number is one of them
abbrev pub among : ℕ → ℕ → ℕ → Bool
among a n k = leb a k && ltb k (a + n)

pub sum_same : {X : Type 0} (f g : X → ℕ) (xs : List X) → ((x : X) → f x ≡ g x) → sum_by f xs ≡ sum_by g xs
sum_same f g xs e = ap (λ f. sum_by f xs) (fun_ext e)

pub sum_along : (f g : ℕ → ℕ) (a n : ℕ) → ((i : ℕ) → a ≤ i → i < a + n → f i ≡ g i) → sum_by f (up_from a n) ≡ sum_by g (up_from a n)
sum_along f g a zero e = refl
sum_along f g a (suc n) e =
    let first = e a (omega arith) (omega arith) in
    let rest = sum_along f g (suc a) n (λ i low high. e i (omega arith) (omega arith)) in
    sum_by-cons f a (up_from (suc a) n) ∙ (omega arith ∙ sym (sum_by-cons g a (up_from (suc a) n)))

pub sum_none : {X : Type 0} (xs : List X) → sum_by (λ (x : X). 0) xs ≡ 0
sum_none [] = refl
sum_none {X} (x ∷ xs) = sum_by-cons (λ (x : X). 0) x xs ∙ omega (arith, sum_none xs)

pub sum_plus : {X : Type 0} (f g : X → ℕ) (xs : List X) → sum_by (λ x. f x + g x) xs ≡ sum_by f xs + sum_by g xs
sum_plus f g [] = refl
sum_plus f g (x ∷ xs) =
    let rest = sum_plus f g xs in
    let a = sum_by-cons f x xs in
    let b = sum_by-cons g x xs in
    sum_by-cons (λ x. f x + g x) x xs ∙ omega arith

-- a sum of sums, the other way round
pub sum_swap : {X Y : Type 0} (f : X → Y → ℕ) (xs : List X) (ys : List Y) → sum_by (λ x. sum_by (f x) ys) xs ≡ sum_by (λ y. sum_by (λ x. f x y) xs) ys
sum_swap f [] ys = sym (sum_none ys)
sum_swap f (x ∷ xs) ys =
    sum_by-cons (λ x. sum_by (f x) ys) x xs ∙
    (ap (λ (s : ℕ). sum_by (f x) ys + s) (sum_swap f xs ys) ∙
    (sym (sum_plus (f x) (λ y. sum_by (λ x. f x y) xs) ys) ∙
    sum_same _ _ ys (λ y. sym (sum_by-cons (λ x. f x y) x xs))))

-- what stands under one number is summed once, if the number is among them
pub sum_once : (k v a n : ℕ) → sum_by (λ i. cond (eqb k i) v 0) (up_from a n) ≡ cond (among a n k) v 0
sum_once k v a zero = grind (arith, nat_tests)
sum_once k v a (suc n) =
    sum_by-cons (λ i. cond (eqb k i) v 0) a (up_from (suc a) n) ∙
    (ap (λ (s : ℕ). cond (eqb k a) v 0 + s) (sum_once k v (suc a) n) ∙ step)
  where
    step : cond (eqb k a) v 0 + cond (among (suc a) n k) v 0 ≡ cond (among a (suc n) k) v 0
    step = grind (arith, nat_tests)

-- what counts nothing unless a number is k is counted once, if k is among them
pub sum_class : (f : Bool → ℕ) → f false ≡ 0 → (k a n : ℕ) → sum_by (λ i. f (eqb k i)) (up_from a n) ≡ f (among a n k)
sum_class f off k a n = sum_same _ _ (up_from a n) (λ i. pick (eqb k i)) ∙ (sum_once k (f true) a n ∙ sym (pick (among a n k)))
  where
    pick : (t : Bool) → f t ≡ cond t (f true) 0
    pick true = refl
    pick false = off

-- the sums of the classes of a list are the sum of what is in one of the classes
pub sum_classes : {X : Type 0} (c : X → ℕ) (f : X → Bool → ℕ) → ((x : X) → f x false ≡ 0) → (a n : ℕ) (xs : List X) → sum_by (λ i. sum_by (λ x. f x (eqb (c x) i)) xs) (up_from a n) ≡ sum_by (λ x. f x (among a n (c x))) xs
sum_classes c f off a n xs = sum_swap (λ i x. f x (eqb (c x) i)) (up_from a n) xs ∙ sum_same _ _ xs (λ x. sum_class (f x) (off x) (c x) a n)

pub and_off : (s : Bool) (v : ℕ) → cond (s && false) v 0 ≡ 0
and_off true v = refl
and_off false v = refl
