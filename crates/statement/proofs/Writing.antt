-- The bytes of a statement, put together. Assumes nothing.
use Rattle.std.proofs.Common.{◌≡◌, ℕ, ◌+◌, ◌<◌, ◌≤◌, ◌∷◌, [], ◌++◌, List, map, length, get_or, take, sym, ap, ◌∙◌, arith}
use Rattle.std.proofs.lemmas.List.{take_all, take_more, length-map, append_assoc, flat_map_more}
use Rattle.std.proofs.lemmas.List.Folds.{flat_map-map}
use Rattle.std.specs.List.{flat_map}
use Rattle.months.specs.declared.line.Line.{Line}
use Rattle.months.specs.Lines.{line_number, line_numbers}

-- what is put together of each line in turn is put together of the numbers
of_lines : (g : ℕ → List ℕ) (lines : List Line) (i : ℕ) → map line_number lines ≡ line_numbers → 7 ≤ i → flat_map (λ x. g (line_number x)) (take i lines) ≡ flat_map g line_numbers
of_lines g lines i e n =
    let seven : length lines ≡ 7 = sym (length-map lines line_number) ∙ ap length e in
    ap (flat_map (λ x. g (line_number x))) (take_all i lines (omega (arith, seven, n))) ∙ (sym (flat_map-map g line_number lines) ∙ ap (flat_map g) e)

-- a head, what is put together of each line, and a tail
pub put_together : (g : ℕ → List ℕ) (lines : List Line) (i : ℕ) → map line_number lines ≡ line_numbers → 7 ≤ i → (head tail bytes : List ℕ)
    → bytes ≡ head ++ flat_map (λ x. g (line_number x)) (take i lines) → bytes ++ tail ≡ head ++ (flat_map g line_numbers ++ tail)
put_together g lines i e n head tail bytes is = ap (λ v. v ++ tail) (is ∙ ap (λ v. head ++ v) (of_lines g lines i e n)) ∙ append_assoc head (flat_map g line_numbers) tail

-- one line more
pub one_more : (g : Line → List ℕ) (lines : List Line) (i : ℕ) → map line_number lines ≡ line_numbers → i < 7 → (d : Line) (head bytes : List ℕ)
    → bytes ≡ head ++ flat_map g (take i lines) → bytes ++ g (get_or lines i d) ≡ head ++ flat_map g (take (i + 1) lines)
one_more g lines i e n d head bytes is =
    let seven : length lines ≡ 7 = sym (length-map lines line_number) ∙ ap length e in
    ap (λ v. v ++ g (get_or lines i d)) is ∙
    (flat_map_more g head (take i lines) (get_or lines i d) ∙ ap (λ v. head ++ flat_map g v) (sym (take_more lines i d (omega (arith, seven, n)))))
