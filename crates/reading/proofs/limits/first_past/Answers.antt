use Rattle.std.proofs.Common.{rules, tests, ◌≡◌, ℕ, ◌+◌, ◌&&◌, Bool, not, true, false, cond, List, [], ◌∷◌, Option, Some, None, map, refl, sym, ap, ◌∙◌}
use lib.Ieee.{Float}
use Rattle.std.specs.List.{position, position_from}
use Rattle.std.specs.Option.{option_map}
use Rattle.std.proofs.lemmas.Iterator.Adapters.{position_from-zero}
use Rattle.std.proofs.lemmas.Iterator.{YieldsList-from_slice}
use Rattle.std.proofs.lemmas.Iterator.Search.{position_from_yields_List}
use Rattle.reading.specs.Limited.{limited, kept, all_kept, first_past}
use Rattle.reading.specs.declared.limits.Limits.{Limits}
use Rattle.reading.proofs.limits.first_past.Goals as goal

abbrev past : Float × Limits → Bool
past r = not (kept (limited r))

numbered : (n : ℕ) (rs : List (Float × Limits)) → option_map (λ i. i + 1) (position_from past n rs) ≡ cond (all_kept (map limited rs)) None (Some (first_past (n + 1) (map limited rs)))
numbered n [] = refl
numbered n (r ∷ rs) = go (kept (limited r)) (numbered (n + 1) rs)
  where
    go : (k : Bool) → option_map (λ i. i + 1) (position_from past (n + 1) rs) ≡ cond (all_kept (map limited rs)) None (Some (first_past (n + 1 + 1) (map limited rs)))
        → option_map (λ i. i + 1) (cond (not k) (Some n) (position_from past (n + 1) rs)) ≡ cond (k && all_kept (map limited rs)) None (Some (cond k (first_past (n + 1 + 1) (map limited rs)) (n + 1)))
    go true h = h
    go false h = refl

said : (rs : List (Float × Limits)) (found : Option ℕ) → found ≡ position past rs → option_map (λ i. i + 1) found ≡ cond (all_kept (map limited rs)) None (Some (first_past 1 (map limited rs)))
said rs found e = ap (option_map (λ i. i + 1)) (e ∙ position_from-zero past rs) ∙ numbered 0 rs

pub returns-in_err-index : goal.returns-in_err-index
returns-in_err-index c =
    let found = position_from_yields_List past _ _ c.position.result c.position.ensures.ran (YieldsList-from_slice _ c.iter.ensures.rest) (λ x b q k. search (rules, tests)) in
    c.from_residual.ensures ∙ ap (option_map (λ (i : ℕ). i + 1)) (sym c.in_err-index.was) ∙ said c.args.readings.now c.position.result found

pub returns : goal.returns
returns c =
    let found = position_from_yields_List past _ _ c.position.result c.position.ensures.ran (YieldsList-from_slice _ c.iter.ensures.rest) (λ x b q k. search (rules, tests)) in
    ap (option_map (λ (i : ℕ). i + 1)) (sym c.in_ok-index.was) ∙ said c.args.readings.now c.position.result found
