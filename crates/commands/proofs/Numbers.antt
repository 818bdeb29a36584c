-- A word of digits is read as the number that they write. Assumes nothing.
use Rattle.std.proofs.Common.{◌≡◌, ℕ, ◌^◌, ◌<◌, List, [], ◌∷◌, Ok, Err, Result, MatchResult, sym, refl, ap, ◌∙◌, subst, inl, inr, arith}
use Rattle.std.proofs.lemmas.Bool.{ne_eqb, cases_lt}
use Rattle.std.proofs.lemmas.Str.Parse.{digit_from_value}
use Rattle.std.specs.Option.{ok_or}
use Rattle.std.specs.Result.{result_ok}
use Rattle.std.specs.Str.Parse.{IsNumeral, ParsesUnsigned, digits_value, without_leading_plus}
use Rattle.commands.specs.declared.fault.Reason.TheVariants.{NumberTooLarge}
use Rattle.commands.specs.Words.{NoNumber, too_large}

no_plus : (word : List ℕ) → IsNumeral 10 word → without_leading_plus word ≡ word
no_plus [] n = absurd (omega (arith, n.0))
no_plus (c ∷ cs) n = let digit = digit_from_value c n.1.0 in rw (ne_eqb c 43 (λ e. omega (arith, e, digit))) refl

pub read_number : {E : Type 0} (word : List ℕ) (p : Result ℕ E) → IsNumeral 10 word → ParsesUnsigned 32 10 word p
    → MatchResult (ok_or (result_ok p) NumberTooLarge) (λ n. IsNumeral 10 word × (n ≡ digits_value 10 word)) (NoNumber word)
read_number word (Ok x) n h = (n, h.1 ∙ ap (digits_value 10) (no_plus word n))
read_number word (Err e) n h = elim (cases_lt (digits_value 10 word) (2 ^ 32)) [
  | inl t ↦ absurd (h (subst (λ (w : List ℕ). IsNumeral 10 w × (digits_value 10 w < 2 ^ 32)) (sym (no_plus word n)) (n, t)))
  | inr t ↦ too_large n t
]
