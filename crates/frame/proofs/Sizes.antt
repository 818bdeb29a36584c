-- What sound parts measure. Assumes nothing.
use Rattle.std.proofs.Common.{◌≡◌, ℕ, ◌+◌, ◌≤◌, true, eqb, List, [], ◌∷◌, length, Some, None, Option, sum_by, sym, ap, ◌∙◌, arith}
use Rattle.std.proofs.lemmas.List.{length-append}
use Rattle.std.proofs.lemmas.Bool.{eqb-true, leb-true, and_parts}
use Rattle.std.proofs.lemmas.Bool.Decides.{nat_tests}
use Rattle.std.specs.List.{flat_map}
use Rattle.std.proofs.lemmas.List.Concat.{length-flat_map}
use Rattle.frame.specs.declared.field.Field.{Field}
use Rattle.frame.specs.Written.{field_bytes}
use Rattle.frame.specs.Format.{Parts, optional, named, written, length_fits, optional_fits, sound}

-- the lengths of sound parts
pub record Measured (p : Parts) : Type 0 where
  pub when_4 : length p.when ≡ 4
  pub readings_fit : length_fits 5 (length p.readings) ≡ true
  pub readings_20 : length p.readings ≤ 20
  pub share_fits : optional_fits 6 p.share ≡ true
  pub name_16 : length p.name ≤ 16

pub fits_most : (tag n : ℕ) → length_fits tag n ≡ true → n ≤ 20
fits_most tag n h = grind (arith, nat_tests)

pub measured : (p : Parts) → sound p ≡ true → Measured p
measured p s =
    let a = and_parts (eqb (length p.when) 4) _ s in
    let b = and_parts (length_fits 5 (length p.readings)) _ a.1 in
    let c = and_parts (optional_fits 6 p.share) _ b.1 in
    record {
      when_4 = eqb-true (length p.when) 4 a.0;
      readings_fit = b.0;
      readings_20 = fits_most 5 (length p.readings) b.0;
      share_fits = c.0;
      name_16 = leb-true (length p.name) 16 c.1;
    }

length_named : (bs : List ℕ) → length (optional 7 (named bs)) ≤ 3 + length bs
length_named [] = omega arith
length_named (b ∷ bs) = omega arith

length_share : (o : Option (List ℕ)) → optional_fits 6 o ≡ true → length (optional 6 o) ≤ 5
length_share None h = omega arith
length_share (Some bs) h = omega (arith, eqb-true (length bs) 2 h)

length_written : (p : Parts) → length (written p) ≡ 18 + length p.when + length p.readings + length (optional 6 p.share) + length (optional 7 (named p.name))
unfolding written
length_written p = simp length-append (omega arith)

-- fields that are written as a frame take as many bytes as it
pub sizes_written : (p : Parts) (fs : List (Option Field)) → flat_map field_bytes fs ≡ written p → sum_by (λ f. length (field_bytes f)) fs ≡ length (written p)
sizes_written p fs e = sym (length-flat_map field_bytes fs) ∙ ap length e

pub written_most : (p : Parts) → sound p ≡ true → length (written p) ≤ 66
written_most p s =
    let m = measured p s in
    omega (arith, length_written p, length_named p.name, length_share p.share m.share_fits)
