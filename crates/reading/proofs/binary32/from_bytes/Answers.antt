use Rattle.std.proofs.Common.{◌≡◌, T, get_or, ap, ◌∙◌, subst, rules}
use lib.Ieee.{Float}
use Rattle.reading.specs.Dyadic.{clear}
use Rattle.reading.specs.Wire.{decode, encode}
use Rattle.reading.proofs.Round.{Bytes4, encode_back}
use Rattle.reading.proofs.binary32.from_bytes.Goals as goal

pub returns-clause-back : goal.returns-clause-back
returns-clause-back c t =
    let value : c.f32_from_bits_with_nan.result ≡ decode c.args.bytes = cc in
    let b = c.args.bytes in
    let four : Bytes4 (get_or b 0 0) (get_or b 1 0) (get_or b 2 0) (get_or b 3 0) = (search rules, search rules, search rules, search rules) in
    ap encode value ∙ encode_back b (search rules) four (subst (λ (x : Float). T (clear x)) value t)
