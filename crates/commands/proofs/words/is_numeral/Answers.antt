use Rattle.std.proofs.Common.{arith}
use Rattle.std.proofs.lemmas.Int.Digits.{digits_more}
use Rattle.std.proofs.lemmas.Str.Parse.{digit_at}
use Rattle.commands.proofs.words.is_numeral.Goals as goal

pub loop-byte-preserved : goal.loop-byte-preserved
loop-byte-preserved c = digits_more 10 c.as_bytes-byte-items.result.now c.loop-byte.byte-index c.loop-byte-test.true c.loop-byte.invariant c.if-not-is_ascii_digit.ensures.bound

pub returns-then-not-is_ascii_digit : goal.returns-then-not-is_ascii_digit
returns-then-not-is_ascii_digit c =
    let below = rw c.as_bytes-byte-items.ensures.value at c.loop-byte-test.true in
    let outside = rw c.as_bytes-byte-items.ensures.value at c.if-not-is_ascii_digit.ensures.cases in
    (λ e. cc, λ n. (let digit = digit_at c.args.word.now c.loop-byte.byte-index n.1 below in absurd (grind (arith, digit, outside))))
