use Rattle.std.proofs.Common.{refl}
use Rattle.commands.specs.Words.{not_a_number}
use Rattle.commands.proofs.Numbers.{read_number}
use Rattle.commands.proofs.words.number.Goals as goal

pub returns-then-not-is_numeral : goal.returns-then-not-is_numeral
returns-then-not-is_numeral c = not_a_number (λ n. (let e = c.if-not-is_numeral.ensures.1 n in cc))

pub returns : goal.returns
returns c = rw (c.ok_or.ensures.value, c.ok.ensures.value) (read_number c.args.word.now c.parse.result (c.if-not-is_numeral.ensures.0 refl) c.parse.ensures.value.0)
