use Rattle.std.proofs.Common.{refl}
use lib.Ieee.{of_bits}
use Rattle.reading.specs.Dyadic.{clear, lawful}
use Rattle.reading.proofs.examples.examples_stand.Goals as goal

pub returns : goal.returns
unfolding of_bits clear lawful
returns c = record { zero = refl; examples = (refl, refl, refl, refl, refl, refl, refl, refl, refl, refl) }
