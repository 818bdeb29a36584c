-- The names of the layers, and how a refusal is printed.
use Rattle.std.specs.Prelude.{ℕ, List, ◌++◌, codes}
use Rattle.std.specs.Fmt.{decimal}
use Rattle.refusal.specs.declared.Layer.{Layer}
use Rattle.refusal.specs.declared.Layer.TheVariants.{Frame, Record, Factor, Book}
use Rattle.refusal.specs.declared.Refusal.{Refusal}

abbrev pub word : Layer → List ℕ
word Frame = codes "frame"
word Record = codes "record"
word Factor = codes "factor"
word Book = codes "book"

-- its layer's word, its number and its place
abbrev pub refusal_text : Refusal → List ℕ
refusal_text r = codes "refused " ++ word r.layer ++ codes " " ++ decimal r.number ++ codes " " ++ decimal r.place
