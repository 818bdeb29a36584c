-- A statement is read back from its bytes. Assumes nothing.
use Rattle.std.proofs.Common.{ℕ, zero, suc, ◌≤◌, refl, ap, ◌∙◌, arith, lit≤}
use Rattle.std.proofs.Math.Facts.{Fits-of_z, Fits-lt-pow}
use Rattle.std.proofs.lemmas.Int.{to_z-of_z}
use Rattle.std.proofs.lemmas.Nat.{from_be_bytes-to_be_bytes_2, from_be_bytes-to_be_bytes_8}
use Rattle.std.specs.Int.{w64, cast_unsigned, cast_signed}
use Rattle.statement.specs.Statement.{Statement, statement_bytes}
use Rattle.statement.specs.Laws.{Fits, LineReads, ReadsBack}

module _ (s : Statement) (fits : Fits s) where
  lines : (l : ℕ) → 1 ≤ l → l ≤ 7 → LineReads (statement_bytes s) l (s.figure l)
  unfolding statement_bytes
  lines zero from to = absurd (omega arith)
  lines (suc zero) from to = record { number = refl; count = from_be_bytes-to_be_bytes_2 _ (fits.counts 1 (lit≤ tt) (lit≤ tt)); grams = from_be_bytes-to_be_bytes_8 _ (fits.grams 1 (lit≤ tt) (lit≤ tt)) }
  lines (suc (suc zero)) from to = record { number = refl; count = from_be_bytes-to_be_bytes_2 _ (fits.counts 2 (lit≤ tt) (lit≤ tt)); grams = from_be_bytes-to_be_bytes_8 _ (fits.grams 2 (lit≤ tt) (lit≤ tt)) }
  lines (suc (suc (suc zero))) from to = record { number = refl; count = from_be_bytes-to_be_bytes_2 _ (fits.counts 3 (lit≤ tt) (lit≤ tt)); grams = from_be_bytes-to_be_bytes_8 _ (fits.grams 3 (lit≤ tt) (lit≤ tt)) }
  lines (suc (suc (suc (suc zero)))) from to = record { number = refl; count = from_be_bytes-to_be_bytes_2 _ (fits.counts 4 (lit≤ tt) (lit≤ tt)); grams = from_be_bytes-to_be_bytes_8 _ (fits.grams 4 (lit≤ tt) (lit≤ tt)) }
  lines (suc (suc (suc (suc (suc zero))))) from to = record { number = refl; count = from_be_bytes-to_be_bytes_2 _ (fits.counts 5 (lit≤ tt) (lit≤ tt)); grams = from_be_bytes-to_be_bytes_8 _ (fits.grams 5 (lit≤ tt) (lit≤ tt)) }
  lines (suc (suc (suc (suc (suc (suc zero)))))) from to = record { number = refl; count = from_be_bytes-to_be_bytes_2 _ (fits.counts 6 (lit≤ tt) (lit≤ tt)); grams = from_be_bytes-to_be_bytes_8 _ (fits.grams 6 (lit≤ tt) (lit≤ tt)) }
  lines (suc (suc (suc (suc (suc (suc (suc zero))))))) from to = record { number = refl; count = from_be_bytes-to_be_bytes_2 _ (fits.counts 7 (lit≤ tt) (lit≤ tt)); grams = from_be_bytes-to_be_bytes_8 _ (fits.grams 7 (lit≤ tt) (lit≤ tt)) }
  lines (suc (suc (suc (suc (suc (suc (suc (suc l)))))))) from to = absurd (omega arith)

pub reads_back : ReadsBack
unfolding statement_bytes
reads_back s fits = record {
  size = refl;
  year = from_be_bytes-to_be_bytes_2 s.year fits.year;
  lines = lines s fits;
  count = from_be_bytes-to_be_bytes_2 s.count fits.count;
  net = ap (cast_signed w64) (from_be_bytes-to_be_bytes_8 (cast_unsigned w64 s.net) (Fits-lt-pow (Fits-of_z fits.net))) ∙ to_z-of_z w64 s.net fits.net;
}
