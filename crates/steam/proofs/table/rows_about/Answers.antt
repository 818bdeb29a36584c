use Rattle.std.proofs.Common.{ltb, drop, inl, inr, rules, arith}
use Rattle.std.proofs.lemmas.List.Sorted.{IsPartitionPoint-from_clause}
use Rattle.steam.specs.Table.{Row, rows}
use Rattle.steam.proofs.Search.{parted, about, before, beyond}
use Rattle.steam.proofs.table.rows_about.Goals as goal

pub returns-then-kilopascals-lower : goal.returns-then-kilopascals-lower
unfolding rows
returns-then-kilopascals-lower c =
    let p = c.args.kilopascals in
    let i = c.partition_point-place.result in
    let point = IsPartitionPoint-from_clause (λ (a : Row). ltb a.0 p) (drop 1 rows) i c.partition_point-place.ensures.partitioned (parted p) (λ a r q k. search rules) in
    inl (before p i point (omega arith) c.if-kilopascals-lower.true)

pub returns-in_default : goal.returns-in_default
unfolding rows
returns-in_default c =
    let p = c.args.kilopascals in
    let i = c.partition_point-place.result in
    let point = IsPartitionPoint-from_clause (λ (a : Row). ltb a.0 p) (drop 1 rows) i c.partition_point-place.ensures.partitioned (parted p) (λ a r q k. search rules) in
    inr (beyond p i point (omega arith))

pub returns : goal.returns
unfolding rows
returns c =
    let p = c.args.kilopascals in
    let i = c.partition_point-place.result in
    let point = IsPartitionPoint-from_clause (λ (a : Row). ltb a.0 p) (drop 1 rows) i c.partition_point-place.ensures.partitioned (parted p) (λ a r q k. search rules) in
    about p i point (omega arith) c.if-kilopascals-lower.false
