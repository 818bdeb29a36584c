use Rattle.std.proofs.Common.{rules, ltb}
use Rattle.std.proofs.lemmas.Bool.{le-leb}
use Rattle.std.proofs.lemmas.List.Sorted.{IsPartitionPoint-from_clause}
use Rattle.calendar.proofs.Places.{sorted, begun, lies}
use Rattle.calendar.proofs.month.Month.of.Goals as goal

pub invariant_of-result : goal.invariant_of-result
invariant_of-result c =
    let y = c.args.year.number in
    let point = IsPartitionPoint-from_clause (λ n. ltb n c.args.day) _ _ c.partition_point-begun.ensures.partitioned (sorted y c.is_leap.result c.days_before.result c.is_leap.ensures c.days_before.ensures c.args.day) (λ a r q k. search rules) in
    let place = begun y c.is_leap.result c.days_before.result c.is_leap.ensures c.days_before.ensures c.args.day c.partition_point-begun.result c.requires c.partition_point-begun.ensures.bound point in
    let m = c.partition_point-begun.result in
    record { lawful = rw (le-leb 1 m place.low, le-leb m 12 place.high) tt }

pub returns : goal.returns
returns c =
    let y = c.args.year.number in
    let point = IsPartitionPoint-from_clause (λ n. ltb n c.args.day) _ _ c.partition_point-begun.ensures.partitioned (sorted y c.is_leap.result c.days_before.result c.is_leap.ensures c.days_before.ensures c.args.day) (λ a r q k. search rules) in
    lies y c.args.day c.partition_point-begun.result (begun y c.is_leap.result c.days_before.result c.is_leap.ensures c.days_before.ensures c.args.day c.partition_point-begun.result c.requires c.partition_point-begun.ensures.bound point)
