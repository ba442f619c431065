use Rattle.std.proofs.Common.{ltb, rules}
use Rattle.std.proofs.lemmas.List.Sorted.{IsPartitionPoint-from_clause, IsPartitionedBy-ltb}
use Rattle.fedi_index.proofs.Inboxes.{put_in_order}
use Rattle.fedi_index.proofs.growing.count_below.Goals as goal

pub returns-clause-ordered : goal.returns-clause-ordered
returns-clause-ordered c =
    let parted = IsPartitionedBy-ltb (λ p. p) _ c.args.place c.requires in
    let point = IsPartitionPoint-from_clause (λ p. ltb p c.args.place) _ _ c.partition_point.ensures.partitioned parted (λ a r q k. search rules) in
    put_in_order c.args.place c.partition_point.result c.args.places.now c.partition_point.ensures.bound point
