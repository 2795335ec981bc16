use Rattle.bx_plan.proofs.Words.{rules, leb, Stretch, IsPartitionPoint-from_clause, IsPartitionedBy-leb}
use Rattle.bx_plan.proofs.Stretching.{halved, rising}
use Rattle.bx_plan.proofs.schedules.stretches.over_by.Goals as goal

pub returns : goal.returns
returns c =
    let parted = IsPartitionedBy-leb (λ (s : Stretch). s.past) c.args.stretches.now c.args.position (rising c.args.stretches.now c.requires) in
    halved c.args.stretches.now c.requires c.args.position c.partition_point.result c.partition_point.ensures.bound
    (IsPartitionPoint-from_clause (λ (s : Stretch). leb s.past c.args.position) _ _ c.partition_point.ensures.partitioned parted (λ a r q k. search rules))
