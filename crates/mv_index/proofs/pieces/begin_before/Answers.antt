-- Pieces in order begin in order.
use Rattle.mv_index.proofs.{Words.{◌≡◌, true, false, arith, get_or, nat_lt, rules, ltb-false, ltb-true, IsPartitionPoint, IsPartitionPoint-from_clause, IsPartitionedBy-ltb, Version, no_version}, Orders.offs_rise}

point : (c : Rattle.mv_index.proofs.pieces.begin_before.Goals.After-partition_point) → IsPartitionPoint (λ q. nat_lt q.off c.args.byte ≡ true) (λ q. nat_lt q.off c.args.byte ≡ false) c.args.pieces.now c.partition_point.result
point c =
    IsPartitionPoint-from_clause (λ (q : Version). nat_lt q.off c.args.byte) c.args.pieces.now c.partition_point.result c.partition_point.ensures.partitioned
    (IsPartitionedBy-ltb (λ (q : Version). q.off) c.args.pieces.now c.args.byte (offs_rise 0 c.args.pieces.now c.requires)) (λ a r q h. search rules)

pub returns : Rattle.mv_index.proofs.pieces.begin_before.Goals.returns
returns c = record {
  within = omega arith;
  below = λ k lt. ltb-true (get_or c.args.pieces.now k no_version).off c.args.byte ((point c).0 k no_version (omega arith) lt);
  above = λ k le lt. ltb-false (get_or c.args.pieces.now k no_version).off c.args.byte ((point c).1 k no_version le lt);
}
