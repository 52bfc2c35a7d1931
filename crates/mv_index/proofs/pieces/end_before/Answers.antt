-- Pieces in order end in order.
use Rattle.mv_index.proofs.{Words.{◌≡◌, true, false, ◌+◌, arith, get_or, nat_le, rules, leb-false, leb-true, IsPartitionPoint, IsPartitionPoint-from_clause, IsPartitionedBy-leb, Version, no_version}, Orders.ends_rise}

point : (c : Rattle.mv_index.proofs.pieces.end_before.Goals.After-partition_point) → IsPartitionPoint (λ q. nat_le (q.off + q.len) c.args.byte ≡ true) (λ q. nat_le (q.off + q.len) c.args.byte ≡ false) c.args.pieces.now c.partition_point.result
point c =
    IsPartitionPoint-from_clause (λ (q : Version). nat_le (q.off + q.len) c.args.byte) c.args.pieces.now c.partition_point.result c.partition_point.ensures.partitioned
    (IsPartitionedBy-leb (λ (q : Version). q.off + q.len) c.args.pieces.now c.args.byte (ends_rise 0 c.args.pieces.now c.requires)) (λ a r q h. search rules)

pub returns : Rattle.mv_index.proofs.pieces.end_before.Goals.returns
returns c = record {
  within = omega arith;
  below = λ k lt. leb-true ((get_or c.args.pieces.now k no_version).off + (get_or c.args.pieces.now k no_version).len) c.args.byte ((point c).0 k no_version (omega arith) lt);
  above = λ k le lt. leb-false ((get_or c.args.pieces.now k no_version).off + (get_or c.args.pieces.now k no_version).len) c.args.byte ((point c).1 k no_version le lt);
}
