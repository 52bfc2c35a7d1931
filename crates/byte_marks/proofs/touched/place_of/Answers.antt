-- Blocks that rise are parted by the test on the block.
use Rattle.byte_marks.proofs.{Words.{ℕ, arith, rules, List, ltb, ltb-true, ltb-false, IsPartitionPoint-from_clause, IsPartitionedBy-ltb, Extent}, Blocks.in_order}

pub returns-clause-before : Rattle.byte_marks.proofs.touched.place_of.Goals.returns-clause-before
returns-clause-before c k lt d =
    let es = c.args.entries.now in
    let parted = IsPartitionedBy-ltb (λ (e : ℕ × List Extent). e.0) es c.args.block (λ i j d le lt'. in_order 0 i j es d c.requires le lt') in
    let point = IsPartitionPoint-from_clause (λ (e : ℕ × List Extent). ltb e.0 c.args.block) _ _ c.partition_point.ensures.partitioned parted
    (λ a r q h. search rules) in
    ltb-true _ _ (point.0 k d (omega arith) lt)

pub returns-clause-after : Rattle.byte_marks.proofs.touched.place_of.Goals.returns-clause-after
returns-clause-after c k le lt d =
    let es = c.args.entries.now in
    let parted = IsPartitionedBy-ltb (λ (e : ℕ × List Extent). e.0) es c.args.block (λ i j d le lt'. in_order 0 i j es d c.requires le lt') in
    let point = IsPartitionPoint-from_clause (λ (e : ℕ × List Extent). ltb e.0 c.args.block) _ _ c.partition_point.ensures.partitioned parted
    (λ a r q h. search rules) in
    ltb-false _ _ (point.1 k d le lt)
