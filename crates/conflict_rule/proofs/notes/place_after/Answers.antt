-- Numbers that rise are parted by the test on the number, and at the place of one that is the same.
use Rattle.conflict_rule.proofs.{Words.{◌≡◌, ◌∙◌, ◌-◌, List, ap, get_or, get_or_default, sym, true, false, arith, rules, leb, leb-false, leb-true, IsPartitionPoint, IsPartitionPoint-from_clause, IsPartitionedBy-leb, Note}, Numbers.{in_order, in_strict_order}}

point : (c : Rattle.conflict_rule.proofs.notes.place_after.Goals.After-partition_point) → IsPartitionPoint (λ e. leb e.0 c.args.number ≡ true) (λ e. leb e.0 c.args.number ≡ false) c.args.notes.now c.partition_point.result
point c =
    IsPartitionPoint-from_clause (λ (e : Note). leb e.0 c.args.number) _ _ c.partition_point.ensures.partitioned
    (IsPartitionedBy-leb (λ (e : Note). e.0) c.args.notes.now c.args.number (λ i j d le lt. in_order 0 i j c.args.notes.now d c.requires le lt)) (λ a r q h. search rules)

pub returns-clause-before : Rattle.conflict_rule.proofs.notes.place_after.Goals.returns-clause-before
returns-clause-before c k lt d = leb-true _ _ ((point c).0 k d (omega arith) lt)

pub returns-clause-after : Rattle.conflict_rule.proofs.notes.place_after.Goals.returns-clause-after
returns-clause-after c k le lt d = leb-false _ _ ((point c).1 k d le lt)

pub returns-then-number-first-clause-after : Rattle.conflict_rule.proofs.notes.place_after.Goals.returns-then-number-first-clause-after
returns-then-number-first-clause-after c k le lt d =
    let xs = c.args.notes.now in
    let first : (get_or xs 0 d).0 ≡ c.in-Some.first.now.0 = ap (λ (l : List Note). (get_or l 0 d).0) c.in-Some.ensures.cases.0 in
    omega (arith, c.if-number-first.true, first, in_order 0 0 k xs d c.requires (omega arith) lt)

-- the note at the place has the number
there : (c : Rattle.conflict_rule.proofs.notes.place_after.Goals.Then-notes-place) → (d : Note)
    → (get_or c.args.notes.now (c.args.number - c.in-Some.first.now.0) d).0 ≡ c.args.number
there c d =
    let xs = c.args.notes.now in
    let same = get_or_default xs (c.args.number - c.in-Some.first.now.0) c.index-notes-place.result d c.if-place-notes.true in
    sym (ap (λ (n : Note). n.0) same) ∙ c.if-notes-place.true

pub returns-then-notes-place-clause-before : Rattle.conflict_rule.proofs.notes.place_after.Goals.returns-then-notes-place-clause-before
returns-then-notes-place-clause-before c k lt d =
    omega (arith, there c d, in_order 0 k (c.args.number - c.in-Some.first.now.0) c.args.notes.now d c.requires (omega arith) c.if-place-notes.true)

pub returns-then-notes-place-clause-after : Rattle.conflict_rule.proofs.notes.place_after.Goals.returns-then-notes-place-clause-after
returns-then-notes-place-clause-after c k le lt d =
    omega (arith, there c d, in_strict_order 0 (c.args.number - c.in-Some.first.now.0) k c.args.notes.now d c.requires (omega arith) lt)
