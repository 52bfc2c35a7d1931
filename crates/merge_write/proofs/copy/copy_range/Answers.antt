-- Each byte is in the first part or in the second.
use Rattle.merge_write.proofs.Words.{◌≡◌, ◌∙◌, ◌+◌, ◌-◌, true, false, nat_le, nat_lt, inl, inr, arith, cases_lt, nat_tests}

pub returns-then-count-le8 : Rattle.merge_write.proofs.copy.copy_range.Goals.returns-then-count-le8
returns-then-count-le8 c k =
    let from = c.args.from in
    let to = c.args.to in
    let first = c.copy_four.ensures in
    let second = c.copy_four-then-count-le8.ensures in
    elim (cases_lt k from) [
      | inl before ↦
          (let no : nat_le from k ≡ false = grind (arith, nat_tests) in
          rw no (second.before k (omega arith) ∙ first.before k before))
      | inr start ↦
          (let yes : nat_le from k ≡ true = grind (arith, nat_tests) in
          elim (cases_lt k to) [
            | inl within ↦
                (let also : nat_lt k to ≡ true = grind (arith, nat_tests) in
                rw (yes, also)
                (elim (cases_lt k (to - 4)) [
                  | inl early ↦
                      (let e : from + (k - from) ≡ k = omega arith in
                      second.before k early ∙ rw e at (first.lanes (k - from) (omega arith)))
                  | inr late ↦
                      (let e : to - 4 + (k - (to - 4)) ≡ k = omega arith in
                      rw e at (second.lanes (k - (to - 4)) (omega arith)))
                ]))
            | inr past ↦
                (let no : nat_lt k to ≡ false = grind (arith, nat_tests) in
                rw (yes, no) (second.behind k (omega arith) ∙ first.behind k (omega arith)))
          ])
    ]
