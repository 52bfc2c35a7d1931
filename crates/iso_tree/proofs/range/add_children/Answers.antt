use Rattle.iso_tree.proofs.{Words.{◌≡◌, ◌∙◌, sym, ap, ◌+◌, ◌-◌, ◌*◌, ◌<◌, ◌++◌, List, ℕ, ◌∷◌, map, drop, arith, parts_of, child_of}, Visiting.parts_step}

pub loop-i-preserved : Rattle.iso_tree.proofs.range.add_children.Goals.loop-i-preserved
loop-i-preserved c =
    let i = c.loop-i.i - 1 in
    let below : i < c.args.many = omega (arith, c.loop-i.invariant.few, c.loop-i-test.true) in
    let next : c.loop-i.i ≡ i + 1 = omega (arith, c.loop-i-test.true) in
    let named : List ℕ → ℕ × ℕ = λ part. (c.args.level, child_of part) in
    record {
      nodes = c.in_ok-push.ensures.ok ∙ (λ j. (c.args.level, (c.word_at.ensures ∙ ap child_of c.piece.ensures.value) j) ∷ c.loop-i.invariant.nodes j)
          ∙ ap (λ (k : ℕ). named (Rattle.std.proofs.Common.take 33 (drop (33 * i) c.args.values.now)) ∷ (map named (parts_of (drop (33 * k) c.args.values.now) (c.args.many - k)) ++ c.args.unread.now)) next
          ∙ sym (ap (λ ps. map named ps ++ c.args.unread.now) (parts_step c.args.values.now i c.args.many below));
      few = omega (arith, below);
    }
