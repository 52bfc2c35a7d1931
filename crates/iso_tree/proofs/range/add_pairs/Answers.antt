use Rattle.iso_tree.proofs.{Words.{◌≡◌, ◌∙◌, sym, ap, ◌+◌, ◌*◌, ◌++◌, ◌<◌, [], ◌∷◌, length, take, drop, arith, is_part, key_at, text_of}, Visiting.{parts_first, parts_pass, pairs_begin, pairs_end, pairs_full, pairs_step, text_fits}}
use Rattle.iso_tree.proofs.range.add_pairs.Goals as goal

pub loop-i-init : goal.loop-i-init
loop-i-init c = grind (arith, pairs_begin, parts_first) steps 100000

pub returns-then-max-len : goal.returns-then-max-len
returns-then-max-len c = record { ok = sym (pairs_full c.loop-i.found _ c.args.max (omega (arith, c.len.ensures, c.if-max-len.true))) ∙ c.loop-i.invariant.pairs; memory = tt }

pub returns : goal.returns
returns c = record { ok = grind (arith, pairs_end) steps 100000; memory = tt }

pub text_of-value-requires : goal.text_of-value-requires
text_of-value-requires c =
    let part = parts_pass (is_part 32) c.args.values.now c.loop-i.i c.args.visit.many c.loop-i-test.true c.loop-i.invariant.texts in
    omega (arith, (text_fits c.piece.result.now (ap (is_part 32) c.piece.ensures.value ∙ part.0)), c.piece.ensures.length)

pub loop-i-preserved : goal.loop-i-preserved
loop-i-preserved c =
    let i = c.loop-i.i in
    let few : length c.loop-i.found < c.args.max = omega (arith, c.len.ensures, c.if-max-len.false) in
    let added : c.add_pair.new.found ≡ c.loop-i.found ++ (key_at c.args.keys.now.bytes.now (c.args.visit.first + i), text_of (take 33 (drop (33 * i) c.args.values.now))) ∷ [] =
    c.in_ok-add_pair.ensures.ok ∙ (λ j. c.loop-i.found ++ (c.key_of-key.ensures j, (c.text_of-value.ensures ∙ ap text_of c.piece.ensures.value) j) ∷ []) in
    record {
      pairs = sym (pairs_step c.args.keys.now.bytes.now c.args.values.now c.args.visit.first i c.args.visit.many c.args.max c.loop-i.found c.add_pair.new.found c.loop-i-test.true few added) ∙ c.loop-i.invariant.pairs;
      texts = (parts_pass (is_part 32) c.args.values.now i c.args.visit.many c.loop-i-test.true c.loop-i.invariant.texts).1;
    }
