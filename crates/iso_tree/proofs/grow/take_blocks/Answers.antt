use Rattle.iso_tree.proofs.{Words.{◌∙◌, sym, ap, ℕ, ◌+◌, ◌-◌, ◌<◌, List, [], ◌∷◌, ◌++◌, take, length, arith, length-take-le, length-set, with_bit, with_used, free_are}, Facts.missing, Taking.{free_from, free_some, free_none, used_more, take_set}}
use Rattle.std.proofs.Common.{append_assoc, length-append}

pub returns-in_default : Rattle.iso_tree.proofs.grow.take_blocks.Goals.returns-in_default
returns-in_default c =
    let empty = free_none c.loop-i.map c.args.region.size c.loop-i.first (sym c.take_lowest.ensures.lowest ∙ missing c.take_lowest.result c.in_default.not-Some) in
    let split = length-append (take c.loop-i.i c.loop-i.news) (free_from c.loop-i.map c.args.region.size c.loop-i.first) in
    let part = length-take-le c.loop-i.i c.loop-i.news (omega (arith, c.loop-i-test.true, c.requires.news, c.loop-i.invariant.long)) in
    absurd (omega (arith, (ap length c.loop-i.invariant.list), split, (free_are c.args.map.now 1 (c.args.region.size - 1)), part, ap length empty, c.requires.need, c.loop-i-test.true))

pub loop-i-preserved : Rattle.iso_tree.proofs.grow.take_blocks.Goals.loop-i-preserved
loop-i-preserved c =
    let i = c.loop-i.i in
    let b = c.in-Some.block in
    let inside : i < length c.loop-i.news = omega (arith, c.loop-i-test.true, c.requires.news, c.loop-i.invariant.long) in
    let taken = take_set c.loop-i.news i b inside in
    record {
      used = c.in-Some.ensures.taken ∙ ap (λ (m : List ℕ). with_bit m b) c.loop-i.invariant.used ∙ sym (used_more c.args.map.now (take i c.loop-i.news) b) ∙ ap (with_used c.args.map.now) (sym taken);
      list = ap (λ l. l ++ free_from c.take_lowest.new.map c.args.region.size (b + 1)) taken ∙ append_assoc (take i c.loop-i.news) (b ∷ []) (free_from c.take_lowest.new.map c.args.region.size (b + 1))
          ∙ ap (λ l. take i c.loop-i.news ++ l) (sym (free_some c.loop-i.map c.take_lowest.new.map c.args.region.size c.loop-i.first b c.loop-i.invariant.inside (sym c.in-Some.ensures.lowest) c.in-Some.ensures.bits)) ∙ c.loop-i.invariant.list;
      inside = omega (arith, c.in-Some.ensures.inside.1);
      long = length-set c.loop-i.news i b ∙ c.loop-i.invariant.long;
    }
