use Rattle.iso_hash.proofs.{Words.{◌≡◌, ◌+◌, ◌-◌, ap, ℕ, Region, lowest_free, ◌∙◌, refl, arith, cut_first, looked_as, read_one, behaves_next, refused_first, refused_so}, Storing.{new_none, new_some}}
use Rattle.iso_hash.proofs.links.put_block.Goals as goal

pub returns-in-Err : goal.returns-in-Err
returns-in-Err g c = record {
  run = grind (arith, cut_first);
  behaves = refused_first c.in-Err.e c.in-Err.ensures.kept c.in-Err.ensures.cause c.in-Err.ensures.later (omega arith);
}

pub returns-in-Some : goal.returns-in-Some
returns-in-Some g c = record {
  run = (let state = g.T.TxBlocks.state in
      let a = c.args.key.now.area in
      let size : c.region_of.result.size ≡ a.blocks = ap (λ (r : Region). r.size) c.region_of.ensures in
      let free = ap (λ (n : ℕ). lowest_free c.look.new.into (c.buckets.result + 1) (n - (c.buckets.result + 1))) size in
      new_some a c.args.key.now.bytes.now c.args.value.now c.args.last c.args.position c.buckets.result c.in-Some.block _ (state c.args.tx.now) (state c.look.new.tx) (state c.grow.new.tx) c.look.new.into c.take_lowest.new.map c.grow.result
      c.requires.last.within.area c.in_default.ensures.bytes (g.met.T.TxBlocks.limits c.look.new.tx) (looked_as (state c.args.tx.now) (state c.look.new.tx) a.start _ _ c.in_default.ensures.read c.map_span.ensures) c.buckets.ensures.value (c.in-Some.ensures.lowest ∙ free) (omega (arith, size, c.in-Some.ensures.inside.1)) (c.look.auto.into ∙ c.requires.last.long) c.in-Some.ensures.taken refl c.grow.ensures.run);
  behaves = behaves_next (read_one (g.T.TxBlocks.state c.args.tx.now) (g.T.TxBlocks.state c.look.new.tx) _ c.in_default.ensures.read refl) c.in_default.ensures.later c.in_default.ensures.passed c.grow.ensures.behaves (omega arith);
}

pub returns-in-None : goal.returns-in-None
returns-in-None g c = record {
  run = (let state = g.T.TxBlocks.state in
      let a = c.args.key.now.area in
      let free = ap (λ (n : ℕ). lowest_free c.look.new.into (c.buckets.result + 1) (n - (c.buckets.result + 1))) (ap (λ (r : Region). r.size) c.region_of.ensures) in
      new_none a c.args.key.now.bytes.now c.args.value.now c.args.last c.args.position c.buckets.result (state c.args.tx.now) (state c.look.new.tx) c.look.new.into
      c.requires.last.within.area c.in_default.ensures.bytes (g.met.T.TxBlocks.limits c.look.new.tx) (looked_as (state c.args.tx.now) (state c.look.new.tx) a.start _ _ c.in_default.ensures.read c.map_span.ensures) c.buckets.ensures.value (c.in-None.ensures.lowest ∙ free));
  behaves = grind (arith, refused_so, read_one);
}
