use Rattle.iso_tree.proofs.{Words.{◌≡◌, ◌∙◌, sym, subst, ℕ, ◌+◌, ◌-◌, ◌/◌, [], ◌∷◌, ◌++◌, length, take, drop, Option, arith, w32, to_be_bytes, block_with, laid_at, with_accesses, first_access}, Facts.missing_pair, Growing.{ends_of, mark_inside, stored_map, stored_root}, Rereading.map_ok}
use Rattle.iso_tree.proofs.first.store_first.Goals as goal

pub fill_map-requires-clause-bits : goal.fill_map-requires-clause-bits
fill_map-requires-clause-bits g c =
    let ends = ends_of c.args.area c.args.news.now c.ends-low.result c.requires.news.some c.requires.news.rising c.requires.news.inside c.ends-low.ensures in
    record { rising = ends.rising; inside = omega (arith, ends.below, c.requires.buffers.within.area.most, c.requires.buffers.within.area.least_size, c.requires.buffers.long) }

pub changed_mark-changed-requires : goal.changed_mark-changed-requires
changed_mark-changed-requires g c =
    let ends = ends_of c.args.area c.args.news.now c.ends-low.result c.requires.news.some c.requires.news.rising c.requires.news.inside c.ends-low.ensures in
    record { rising = ends.rising; inside = omega (arith, ends.below, c.requires.buffers.within.area.most, c.requires.buffers.within.area.least_size, (g.met.T.TxBlocks.limits c.args.tx.now).most, c.requires.buffers.within.size) }

pub store-requires-clause-spans : goal.store-requires-clause-spans
store-requires-clause-spans g c =
    let has = ends_of c.args.area c.args.news.now c.ends-low.result c.requires.news.some c.requires.news.rising c.requires.news.inside c.ends-low.ensures in
    (mark_inside c.args.area c.requires.buffers.within.area c.ends-low.result.0 c.ends-low.result.1 (g.T.TxBlocks.state c.args.tx.now).size c.changed_mark-changed.result has c.requires.buffers.within.size c.changed_mark-changed.ensures, tt)

pub store-requires-2-clause-spans : goal.store-requires-2-clause-spans
store-requires-2-clause-spans g c =
    let has = ends_of c.args.area c.args.news.now c.ends-low.result c.requires.news.some c.requires.news.rising c.requires.news.inside c.ends-low.ensures in (
      mark_inside c.args.area c.requires.buffers.within.area c.ends-low.result.0 c.ends-low.result.1 (g.T.TxBlocks.state c.args.tx.now).size c.changed_mark-changed.result has c.requires.buffers.within.size c.changed_mark-changed.ensures,
      (record { some = omega arith; fits = omega (arith, c.requires.buffers.within.area.least_size, c.requires.buffers.within.size) }, tt),
    )

pub returns-in_default : goal.returns-in_default
returns-in_default g c =
    let state = g.T.TxBlocks.state in
    let e = c.ends-low.ensures in
    record {
      stored = map_ok c.store.result (λ is. λ first used.
          subst (λ (o : Option (ℕ × ℕ)). state c.store.new.tx ≡ with_accesses (state c.args.tx.now) (first_access c.args.area first c.args.news.now o ∷ [])) (sym (missing_pair c.args.root c.in_default.not-Some))
          (stored_map c.args.area c.requires.buffers.within.area c.args.map.now c.args.news.now c.requires.buffers.long c.requires.news.some c.requires.news.rising c.requires.news.inside first used (state c.args.tx.now) (state c.store.new.tx) c.changed_mark-changed.result c.fill_map.new.into
          (c.changed_mark-changed.ensures ∙ (λ i. record { off = 64 + (e i).0 / 8; len = (e i).1 / 8 + 1 - (e i).0 / 8 }))
          (c.fill_map.ensures ∙ (λ i. block_with (length c.args.map.now) (64 + (e i).0 / 8) (take ((e i).1 / 8 + 1 - (e i).0 / 8) (drop (64 + (e i).0 / 8) c.args.map.now)))) is)) c.store.ensures.stored;
      one = map_ok c.store.result (λ is. record { access = _; is = is }) c.store.ensures.stored;
      kept = c.store.ensures.kept;
      cause = c.store.ensures.cause;
      room = c.store.ensures.room;
      device = c.store.ensures.device;
    }

pub returns : goal.returns
returns g c =
    let state = g.T.TxBlocks.state in
    let a = c.args.area in
    let e = c.ends-low.ensures in
    record {
      stored = map_ok c.store-2.result (λ is. λ first used.
          subst (λ (o : Option (ℕ × ℕ)). state c.store-2.new.tx ≡ with_accesses (state c.args.tx.now) (first_access a first c.args.news.now o ∷ [])) (sym c.in-Some.is)
          (stored_root a c.requires.buffers.within.area c.args.map.now c.args.news.now c.requires.buffers.long c.requires.news.some c.requires.news.rising c.requires.news.inside first used (state c.args.tx.now) (state c.store-2.new.tx) c.changed_mark-changed.result c.lay_head.new.into (c.in-Some.block, c.in-Some.level)
          (c.changed_mark-changed.ensures ∙ (λ i. record { off = 64 + (e i).0 / 8; len = (e i).1 / 8 + 1 - (e i).0 / 8 }))
          (c.lay_head.ensures ∙ (λ i. laid_at 0 (to_be_bytes w32 c.in-Some.block ++ to_be_bytes w32 c.in-Some.level)
          ((c.fill_map.ensures ∙ (λ j. block_with (length c.args.map.now) (64 + (e j).0 / 8) (take ((e j).1 / 8 + 1 - (e j).0 / 8) (drop (64 + (e j).0 / 8) c.args.map.now)))) i))) is)) c.store-2.ensures.stored;
      one = map_ok c.store-2.result (λ is. record { access = _; is = is }) c.store-2.ensures.stored;
      kept = c.store-2.ensures.kept;
      cause = c.store-2.ensures.cause;
      room = c.store-2.ensures.room;
      device = c.store-2.ensures.device;
    }
