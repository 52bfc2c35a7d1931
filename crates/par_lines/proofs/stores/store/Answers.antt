use Rattle.par_lines.proofs.{Words.{◌≡◌, ◌∙◌, arith, sym}, Storing.{blocks_at, has_own, no_own, regions_at, some_blocks, without_mode, without_pairs, without_store, without_tx}}

pub returns-in-None : Rattle.par_lines.proofs.stores.store.Goals.returns-in-None
returns-in-None g c =
    record { did = without_tx g.O.Origin.start c.args.session.now c.args.op.now c.requires.op (no_own c.args.session.now.own (sym c.mode.ensures ∙ c.in-None.is)) }

pub returns-then-region-eq0 : Rattle.par_lines.proofs.stores.store.Goals.returns-then-region-eq0
returns-then-region-eq0 g c =
    let A = g.O.Origin.start in
    let o = has_own c.args.session.now.own c.in-Some.mode (sym c.mode.ensures ∙ c.in-Some.is) in
    let area = regions_at c.args.image.now.geometry A.world.geometry c.store_region-region.result c.args.op.now c.args.image.now.same c.store_region-region.ensures in
    let none : c.store_region-region.result.files.size ≡ 0 = omega (arith, c.if-region-eq0.true) in
    record { did = without_store A c.args.session.now c.args.op.now c.requires.op o.0 o.1 (sym (blocks_at A.world.geometry _ _ area) ∙ none) }

pub returns-in-Snapshot : Rattle.par_lines.proofs.stores.store.Goals.returns-in-Snapshot
returns-in-Snapshot g c =
    let A = g.O.Origin.start in
    let o = has_own c.args.session.now.own c.in-Some.mode (sym c.mode.ensures ∙ c.in-Some.is) in
    let area = regions_at c.args.image.now.geometry A.world.geometry c.store_region-region.result c.args.op.now c.args.image.now.same c.store_region-region.ensures in
    record { did = without_mode A c.args.session.now c.args.op.now c.requires.op o.0 o.1 (some_blocks A.world.geometry _ _ area (omega (arith, c.if-region-eq0.false))) (o.2 ∙ c.in-Snapshot.is) }

pub returns-then-is_empty_scan : Rattle.par_lines.proofs.stores.store.Goals.returns-then-is_empty_scan
returns-then-is_empty_scan g c =
    let A = g.O.Origin.start in
    let o = has_own c.args.session.now.own c.in-Some.mode (sym c.mode.ensures ∙ c.in-Some.is) in
    let area = regions_at c.args.image.now.geometry A.world.geometry c.store_region-region.result c.args.op.now c.args.image.now.same c.store_region-region.ensures in
    record { did = without_pairs A c.args.session.now c.args.op.now c.requires.op o.0 o.1 (some_blocks A.world.geometry _ _ area (omega (arith, c.if-region-eq0.false))) (o.2 ∙ c.in-Serial.is) (sym c.is_empty_scan.ensures ∙ c.if-is_empty_scan.true) }
