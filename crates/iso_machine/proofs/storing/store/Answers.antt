use Rattle.iso_machine.proofs.{Words.{◌≡◌, ◌≢◌, ◌∙◌, sym, subst, arith, Geometry, Op, FsRegion, disk_of, up, store_areas}, Stored.{may_store, store_fits, stored_if, without_mode, without_pairs, without_store}}
use Rattle.store_calls.specs.Calls.{placed}
use Rattle.iso_machine.proofs.storing.store.Goals as goal

-- the store's place in the world's geometry
at_geometry : (g h : Geometry) (at : FsRegion) (op : Op) → g ≡ h → placed g.block at ≡ store_areas g op → placed h.block at ≡ store_areas h op
at_geometry g h at op same is = subst (λ (f : Geometry). placed f.block at ≡ store_areas f op) same is

pub returns-then-at-eq0-clause-given : goal.returns-then-at-eq0-clause-given
returns-then-at-eq0-clause-given g c W t of here active =
    let few = c.requires.5 in
    let at = at_geometry c.geometry-geometry.result W.geometry c.store_region-at.result c.args.op.now (c.geometry-geometry.ensures W up of) c.store_region-at.ensures in
    without_store g.D.Disk.state c.args.core.now c.args.tx c.args.work.now c.args.op.now W t (g.met.D.Disk.lawful (disk_of c.args.core.now)) of here active few
    c.store_region-at.result at (omega (arith, c.if-at-eq0.true))

pub call_on-answer-requires-clause-call : goal.call_on-answer-requires-clause-call
call_on-answer-requires-clause-call g c =
    let (W, t, of, here, active, few) = c.requires in
    let at = at_geometry c.geometry-geometry.result W.geometry c.store_region-at.result c.args.op.now (c.geometry-geometry.ensures W up of) c.store_region-at.ensures in
    let some : c.store_region-at.result.files.size ≢ 0 = λ e. omega (arith, e, c.if-at-eq0.false) in (
      may_store g.D.Disk.state c.args.core.now c.args.tx c.args.work.now c.args.op.now W t (g.met.D.Disk.lawful (disk_of c.args.core.now)) of here active few c.store_region-at.result at some,
      store_fits g.D.Disk.state c.args.core.now c.args.tx c.args.work.now c.args.op.now W t (g.met.D.Disk.lawful (disk_of c.args.core.now)) of here active few c.store_region-at.result at,
      sym c.is_empty_scan.ensures ∙ c.if-is_empty_scan.false,
    )

pub returns-then-is_empty_scan-clause-given : goal.returns-then-is_empty_scan-clause-given
returns-then-is_empty_scan-clause-given g c W t of here active =
    let at = at_geometry c.geometry-geometry.result W.geometry c.store_region-at.result c.args.op.now (c.geometry-geometry.ensures W up of) c.store_region-at.ensures in
    let some : c.store_region-at.result.files.size ≢ 0 = λ e. omega (arith, e, c.if-at-eq0.false) in
    without_pairs g.D.Disk.state c.args.core.now c.args.tx c.args.work.now c.args.op.now W t (g.met.D.Disk.lawful (disk_of c.args.core.now)) of here active c.requires.5
    c.store_region-at.result at some (sym c.mode.ensures ∙ c.in-Serial.is) (sym c.is_empty_scan.ensures ∙ c.if-is_empty_scan.true)

pub returns-else-is_empty_scan-clause-given : goal.returns-else-is_empty_scan-clause-given
returns-else-is_empty_scan-clause-given g c W t of here active =
    let at = at_geometry c.geometry-geometry.result W.geometry c.store_region-at.result c.args.op.now (c.geometry-geometry.ensures W up of) c.store_region-at.ensures in
    let some : c.store_region-at.result.files.size ≢ 0 = λ e. omega (arith, e, c.if-at-eq0.false) in
    stored_if g.D.Disk.state c.args.core.now c.args.tx c.args.work.now c.args.op.now W t (g.met.D.Disk.lawful (disk_of c.args.core.now)) of here active c.requires.5
    c.store_region-at.result at c.call_on-answer.new.work c.call_on-answer.result some (sym c.mode.ensures ∙ c.in-Serial.is) (sym c.is_empty_scan.ensures ∙ c.if-is_empty_scan.false)
    c.call_on-answer.ensures.work c.call_on-answer.ensures.called

pub returns-in-Snapshot-clause-given : goal.returns-in-Snapshot-clause-given
returns-in-Snapshot-clause-given g c W t of here active =
    let at = at_geometry c.geometry-geometry.result W.geometry c.store_region-at.result c.args.op.now (c.geometry-geometry.ensures W up of) c.store_region-at.ensures in
    let some : c.store_region-at.result.files.size ≢ 0 = λ e. omega (arith, e, c.if-at-eq0.false) in
    without_mode g.D.Disk.state c.args.core.now c.args.tx c.args.work.now c.args.op.now W t (g.met.D.Disk.lawful (disk_of c.args.core.now)) of here active c.requires.5
    c.store_region-at.result at some (sym c.mode.ensures ∙ c.in-Snapshot.is)
