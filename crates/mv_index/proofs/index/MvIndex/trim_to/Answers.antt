-- One row more.
use Rattle.mv_index.proofs.{Words.{◌≡◌, ◌∙◌, ◌<◌, ap, length, get_or, arith, get_or_default, BlockVersions, no_versions, shown_since}, Trims.trimmed_more}

pub loop-row-preserved : Rattle.mv_index.proofs.index.MvIndex.trim_to.Goals.loop-row-preserved
loop-row-preserved c =
    let inside : c.loop-row.row-index < length c.loop-row.row-items = omega (arith, c.loop-row-test.true, c.loop-row.auto.row-items) in
    let same : get_or c.loop-row.row-items c.loop-row.row-index c.row-item.result ≡ get_or c.loop-row.row-items c.loop-row.row-index no_versions = get_or_default c.loop-row.row-items c.loop-row.row-index c.row-item.result no_versions inside in
    trimmed_more (shown_since c.args.number) c.as_mut_slice-row-items.result.now c.loop-row.row-items c.loop-row.dropped c.loop-row.row-index c.trim_to-dropped.result c.trim_to-dropped.new.self c.loop-row.invariant inside
    (c.trim_to-dropped.ensures.drops.count ∙ ap (λ (r : BlockVersions). length r.versions) same) (c.trim_to-dropped.ensures.kept ∙ ap (λ (r : BlockVersions). shown_since c.args.number r.versions) same)
    (omega (arith, c.trim_to-dropped.ensures.drops.room, ap (λ (r : BlockVersions). r.room) same))
