-- All bytes of the block.
use Rattle.iso_core.proofs.Words.{◌≡◌, ◌∙◌, sym, ap, ◌<◌, length, subst, Geometry, array_at, array_shape, block_at, on_ok_weaker, whole_range}

pub returns-clause-block : Rattle.iso_core.proofs.core_itself.Core.fetch.Goals.returns-clause-block
returns-clause-block g c W t of here =
    let (V, standing, u, stands, live, below, long) = c.requires in
    let same : V.geometry ≡ W.geometry = sym stands.kept_of.keeps.geometry ∙ of.kept_of.keeps.geometry in
    let size : length c.args.into.now ≡ W.geometry.block = long ∙ ap (λ (h : Geometry). h.block) same in
    let shape = array_shape W.geometry W.history t.begin of.kept_of.world.history in
    on_ok_weaker c.fetch_range.result (λ range image told.
    whole_range (length c.args.into.now) c.fetch_range.new.into (block_at (array_at W.history t.begin) c.args.block) c.fetch_range.auto.into
    (shape.bytes c.args.block (subst (λ (h : Geometry). c.args.block < h.blocks) same below) ∙ sym size) (range image told)) (c.fetch_range.ensures.range W t of here)
