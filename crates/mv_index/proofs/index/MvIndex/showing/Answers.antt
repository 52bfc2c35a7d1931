-- The pieces of a block.
use Rattle.mv_index.proofs.Words.{◌≡◌, ◌<◌, ◌∙◌, sym, ap, subst, List, length, get_or_default, AreShowing, BlockVersions, block_of, no_versions}

pub returns : Rattle.mv_index.proofs.index.MvIndex.showing.Goals.returns
returns c =
    let rows : c.self.inside.rows.items ≡ c.args.self.now = c.self.view_is in
    let inside : c.args.block < length c.self.inside.rows.items = subst (λ (l : List BlockVersions). c.args.block < length l) (sym rows) c.requires in
    let same : block_of c.args.self.now c.args.block ≡ c.index.result.now =
    ap (λ (l : List BlockVersions). block_of l c.args.block) (sym rows) ∙ get_or_default c.self.inside.rows.items c.args.block no_versions c.index.result.now inside ∙ sym c.index.ensures in
    subst (λ (r : BlockVersions). AreShowing c.showing.result.now r.versions) (sym same) c.showing.ensures
