-- The patches are up to date, so their runs are those of the accesses.
use Rattle.tx_table.proofs.{Words.{arith, length-map, take_all, ◌≡◌, ◌∙◌, sym, ap, subst, List, map, take, length, flat_map, Access, runs, runs_from, AreEffects, RisesFrom, access_of, Doing}, Covered.settled_is, Runs.runs_of_patches}

pub returns-clause-runs : Rattle.tx_table.proofs.work.Work.patches.Goals.returns-clause-runs
returns-clause-runs c g is_size is_blocks =
    let rows = c.self.inside.rows.items in
    let size = c.self.inside.size in
    let blocks = c.self.inside.blocks in
    let es = c.self.inside.patches.entries in
    let is : c.entries.result ≡ es = c.entries.ensures.is in
    let done = settled_is c.self.inside.applied (length rows) c.self.inside.folded (ap (λ (d : Doing). d.settled) c.self.view_is ∙ c.requires) in
    let whole : take c.self.inside.applied (map access_of rows) ≡ map access_of rows = take_all c.self.inside.applied (map access_of rows) (omega (arith, done.0, length-map rows access_of)) in
    let are : AreEffects size (map access_of rows) es = subst (λ (l : List Access). AreEffects size l es) whole c.self.invariant.5 in
    ap (flat_map (λ e. runs_from e.0 0 e.1)) is
    ∙ runs_of_patches size blocks rows es g (is_size ∙ sym (ap (λ (d : Doing). d.size) c.self.view_is)) (is_blocks ∙ sym (ap (λ (d : Doing). d.blocks) c.self.view_is))
    c.self.invariant.2 (subst (RisesFrom 0) is c.entries.ensures.rising) are
    ∙ ap (λ (d : Doing). runs g d.accesses) c.self.view_is
