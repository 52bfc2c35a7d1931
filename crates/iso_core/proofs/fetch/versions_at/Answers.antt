use Rattle.iso_core.proofs.Words.{arith, Lies, no_version, versions_in, all_at, all_upto}

pub returns-then-at-last-clause-lie : Rattle.iso_core.proofs.fetch.versions_at.Goals.returns-then-at-last-clause-lie
returns-then-at-last-clause-lie c size area all =
    c.showing_in.ensures.within size area (all_at (Lies size area) no_version (versions_in c.args.index.now c.args.block) all)

pub returns-else-at-last-clause-lie : Rattle.iso_core.proofs.fetch.versions_at.Goals.returns-else-at-last-clause-lie
returns-else-at-last-clause-lie c size area all = grind (arith, all_at, all_upto)
