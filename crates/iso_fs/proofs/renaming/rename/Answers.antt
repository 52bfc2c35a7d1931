use Rattle.iso_fs.proofs.{Words.{arith, ◌≡◌, ◌∙◌, ◌&&◌, sym, false, is_key, areas_of}, Existing.rename_exists, RenameSteps.{old_bad, new_bad, rename_bad, rename_call}, renaming.rename.Goals.{then-not-is_key-via-then-not-is_key, then-not-is_key-via-else-not-is_key+then-not-is_key-2}}

pub returns-then-not-is_key-clause-ended : Rattle.iso_fs.proofs.renaming.rename.Goals.returns-then-not-is_key-clause-ended
returns-then-not-is_key-clause-ended g c =
    let bad : (is_key c.args.old.now && is_key c.args.new.now) ≡ false = elim c.then-not-is_key.branch [
      | then-not-is_key-via-then-not-is_key w ↦ old_bad c.args.old.now c.args.new.now (sym c.is_key.ensures ∙ w.if-not-is_key.true)
      | then-not-is_key-via-else-not-is_key+then-not-is_key-2 w ↦ new_bad c.args.old.now c.args.new.now (sym w.is_key-else-not-is_key.ensures ∙ w.if-not-is_key-2.true)
    ] in
    rename_bad (areas_of (g.T.TxBlocks.state c.args.tx.now) c.args.at) c.args.old.now c.args.new.now (g.T.TxBlocks.state c.args.tx.now) bad

pub returns-clause-local : Rattle.iso_fs.proofs.renaming.rename.Goals.returns-clause-local
returns-clause-local g c =
    let state = g.T.TxBlocks.state in
    rename_call (state c.args.tx.now) (state c.rename_in.new.tx) c.args.at c.args.old.now c.args.new.now c.rename_in.result (g.met.T.TxBlocks.limits c.args.tx.now) c.requires.areas c.requires.fits (sym c.is_key.ensures ∙ c.if-not-is_key.false)
    (sym c.is_key-else-not-is_key.ensures ∙ c.if-not-is_key-2.false)
    (rw c.areas_of-a.ensures at c.rename_in.ensures.run)

pub returns-then-not-is_key-clause-exists : Rattle.iso_fs.proofs.renaming.rename.Goals.returns-then-not-is_key-clause-exists
returns-then-not-is_key-clause-exists g c = grind (arith, old_bad, new_bad) steps 100000

pub returns-clause-exists : Rattle.iso_fs.proofs.renaming.rename.Goals.returns-clause-exists
returns-clause-exists g c = grind (arith, rename_exists) steps 100000
