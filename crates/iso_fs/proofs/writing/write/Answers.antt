use Rattle.iso_fs.proofs.{Words.{arith, ◌∙◌, sym}, Ended.no_memory, WriteSteps.{write_bad_name, write_bad_range, write_call, write_has}}

pub returns-then-not-is_key-clause-ended : Rattle.iso_fs.proofs.writing.write.Goals.returns-then-not-is_key-clause-ended
returns-then-not-is_key-clause-ended g c = grind (arith, write_bad_name) steps 100000

pub returns-then-not-is_many-clause-ended : Rattle.iso_fs.proofs.writing.write.Goals.returns-then-not-is_many-clause-ended
returns-then-not-is_many-clause-ended g c = grind (arith, write_bad_range) steps 100000

pub returns-in-Err-clause-ended : Rattle.iso_fs.proofs.writing.write.Goals.returns-in-Err-clause-ended
returns-in-Err-clause-ended g c = grind (arith, no_memory, write_has) steps 100000

pub returns-clause-local : Rattle.iso_fs.proofs.writing.write.Goals.returns-clause-local
returns-clause-local g c =
    let state = g.T.TxBlocks.state in
    write_call (state c.args.tx.now) (state c.write_with.new.tx) c.args.at c.args.name.now c.args.off c.args.bytes.now c.write_with.result (g.met.T.TxBlocks.limits c.args.tx.now) c.requires.areas c.requires.fits (sym c.is_key.ensures ∙ c.if-not-is_key.false) (sym c.is_many.ensures ∙ c.if-not-is_many.false)
    (rw c.areas_of-a.ensures at c.write_with.ensures.run)
