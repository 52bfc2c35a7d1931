use Rattle.iso_fs.proofs.{Words.{◌∙◌, sym, arith, areas_of}, Ended.no_memory, Existing.create_exists, CreateSteps.{bad_name, create_call, create_has}}
use Rattle.iso_fs.proofs.making.create.Goals as goal

pub returns-then-not-is_key-clause-ended : goal.returns-then-not-is_key-clause-ended
returns-then-not-is_key-clause-ended g c = grind (arith, bad_name) steps 100000

pub returns-then-not-is_key-clause-exists : goal.returns-then-not-is_key-clause-exists
returns-then-not-is_key-clause-exists g c = grind arith steps 100000

pub returns-in-Err-clause-ended : goal.returns-in-Err-clause-ended
returns-in-Err-clause-ended g c = grind (arith, no_memory, create_has) steps 100000

pub returns-clause-local : goal.returns-clause-local
returns-clause-local g c =
    create_call (g.T.TxBlocks.state c.args.tx.now) (g.T.TxBlocks.state c.create_with.new.tx) c.args.at c.args.name.now c.create_with.result (g.met.T.TxBlocks.limits c.args.tx.now) c.requires.areas c.requires.fits (sym c.is_key.ensures ∙ c.if-not-is_key.false)
    (rw c.areas_of-a.ensures at c.create_with.ensures.run)

pub returns-in-Err-clause-exists : goal.returns-in-Err-clause-exists
returns-in-Err-clause-exists g c = grind (arith, create_exists, no_memory, create_has) steps 100000

pub returns-clause-exists : goal.returns-clause-exists
returns-clause-exists g c = λ key.
    create_exists (areas_of (g.T.TxBlocks.state c.args.tx.now) c.args.at) c.args.name.now (g.T.TxBlocks.state c.args.tx.now) (g.T.TxBlocks.state c.create_with.new.tx) c.create_with.result key (rw c.areas_of-a.ensures at c.create_with.ensures.run)
