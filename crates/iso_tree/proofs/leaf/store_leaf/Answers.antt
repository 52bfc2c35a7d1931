use Rattle.iso_tree.proofs.{Words.{Ok, arith, refused_first}, Getting.{edit_unread, edit_unwritten, edit_done}}

pub returns-in-Err-clause-run : Rattle.iso_tree.proofs.leaf.store_leaf.Goals.returns-in-Err-clause-run
returns-in-Err-clause-run g c = grind (arith, edit_unread) steps 100000

pub returns-in-Err-clause-behaves : Rattle.iso_tree.proofs.leaf.store_leaf.Goals.returns-in-Err-clause-behaves
returns-in-Err-clause-behaves g c = refused_first c.in-Err.e c.in-Err.ensures.kept c.in-Err.ensures.cause c.in-Err.ensures.later (omega arith)

pub returns-in-Ok-clause-run : Rattle.iso_tree.proofs.leaf.store_leaf.Goals.returns-in-Ok-clause-run
returns-in-Ok-clause-run g c = λ old change told is.
    edit_done c.args.area c.args.leaf change (Ok c.args.answer) (g.T.TxBlocks.state c.args.tx.now) (g.T.TxBlocks.state c.look_whole.new.tx) old told (g.met.T.TxBlocks.limits c.look_whole.new.tx).count c.in_default.ensures.read
    (g.T.TxBlocks.state c.store.new.tx) c.args.bytes.now is (g.met.T.TxBlocks.limits c.store.new.tx).count c.in-Ok.ensures.stored

pub returns-in-Err-store-clause-run : Rattle.iso_tree.proofs.leaf.store_leaf.Goals.returns-in-Err-store-clause-run
returns-in-Err-store-clause-run g c = λ old change told is.
    edit_unwritten c.args.area c.args.leaf change (Ok c.args.answer) (g.T.TxBlocks.state c.args.tx.now) (g.T.TxBlocks.state c.look_whole.new.tx) old told (g.met.T.TxBlocks.limits c.look_whole.new.tx).count c.in_default.ensures.read
    (g.T.TxBlocks.state c.store.new.tx) (g.T.TxBlocks.device c.look_whole.new.tx) (g.T.TxBlocks.device c.store.new.tx) c.in-Err-store.e c.in-Err-store.ensures.kept c.in-Err-store.ensures.cause
