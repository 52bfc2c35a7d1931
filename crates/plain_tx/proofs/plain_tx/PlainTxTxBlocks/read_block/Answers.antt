use Rattle.std.proofs.Common.{◌∙◌, sym, ap, length, arith}
use Rattle.iso_model.specs.{Array.Array, Premises.block_at, Effect.own}
use Rattle.tx_table.specs.Work.{Doing}
use Rattle.plain_tx.{specs.Plain.blocks_of, proofs.Causes.{copied, same_some}}

pub returns-clause-bytes : Rattle.plain_tx.proofs.plain_tx.PlainTxTxBlocks.read_block.Goals.returns-clause-bytes
returns-clause-bytes c = λ A told.
    let t = c.args.self.now in
    let same = same_some (blocks_of t.work.size t.count t.blocks.items) A told in
    let bytes = copied t.work.size (length c.args.into.now) t.count c.args.block t.blocks.items c.deref.result.now c.copy_from_slice.new.self c.requires (omega arith) c.copy_from_slice.ensures.after c.deref.ensures.value in
    c.read.ensures.shown A (sym (bytes ∙ ap (λ (B : Array). block_at B c.args.block) same))
    ∙ ap (λ (w : Doing). block_at (own A w.accesses) c.args.block) c.in_default.ensures.ok
