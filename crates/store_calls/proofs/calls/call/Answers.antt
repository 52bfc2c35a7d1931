use Rattle.store_calls.proofs.{Words.{create_program, read_program, remove_program, rename_program, write_program, del_program, get_program, put_program, found_reply, removed_reply, area_of, areas_of}, Called.{file_told, store_told}}
use Rattle.store_model.specs.TreeCalls as tree
use Rattle.script_model.specs.declared.script.Reply.TheVariants as reply
use Rattle.store_calls.proofs.calls.call.Goals as goal

pub returns-in-HashPut : goal.returns-in-HashPut
returns-in-HashPut g c =
    let t = g.T.TxBlocks.state c.args.tx.now in
    let both = store_told t (g.T.TxBlocks.state c.put.new.tx) (λ done. reply.Done) (g.T.TxBlocks.device c.args.tx.now) (g.T.TxBlocks.device c.put.new.tx) 3 c.requires.is_open c.done.result (put_program (area_of t c.args.at.files) c.as_slice.result.now c.as_slice-in-HashPut.result.now) c.put.result c.of_store.result c.of_store.ensures c.done.ensures c.put.ensures.ended c.put.ensures.cause c.put.ensures.passed in
    let said = rw (c.as_slice-in-HashPut.ensures, c.as_slice.ensures) at both in
    rw c.in-HashPut.is (record { called = said.0; stops = said.1 })

pub returns-in-HashGet : goal.returns-in-HashGet
returns-in-HashGet g c =
    let t = g.T.TxBlocks.state c.args.tx.now in
    let both = store_told t (g.T.TxBlocks.state c.get.new.tx) found_reply (g.T.TxBlocks.device c.args.tx.now) (g.T.TxBlocks.device c.get.new.tx) 1 c.requires.is_open c.found.result (get_program (area_of t c.args.at.files) c.as_slice-in-HashGet.result.now) c.get.result c.of_store-in-HashGet.result c.of_store-in-HashGet.ensures c.found.ensures c.get.ensures.ended c.get.ensures.cause c.get.ensures.passed in
    let said = rw c.as_slice-in-HashGet.ensures at both in
    rw c.in-HashGet.is (record { called = said.0; stops = said.1 })

pub returns-in-HashDelete : goal.returns-in-HashDelete
returns-in-HashDelete g c =
    let t = g.T.TxBlocks.state c.args.tx.now in
    let both = store_told t (g.T.TxBlocks.state c.del.new.tx) removed_reply (g.T.TxBlocks.device c.args.tx.now) (g.T.TxBlocks.device c.del.new.tx) 2 c.requires.is_open c.removed.result (del_program (area_of t c.args.at.files) c.as_slice-in-HashDelete.result.now) c.del.result c.of_store-in-HashDelete.result c.of_store-in-HashDelete.ensures c.removed.ensures c.del.ensures.ended c.del.ensures.cause c.del.ensures.passed in
    let said = rw c.as_slice-in-HashDelete.ensures at both in
    rw c.in-HashDelete.is (record { called = said.0; stops = said.1 })

pub returns-in-TreePut : goal.returns-in-TreePut
returns-in-TreePut g c =
    let t = g.T.TxBlocks.state c.args.tx.now in
    let both = store_told t (g.T.TxBlocks.state c.put-in-TreePut.new.tx) (λ done. reply.Done) (g.T.TxBlocks.device c.args.tx.now) (g.T.TxBlocks.device c.put-in-TreePut.new.tx) 66 c.requires.is_open c.done-in-TreePut.result (tree.put_program (area_of t c.args.at.files) c.as_slice-in-TreePut.result.now c.as_slice-in-TreePut-2.result.now) c.put-in-TreePut.result c.of_store-in-TreePut.result c.of_store-in-TreePut.ensures c.done-in-TreePut.ensures c.put-in-TreePut.ensures.ended c.put-in-TreePut.ensures.cause c.put-in-TreePut.ensures.passed in
    let said = rw (c.as_slice-in-TreePut.ensures, c.as_slice-in-TreePut-2.ensures) at both in
    rw c.in-TreePut.is (record { called = said.0; stops = said.1 })

pub returns-in-TreeGet : goal.returns-in-TreeGet
returns-in-TreeGet g c =
    let t = g.T.TxBlocks.state c.args.tx.now in
    let both = store_told t (g.T.TxBlocks.state c.get-in-TreeGet.new.tx) found_reply (g.T.TxBlocks.device c.args.tx.now) (g.T.TxBlocks.device c.get-in-TreeGet.new.tx) 1 c.requires.is_open c.found-in-TreeGet.result (tree.get_program (area_of t c.args.at.files) c.as_slice-in-TreeGet.result.now) c.get-in-TreeGet.result c.of_store-in-TreeGet.result c.of_store-in-TreeGet.ensures c.found-in-TreeGet.ensures c.get-in-TreeGet.ensures.ended c.get-in-TreeGet.ensures.cause c.get-in-TreeGet.ensures.passed in
    let said = rw c.as_slice-in-TreeGet.ensures at both in
    rw c.in-TreeGet.is (record { called = said.0; stops = said.1 })

pub returns-in-TreeDelete : goal.returns-in-TreeDelete
returns-in-TreeDelete g c =
    let t = g.T.TxBlocks.state c.args.tx.now in
    let both = store_told t (g.T.TxBlocks.state c.del-in-TreeDelete.new.tx) removed_reply (g.T.TxBlocks.device c.args.tx.now) (g.T.TxBlocks.device c.del-in-TreeDelete.new.tx) 1 c.requires.is_open c.removed-in-TreeDelete.result (tree.del_program (area_of t c.args.at.files) c.as_slice-in-TreeDelete.result.now) c.del-in-TreeDelete.result c.of_store-in-TreeDelete.result c.of_store-in-TreeDelete.ensures c.removed-in-TreeDelete.ensures c.del-in-TreeDelete.ensures.ended c.del-in-TreeDelete.ensures.cause c.del-in-TreeDelete.ensures.passed in
    let said = rw c.as_slice-in-TreeDelete.ensures at both in
    rw c.in-TreeDelete.is (record { called = said.0; stops = said.1 })

pub returns-in-FileNew : goal.returns-in-FileNew
returns-in-FileNew g c =
    let t = g.T.TxBlocks.state c.args.tx.now in
    let both = file_told t (g.T.TxBlocks.state c.create.new.tx) (λ done. reply.Done) (g.T.TxBlocks.device c.args.tx.now) (g.T.TxBlocks.device c.create.new.tx) 66 c.requires.is_open c.done-in-FileNew.result (create_program (areas_of t c.args.at) c.as_slice-in-FileNew.result.now) c.create.result c.done-in-FileNew.ensures c.create.ensures.ended c.create.ensures.leaves.cause c.create.ensures.leaves.passed in
    let said = rw c.as_slice-in-FileNew.ensures at both in
    rw c.in-FileNew.is (record { called = said.0; stops = said.1 })

pub returns-in-FileWrite : goal.returns-in-FileWrite
returns-in-FileWrite g c =
    let t = g.T.TxBlocks.state c.args.tx.now in
    let both = file_told t (g.T.TxBlocks.state c.write.new.tx) removed_reply (g.T.TxBlocks.device c.args.tx.now) (g.T.TxBlocks.device c.write.new.tx) 1 c.requires.is_open c.removed-in-FileWrite.result (write_program (areas_of t c.args.at) c.as_slice-in-FileWrite.result.now c.in-FileWrite.off c.as_slice-in-FileWrite-2.result.now) c.write.result c.removed-in-FileWrite.ensures c.write.ensures.ended c.write.ensures.leaves.cause c.write.ensures.leaves.passed in
    let said = rw (c.as_slice-in-FileWrite.ensures, c.as_slice-in-FileWrite-2.ensures) at both in
    rw c.in-FileWrite.is (record { called = said.0; stops = said.1 })

pub returns-in-FileRead : goal.returns-in-FileRead
returns-in-FileRead g c =
    let t = g.T.TxBlocks.state c.args.tx.now in
    let both = file_told t (g.T.TxBlocks.state c.read.new.tx) found_reply (g.T.TxBlocks.device c.args.tx.now) (g.T.TxBlocks.device c.read.new.tx) 1 c.requires.is_open c.found-in-FileRead.result (read_program (areas_of t c.args.at) c.as_slice-in-FileRead.result.now c.in-FileRead.off c.in-FileRead.len) c.read.result c.found-in-FileRead.ensures c.read.ensures.ended c.read.ensures.leaves.cause c.read.ensures.leaves.passed in
    let said = rw c.as_slice-in-FileRead.ensures at both in
    rw c.in-FileRead.is (record { called = said.0; stops = said.1 })

pub returns-in-FileMove : goal.returns-in-FileMove
returns-in-FileMove g c =
    let t = g.T.TxBlocks.state c.args.tx.now in
    let both = file_told t (g.T.TxBlocks.state c.rename.new.tx) removed_reply (g.T.TxBlocks.device c.args.tx.now) (g.T.TxBlocks.device c.rename.new.tx) 66 c.requires.is_open c.removed-in-FileMove.result (rename_program (areas_of t c.args.at) c.as_slice-in-FileMove.result.now c.as_slice-in-FileMove-2.result.now) c.rename.result c.removed-in-FileMove.ensures c.rename.ensures.ended c.rename.ensures.leaves.cause c.rename.ensures.leaves.passed in
    let said = rw (c.as_slice-in-FileMove.ensures, c.as_slice-in-FileMove-2.ensures) at both in
    rw c.in-FileMove.is (record { called = said.0; stops = said.1 })

pub returns-in-FileDelete : goal.returns-in-FileDelete
returns-in-FileDelete g c =
    let t = g.T.TxBlocks.state c.args.tx.now in
    let both = file_told t (g.T.TxBlocks.state c.remove.new.tx) removed_reply (g.T.TxBlocks.device c.args.tx.now) (g.T.TxBlocks.device c.remove.new.tx) 1 c.requires.is_open c.removed-in-FileDelete.result (remove_program (areas_of t c.args.at) c.as_slice-in-FileDelete.result.now) c.remove.result c.removed-in-FileDelete.ensures c.remove.ensures.ended c.remove.ensures.leaves.cause c.remove.ensures.leaves.passed in
    let said = rw c.as_slice-in-FileDelete.ensures at both in
    rw c.in-FileDelete.is (record { called = said.0; stops = said.1 })
