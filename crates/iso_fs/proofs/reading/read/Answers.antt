use Rattle.iso_fs.proofs.{Words.{arith, ◌∙◌, sym, ap, ℕ, List, Ok, option_map, take, with_items_is, areas_of}, Ended.no_memory, ReadSteps.{read_answer, read_bad_name, read_bad_range, read_call, read_has}}
use Rattle.iso_fs.proofs.reading.read.Goals as goal

pub returns-then-not-is_key-clause-ended : goal.returns-then-not-is_key-clause-ended
returns-then-not-is_key-clause-ended g c = grind (arith, read_bad_name) steps 100000

pub returns-then-not-is_many-clause-ended : goal.returns-then-not-is_many-clause-ended
returns-then-not-is_many-clause-ended g c = grind (arith, read_bad_range) steps 100000

pub returns-in-Err-clause-ended : goal.returns-in-Err-clause-ended
returns-in-Err-clause-ended g c = grind (arith, no_memory, read_has) steps 100000

pub returns-in-Ok-read_with-clause-ended : goal.returns-in-Ok-read_with-clause-ended
returns-in-Ok-read_with-clause-ended g c =
    let state = g.T.TxBlocks.state in
    read_answer c.areas_of-a.result (areas_of (state c.args.tx.now) c.args.at) c.args.name.now c.args.off c.args.len (state c.args.tx.now) (state c.read_with.new.tx) c.in-Ok-read_with.found c.read_with.new.room c.bytes_read.result c.areas_of-a.ensures
    (c.bytes_read.ensures ∙ ap (λ (xs : List ℕ). option_map (λ n. take n xs) c.in-Ok-read_with.found) (with_items_is c.in-Ok.all.2 c.read_with.new.room (c.read_with.auto.room ∙ c.deref_mut-3.ensures.len))) c.in-Ok-read_with.ensures.part.run

pub returns-in-Ok-read_with-clause-local : goal.returns-in-Ok-read_with-clause-local
returns-in-Ok-read_with-clause-local g c =
    let state = g.T.TxBlocks.state in
    read_call (state c.args.tx.now) (state c.read_with.new.tx) c.args.at c.args.name.now c.args.off c.args.len (Ok c.bytes_read.result) c.requires.areas (sym c.is_key.ensures ∙ c.if-not-is_key.false) (sym c.is_many.ensures ∙ c.if-not-is_many.false)
    (read_answer c.areas_of-a.result (areas_of (state c.args.tx.now) c.args.at) c.args.name.now c.args.off c.args.len (state c.args.tx.now) (state c.read_with.new.tx) c.in-Ok-read_with.found c.read_with.new.room c.bytes_read.result c.areas_of-a.ensures
    (c.bytes_read.ensures ∙ ap (λ (xs : List ℕ). option_map (λ n. take n xs) c.in-Ok-read_with.found) (with_items_is c.in-Ok.all.2 c.read_with.new.room (c.read_with.auto.room ∙ c.deref_mut-3.ensures.len))) c.in-Ok-read_with.ensures.part.run)
