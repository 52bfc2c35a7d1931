use Rattle.std.proofs.{Common.{◌∙◌, sym, ap, ℕ, [], ◌∷◌, ◌++◌, replicate, None, Some, false, arith}, lemmas.List.length-replicate}
use Rattle.iso_model.{proofs.ByteLists.replicate_bytes, specs.Step.write_access}
use Rattle.tx_table.specs.Work.{Doing}
use Rattle.test_cores.proofs.Cores.{has_done, write_is}

pub returns : Rattle.test_cores.proofs.ending.filling.Goals.returns
returns c =
    let bytes = replicate 64 c.args.byte in
    let write = write_is c.args.geometry.now c.args.block bytes c.requires.inside (length-replicate {A = ℕ} 64 c.args.byte ∙ sym c.requires.size) (replicate_bytes 64 c.args.byte c.ranges.byte.fits) in
    has_done c.args.geometry.now c.args.at (write_access c.args.block bytes ∷ []) c.write.new.self (write, tt) (omega arith)
    (c.write.ensures ∙ ap (λ (w : Doing). record w { accesses = w.accesses ++ write_access c.args.block bytes ∷ []; ready = None; settled = false })
    (c.in_ok-reserve.ensures.ok ∙ ap (λ (w : Doing). record w { ready = Some c.args.block }) c.begin-work.ensures))
