use Rattle.std.proofs.{Common.{◌∙◌, sym, ap, ℕ, List, [], ◌∷◌, ◌++◌, replicate, None, Some, false, arith}, lemmas.List.length-replicate}
use Rattle.iso_model.{proofs.ByteLists.replicate_bytes, specs.Step.{read_access, write_access}}
use Rattle.tx_table.specs.Work.{Doing}
use Rattle.test_cores.proofs.Cores.{has_done, write_is}
use Rattle.recover_tests.proofs.Groups.{read_is}

pub returns : Rattle.recover_tests.proofs.group_tests.reading.Goals.returns
returns c =
    let g = c.args.geometry.now in
    let bytes : List ℕ = replicate 64 9 in
    let write = write_is g 1 bytes c.requires.inside (length-replicate {A = ℕ} 64 9 ∙ sym c.requires.size) (replicate_bytes 64 9 (omega arith)) in
    let read_it = c.read.ensures.work ∙ ap (λ (w : Doing). record w { accesses = w.accesses ++ read_access 0 ∷ []; ready = None; settled = false })
    (c.in_ok-reserve.ensures.ok ∙ ap (λ (w : Doing). record w { ready = Some 0 }) c.begin-work.ensures) in
    has_done g c.args.at (read_access 0 ∷ write_access 1 bytes ∷ []) c.write.new.self (read_is g 0 (omega (arith, c.requires.inside)), (write, tt)) (omega arith)
    (c.write.ensures ∙ ap (λ (w : Doing). record w { accesses = w.accesses ++ write_access 1 bytes ∷ []; ready = None; settled = false })
    (c.in_ok-reserve-2.ensures.ok ∙ ap (λ (w : Doing). record w { ready = Some 1 }) read_it))
