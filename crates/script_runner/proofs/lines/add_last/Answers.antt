use Rattle.script_runner.proofs.{ScriptWords.{ap, sym, subst, Bool, ℕ, Some, ◌≡◌, ◌∙◌, BadLine, last_piece}, LastPieces.cut_bad}

pub returns-then-cut-clause-err : Rattle.script_runner.proofs.lines.add_last.Goals.returns-then-cut-clause-err
returns-then-cut-clause-err c =
    subst (λ (b : Bool). (last_piece b c.args.number c.args.piece.now).bad ≡ Some (record { line = c.args.number; cause = c.cut_cause.result })) (sym c.if-cut.true)
    (cut_bad c.args.number c.args.piece.now ∙ ap (λ (n : ℕ). let b : BadLine = record { line = c.args.number; cause = n } in Some b) (sym c.cut_cause.ensures))
