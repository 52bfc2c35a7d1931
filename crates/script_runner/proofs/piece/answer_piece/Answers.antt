use Rattle.script_runner.proofs.{Words.{◌≡◌, ◌++◌, ℕ, List, [], ◌∷◌, length, ap, refl, sym, subst, ◌∙◌, append_assoc, append-nil, length-append, arith, Memory, EndsAt, Reads, end_of}, Answering.{ends_before, in_piece, reads_rest, unheld_ends}}
use Rattle.script_runner.proofs.piece.answer_piece.Goals as goal

pub loop-line-init : goal.loop-line-init
loop-line-init g c = record {
  taken = [];
  split = refl;
  stands = c.requires.stands;
  count = omega arith;
  reads = λ W m k bytes r. subst (λ (xs : List ℕ). Reads (g.M.ScriptMachine.stands c.args.machine.now) (g.M.ScriptMachine.disk m) (g.M.ScriptMachine.disk c.args.machine.now) k (g.K.Sink.state c.args.output.now) W xs c.args.progress.now.number c.args.progress.now.held.items)
      (sym (append-nil bytes)) r;
}

pub returns-in-Err-clause-answers : goal.returns-in-Err-clause-answers
returns-in-Err-clause-answers g c = record {
  world = tt;
  reads = λ W m k bytes r. tt;
  ends = λ W m k bytes r.
      let v = c.loop-line.invariant in
      let line = c.in-Some.line.now in
      let next = c.in-Some.next.now in
      let front = (bytes ++ v.taken) ++ (line ++ 10 ∷ []) in
      subst (λ (xs : List ℕ). EndsAt (g.M.ScriptMachine.stands c.answer_whole.new.machine) (g.M.ScriptMachine.disk m) (g.M.ScriptMachine.disk c.answer_whole.new.machine) k (g.K.Sink.state c.answer_whole.new.output) W xs (end_of c.in-Err.halt))
      (in_piece bytes v.taken line next c.args.piece.now c.loop-line.rest.now v.split c.in-Some.ensures.split)
      (ends_before W front next (end_of c.in-Err.halt) (c.in-Err.ensures.answers.ends W m k (bytes ++ v.taken) (v.reads W m k bytes r)));
}

pub loop-line-preserved : goal.loop-line-preserved
loop-line-preserved g c =
    let v = c.loop-line.invariant in
    let line = c.in-Some.line.now in
    let next = c.in-Some.next.now in
    let after = c.in_default-answer_whole.ensures in
    record {
      taken = v.taken ++ (line ++ 10 ∷ []);
      split =
          v.split ∙ ap (λ xs. v.taken ++ xs) c.in-Some.ensures.split
          ∙ sym (append_assoc v.taken (line ++ 10 ∷ []) next ∙ ap (λ xs. v.taken ++ xs) (append_assoc line (10 ∷ []) next));
      stands = after.answers.world;
      count = omega (arith, v.count, after.number, ap length c.in-Some.ensures.split, length-append line (10 ∷ next));
      reads = λ W m k bytes r.
          subst (λ (xs : List ℕ). Reads (g.M.ScriptMachine.stands c.answer_whole.new.machine) (g.M.ScriptMachine.disk m) (g.M.ScriptMachine.disk c.answer_whole.new.machine) k (g.K.Sink.state c.answer_whole.new.output) W xs c.answer_whole.new.progress.number c.answer_whole.new.progress.held.items)
          (append_assoc bytes v.taken (line ++ 10 ∷ [])) (after.answers.reads W m k (bytes ++ v.taken) (v.reads W m k bytes r));
    }

pub returns-in-Err-extend_from_slice-clause-answers : goal.returns-in-Err-extend_from_slice-clause-answers
returns-in-Err-extend_from_slice-clause-answers g c = record {
  world = tt;
  reads = λ W m k bytes r. tt;
  ends = λ W m k bytes r.
      let v = c.loop-line.invariant in
      let rest = c.loop-line.rest.now in
      let whole : (bytes ++ v.taken) ++ rest ≡ bytes ++ c.args.piece.now = append_assoc bytes v.taken rest ∙ ap (λ xs. bytes ++ xs) (sym v.split) in
      subst (λ (xs : List ℕ). EndsAt (g.M.ScriptMachine.stands c.loop-line.machine) (g.M.ScriptMachine.disk m) (g.M.ScriptMachine.disk c.loop-line.machine) k (g.K.Sink.state c.loop-line.output) W xs Memory)
      whole (ends_before W (bytes ++ v.taken) rest Memory (unheld_ends W (bytes ++ v.taken) c.loop-line.progress.number c.loop-line.progress.held.items (v.reads W m k bytes r)));
}

pub returns-clause-answers : goal.returns-clause-answers
returns-clause-answers g c = record {
  world = c.loop-line.invariant.stands;
  reads = λ W m k bytes r.
      let v = c.loop-line.invariant in
      let rest = c.loop-line.rest.now in
      let whole : (bytes ++ v.taken) ++ rest ≡ bytes ++ c.args.piece.now = append_assoc bytes v.taken rest ∙ ap (λ xs. bytes ++ xs) (sym v.split) in
      subst (λ (hs : List ℕ). Reads (g.M.ScriptMachine.stands c.loop-line.machine) (g.M.ScriptMachine.disk m) (g.M.ScriptMachine.disk c.loop-line.machine) k (g.K.Sink.state c.loop-line.output) W (bytes ++ c.args.piece.now) c.loop-line.progress.number hs)
      (sym c.in_default-extend_from_slice.ensures.items)
      (subst (λ (xs : List ℕ). Reads (g.M.ScriptMachine.stands c.loop-line.machine) (g.M.ScriptMachine.disk m) (g.M.ScriptMachine.disk c.loop-line.machine) k (g.K.Sink.state c.loop-line.output) W xs c.loop-line.progress.number (c.loop-line.progress.held.items ++ rest))
      whole (reads_rest W (bytes ++ v.taken) rest c.loop-line.progress.number c.loop-line.progress.held.items c.in_default.ensures (v.reads W m k bytes r)));
  ends = λ W m k bytes r. tt;
}
