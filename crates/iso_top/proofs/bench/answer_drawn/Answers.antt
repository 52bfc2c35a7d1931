use Rattle.iso_top.proofs.{Words.{◌≡◌, ◌∙◌, [], false, refl, sym, subst, ap, DrawnState, DigestedState, drawn_state, digested_state, disk_of, IsMachineOf, after, bench_text, bench_world, script, World, HasRun}, Benches.{led_to, printed_bench, printed_line}, Runs.{run_alone, up_on}}
use Rattle.script_runner.specs.declared.run_end.RunEnd.TheVariants as end

pub run-end-requires : Rattle.iso_top.proofs.bench.answer_drawn.Goals.run-end-requires
run-end-requires g c = (bench_world, c.over-machine.ensures.stands bench_world c.requires.world refl)

pub disk_behind-image-requires : Rattle.iso_top.proofs.bench.answer_drawn.Goals.disk_behind-image-requires
disk_behind-image-requires g c =
    let ran = c.run-end.ensures.ran bench_world (c.over-machine.ensures.stands bench_world c.requires.world refl) in
    let machine = c.run-end.new.machine in
    up_on (IsMachineOf g.I.Disk.state machine ran.answered.final) ((V : World) × IsMachineOf g.I.Disk.state machine V)
    (λ is. (ran.answered.final, is)) c.run-end.result ran.answered.world

pub returns-clause-plain : Rattle.iso_top.proofs.bench.answer_drawn.Goals.returns-clause-plain
returns-clause-plain g c = c.drawn_scripts_are_good.ensures.plain c.args.seed c.args.count c.requires.count

pub returns-clause-ran : Rattle.iso_top.proofs.bench.answer_drawn.Goals.returns-clause-ran
returns-clause-ran g c =
    let state = g.I.Disk.state in
    let fresh : DrawnState = record { left = bench_text c.args.count c.args.seed; is_ended = false } in
    let none : DigestedState = record { text = []; faults = 0 } in
    let rest = drawn_state c.run-end.new.input in
    let held = digested_state c.run-end.new.output in
    let machine = c.run-end.new.machine in
    let from = subst (λ (d : DrawnState). HasRun (IsMachineOf state machine) (state (disk_of c.over-machine.result.core)) (state (disk_of machine.core)) (drawn_state d) rest (digested_state c.new-replies.result) held bench_world c.run-end.result)
    c.new-input.ensures (c.run-end.ensures.ran bench_world (c.over-machine.ensures.stands bench_world c.requires.world refl)) in
    let ran = run_alone _ _ _ (drawn_state fresh) rest (digested_state c.new-replies.result) held bench_world c.run-end.result from in
    let run = subst (λ (s : DigestedState). HasRun (λ V. Unit {0}) (state (disk_of c.over-machine.result.core)) (state (disk_of machine.core)) (drawn_state fresh) rest (digested_state s) held bench_world c.run-end.result)
    c.new-replies.ensures ran in
    let old = ap disk_of c.over-machine.ensures.core in
    let new = c.disk_behind-image.ensures in
    let whole = subst (λ (d : g.row.I.Denot). HasRun (λ V. Unit {0}) (state (disk_of c.args.core)) (state d) (drawn_state fresh) rest (digested_state none) held bench_world c.run-end.result) (sym new)
    (subst (λ (d : g.row.I.Denot). HasRun (λ V. Unit {0}) (state d) (state (disk_of machine.core)) (drawn_state fresh) rest (digested_state none) held bench_world c.run-end.result) old run) in
    let good = c.drawn_scripts_are_good.ensures.good c.args.seed c.args.count c.requires.count in
    let plain = c.drawn_scripts_are_good.ensures.plain c.args.seed c.args.count c.requires.count in
    let both = c.commits_are_twice_the_rounds_less_the_conflicts.ensures c.args.seed c.args.count c.requires.count in
    let counts = λ (done : c.run-end.result ≡ end.Done). c.the_last_commit_counts_all.ensures c.args.seed c.args.count c.requires.count
    ∙ sym (c.last_commit-commits.ensures (after bench_world (script (bench_text c.args.count c.args.seed)).lines)
    (led_to c.args.seed c.args.count (IsMachineOf state machine) (state (disk_of c.over-machine.result.core)) (state (disk_of machine.core)) rest (digested_state c.new-replies.result) held plain c.run-end.result from done)) in (
      c.run-end.result,
      drawn_state fresh,
      rest,
      digested_state none,
      held,
      refl,
      refl,
      whole,
      printed_line c.args.seed c.args.count c.last_commit-commits.result c.put_summary-status.result good plain both c.shown_bytes_are_not_counted.ensures.commits c.shown_bytes_are_not_counted.ensures.conflicts
          (state (disk_of c.args.core)) (state c.disk_behind-image.result) c.run-end.new.input c.run-end.new.output (g.K.Sink.state c.args.output.now) (g.K.Sink.state c.put_summary-status.new.output) c.run-end.result whole counts
          c.put_summary-status.ensures.done,
      printed_bench c.args.seed c.args.count c.last_commit-commits.result c.put_summary-status.result good plain both c.shown_bytes_are_not_counted.ensures.commits c.shown_bytes_are_not_counted.ensures.conflicts
          (state (disk_of c.args.core)) (state c.disk_behind-image.result) c.run-end.new.input c.run-end.new.output (g.K.Sink.state c.args.output.now) (g.K.Sink.state c.put_summary-status.new.output) c.run-end.result whole counts
          c.put_summary-status.ensures.done c.put_summary-status.ensures.disk c.put_summary-status.ensures.memory,
    )
