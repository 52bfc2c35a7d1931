-- What is put of a bench.
use Rattle.iso_top.proofs.Words.{◌≡◌, ◌⊎◌, Bool, inl, inr, ℕ, ◌+◌, ◌-◌, ◌*◌, List, [], Some, None, false, length, filter, refl, sym, ◌∙◌, ap, subst, arith, IsSome, DrawnState, DigestedState, drawn_state, digested_state, DiskState, SinkState, SourceState, Line, Reply, World, after, answers_to, bench_text, bench_world, is_committed, is_conflict, bench_text_of, sha256, Script, replies, script, RunEnd, ArePlain, AreSameButShown, plain_same, text_of, HasRun, PrintedBench, PrintedLine, summary_of, Printed, WasCut, WroteWhole, disk_fault_text, memory_text}
use Rattle.script_runner.specs.declared.run_end.RunEnd.TheVariants as end

-- as many replies pass a test, whatever bytes were shown
abbrev pub SameCounts : (test : Reply → Bool) → Type 0
SameCounts test = (xs ys : List Reply) → AreSameButShown xs ys → length (filter test xs) ≡ length (filter test ys)

same_text : (xs ys : List ℕ) → Some xs ≡ Some ys → xs ≡ ys
same_text xs ys e = cc

-- a line and what became of it
abbrev pub PutSummary : (count commits status : ℕ) → (text : List ℕ) → SinkState → SinkState → Type 0
PutSummary count commits status text old new =
    (line : List ℕ) × (line ≡ bench_text_of count commits (2 * count - commits) (sha256 text)) × (((status ≡ 0) × WroteWhole old new line) ⊎ ((status ≡ 7) × WasCut old new line))

module _ (seed count : ℕ) where
  abbrev lines : List (ℕ × Line)
  lines = (script (bench_text count seed)).lines

  abbrev answers : List Reply
  answers = answers_to bench_world lines

  abbrev fresh_script : SourceState
  fresh_script = drawn_state (record { left = bench_text count seed; is_ended = false })

  -- the world that a whole run led to
  pub led_to : (stands : World → Type 0) (disk disk_new : DiskState) (input : SourceState) (old new : SinkState) → ArePlain lines → (e : RunEnd) → HasRun stands disk disk_new fresh_script input old new bench_world e
      → e ≡ end.Done → stands (after bench_world lines)
  led_to stands disk disk_new input old new plain end.Done run is =
      let all : run.done ≡ lines = ap (λ (S : Script). S.lines) (sym run.told.0) in
      let known = run.answered.reached_is.known (inr (subst ArePlain (sym all) plain)) in
      subst stands (run.answered.whole_is run.told.1 ∙ known ∙ ap (after bench_world) all) run.answered.world
  led_to stands disk disk_new input old new plain e run is = absurd (cc is)

  module _ (commits status : ℕ) (good : (script (bench_text count seed)).bad ≡ None) (plain : ArePlain lines)
      (both : length (filter is_committed answers) + length (filter is_conflict answers) ≡ 2 * count) (commits_same : SameCounts is_committed) (conflicts_same : SameCounts is_conflict)
      (disk disk_new : DiskState) (rest : DrawnState) (held : DigestedState) (old new : SinkState) where
    abbrev Ran : RunEnd → Type 0
    Ran e = HasRun (λ V. Unit {0}) disk disk_new fresh_script (drawn_state rest) (digested_state (record { text = []; faults = 0 })) (digested_state held) bench_world e

    -- where all was done the commits are those that the model's replies tell of
    abbrev Counts : RunEnd → Type 0
    Counts e = e ≡ end.Done → length (filter is_committed answers) ≡ commits

    -- and those of the replies that were given, of which the other ends are conflicts
    given_counts : length (filter is_committed answers) ≡ commits → (given : List Reply) → AreSameButShown given answers
        → (commits ≡ length (filter is_committed given)) × (2 * count - commits ≡ length (filter is_conflict given))
    given_counts is given same =
        let first = commits_same given answers same in
        let second = conflicts_same given answers same in
        (omega (arith, first, is), omega (arith, second, both, is))

    pub printed_line : (e : RunEnd) → (run : Ran e) → Counts e → (e ≡ end.Done → PutSummary count commits status held.text old new)
        → PrintedLine e status (summary_of count run.done run.answered.on_any_disk.given) old new
    printed_line end.Done run counts done =
        let (line, is, put) = done refl in
        let any = run.answered.on_any_disk in
        let all : run.done ≡ lines = ap (λ (S : Script). S.lines) (sym run.told.0) in
        let alike = subst (λ (xs : List (ℕ × Line)). AreSameButShown any.given (answers_to bench_world xs)) all
        (plain_same bench_world run.answered.reached run.done any.given (subst ArePlain (sym all) plain) any.are) in
        let counted = given_counts (counts refl) any.given alike in
        let text = same_text held.text (text_of run.done any.given) any.put in
        let same : line ≡ summary_of count run.done any.given = is ∙ (λ i. bench_text_of count (counted.0 i) (counted.1 i) (sha256 (text i))) in
        subst (λ (l : List ℕ). ((status ≡ 0) × WroteWhole old new l) ⊎ ((status ≡ 7) × WasCut old new l)) same put
    printed_line e run counts done = tt

    pub printed_bench : (e : RunEnd) → Ran e → Counts e → (e ≡ end.Done → PutSummary count commits status held.text old new)
        → (e ≡ end.Disk → (status ≡ 5) × Printed old new disk_fault_text)
        → ((e ≡ end.Output) ⊎ (e ≡ end.Memory) → (status ≡ 8) × Printed old new memory_text)
        → PrintedBench seed count status e (IsSome disk.contents) old new
    printed_bench end.Done run counts done failed memory =
        let (line, is, put) = done refl in
        let first : commits ≡ length (filter is_committed answers) = sym (counts refl) in
        let second : 2 * count - commits ≡ length (filter is_conflict answers) = omega (arith, first, both) in
        let all : run.done ≡ lines = ap (λ (S : Script). S.lines) (sym run.told.0) in (
          line,
          (λ told.
              let text = same_text held.text (replies bench_world run.done) (run.answered.replies told) ∙ ap (replies bench_world) all in
              is ∙ (λ i. bench_text_of count (first i) (second i) (sha256 (text i)))),
          put,
        )
    printed_bench (end.BadLine bad) run counts done failed memory = cc (good, ap (λ (S : Script). S.bad) run.told.0)
    printed_bench end.Disk run counts done failed memory = failed refl
    printed_bench end.Input run counts done failed memory = absurd (omega (arith, run.input))
    printed_bench end.Output run counts done failed memory = memory (inl refl)
    printed_bench end.Memory run counts done failed memory = memory (inr refl)
