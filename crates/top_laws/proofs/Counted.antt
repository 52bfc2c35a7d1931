-- What the line of a bench tells, whatever the disk tells.
use Rattle.top_laws.proofs.{Words.{◌≡◌, inl, inr, ◌∙◌, ap, sym, subst, ℕ, ◌+◌, ◌-◌, ◌*◌, List, arith, filter, length, IfSome, Option, Bench, DiskState, SinkState, Wrote, SourceState, Line, Reply, Script, answers_to, bench_text, bench_world, is_committed, is_conflict, one_places, script, sha256, RunEnd, AreLinesOf, AreSameButShown, ArePlain, HasRun, plain_same, text_of, HasBenched, HasMet, PrintedBench, PrintedLine, PrintsCounts, TellsNamed, bench_text_of, summary_of}, Plainly.zero_is_begun}
use Rattle.iso_top.proofs.Benches.{SameCounts}
use Rattle.script_runner.specs.declared.run_end.RunEnd.TheVariants as end

module _ {D : Type 0} (state : D → DiskState) (name : List ℕ) (old new : D) (input_old input_new : SourceState) (output_old output_new : SinkState) (seed count : ℕ) where
  abbrev lines : List (ℕ × Line)
  lines = (script (bench_text count seed)).lines

  abbrev answers : List Reply
  answers = answers_to bench_world lines

  module _ (plain : ArePlain lines) (conflicts : length (filter is_conflict answers) ≡ one_places count seed)
      (both : length (filter is_committed answers) + length (filter is_conflict answers) ≡ 2 * count) (commits_same : SameCounts is_committed) (conflicts_same : SameCounts is_conflict) where
    -- the replies that were given tell of as many as the model's
    counts : (given : List Reply) → AreSameButShown given answers
        → (length (filter is_committed given) ≡ 2 * count - one_places count seed) × (length (filter is_conflict given) ≡ one_places count seed)
    counts given same =
        let first = commits_same given answers same in
        let second = conflicts_same given answers same in
        (omega (arith, first, conflicts, both), second ∙ conflicts)

    told : (b : HasBenched state name seed count 0 old new input_old input_new output_old output_new) → PrintsCounts seed count output_old output_new
    told b = go b.end b.run b.printed b.counted
      where
        lined : (run : HasRun (λ V. Unit {0}) (state b.start) (state new) b.drawn b.rest b.empty b.held bench_world end.Done) → lines ≡ run.done
        lined run =
            let lines_of : AreLinesOf end.Done (script (bench_text count seed)) run.done run.next =
            subst (λ (o : Option (List ℕ)). IfSome o (λ text. AreLinesOf end.Done (script text) run.done run.next)) b.script_is run.told in
            ap (λ (S : Script). S.lines) lines_of.0

        go : (e : RunEnd) → (run : HasRun (λ V. Unit {0}) (state b.start) (state new) b.drawn b.rest b.empty b.held bench_world e)
            → PrintedBench seed count 0 e (TellsNamed name (state old)) output_old output_new
            → PrintedLine e 0 (summary_of count run.done run.answered.on_any_disk.given) output_old output_new → PrintsCounts seed count output_old output_new
        go end.Done run printed (inl (is, whole)) =
            let given = run.answered.on_any_disk.given in
            let all = lined run in
            let same = subst (λ (xs : List (ℕ × Line)). AreSameButShown given (answers_to bench_world xs)) (sym all)
            (plain_same bench_world run.answered.reached run.done given (subst ArePlain all plain) run.answered.on_any_disk.are) in
            let (commits_are, conflicts_are) = counts given same in
            record {
              digest = sha256 (text_of run.done given);
              put = subst (λ (n : ℕ). Wrote output_old output_new (bench_text_of count n (one_places count seed) (sha256 (text_of run.done given)))) commits_are
                  (subst (λ (n : ℕ). Wrote output_old output_new (bench_text_of count (length (filter is_committed given)) n (sha256 (text_of run.done given)))) conflicts_are whole.wrote);
            }
        go end.Done run printed (inr (is, cut)) = absurd (cc is)
        go (end.BadLine bad) run printed counted = absurd printed
        go end.Disk run (is, text) counted = absurd (cc is)
        go end.Input run printed counted = absurd printed
        go end.Output run (is, text) counted = absurd (cc is)
        go end.Memory run (is, text) counted = absurd (cc is)

  pub counts_printed : HasMet state (Bench seed count) name 0 old new input_old input_new output_old output_new → ArePlain lines
      → length (filter is_conflict answers) ≡ one_places count seed → length (filter is_committed answers) + length (filter is_conflict answers) ≡ 2 * count
      → SameCounts is_committed → SameCounts is_conflict → PrintsCounts seed count output_old output_new
  counts_printed (inl (e, is, not)) plain conflicts both commits_same conflicts_same = absurd (zero_is_begun e is)
  counts_printed (inr b) plain conflicts both commits_same conflicts_same = told plain conflicts both commits_same conflicts_same b
