-- What `recover` and `bench` have done, from the world that a call begins with.
use Rattle.iso_top.proofs.{Words.{◌≡◌, ◌≢◌, ◌⊎◌, inl, inr, ◌+◌, ◌++◌, ℕ, List, [], Option, Some, None, IfSome, IsSome, append-nil, refl, sym, ◌∙◌, ap, subst, arith, Rose, DiskState, LeavesOnly, since_bind, still_bound, SinkState, SourceState, Geometry, Line, bench_geometry, bench_output, bench_text, bench_world, recover_output, History, Script, script, IsWorld, World, empty_history, fresh, Core, StandsFor, disk_of, up, RunEnd, AreFirst, AreLinesOf, HasRun, ArePlain, IsPlain, all_first, ShowsBetween, HasCore, HasBegun, HasBenched, HasRecovered, PrintedBench, PrintedDigest, PrintedLine, PrintedResult, summary_of, IsUntouched, MayBeUnmade, OpensTo, TellsNamed}, Answered.has_begun}
use Rattle.script_runner.specs.declared.run_end.RunEnd.TheVariants as end

-- a core over a new image represents the fresh world
made_world : {D : Type 0} (state : D → DiskState) (g : Geometry) (name : List ℕ) (disk : D) (core : Core D) → HasCore state (Some g) name disk core → HasCore state (Some g) name disk core
made_world state g name disk core has = record {
  world = fresh g 1 (empty_history g);
  stands = subst (λ (W : World). StandsFor state core W up) has.starts has.stands;
  idle = refl;
  next = omega arith;
  starts = refl;
  told = has.told;
  faults = has.faults;
  bound = has.bound;
  binds = has.binds;
  once = has.once;
  untouched = has.untouched;
  moments = subst (λ (W : World). LeavesOnly (state has.bound) (state (disk_of core)) (λ c. MayBeUnmade (Some g) c ⊎ ShowsBetween W W c)) has.starts has.moments;
}

-- what is told of one disk is told of another that tells no more
result_told : (status : ℕ) (old new : Type 0) → (old → new) → (defined : List ℕ) (a b : SinkState) → PrintedResult status new defined a b → PrintedResult status old defined a b
result_told status old new stays defined a b (text, told, put) = (text, (λ some. told (stays some)), put)

digest_told : (status : ℕ) (old new : Type 0) → (old → new) → (H : History) (a b : SinkState) → PrintedDigest status new H a b → PrintedDigest status old H a b
digest_told status old new stays H a b (inl result) = inl (result_told status old new stays (recover_output H) a b result)
digest_told status old new stays H a b (inr why) = inr why

bench_told : (seed count status : ℕ) (e : RunEnd) (old new : Type 0) → (old → new) → (a b : SinkState) → PrintedBench seed count status e new a b → PrintedBench seed count status e old a b
bench_told seed count status end.Done old new stays a b result = result_told status old new stays (bench_output seed count) a b result
bench_told seed count status (end.BadLine bad) old new stays a b never = never
bench_told seed count status end.Disk old new stays a b why = why
bench_told seed count status end.Input old new stays a b never = never
bench_told seed count status end.Output old new stays a b why = why
bench_told seed count status end.Memory old new stays a b why = why

-- a world that an image opens to has its base directly below its first commit
opens_at : (given : Option (List ℕ)) (W : World) → IsWorld W → OpensTo given W → W.base + 1 ≡ W.history.first
opens_at given W sound opens =
    let base = ap (λ (V : World). V.base) opens.world_is in
    let first = ap (λ (V : World). V.history.first) opens.world_is in
    let some = sound.history.first in
    omega (arith, base, first, some)

-- the lines of a script that is known
lines_known : (e : RunEnd) (rest : Option (List ℕ)) (done next : List (ℕ × Line)) (text : List ℕ) → rest ≡ Some text → IfSome rest (λ all. AreLinesOf e (script all) done next) → AreLinesOf e (script text) done next
lines_known e rest done next text is told = subst (λ (o : Option (List ℕ)). IfSome o (λ all. AreLinesOf e (script all) done next)) is told

-- where no line of a script calls a store, none of the lines that were run does
plain_all : (S T : Script) (done next : List (ℕ × Line)) → S ≡ T → T.lines ≡ done → next ≡ [] → ArePlain S.lines → ArePlain (done ++ next)
plain_all S T done next is all none plain =
    let same : S.lines ≡ done ++ next = ap (λ (s : Script). s.lines) is ∙ all ∙ sym (append-nil done) ∙ ap (λ (xs : List (ℕ × Line)). done ++ xs) (sym none) in
    subst (λ (xs : List (ℕ × Line)). ArePlain xs) same plain

plain_some : (lines done next : List (ℕ × Line)) → AreFirst lines done next → ArePlain lines → ArePlain (done ++ next)
plain_some lines done next first plain =
    all_first (λ (line : ℕ × Line). IsPlain line.1.op) (done ++ next) first.later
    (subst (λ (xs : List (ℕ × Line)). ArePlain xs) first.all plain)

plain_first : (e : RunEnd) (S : Script) (done next : List (ℕ × Line)) → AreLinesOf e S done next → ArePlain S.lines → ArePlain (done ++ next)
plain_first end.Done S done next (is, none) plain = plain_all S _ done next is refl none plain
plain_first (end.BadLine bad) S done next (is, none) plain = plain_all S _ done next is refl none plain
plain_first end.Input S done next (first, none) plain = plain_some S.lines done next first plain
plain_first end.Disk S done next first plain = plain_some S.lines done next first plain
plain_first end.Output S done next first plain = plain_some S.lines done next first plain
plain_first end.Memory S done next first plain = plain_some S.lines done next first plain

module _ {D : Type 0} (state : D → DiskState) (name : List ℕ) where
  pub recovered : (status : ℕ) (disk new : D) (core : Core D) (source : SourceState) (old put : SinkState) (has : HasCore state None name disk core)
      → ((W : World) → StandsFor state core W up → W.base + 1 ≡ W.history.first → PrintedDigest status (IsSome (state (disk_of core)).contents) W.history old put)
      → LeavesOnly (state has.bound) (state new) (IsUntouched None ((state disk).named name)) → (status ≡ 5 → Rose (state (disk_of core)).faults (state new).faults)
      → (status ≢ 5 → (state new).faults ≡ (state (disk_of core)).faults)
      → HasRecovered name status (state disk) (state new) source source old put
  recovered status disk new core source old put has printed still failed passed = record {
    world = has.world;
    opens = has.starts;
    bound = still_bound name still ((state has.bound).clock, has.binds);
    once = still.same_binds ∙ has.once;
    unwritten = since_bind name has.binds still;
    printed = digest_told status (TellsNamed name (state disk)) (IsSome (state (disk_of core)).contents) has.told has.world.history old put
        (printed has.world has.stands (opens_at ((state disk).named name) has.world has.stands.kept_of.world has.starts));
    failed = λ is. subst (λ (n : ℕ). Rose n (state new).faults) has.faults (failed is);
    passed = λ other. passed other ∙ has.faults;
    unread = refl;
  }

  pub benched : (seed count status : ℕ) (disk new : D) (core : Core D) (source : SourceState) (old put : SinkState) (has : HasCore state (Some bench_geometry) name disk core)
      (e : RunEnd) (drawn rest : SourceState) (empty held : SinkState) → drawn.rest ≡ Some (bench_text count seed) → empty.written ≡ Some [] → ArePlain (script (bench_text count seed)).lines
      → (run : HasRun (λ V. Unit {0}) (state (disk_of core)) (state new) drawn rest empty held bench_world e)
      → PrintedLine e status (summary_of count run.done run.answered.on_any_disk.given) old put
      → PrintedBench seed count status e (IsSome (state (disk_of core)).contents) old put → HasBenched state name seed count status disk new source source old put
  unfolding made_world
  benched seed count status disk new core source old put has e drawn rest empty held script_is nothing_held plain run counted printed = record {
    end = e;
    start = disk_of core;
    drawn = drawn;
    rest = rest;
    empty = empty;
    held = held;
    script_is = script_is;
    nothing_held = nothing_held;
    run = run;
    begun = subst (λ (V : World). HasBegun (Some bench_geometry) name (state disk) (state (disk_of core)) (state new) bench_world V)
        (run.answered.final_is.known (inr (plain_first e (script (bench_text count seed)) run.done run.next (lines_known e drawn.rest run.done run.next (bench_text count seed) script_is run.told) plain)))
        (has_begun state (Some bench_geometry) name disk new core (made_world state bench_geometry name disk core has) drawn rest empty held e run);
    printed = bench_told seed count status e (TellsNamed name (state disk)) (IsSome (state (disk_of core)).contents) has.told old put printed;
    counted = counted;
    unread = refl;
  }
