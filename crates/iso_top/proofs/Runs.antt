-- A run, without what its machine represents.
use Rattle.iso_top.proofs.Words.{◌≡◌, ◌⊎◌, inl, inr, subst, DiskState, SinkState, SourceState, BadLine, World, RunEnd, HasRun, IfUp}
use Rattle.script_runner.specs.declared.run_end.RunEnd.TheVariants as end

nothing_up : (e : RunEnd) → IfUp e (Unit {0})
nothing_up end.Done = tt
nothing_up e = tt

-- what holds after a run that stopped nothing
pub up_behind : (P : Type 0) (e : RunEnd) → IfUp e P → (e ≡ end.Done) ⊎ ((bad : BadLine) × (e ≡ end.BadLine bad)) ⊎ (e ≡ end.Input) ⊎ (e ≡ end.Output) → P
up_behind P e up (inl done) = subst (λ (x : RunEnd). IfUp x P) done up
up_behind P e up (inr (inl (bad, is))) = subst (λ (x : RunEnd). IfUp x P) is up
up_behind P e up (inr (inr (inl input))) = subst (λ (x : RunEnd). IfUp x P) input up
up_behind P e up (inr (inr (inr output))) = subst (λ (x : RunEnd). IfUp x P) output up

pub up_on : (P Q : Type 0) → (P → Q) → (e : RunEnd) → IfUp e P → IfUp e Q
up_on P Q on end.Done up = on up
up_on P Q on (end.BadLine bad) up = on up
up_on P Q on end.Disk up = tt
up_on P Q on end.Input up = on up
up_on P Q on end.Output up = on up
up_on P Q on end.Memory up = tt

pub run_alone : (stands : World → Type 0) (disk_old disk_new : DiskState) (input_old input_new : SourceState) (output_old output_new : SinkState) (W : World) (e : RunEnd)
    → HasRun stands disk_old disk_new input_old input_new output_old output_new W e → HasRun (λ V. Unit {0}) disk_old disk_new input_old input_new output_old output_new W e
run_alone stands disk_old disk_new input_old input_new output_old output_new W e r = record {
  bytes = r.bytes;
  took = r.took;
  limit = r.limit;
  ended = r.ended;
  done = r.done;
  next = r.next;
  lines = r.lines;
  told = r.told;
  whole = r.whole;
  answered = record {
    good = r.answered.good;
    replies = r.answered.replies;
    order = r.answered.order;
    order_next = r.answered.order_next;
    acknowledged = r.answered.acknowledged;
    reached = r.answered.reached;
    final = r.answered.final;
    reached_is = r.answered.reached_is;
    final_is = r.answered.final_is;
    final_on = r.answered.final_on;
    whole_is = r.answered.whole_is;
    on_any_disk = r.answered.on_any_disk;
    exit = r.answered.exit;
    moments = r.answered.moments;
    world = nothing_up e;
    unmade = r.answered.unmade;
    disk = r.answered.disk;
    output = r.answered.output;
    at_once = r.answered.at_once;
  };
  input = r.input;
}
