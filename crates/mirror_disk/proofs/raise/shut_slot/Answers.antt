use Rattle.mirror_disk.proofs.{Words.{◌≡◌, ◌≤◌, ◌<◌, ◌+◌, ℕ, List, subst, sym, ◌∙◌, arith, TornFrom, LeavesOnly, at_end, weakened, joined, slice_index, IsOpen, HasEpoch, Still, place, other}, Epochs.inside, Raises.{by_result, keeps_same, keeps_spliced, keeps_torn, keeps_twice, ok_weaker, shut_image, still_here, still_on, gate_of_front}}
use Rattle.std.proofs.Common.{rules}

at : {g : ℕ} (k : ℕ) → g ≡ k → {n : ℕ} {images : List ℕ → Type 0} (x : List ℕ) → TornFrom g n images x → TornFrom k n images x
at k is {n = n} {images = images} x t = subst (λ (m : ℕ). TornFrom m n images x) is t

pub returns-then-branch : Rattle.mirror_disk.proofs.raise.shut_slot.Goals.returns-then-branch
returns-then-branch g c =
    let unwritten = c.in_ok-stands_closed.ensures.unwritten in
    record {
      moments = λ e marked. weakened unwritten.moments (still_here {d = g.D.Disk.state c.args.disk.now} c.args.slot e marked.each);
      shut = λ e marked x now is_open.
          let now_old = at_end (g.met.D.Disk.lawful c.stands_closed.new.disk) unwritten.moments x now in
          let told = marked.told x now_old in
          let within : c.args.gate < 64 = omega (arith, c.requires.gate, inside c.args.slot) in
          (c.in_ok-stands_closed.ensures.closed told.0 told.1).0 c.if-branch.true (sym (gate_of_front x told.0 c.args.gate (marked.fronts x told.0 now_old told.1) within) ∙ is_open);
      body = keeps_same unwritten.same_contents;
      cause = search rules;
    }

pub returns : Rattle.mirror_disk.proofs.raise.shut_slot.Goals.returns
returns g c =
    let old = g.D.Disk.state c.args.disk.now in
    let mid = g.D.Disk.state c.stands_closed.new.disk in
    let new = g.D.Disk.state c.shut_gate.new.disk in
    let laws = g.met.D.Disk.lawful c.stands_closed.new.disk in
    let slot = c.args.slot in
    let unwritten = c.in_ok-stands_closed.ensures.unwritten.moments in
    let front : c.args.gate < 64 = omega (arith, c.requires.gate, inside slot) in
    let within : c.args.gate + 1 ≤ 64 = omega (arith, c.requires.gate, inside slot) in
    let room : 64 ≤ mid.size = omega (arith, c.requires.size, unwritten.same_size) in
    record {
      moments = λ e marked.
          let still : LeavesOnly old mid (Still slot e old) = weakened unwritten (still_here {d = old} slot e marked.each) in
          let each : (x : List ℕ) → mid.now x → HasEpoch slot e x = λ x now. marked.each x (at_end laws unwritten x now) in
          let opened : (x : List ℕ) → mid.now x → IsOpen (place (other slot)) x = λ x now.
          let was = at_end laws unwritten x now in
          let told = marked.told x was in
          subst (λ (m : ℕ). IsOpen m x) c.requires.gate (gate_of_front x told.0 c.args.gate (marked.fronts x told.0 was told.1) front ∙ (c.in_ok-stands_closed.ensures.open told.0 told.1).0 c.if-branch.false) in
          joined still (weakened c.shut_gate.ensures.moments (λ x t. still_on slot e laws still x (shut_image {old = mid} slot e each opened x (at (place (other slot)) c.requires.gate x t))));
      body = keeps_twice (keeps_same c.in_ok-stands_closed.ensures.unwritten.same_contents) (by_result c.shut_gate.result c.shut_gate.ensures.written c.shut_gate.ensures.failed
          (λ written. keeps_spliced c.args.gate _ (g.met.D.Disk.lawful c.stands_closed.new.disk) room within written)
          (λ failed. keeps_torn c.args.gate 1 within failed));
      shut = λ e marked. ok_weaker c.shut_gate.result (λ (zero : (x : List ℕ) → new.now x → slice_index x c.args.gate ≡ 0). λ x now is. cc (zero x now, is)) c.shut_gate.ensures.shut;
      cause = search rules;
    }
