use Rattle.mirror_disk.proofs.{Words.{◌≡◌, ◌≤◌, ◌+◌, ℕ, List, length, ap, arith, at_end, weakened, joined, LeavesOnly, HoldsEpoch, IsMarked, Still, place, other}, Epochs.inside, Putting.{holds_put, keeps_inside, open_moments, open_raised, put_moments}, Raises.{keeps_twice, ok_weaker, raising_on, raising_still, still_on}}
use Rattle.mirror_disk.proofs.raise.raise_epoch.Goals as goal
use Rattle.std.proofs.Common.{rules}

pub returns-in_err-shut_slot : goal.returns-in_err-shut_slot
returns-in_err-shut_slot g c = record {
  moments = λ e marked le. weakened (c.in_err-shut_slot.ensures.moments e marked) (raising_still c.args.slot e c.args.next);
  raised = search rules;
  settled = search rules;
  body = c.shut_slot.ensures.body;
  cause = search rules;
}

pub returns-in_err-put_body : goal.returns-in_err-put_body
returns-in_err-put_body g c =
    let slot = c.args.slot in
    let gate = c.place-gate.result in
    let is : gate ≡ place (other slot) = search rules in
    let laws = g.met.D.Disk.lawful c.shut_slot.new.disk in
    let len : length c.spell.result ≡ 15 = ap length c.spell.ensures in
    let was = c.requires.marked in
    let room : 64 ≤ (g.D.Disk.state c.shut_slot.new.disk).size = omega (arith, c.requires.size, (c.in_ok-shut_slot.ensures.moments was.0 was.1).same_size) in
    record {
      moments = λ e marked le.
          let first = c.in_ok-shut_slot.ensures.moments e marked in
          let second = put_moments slot gate is e c.spell.result len (λ x now. (at_end laws first x now).marked) c.put_body.ensures.moments c.put_body.ensures.closed in
          weakened (joined first (weakened second (still_on slot e laws first))) (raising_still slot e c.args.next);
      raised = search rules;
      settled = search rules;
      body = keeps_twice c.shut_slot.ensures.body (keeps_inside c.put_body.result (gate + 1) c.spell.result laws room (omega (arith, len, is, inside slot)) c.put_body.ensures.written c.put_body.ensures.failed);
      cause = search rules;
    }

pub shut_slot-requires : goal.shut_slot-requires
shut_slot-requires g c = record { size = c.requires.size; gate = search rules }

pub put_body-requires-clause-fits : goal.put_body-requires-clause-fits
put_body-requires-clause-fits g c =
    let was = c.requires.marked in
    let is : c.place-gate.result ≡ place (other c.args.slot) = search rules in
    omega (arith, is, inside c.args.slot, ap length c.spell.ensures, c.requires.size, (c.in_ok-shut_slot.ensures.moments was.0 was.1).same_size)

pub put_body-requires-clause-closed : goal.put_body-requires-clause-closed
put_body-requires-clause-closed g c = let was = c.requires.marked in c.in_ok-shut_slot.ensures.shut was.0 was.1

pub open_gate-requires : goal.open_gate-requires
open_gate-requires g c =
    let was = c.requires.marked in
    let is : c.place-gate.result ≡ place (other c.args.slot) = search rules in
    omega (arith, is, inside c.args.slot, c.requires.size, (c.in_ok-shut_slot.ensures.moments was.0 was.1).same_size, c.put_body.ensures.moments.same_size)

pub returns : goal.returns
returns g c =
    let slot = c.args.slot in
    let next = c.args.next in
    let gate = c.place-gate.result in
    let is : gate ≡ place (other slot) = search rules in
    let laws = g.met.D.Disk.lawful c.shut_slot.new.disk in
    let more = g.met.D.Disk.lawful c.put_body.new.disk in
    let len : length c.spell.result ≡ 15 = ap length c.spell.ensures in
    let was = c.requires.marked in
    let room : 64 ≤ (g.D.Disk.state c.shut_slot.new.disk).size = omega (arith, c.requires.size, (c.in_ok-shut_slot.ensures.moments was.0 was.1).same_size) in
    let keeps = keeps_twice c.shut_slot.ensures.body (keeps_inside c.put_body.result (gate + 1) c.spell.result laws room (omega (arith, len, is, inside slot)) c.put_body.ensures.written c.put_body.ensures.failed) in
    let holds : (x : List ℕ) → (g.D.Disk.state c.put_body.new.disk).now x → HoldsEpoch gate next x = λ x now. holds_put gate next c.spell.result x c.ranges.next.fits c.spell.ensures (c.in_ok-put_body.ensures.body x now) in
    let both : (e : ℕ) → IsMarked slot e (g.D.Disk.state c.args.disk.now) → LeavesOnly (g.D.Disk.state c.args.disk.now) (g.D.Disk.state c.put_body.new.disk) (Still slot e (g.D.Disk.state c.args.disk.now)) = λ e marked.
    let first = c.in_ok-shut_slot.ensures.moments e marked in
    joined first (weakened (put_moments slot gate is e c.spell.result len (λ x now. (at_end laws first x now).marked) c.put_body.ensures.moments c.put_body.ensures.closed) (still_on slot e laws first)) in
    record {
      moments = λ e marked le.
          let third = open_moments slot gate is e next (λ x now. (at_end more (both e marked) x now).marked) le c.requires.last holds c.open_gate.ensures.moments c.in_ok-put_body.ensures.settled in
          joined (weakened (both e marked) (raising_still slot e next)) (weakened third (raising_on slot e next more (both e marked) keeps));
      raised = ok_weaker c.open_gate.result (λ is_open. open_raised slot gate is was.0 next (λ x now. (at_end more (both was.0 was.1) x now).marked) was.2 c.requires.last holds c.open_gate.ensures.moments (g.met.D.Disk.lawful c.open_gate.new.disk) is_open) c.open_gate.ensures.open;
      settled = search rules;
      body = keeps_twice keeps (keeps_inside c.open_gate.result gate _ more (omega (arith, room, c.put_body.ensures.moments.same_size)) (omega (arith, is, inside slot)) c.open_gate.ensures.written c.open_gate.ensures.failed);
      cause = search rules;
    }
