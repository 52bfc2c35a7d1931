use Rattle.std.proofs.Common.{◌≡◌, ◌+◌, ◌-◌, length, take, drop, Result, Ok, Err, OnOk, ◌∙◌, arith}
use Rattle.iso_disk.proofs.{Images.{settled_write, length-contents}, Bytes.take-drop-spliced}

both : {T E P Q R : Type 0} (r : Result T E) → OnOk r P → OnOk r Q → (P → Q → R) → OnOk r R
both (Ok x) p q then = then p q
both (Err e) p q then = tt

pub returns-clause-body : Rattle.commit_gate.proofs.gate.put_body.Goals.returns-clause-body
returns-clause-body g c =
    let state = g.D.Disk.state in
    let d = c.args.disk.now in
    both c.put_down.result c.put_down.ensures.written c.put_down.ensures.settled (λ written settled image now.
    let from = settled_write (state d) (state c.put_down.new.disk) (c.args.gate + 1) c.args.body.now written settled image now in
    let size = length-contents (g.met.D.Disk.lawful d) from.0 from.1 in
    let len : c.args.gate + 1 + length c.args.body.now - (c.args.gate + 1) ≡ length c.args.body.now = omega arith in
    (λ i. take (len i) (drop (c.args.gate + 1) (from.2 i))) ∙ take-drop-spliced from.0 (c.args.gate + 1) c.args.body.now (omega (arith, size)))
