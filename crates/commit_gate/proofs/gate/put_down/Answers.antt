use Rattle.std.proofs.Common.{◌≡◌, ◌+◌, ◌≤◌, ℕ, List, length, Some, Ok, Err, OnErr, ◌∙◌, arith}
use Rattle.iso_disk.{specs.Disk.TellsTorn, proofs.Images.{tells_spliced, length-contents}}

pub returns-clause-failed : Rattle.commit_gate.proofs.gate.put_down.Goals.returns-clause-failed
returns-clause-failed g c =
    let state = g.D.Disk.state in
    let d = c.args.disk.now in
    let fits : (b : List ℕ) → (state d).contents ≡ Some b → c.args.at + length c.args.bytes.now ≤ length b = λ b told.
    let size = length-contents (g.met.D.Disk.lawful d) b told in
    omega (arith, size) in
    let torn = tells_spliced (state d) (state c.sync.new.self) c.args.at c.args.bytes.now (c.sync.ensures.contents ∙ c.in_ok-write.ensures.written) fits in
    elim c.sync.result as (λ r. OnErr r (TellsTorn c.args.at (length c.args.bytes.now) (state d) (state c.sync.new.self))) [ Ok x ↦ tt | Err e ↦ torn ]
