use Rattle.iso_log.proofs.{Words.{◌+◌, ◌≤◌, ℕ, List, length, arith, on_ok_weaker, length-image, joined, weakened, at_end}, Appends.{body_moment, gate_moment, appended}}

pub returns-in_err-put_body-clause-moments : Rattle.iso_log.proofs.put.put_group.Goals.returns-in_err-put_body-clause-moments
returns-in_err-put_body-clause-moments g c =
    weakened c.put_body.ensures.moments (body_moment c.args.gate c.args.bytes.now c.requires.some c.requires.open c.requires.closed)

pub returns-clause-moments : Rattle.iso_log.proofs.put.put_group.Goals.returns-clause-moments
returns-clause-moments g c =
    let laws = g.met.D.Disk.lawful in
    let state = g.D.Disk.state in
    let first = weakened c.put_body.ensures.moments (body_moment c.args.gate c.args.bytes.now c.requires.some c.requires.open c.requires.closed) in
    let fits : (d : List ℕ) → (state c.args.disk.now).now d → c.args.gate + length c.args.bytes.now ≤ length d = λ d image.
    let size = length-image (laws c.args.disk.now) d image in
    omega (arith, size, c.requires.fits) in
    joined first (weakened c.open_gate.ensures.moments
    (gate_moment c.args.gate c.args.bytes.now c.requires.some c.requires.open fits (at_end (laws c.put_body.new.disk) c.put_body.ensures.moments) c.in_ok-put_body.ensures.body))

pub returns-clause-whole : Rattle.iso_log.proofs.put.put_group.Goals.returns-clause-whole
returns-clause-whole g c =
    let moments = returns-clause-moments g c in
    on_ok_weaker c.open_gate.result (λ opened image now. appended c.args.gate c.args.bytes.now image (at_end (g.met.D.Disk.lawful c.open_gate.new.disk) moments image now) (opened image now)) c.open_gate.ensures.open
