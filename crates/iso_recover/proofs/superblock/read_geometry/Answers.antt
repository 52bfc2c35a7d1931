use Rattle.iso_recover.proofs.{Words.{◌≡◌, ℕ, length, take, arith, sym, ◌∙◌, subst, length-contents, super_of, super_refusal, IsShaped}, Fronts.{err_weaker, refused_short, refused_super}, Shapes.super_shaped}

pub returns-then-have-lt64-clause-refused : Rattle.iso_recover.proofs.superblock.read_geometry.Goals.returns-then-have-lt64-clause-refused
returns-then-have-lt64-clause-refused g c test image told =
    let size = length-contents (g.met.D.Disk.lawful c.args.disk.now) image told in
    refused_short image (omega (arith, size, c.size-have.ensures, c.if-have-lt64.true))

pub returns-clause-refused : Rattle.iso_recover.proofs.superblock.read_geometry.Goals.returns-clause-refused
returns-clause-refused g c =
    err_weaker c.tested_geometry.result (λ e fails test image told.
    let size : c.size-have.result ≡ length image = c.size-have.ensures ∙ sym (length-contents (g.met.D.Disk.lawful c.args.disk.now) image told) in
    let block : c.read_bytes.new.into ≡ take 64 image = c.in_default.ensures.told image told in
    refused_super image e (omega (arith, size, c.if-have-lt64.false)) (sym (λ i. super_refusal (size i) (super_of (block i))) ∙ fails)) c.tested_geometry.ensures.refused

pub returns-in-Err-clause-shape : Rattle.iso_recover.proofs.superblock.read_geometry.Goals.returns-in-Err-clause-shape
returns-in-Err-clause-shape g c = subst (IsShaped (g.D.Disk.state c.args.disk.now).size) (sym c.in-Err.ensures.only) tt

pub returns-clause-shape : Rattle.iso_recover.proofs.superblock.read_geometry.Goals.returns-clause-shape
returns-clause-shape g c =
    err_weaker c.tested_geometry.result (λ e fails. subst (λ (n : ℕ). IsShaped n e) c.size-have.ensures (super_shaped c.size-have.result c.read_bytes.new.into e fails)) c.tested_geometry.ensures.refused
