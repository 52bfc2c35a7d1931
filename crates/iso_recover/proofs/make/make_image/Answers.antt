use Rattle.iso_recover.proofs.{Words.{◌≤◌, inl, ◌∙◌, arith, started, IsUnmadeOrEmpty}, Laid.blank_gates, Making.unmade, Opens.new_opens}

pub returns-in_default-clause-moments : Rattle.iso_recover.proofs.make.make_image.Goals.returns-in_default-clause-moments
returns-in_default-clause-moments g c =
    let d = g.D.Disk.state c.args.disk.now in
    let big : 96 ≤ (g.D.Disk.state c.args.disk.now).size = omega (arith, c.requires.size) in
    started {P = IsUnmadeOrEmpty c.args.geometry.now} (g.met.D.Disk.lawful c.args.disk.now) (λ image now. inl (unmade image (blank_gates d big c.requires.blank image now)))

pub returns-clause-made : Rattle.iso_recover.proofs.make.make_image.Goals.returns-clause-made
returns-clause-made g c =
    new_opens c.args.geometry.now c.in-Ok.opened (g.D.Disk.state c.put_front.new.disk) c.requires.valid c.in-Ok.ensures
    (c.put_front.ensures.moments.same_size ∙ c.requires.size) c.in_default-put_front.ensures.settled (g.met.D.Disk.lawful c.put_front.new.disk) c.in_default-put_front.ensures.made
