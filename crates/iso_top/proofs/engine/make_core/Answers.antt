use Rattle.iso_top.proofs.{Words.refl, Beginnings.{made_core, made_not}}
use Rattle.iso_image.specs.declared.open_error.OpenError.TheVariants as error

pub returns-in-Ok-clause-begun : Rattle.iso_top.proofs.engine.make_core.Goals.returns-in-Ok-clause-begun
returns-in-Ok-clause-begun g c =
    let f = c.in-Ok.ensures in
    let b = c.in_default.ensures in
    made_core g.I.Disk.state g.met.I.Disk.lawful c.args.name.now c.args.image c.bind.new.self b.bound c.bind.ensures.counted b.told b.cause.passed
    c.args.geometry.now c.in-Ok.core c.requires f.stands f.moments f.told f.no_fault

pub returns-in-Err-Disk-default-clause-unbegun : Rattle.iso_top.proofs.engine.make_core.Goals.returns-in-Err-Disk-default-clause-unbegun
returns-in-Err-Disk-default-clause-unbegun g c =
    let f = c.in-Err-Disk-default.ensures in
    let b = c.in_default.ensures in
    made_not g.I.Disk.state g.met.I.Disk.lawful c.args.name.now c.args.image c.bind.new.self b.bound c.bind.ensures.counted b.told b.cause.passed
    c.args.geometry.now error.Disk c.in-Err-Disk-default.image (λ test. test) f.failed (record { later = f.later; failed = λ is. f.fault c.in-Err-Disk-default.field-0-0-is; other = λ other. absurd (other refl) })
