use Rattle.test_cores.proofs.Disks.{blank_size, is_blank}

pub format_image-requires-clause-size : Rattle.test_cores.proofs.making.core_on.Goals.format_image-requires-clause-size
format_image-requires-clause-size c = blank_size _ c.args.disk c.requires.blank

pub format_image-requires-clause-blank : Rattle.test_cores.proofs.making.core_on.Goals.format_image-requires-clause-blank
format_image-requires-clause-blank c = is_blank _ c.args.disk c.requires.blank
