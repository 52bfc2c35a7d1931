use Rattle.handle_pass.proofs.Handing.{more_units}

pub split_port-port-requires : Rattle.handle_tests.proofs.group_tests.grouped.Goals.split_port-port-requires
split_port-port-requires g c = record { units = more_units c.args.session.now c.requires.units }
