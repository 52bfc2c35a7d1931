use Rattle.iso_shared.proofs.Trace.{out_is}

pub returns : Rattle.iso_shared.proofs.laws.numbers_out_are_loose.Goals.returns
returns c = out_is
