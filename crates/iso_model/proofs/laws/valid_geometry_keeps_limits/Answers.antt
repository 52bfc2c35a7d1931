use Rattle.iso_model.proofs.Bounds.{limits}

pub returns : Rattle.iso_model.proofs.laws.valid_geometry_keeps_limits.Goals.returns
returns c = limits
