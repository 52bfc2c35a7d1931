use Rattle.command_line.proofs.Made.{image_is_made}

pub returns : Rattle.command_line.proofs.laws.every_geometry_is_made.Goals.returns
returns c = image_is_made
