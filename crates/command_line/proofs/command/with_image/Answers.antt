pub returns : Rattle.command_line.proofs.command.with_image.Goals.returns
returns c = c.with_arg.ensures _ _ c.placed.ensures.rule c.bare.ensures
