pub returns : Rattle.command_line.proofs.command.bench_command.Goals.returns
returns c = c.with_arg.ensures _ _ c.placed-2.ensures.rule (c.with_arg-made.ensures _ _ c.placed.ensures.rule c.with_image-made.ensures)
