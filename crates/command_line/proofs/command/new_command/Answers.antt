pub returns : Rattle.command_line.proofs.command.new_command.Goals.returns
returns c =
    let a1 = c.with_arg-made.ensures _ _ c.valued.ensures.rule c.with_image-made.ensures in
    let a2 = c.with_arg-made-2.ensures _ _ c.valued-2.ensures.rule a1 in
    let a3 = c.with_arg-made-3.ensures _ _ c.valued-3.ensures.rule a2 in
    let a4 = c.with_arg-made-4.ensures _ _ c.valued-4.ensures.rule a3 in
    let a5 = c.with_arg-made-5.ensures _ _ c.valued-5.ensures.rule a4 in
    c.with_arg.ensures _ _ c.valued-6.ensures.rule a5
