use Rattle.mirror_disk.proofs.Words.{◌-◌, length, drop, sym, ◌∙◌, arith, other_text, same_text, take-take}

pub returns-clause-has : Rattle.mirror_disk.proofs.header.has_bytes.Goals.returns-clause-has
returns-clause-has c is =
    let bytes = c.args.bytes.now in
    sym (take-take (length bytes) (64 - c.args.at) (drop c.args.at c.args.header.now) (omega (arith, c.requires))) ∙ sym (same_text bytes _ (sym is ∙ c.starts_with.ensures.value))

pub returns-clause-not : Rattle.mirror_disk.proofs.header.has_bytes.Goals.returns-clause-not
returns-clause-not c is same =
    let bytes = c.args.bytes.now in
    other_text bytes _ (sym is ∙ c.starts_with.ensures.value) (sym same ∙ sym (take-take (length bytes) (64 - c.args.at) (drop c.args.at c.args.header.now) (omega (arith, c.requires))))
