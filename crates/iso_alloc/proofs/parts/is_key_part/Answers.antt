use Rattle.iso_alloc.proofs.{Words.{◌+◌, ◌*◌, ◌-◌, eqb, not, w8, arith, chunk, length-chunk, bitmask_splat}, KeyParts.short_part}

pub returns-then-len-le28 : Rattle.iso_alloc.proofs.parts.is_key_part.Goals.returns-then-len-le28
returns-then-len-le28 c =
    let keys = c.args.keys.now in
    let at = 64 + 31 * c.args.cell in
    let other = bitmask_splat w8 (λ a b. not (eqb a b)) (chunk (at - 1) 32 keys) 32 0 (length-chunk (at - 1) 32 keys (omega (arith, c.requires))) (omega arith) in
    short_part keys at _ (omega arith) c.if-len-le28.true other
