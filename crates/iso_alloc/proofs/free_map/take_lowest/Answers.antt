use Rattle.iso_alloc.proofs.{Words.{◌∙◌, ap, ℕ, List, arith, map_bit}, Bits.with_bits}

pub returns-clause-bits : Rattle.iso_alloc.proofs.free_map.take_lowest.Goals.returns-clause-bits
returns-clause-bits c = λ k. ap (λ (map : List ℕ). map_bit map k) c.set.ensures ∙ with_bits c.args.map.now c.in_ok-block.block (omega (arith, c.in_ok-block.ensures.inside)) k
