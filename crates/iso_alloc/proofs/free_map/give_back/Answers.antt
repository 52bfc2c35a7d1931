use Rattle.iso_alloc.proofs.{Words.{◌∙◌, ap, ℕ, List, arith, map_bit}, Bits.without_bits}

pub returns-clause-bits : Rattle.iso_alloc.proofs.free_map.give_back.Goals.returns-clause-bits
returns-clause-bits c = λ k. ap (λ (map : List ℕ). map_bit map k) c.clear.ensures ∙ without_bits c.args.map.now c.args.block (omega arith) k
