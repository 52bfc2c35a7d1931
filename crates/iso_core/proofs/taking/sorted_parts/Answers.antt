use Rattle.iso_core.proofs.Words.{rules, subst, IsPermutation, IsNonDecreasingBy-from_sort_by_key}

pub returns-clause-same : Rattle.iso_core.proofs.taking.sorted_parts.Goals.returns-clause-same
returns-clause-same c = subst (λ v. IsPermutation v c.sort_unstable_by_key.new.self.items) c.in_ok-all.ensures c.sort_unstable_by_key.ensures.permutation

pub returns-clause-order : Rattle.iso_core.proofs.taking.sorted_parts.Goals.returns-clause-order
returns-clause-order c = IsNonDecreasingBy-from_sort_by_key (λ k. k.block) _ c.sort_unstable_by_key.ensures.sorted (λ a r q k. search rules)
