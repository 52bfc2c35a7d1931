use Rattle.par_script.proofs.Words.{rules, subst, IsPermutation, IsNonDecreasingBy-from_sort_by_key}

pub returns : Rattle.par_script.proofs.commit_line.rising_commits.Goals.returns
returns c = record {
  all = subst (λ v. IsPermutation v c.sort_by_key.new.self.items) c.in_ok-commits.ensures c.sort_by_key.ensures.permutation;
  rising = IsNonDecreasingBy-from_sort_by_key (λ k. k.number) _ c.in_ok-sort_by_key.ensures.sorted (λ a r q k. search rules);
}
