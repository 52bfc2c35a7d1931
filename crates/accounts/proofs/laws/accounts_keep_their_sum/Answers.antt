use Rattle.accounts.proofs.{Images.opens_with_sum, Walks.sum_kept}

pub returns-clause-history : Rattle.accounts.proofs.laws.accounts_keep_their_sum.Goals.returns-clause-history
returns-clause-history _ = sum_kept

pub returns-clause-images : Rattle.accounts.proofs.laws.accounts_keep_their_sum.Goals.returns-clause-images
returns-clause-images _ = opens_with_sum
