use Rattle.accounts.proofs.KeepingSums.{keep_sum}

pub returns : Rattle.accounts.proofs.laws.transactions_of_accounts_keep_the_sum.Goals.returns
returns _ = keep_sum
