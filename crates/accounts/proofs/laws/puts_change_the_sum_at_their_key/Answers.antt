use Rattle.accounts.proofs.Sums.{total_put}

pub returns : Rattle.accounts.proofs.laws.puts_change_the_sum_at_their_key.Goals.returns
returns _ = total_put
