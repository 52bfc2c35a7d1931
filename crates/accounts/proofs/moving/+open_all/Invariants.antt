use Rattle.accounts.proofs.Words.{length}

abbrev pub decreases-open_all : Rattle.accounts.proofs.moving.+open_all.Given.decreases-open_all
decreases-open_all g a = length a.accounts.now
