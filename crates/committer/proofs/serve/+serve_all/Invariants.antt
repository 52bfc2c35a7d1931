use Rattle.committer.proofs.Words.{length}

abbrev pub decreases-serve_all : Rattle.committer.proofs.serve.+serve_all.Given.decreases-serve_all
decreases-serve_all g l = length l.desks.now
