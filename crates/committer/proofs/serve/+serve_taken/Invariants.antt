use Rattle.committer.proofs.Words.{length}

abbrev pub decreases-serve_taken : Rattle.committer.proofs.serve.+serve_taken.Given.decreases-serve_taken
decreases-serve_taken g l = length l.desks.now
