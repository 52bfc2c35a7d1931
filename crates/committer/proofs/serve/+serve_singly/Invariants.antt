use Rattle.committer.proofs.Words.{length}

abbrev pub decreases-serve_singly : Rattle.committer.proofs.serve.+serve_singly.Given.decreases-serve_singly
decreases-serve_singly g l = length l.desks.now
