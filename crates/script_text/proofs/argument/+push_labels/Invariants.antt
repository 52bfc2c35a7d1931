use Rattle.script_text.proofs.Words.{length}

abbrev pub decreases-push_labels : Rattle.script_text.proofs.argument.+push_labels.Given.decreases-push_labels
decreases-push_labels l = length l.text.now
