use Rattle.iso_machine.proofs.Words.{length}

abbrev pub decreases-fill_answers : Rattle.iso_machine.proofs.grouping.+fill_answers.Given.decreases-fill_answers
decreases-fill_answers l = length l.answers.now
