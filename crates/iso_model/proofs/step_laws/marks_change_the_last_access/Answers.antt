use Rattle.iso_model.proofs.Marked.{marked_last, first_covers, more_covers, unwritten}

pub returns-clause-last : Rattle.iso_model.proofs.step_laws.marks_change_the_last_access.Goals.returns-clause-last
returns-clause-last _ = marked_last

pub returns-clause-first : Rattle.iso_model.proofs.step_laws.marks_change_the_last_access.Goals.returns-clause-first
returns-clause-first _ = first_covers

pub returns-clause-further : Rattle.iso_model.proofs.step_laws.marks_change_the_last_access.Goals.returns-clause-further
returns-clause-further _ = more_covers

pub returns-clause-unwritten : Rattle.iso_model.proofs.step_laws.marks_change_the_last_access.Goals.returns-clause-unwritten
returns-clause-unwritten _ = unwritten
