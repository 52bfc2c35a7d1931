use Rattle.top_laws.proofs.Statuses.{memory_of_new, memory_of_run}
use Rattle.top_laws.proofs.Failures.{unrun_wanted}
use Rattle.top_laws.proofs.ListLaws.{clients_wanted}

pub returns-clause-made : Rattle.top_laws.proofs.laws.the_want_of_memory_was_told.Goals.returns-clause-made
returns-clause-made g c = λ geometry name all old new input_old input_new output_old output_new. memory_of_new g.I.Disk.state name old new input_old input_new output_old output_new geometry all

pub returns-clause-given : Rattle.top_laws.proofs.laws.the_want_of_memory_was_told.Goals.returns-clause-given
returns-clause-given g c = λ name all image old new input_old input_new output_old output_new. memory_of_run g.I.Disk.state name old new input_old input_new output_old output_new all image

pub returns-clause-clients : Rattle.top_laws.proofs.laws.the_want_of_memory_was_told.Goals.returns-clause-clients
returns-clause-clients g c = λ name old new input_old input_new output_old output_new. clients_wanted g.I.Disk.state name old new input_old input_new output_old output_new

pub returns-clause-unrun : Rattle.top_laws.proofs.laws.the_want_of_memory_was_told.Goals.returns-clause-unrun
returns-clause-unrun g c = λ name image old new input_old input_new output_old output_new. unrun_wanted g.I.Disk.state name old new input_old input_new output_old output_new image
