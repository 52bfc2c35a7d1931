use Rattle.plain_tx.specs.Plain.{state_of}
use Rattle.store_model.specs.FileCalls.{create_program}
use Rattle.iso_fs.specs.Ends.{areas_of}
use Rattle.desk_tests.proofs.FilesKept.{file_stays_ready}

pub returns : Rattle.desk_tests.proofs.file_tests.create_in.Goals.returns
returns c = file_stays_ready 64 (create_program (areas_of (state_of c.args.tx.now) c.place.result) c.args.name.now) (state_of c.args.tx.now) (state_of c.create.new.tx) c.create.result c.create.ensures.ended c.requires
