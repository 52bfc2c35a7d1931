use Rattle.plain_tx.specs.Plain.{state_of}
use Rattle.store_model.specs.FileCalls.{write_program}
use Rattle.iso_fs.specs.Ends.{areas_of}
use Rattle.desk_tests.proofs.FilesKept.{file_stays_ready}

pub returns : Rattle.desk_tests.proofs.file_tests.write_in.Goals.returns
returns c = file_stays_ready 64 (write_program (areas_of (state_of c.args.tx.now) c.place.result) c.args.name.now c.args.off c.args.bytes.now) (state_of c.args.tx.now) (state_of c.write.new.tx) c.write.result c.write.ensures.ended c.requires
