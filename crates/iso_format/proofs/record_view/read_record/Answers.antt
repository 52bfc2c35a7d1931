use Rattle.iso_format.proofs.{Words.arith, RecordLaws.{ok_begins, begins_ok}}

pub returns-clause-spelled : Rattle.iso_format.proofs.record_view.read_record.Goals.returns-clause-spelled
returns-clause-spelled c = grind (arith, ok_begins)

pub returns-clause-only : Rattle.iso_format.proofs.record_view.read_record.Goals.returns-clause-only
returns-clause-only c = search (arith, begins_ok)
