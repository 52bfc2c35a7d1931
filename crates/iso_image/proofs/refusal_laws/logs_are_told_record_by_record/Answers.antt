use Rattle.iso_image.proofs.ScanLaws.{closed, failed, passed, told}

pub returns-clause-closed : Rattle.iso_image.proofs.refusal_laws.logs_are_told_record_by_record.Goals.returns-clause-closed
returns-clause-closed c = closed

pub returns-clause-failed : Rattle.iso_image.proofs.refusal_laws.logs_are_told_record_by_record.Goals.returns-clause-failed
returns-clause-failed c = failed

pub returns-clause-passed : Rattle.iso_image.proofs.refusal_laws.logs_are_told_record_by_record.Goals.returns-clause-passed
returns-clause-passed c = passed

pub returns-clause-told : Rattle.iso_image.proofs.refusal_laws.logs_are_told_record_by_record.Goals.returns-clause-told
returns-clause-told c = told
