use Rattle.iso_format.proofs.Windows.{short_head, short_body}

pub returns-clause-head : Rattle.iso_format.proofs.laws.records_are_not_read_from_less.Goals.returns-clause-head
returns-clause-head _ = short_head

pub returns-clause-body : Rattle.iso_format.proofs.laws.records_are_not_read_from_less.Goals.returns-clause-body
returns-clause-body _ = short_body
