use Rattle.iso_format.proofs.Windows.{window_front, fault_front, recorded_front}

pub returns-clause-head : Rattle.iso_format.proofs.laws.records_are_read_from_their_window.Goals.returns-clause-head
returns-clause-head _ = window_front

pub returns-clause-fault : Rattle.iso_format.proofs.laws.records_are_read_from_their_window.Goals.returns-clause-fault
returns-clause-fault _ = fault_front

pub returns-clause-recorded : Rattle.iso_format.proofs.laws.records_are_read_from_their_window.Goals.returns-clause-recorded
returns-clause-recorded _ = recorded_front
