use Rattle.iso_image.proofs.{Adds.{log_in_image, next_inside, next_closed, held_each, held_last}, Frames.held_half, Others.gate_open, Standing.record_stands}
use Rattle.iso_image.proofs.laws.held_halves_stand_in_the_image.Goals as goal

pub returns-clause-at : goal.returns-clause-at
returns-clause-at _ = held_half

pub returns-clause-header : goal.returns-clause-header
returns-clause-header _ = gate_open

pub returns-clause-log : goal.returns-clause-log
returns-clause-log _ = log_in_image

pub returns-clause-room : goal.returns-clause-room
returns-clause-room _ = next_inside

pub returns-clause-gate : goal.returns-clause-gate
returns-clause-gate _ = next_closed

pub returns-clause-records : goal.returns-clause-records
returns-clause-records _ = held_each

pub returns-clause-last : goal.returns-clause-last
returns-clause-last _ = held_last

pub returns-clause-record_at : goal.returns-clause-record_at
returns-clause-record_at _ = record_stands
