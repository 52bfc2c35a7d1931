use Rattle.version_read.proofs.Taking.{may_take, parts_below, parts_few, parts_rise, parts_small}
use Rattle.version_read.proofs.laws.next_records_may_be_taken_in.Goals as goal

pub returns-clause-may : goal.returns-clause-may
returns-clause-may _ = may_take

pub returns-clause-few : goal.returns-clause-few
returns-clause-few _ = parts_few

pub returns-clause-blocks : goal.returns-clause-blocks
returns-clause-blocks _ = parts_below

pub returns-clause-order : goal.returns-clause-order
returns-clause-order _ = parts_rise

pub returns-clause-small : goal.returns-clause-small
returns-clause-small _ = parts_small
