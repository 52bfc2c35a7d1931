use Rattle.iso_image.proofs.Histories.{world_bytes, half_after, later_records, half_form, records_form}
use Rattle.iso_image.proofs.laws.halves_follow_the_world.Goals as goal

pub returns-clause-used : goal.returns-clause-used
returns-clause-used _ = world_bytes

pub returns-clause-commit : goal.returns-clause-commit
returns-clause-commit _ = half_after

pub returns-clause-later : goal.returns-clause-later
returns-clause-later _ = later_records

pub returns-clause-form : goal.returns-clause-form
returns-clause-form _ = half_form

pub returns-clause-spelled : goal.returns-clause-spelled
returns-clause-spelled _ = records_form
