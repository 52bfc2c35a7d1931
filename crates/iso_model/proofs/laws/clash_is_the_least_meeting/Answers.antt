use Rattle.iso_model.proofs.Clashes.{some_clash, none_from_clash, no_clash, least_is_clash}
use Rattle.iso_model.proofs.laws.clash_is_the_least_meeting.Goals as goal

pub returns-clause-found : goal.returns-clause-found
returns-clause-found _ = λ g H mode begin accesses c some. (some_clash g H mode begin accesses c some).0

pub returns-clause-least : goal.returns-clause-least
returns-clause-least _ = λ g H mode begin accesses c d some is. (some_clash g H mode begin accesses c some).1 d is

pub returns-clause-none : goal.returns-clause-none
returns-clause-none _ = λ g H mode begin accesses d write none. none_from_clash g H mode begin accesses write none d

pub returns-clause-read_only : goal.returns-clause-read_only
returns-clause-read_only _ = no_clash

pub returns-clause-only : goal.returns-clause-only
returns-clause-only _ = least_is_clash
