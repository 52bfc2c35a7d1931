use Rattle.group_commit.specs.Groups.{found_in}
use Rattle.accounts.proofs.run.run_on.Goals as goal

pub learn-group-requires-clause-told : goal.learn-group-requires-clause-told
learn-group-requires-clause-told g c = (found_in c.give_beside-first.result.2.members.items, c.end_beside-first.ensures.ended.told)
