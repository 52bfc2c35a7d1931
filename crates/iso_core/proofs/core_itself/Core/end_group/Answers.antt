use Rattle.iso_core.proofs.core_itself.Core.end_group.Goals as goal

pub returns-clause-ended : goal.returns-clause-ended
returns-clause-ended g c W members of each = (c.end_members.ensures.ends.group (record { world = W; members = members; of = of; each = each })).ended

pub returns-clause-moments : goal.returns-clause-moments
returns-clause-moments g c W members of each = (c.end_members.ensures.ends.group (record { world = W; members = members; of = of; each = each })).moments

pub returns-clause-lost : goal.returns-clause-lost
returns-clause-lost g c W members of each = (c.end_members.ensures.ends.group (record { world = W; members = members; of = of; each = each })).lost

pub returns-clause-commits : goal.returns-clause-commits
returns-clause-commits g c W members of each = (c.end_members.ensures.ends.group (record { world = W; members = members; of = of; each = each })).commits

pub returns-clause-unwritten : goal.returns-clause-unwritten
returns-clause-unwritten g c W members of each = (c.end_members.ensures.ends.group (record { world = W; members = members; of = of; each = each })).unwritten

pub returns-clause-untouched : goal.returns-clause-untouched
returns-clause-untouched g c = c.end_members.ensures.ends.disk.untouched

pub returns-clause-told : goal.returns-clause-told
returns-clause-told g c = c.end_members.ensures.ends.disk.told

pub returns-clause-cause : goal.returns-clause-cause
returns-clause-cause g c = c.end_members.ensures.ends.disk.cause

pub returns-clause-only : goal.returns-clause-only
returns-clause-only g c W of = c.end_members.ensures.ends.disk.only
