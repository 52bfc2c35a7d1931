use Rattle.std.proofs.Common.{◌≡◌, subst, [], OnErr}
use Rattle.iso_memdisk.specs.MemDisk.{state_of}
use Rattle.recover_tests.{specs.Cores.IsDown, proofs.Standing.{stands_down, stays_down}, proofs.core_tests.refuses_each_call.Goals.{After-begin, After-trim, After-compact}}
use Rattle.recover_tests.proofs.core_tests.refuses_each_call.Goals as goal

-- ---- after each call the core is as it was

begun : (c : After-begin) → IsDown state_of c.begin.new.self
begun c =
    let is = c.requires.down in
    stays_down state_of c.args.core.now c.begin.new.self (subst (λ r. OnErr r (c.begin.new.self ≡ c.args.core.now)) (c.begin.ensures.down is.world [] is.stands) c.begin.ensures.kept) is

trimmed : (c : After-trim) → IsDown state_of c.begin.new.self → IsDown state_of c.trim.new.self
trimmed c is = stays_down state_of c.begin.new.self c.trim.new.self (c.trim.ensures.down is.world [] is.stands).1 is

compacted : (c : After-compact) → IsDown state_of c.trim.new.self → IsDown state_of c.compact.new.self
compacted c is = stays_down state_of c.trim.new.self c.compact.new.self (c.compact.ensures.down is.world [] is.stands).1 is

-- ---- the calls

pub begin-requires : goal.begin-requires
begin-requires c = stands_down state_of _ c.requires.down

pub trim-requires : goal.trim-requires
trim-requires c = stands_down state_of _ (begun (goal.at.trim-requires c).After-begin)

pub compact-requires : goal.compact-requires
compact-requires c =
    let at = goal.at.compact-requires c in
    stands_down state_of _ (trimmed at.After-trim (begun at.After-begin))

pub upgrade-requires : goal.upgrade-requires
upgrade-requires c =
    let at = goal.at.upgrade-requires c in
    stands_down state_of _ (compacted at.After-compact (trimmed at.After-trim (begun at.After-begin)))
