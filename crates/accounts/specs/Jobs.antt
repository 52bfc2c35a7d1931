-- What the jobs of the two threads are, and what becomes of them.
use Rattle.std.specs.Prelude.{◌≡◌, ◌+◌, ◌<◌, ◌≤◌, List, Option, IfSome, length}
use Rattle.group_commit.specs.Groups.{found_in, units_all}
use Rattle.handle_pass.specs.Sessions.{SessionState, device_of}
use Rattle.iso_core.specs.declared.group_end.TheConstants.{MAX_GROUP}
use Rattle.iso_shared.specs.{declared.shared.Port.Port, declared.tx.Tx.Tx, Ports.{IsPort, port_view}, States.Start}
use Rattle.accounts.specs.{Kept.{AreGiven, Gains, Gives, HasStore, Hold, IsHalf, IsKept, IsKeptPort, MayBegin, MayGive, half_units}, Learned.{AreTold, Told, told_units}, Made.opening_of, Sums.Accounts, declared.account.Plan.Plan, declared.half.Half.Half, declared.tellers.Ender.Ender, declared.tellers.Giver.Giver, declared.tellers.Mover.Mover}

-- the accounts of a plan
abbrev pub planned : Plan → Accounts
planned plan = opening_of plan.accounts.now

module _ {D O : Type 0} (A : Start) where
  pub record IsGiver (c : Giver D O) : Type 0 where
    pub session : MayGive (planned c.plan) A c.region c.session
    pub few : length c.plan.handed.now ≤ MAX_GROUP

  -- what the session of a giver has given away
  pub record HasGiven (accounts : Accounts) (s t : SessionState) (members : List (Option (Tx D O))) (half : Option (Half D O)) : Type 0 where
    pub few : length members ≤ MAX_GROUP
    pub gives : Gives accounts A (MAX_GROUP + 1) s t members half

  abbrev pub IsMover : Mover D O → Type 0
  IsMover c = MayBegin (planned c.plan) A c.region c.session

  pub record IsEnder (c : Ender D O) : Type 0 where
    pub store : HasStore A c.region
    pub session : IsKept (planned c.plan) A c.session
    pub of : c.session.device ≡ device_of c.shared.now
    pub half : IfSome c.half (IsHalf (planned c.plan) A c.session.device)
    pub port : IsPort c.shared.now c.port
    pub hold : Hold (planned c.plan) A c.port
    pub few : IfSome c.members (λ v. length v.items ≤ MAX_GROUP)
    pub given : IfSome c.members (λ v. AreGiven (planned c.plan) A (device_of c.shared.now) v.items)

  -- What became of all that was given to it, where its session and its port are these then: the units are the session's, the port's and
  -- those of the ports by which the members are told.
  pub record HasEndedGift (c : Ender D O) (t : SessionState) (q : Port D O) (group : Told D O) : Type 0 where
    pub session : Gains (planned c.plan) A c.session t (half_units c.half)
    pub port : IsKeptPort c.shared.now (planned c.plan) A q
    pub port_units : IfSome c.members (λ v. (port_view q).units + told_units group ≡ units_all (port_view c.port) (found_in v.items))
    pub told : IfSome c.members (λ v. AreTold c.shared.now A (found_in v.items) group)
