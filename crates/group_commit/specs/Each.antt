-- What each member of a group is told by the group's one entry, which another caller made.
use Rattle.std.specs.Prelude.{◌≡◌, ◌⊎◌, ℕ, ◌++◌, List, [], ◌∷◌}
use mathlib.Core.List.{IsPrefix}
use Rattle.iso_model.specs.{declared.access.Access.Access, declared.access.GroupReply.GroupReply}
use Rattle.iso_shared.specs.{declared.entry.Entry.Entry, declared.entry.MemberEnd.MemberEnd, declared.shared.Shared.Shared, declared.tx.Tx.Tx, Legal.IsLegal, Ports.{IsPort, doing_of, number_of, port_view, tx_view}, States.Start}
use Rattle.iso_shared.specs.declared.entry.Entry.TheVariants as entry
use Rattle.group_commit.specs.declared.each.Ended.{Ended}

-- one of these members has this number and these accesses, and was answered so
abbrev pub IsAmong : (number : ℕ) → List Access → GroupReply → List MemberEnd → Type 0
IsAmong n accesses r [] = ⊥
IsAmong n accesses r (m ∷ members) = (m ≡ record { number = n; accesses = accesses; reply = r }) ⊎ IsAmong n accesses r members

module _ {D O : Type 0} where
  -- a reply with a port that was split off: it has one unit and no place, and has seen this
  pub record IsDealt (shared : Shared D O) (seen : List Entry) (r : GroupReply) (e : Ended D O) : Type 0 where
    pub reply : e.reply ≡ r
    pub port : IsPort shared e.port
    pub unit : (port_view e.port).units ≡ 1
    pub bare : (port_view e.port).mine ≡ []
    pub seen_is : (port_view e.port).seen ≡ seen

  -- The transaction was ended as a member of a group, and answered so: the port, which has one unit and no place, has seen all
  -- that the transaction had and then, last, the entry of the group, in which it is a member with its accesses and this answer.
  -- All of that is legal.
  pub record IsEndedIn (shared : Shared D O) (A : Start) (t : Tx D O) (e : Ended D O) : Type 0 where
    pub port : IsPort shared e.port
    pub unit : (port_view e.port).units ≡ 1
    pub bare : (port_view e.port).mine ≡ []
    pub before : List Entry
    pub members : List MemberEnd
    pub told : IsPrefix (tx_view t).seen before
    pub seen_is : (port_view e.port).seen ≡ before ++ entry.EndGroup members ∷ []
    pub legal : IsLegal A (port_view e.port).seen
    pub among : IsAmong (number_of t) (doing_of t).accesses e.reply members
