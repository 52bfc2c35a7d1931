-- What each member of a group is told by the group's entry.
use Rattle.group_commit.proofs.Words.{inl, inr, ℕ, ◌++◌, ◌≡◌, ◌≤◌, ◌∙◌, List, [], ◌∷◌, length, map, refl, sym, subst, arith, AllByRecursion, GroupReply, IsLegal, number_of, tx_view, Start, Entry, Shared, Tx, View, ArePaired, answered, members_in, units_of, AreTxs, IsPrefix}
use Rattle.iso_model.specs.declared.access.Access.{Access}
use Rattle.iso_shared.specs.{declared.entry.MemberEnd.MemberEnd, Ports.doing_of}
use Rattle.iso_shared.specs.declared.entry.Entry.TheVariants as entry
use Rattle.group_commit.specs.{declared.each.Ended.Ended, Each.{IsAmong, IsDealt, IsEndedIn}}

module _ {D O : Type 0} where
  -- each has a unit at least
  pub units_least : (shared : Shared D O) (A : Start) (txs : List (Tx D O)) → AreTxs shared A txs → length txs ≤ units_of txs
  units_least shared A [] all = omega arith
  units_least shared A (t ∷ txs) all = let rest = units_least shared A txs all.1 in let one = all.0.0.2 in omega (arith, rest, one)

  -- whose replies are dealt out in ports that have seen the group's entry, are told of it
  pub all_told : (shared : Shared D O) (A : Start) (before seen : List Entry) (members : List MemberEnd) → seen ≡ before ++ entry.EndGroup members ∷ [] → IsLegal A seen
      → (txs : List (Tx D O)) (replies : List GroupReply) (told : List (Ended D O)) → AllByRecursion (λ (u : View Entry). IsPrefix u.seen before) (map tx_view txs) → length replies ≡ length txs
      → ((n : ℕ) (accesses : List Access) (r : GroupReply) → IsAmong n accesses r (answered (members_in txs) replies) → IsAmong n accesses r members)
      → ArePaired (IsDealt shared seen) replies told → ArePaired (IsEndedIn shared A) txs told
  all_told shared A before seen members is legal [] [] [] begins same among dealt = tt
  all_told shared A before seen members is legal [] [] (e ∷ told) begins same among dealt = absurd dealt
  all_told shared A before seen members is legal [] (r ∷ replies) told begins same among dealt = absurd (omega (arith, same))
  all_told shared A before seen members is legal (t ∷ txs) [] told begins same among dealt = absurd (omega (arith, same))
  all_told shared A before seen members is legal (t ∷ txs) (r ∷ replies) [] begins same among dealt = absurd dealt
  all_told shared A before seen members is legal (t ∷ txs) (r ∷ replies) (e ∷ told) begins same among dealt = (
    record {
      port = dealt.0.port;
      unit = dealt.0.unit;
      bare = dealt.0.bare;
      before = before;
      members = members;
      told = begins.0;
      seen_is = dealt.0.seen_is ∙ is;
      legal = subst (IsLegal A) (sym dealt.0.seen_is) legal;
      among = subst (λ (q : GroupReply). IsAmong (number_of t) (doing_of t).accesses q members) (sym dealt.0.reply) (among (number_of t) (doing_of t).accesses r (inl refl));
    },
    all_told shared A before seen members is legal txs replies told begins.1 (omega (arith, same)) (λ n accesses q one. among n accesses q (inr one)) dealt.1,
  )
