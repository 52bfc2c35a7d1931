-- A group of transactions that were given away commits as accounts do.
use Rattle.accounts.proofs.{Words.{◌≡◌, ◌∙◌, inl, inr, sym, refl, ap, subst, suc, ℕ, true, List, [], ◌∷◌, ◌++◌, arith, length, Option, Some, None, Result, Ok, Err, Accounts, IsPrefix, AllByRecursion, prefix_self, prefix_trans, View, times, HasGrouped, HasMade, KnowsAll, aborts_after, aborts_of, count_all, found_in, group_of, refused_by, next_prefix, own_in, Commit, GroupReply, CoreError, made_by, Live, World, legal_last, loose_is, Entry, Member, answered, made_in, AreLoose, IsLegal, number_of, tx_view, Start, commits_made, group_answers, lost_commits, member_numbers, members_of, opened, state_at, txs_of, cause_of, members_in, commit_at, world_at, IsOfAccountsAt, CommitsAccounts, AreGiven, Covers, BeginsIdle, IsWhole, DeviceId}, Committing.commits_well, Covering.{IsQuiet, covers_both, covers_none, covers_on, covers_one, covers_quiet}}
use Rattle.group_commit.specs.Groups.{HasEnded}
use Rattle.iso_model.specs.declared.access.GroupReply.TheVariants as member
use Rattle.iso_model.specs.declared.core_error.CoreError.TheVariants as error
use Rattle.iso_shared.specs.declared.entry.Call.TheVariants as call
use Rattle.iso_shared.specs.declared.entry.Entry.TheVariants as entry
use Rattle.iso_shared.specs.{declared.tx.Tx.Tx, States.tx_of}

made_well : (P : Commit → Type 0) (t : Live) (r : GroupReply) (rest : List Commit) → P (Rattle.iso_model.specs.Step.commit_from t) → AllByRecursion P rest → AllByRecursion P (made_by t r ++ rest)
made_well P t (member.Committed k) rest here all = (here, all)
made_well P t x rest here all = all

-- the commits of members are such where each member's is
lost_well : (P : Commit → Type 0) (W : World) (members : List Member) (replies : List GroupReply) → AllByRecursion (λ m. P (commit_at W m.number m.accesses)) members → AllByRecursion P (commits_made (txs_of W members) replies)
lost_well P W [] replies all = tt
lost_well P W (m ∷ members) [] all = tt
lost_well P W (m ∷ members) (r ∷ replies) all = made_well P (tx_of W m.number m.accesses) r (commits_made (txs_of W members) replies) all.0 (lost_well P W members replies all.1)

answered_members : (members : List Member) (replies : List GroupReply) → length replies ≡ length members → members_of (answered members replies) ≡ members
answered_members [] replies same = refl
answered_members (m ∷ members) [] same = absurd (omega arith)
answered_members (m ∷ members) (r ∷ replies) same = ap (λ (xs : List Member). m ∷ xs) (answered_members members replies (let e : length (r ∷ replies) ≡ length (m ∷ members) = same in omega (arith, e)))

aborts_quiet : {D O : Type 0} (txs : List (Tx D O)) → AllByRecursion IsQuiet (aborts_of txs)
aborts_quiet [] = tt
aborts_quiet (t ∷ txs) = ((λ W. refl), aborts_quiet txs)

after_quiet : {D O : Type 0} (e : CoreError) (txs : List (Tx D O)) → AllByRecursion IsQuiet (aborts_after e txs)
after_quiet error.Disk txs = tt
after_quiet e txs = aborts_quiet txs

many_members : {D O : Type 0} (txs : List (Tx D O)) → length (members_in txs) ≡ length txs
many_members [] = refl
many_members (t ∷ txs) = ap suc (many_members txs)

module _ {D O : Type 0} (accounts : Accounts) (A : Start) (d : DeviceId) (ready : BeginsIdle A) where
  abbrev AllGiven : List (Tx D O) → Type 0
  AllGiven txs = AllByRecursion (IsWhole accounts A d) txs

  found_given : (members : List (Option (Tx D O))) → AreGiven accounts A d members → AllGiven (found_in members)
  found_given [] all = tt
  found_given (None ∷ members) all = found_given members all.1
  found_given (Some t ∷ members) all = (all.0, found_given members all.1)

  -- each member commits as accounts do where it is live still
  each_well : (W before : List Entry) (txs : List (Tx D O)) → AllGiven txs → KnowsAll txs W → IsLegal A before → IsPrefix before W → AreLoose (member_numbers (members_in txs)) (state_at A before) → A.tells ≡ true
      → AllByRecursion (λ m. CommitsAccounts accounts A.world.geometry (world_at A before).history (commit_at (world_at A before) m.number m.accesses)) (members_in txs)
  each_well W before [] given knows legal at loose tells = tt
  each_well W before (t ∷ txs) given knows legal at loose tells = (
    commits_well accounts A (tx_view t).seen W before (own_in t) ready.sound ready.idle (given.0.given.filled tells (own_in t) refl) knows.0 legal at (loose_is (number_of t) (state_at A before) loose.0).0,
    each_well W before txs given.1 knows.1 legal at loose.1 tells,
  )

  -- so does the group
  group_well : (W before : List Entry) (txs : List (Tx D O)) (replies : List GroupReply) → AllGiven txs → KnowsAll txs W → let e = entry.EndGroup (answered (members_in txs) replies) in
      length replies ≡ length txs → IsLegal A (before ++ e ∷ []) → IsPrefix (before ++ e ∷ []) W → A.tells ≡ true → IsOfAccountsAt accounts A before e
  group_well W before txs replies given knows same legal at tells =
      let e = entry.EndGroup (answered (members_in txs) replies) in
      let ls = legal_last (opened A) before e legal in
      let are = answered_members (members_in txs) replies (same ∙ sym (many_members txs)) in
      let loose : AreLoose (member_numbers (members_in txs)) (state_at A before) = subst (λ (ms : List Member). AreLoose (member_numbers ms) (state_at A before)) are ls.1.takes in
      subst (λ (ms : List Member). AllByRecursion (CommitsAccounts accounts A.world.geometry (world_at A before).history) (lost_commits (world_at A before) ms)) (sym are)
      (lost_well (CommitsAccounts accounts A.world.geometry (world_at A before).history) (world_at A before) (members_in txs) (group_answers (world_at A before) (members_in txs))
      (each_well W before txs given knows ls.0 (prefix_trans before (before ++ e ∷ []) W (e ∷ [], refl) at) loose tells))

  -- and a group that was refused
  refused_well : (W before : List Entry) (txs : List (Tx D O)) (was now : ℕ) (x : CoreError) → AllGiven txs → KnowsAll txs W → let e = entry.Refused (call.EndGroup (members_in txs)) (cause_of was now x) in
      IsLegal A (before ++ e ∷ []) → IsPrefix (before ++ e ∷ []) W → A.tells ≡ true → IsOfAccountsAt accounts A before e
  refused_well W before txs was now error.Down given knows legal at tells = tt
  refused_well W before txs was now error.TooManyTx given knows legal at tells = tt
  refused_well W before txs was now (error.LogFull need free) given knows legal at tells = tt
  refused_well W before txs was now error.Disk given knows legal at tells =
      let e = entry.Refused (call.EndGroup (members_in txs)) (cause_of was now error.Disk) in
      let ls = legal_last (opened A) before e legal in
      lost_well (CommitsAccounts accounts A.world.geometry (world_at A before).history) (world_at A before) (members_in txs) (group_answers (world_at A before) (members_in txs))
      (each_well W before txs given knows ls.0 (prefix_trans before (before ++ e ∷ []) W (e ∷ [], refl) at) ls.1.takes tells)
  refused_well W before txs was now error.Memory given knows legal at tells = tt
  refused_well W before txs was now (error.Worn at_now) given knows legal at tells = tt
  refused_well W before txs was now error.ModeFixed given knows legal at tells = tt

  -- the places of the members, and those of the port with them
  places_of : (W : List Entry) (us : List (Tx D O)) → AllGiven us → KnowsAll us W → Covers accounts A W (λ p. made_in p us)
  places_of W [] given knows = covers_none accounts A W (λ p. made_in {D = D} {O = O} p []) (λ p. refl)
  places_of W (t ∷ us) given knows =
      covers_both accounts A W (λ p. times p (tx_view t).mine) (λ p. made_in p us) (λ p. made_in p (t ∷ us)) (λ p. refl)
      (covers_on accounts A (tx_view t).seen W (λ p. times p (tx_view t).mine) knows.0 given.0.given.covers) (places_of W us given.1 knows.1)

  all_covered : (W : List Entry) (v : View Entry) (txs : List (Tx D O)) → Covers accounts A W (λ p. times p v.mine) → AllGiven txs → KnowsAll txs W → Covers accounts A W (count_all v txs)
  all_covered W v txs port given knows = covers_both accounts A W (λ p. times p v.mine) (λ p. made_in p txs) (count_all v txs) (λ p. refl) port (places_of W txs given knows)

  quiet_made : (v w : View Entry) (txs : List (Tx D O)) (es : List Entry) → HasMade A v txs es w → AllByRecursion IsQuiet es → Covers accounts A w.seen (count_all v txs) → Covers accounts A w.seen (λ p. times p w.mine)
  quiet_made v w txs es made quiet is = covers_quiet accounts A w.seen v.seen w.seen (count_all v txs) (λ p. times p w.mine) es made quiet (prefix_self w.seen) is

  -- one entry, and quiet ones after it
  then_quiet : (v w : View Entry) (txs : List (Tx D O)) (e : Entry) (es : List Entry) → HasMade A v txs (e ∷ es) w
      → ((before : List Entry) → IsLegal A (before ++ e ∷ []) → IsPrefix (before ++ e ∷ []) w.seen → A.tells ≡ true → IsOfAccountsAt accounts A before e) → AllByRecursion IsQuiet es
      → Covers accounts A w.seen (count_all v txs) → Covers accounts A w.seen (λ p. times p w.mine)
  then_quiet v w txs e es made well quiet is =
      let m = made.2 in
      let more = next_prefix A made.0 w.seen made.1 (λ p. times p w.mine) es made.3 in
      covers_quiet accounts A w.seen made.0 w.seen made.1 (λ p. times p w.mine) es made.3 quiet (prefix_self w.seen)
      (covers_one accounts A w.seen v.seen made.0 (count_all v txs) made.1 e m more (well m.before m.legal (prefix_trans (m.before ++ e ∷ []) made.0 w.seen m.known more)) is)

  group_ended : (v w : View Entry) (txs : List (Tx D O)) (r : Result (List GroupReply) CoreError) → HasEnded A v txs r w → AllGiven txs → KnowsAll txs w.seen → Covers accounts A w.seen (count_all v txs) → Covers accounts A w.seen (λ p. times p w.mine)
  group_ended v w [] (Ok replies) did given knows is = quiet_made v w [] [] did.1 tt is
  group_ended v w (t ∷ txs) (Ok replies) did given knows is =
      then_quiet v w (t ∷ txs) (entry.EndGroup (answered (members_in (t ∷ txs)) replies)) [] did.1 (λ before legal at. group_well w.seen before (t ∷ txs) replies given knows did.0 legal at) tt is
  group_ended v w txs (Err x) did given knows is =
      then_quiet v w txs (entry.Refused (call.EndGroup (members_in txs)) (cause_of did.0 did.1 x)) (aborts_after x txs) did.2 (λ before legal at. refused_well w.seen before txs did.0 did.1 x given knows legal at) (after_quiet x txs) is

  -- a port that held entries of accounts alone holds such after the group
  pub grouped : (v w : View Entry) (members : List (Option (Tx D O))) (r : Result (List (Option GroupReply)) CoreError) → HasGrouped A v members r w → AreGiven accounts A d members → KnowsAll (found_in members) w.seen → IsPrefix v.seen w.seen
      → Covers accounts A v.seen (λ p. times p v.mine) → Covers accounts A w.seen (λ p. times p w.mine)
  grouped v w members r did given knows more is =
      let txs = found_in members in
      let all = found_given members given in
      by r did (all_covered w.seen v txs (covers_on accounts A v.seen w.seen (λ p. times p v.mine) more is) all knows)
    where
      by : (s : Result (List (Option GroupReply)) CoreError) → HasGrouped A v members s w → Covers accounts A w.seen (count_all v (found_in members)) → Covers accounts A w.seen (λ p. times p w.mine)
      by (Ok told) has covered = group_ended v w (found_in members) (Ok has.0) has.2 (found_given members given) knows covered
      by (Err x) (inl has) covered = group_ended v w (found_in members) (Err x) has.1 (found_given members given) knows covered
      by (Err x) (inr has) covered = quiet_made v w (found_in members) (aborts_of (found_in members)) has.1 (aborts_quiet (found_in members)) covered

  -- what a group's port knew, it knows still
  pub knows_on : (v w : View Entry) (members : List (Option (Tx D O))) (r : Result (List (Option GroupReply)) CoreError) → HasGrouped A v members r w → IsPrefix v.seen w.seen
  knows_on v w members (Ok told) did = ended_on v w (found_in members) (Ok did.0) did.2
    where
      ended_on : (v w : View Entry) (txs : List (Tx D O)) (r : Result (List GroupReply) CoreError) → HasEnded A v txs r w → IsPrefix v.seen w.seen
      ended_on v w txs (Ok replies) did = next_prefix A v.seen w.seen (count_all v txs) (λ p. times p w.mine) (group_of txs replies) did.1
      ended_on v w txs (Err x) did = next_prefix A v.seen w.seen (count_all v txs) (λ p. times p w.mine) (refused_by txs did.0 did.1 x) did.2
  knows_on v w members (Err x) (inl did) = next_prefix A v.seen w.seen (count_all v (found_in members)) (λ p. times p w.mine) (refused_by (found_in members) did.1.0 did.1.1 x) did.1.2
  knows_on v w members (Err x) (inr did) = next_prefix A v.seen w.seen (count_all v (found_in members)) (λ p. times p w.mine) (aborts_of (found_in members)) did.1
