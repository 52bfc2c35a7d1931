-- Along a list whose transactions are those of accounts, each commit has their sum.
use Rattle.accounts.proofs.{SumWords.{◌≡◌, ◌⊎◌, ◌∙◌, inl, inr, sym, refl, ap, subst, ℕ, zero, suc, ◌+◌, ◌-◌, ◌<◌, ◌≤◌, true, IfSome, List, [], ◌∷◌, ◌++◌, append_assoc, append-nil, length, length-append, slice_get, Option, Some, None, arith, AllByRecursion, Access, Array, Commit, Geometry, History, array_at, last, Live, World, IsWorld, Entry, IsLegal, Start, State, state_at, IsOfBoth, firsts, answers_in, calls_in, image_hash, image_tree, Accounts, KeepsSum, AreOfAccounts, CommitsAccounts, IsOfAccountsAt, KeepsSumAt, KeepsSumIn, KeepsSumSince, commits_by, cases_lt, group_is, ahead, decided, leave_all, made_by, member_reply, with_commits, after_leaving, end_step, IsLive, EndReply, Committed, Conflict, ReadOnly, GroupReply, follows_all, last_longer, group_history, after_snoc, legal_append, legal_snoc, loose_is, Call, Cause, Member, MemberEnd, answered, AreLoose, Fits, IsGroup, LegalFrom, MayHaveMade, MayRefuse, whole, with_lost, after, commits_made, group_answers, is_live, lost_commits, member_numbers, members_of, opened, replies_of, tx_of, txs_of, stores_answer_at, AreCallsInOrderAt, CommitsAreByCalls, StoresAreWell, commit_at, commits_as, world_at, both_commits, AreMixed, BothInOrder, IsByBoth, hash_blocks, tree_blocks, array_extends}, KeepingSums.keep_sum, SoundWorlds.{may_end, may_end_all, sound_at}, Splits.{nth_of, slice_get_behind, snoc_split}}
use Rattle.iso_model.specs.declared.access.GroupReply.TheVariants as member
use Rattle.iso_shared.specs.declared.entry.Call.TheVariants as call
use Rattle.iso_shared.specs.declared.entry.Cause.TheVariants as cause
use Rattle.iso_shared.specs.declared.entry.Entry.TheVariants as entry

-- The entry adds commits to the history, or leaves them open after it, as an entry tells of them that a device makes which is up.
record Adds (S : State) (e : Entry) : Type 0 where
  told : Entry
  up : S.lost ≡ None
  fits : Fits S told
  same : commits_by S.world told ≡ commits_by S.world e
  adds : (after S told).world.history ≡ with_commits (commits_by S.world told) S.world.history
  history : (whole (after S e)).history ≡ with_commits (commits_by S.world told) S.world.history
  begins : AllByRecursion (λ c. c.begin ≤ last S.world.history) (commits_by S.world told)

-- or leaves the history as it is
abbrev Goes : State → Entry → Type 0
Goes S e = ((whole (after S e)).history ≡ (whole S).history) ⊎ Adds S e

same_lost : (W V : World) (o : Option (List Commit)) → V.history ≡ W.history → (with_lost V o).history ≡ (with_lost W o).history
same_lost W V None e = e
same_lost W V (Some lost) e = ap (with_commits lost) e

up_history : (W : World) (o : Option (List Commit)) → o ≡ None → (with_lost W o).history ≡ W.history
up_history W o up = ap (λ (p : Option (List Commit)). (with_lost W p).history) up

nothing_lost : (W : World) (o : Option (List Commit)) → o ≡ None → (with_lost W (Some [])).history ≡ (with_lost W o).history
nothing_lost W o up = (λ i. record W.history { commits = append-nil W.history.commits i }) ∙ sym (up_history W o up)

pub may_of : (S : State) (c : Call) (why : Cause) → Fits S (entry.Refused c why) → MayRefuse S c why
may_of S c why fits = fits.answers.1

-- the begin of what a live transaction would commit
begin_of : (S : State) (n : ℕ) (accesses : List Access) → IsWorld S.world → is_live n S.world.live ≡ true → MayHaveMade S.world accesses → (commit_at S.world n accesses).begin ≤ last S.world.history
begin_of S n accesses is live may = (may_end S.world n accesses is live may).begin

begins_by : (W : World) (t : Live) (r : GroupReply) (rest : List Commit) → t.begin ≤ last W.history → AllByRecursion (λ c. c.begin ≤ last W.history) rest → AllByRecursion (λ c. c.begin ≤ last W.history) (made_by t r ++ rest)
begins_by W t (member.Committed k) rest one all = (one, all)
begins_by W t x rest one all = all

begins_all : (W : World) (txs : List Live) (replies : List GroupReply) → AllByRecursion (IsLive W) txs → AllByRecursion (λ c. c.begin ≤ last W.history) (commits_made txs replies)
begins_all W [] replies live = tt
begins_all W (t ∷ txs) [] live = tt
begins_all W (t ∷ txs) (r ∷ replies) live = begins_by W t r (commits_made txs replies) live.0.begin (begins_all W txs replies live.1)

begins_group : (S : State) (members : List Member) → IsWorld S.world → AreLoose (member_numbers members) S → IsGroup S.world members → AllByRecursion (λ c. c.begin ≤ last S.world.history) (lost_commits S.world members)
begins_group S members is loose group = begins_all S.world (txs_of S.world members) (group_answers S.world members) (may_end_all S members is loose group.each)

-- members with the answers that they would have had
abbrev with_answers : World → List Member → List MemberEnd
with_answers W members = answered members (group_answers W members)

answered_so : (B W : World) (members : List Member) → let xs = answered members (decided W (txs_of B members)).0 in (members_of xs ≡ members) × (replies_of xs ≡ (decided W (txs_of B members)).0)
answered_so B W [] = (refl, refl)
answered_so B W (m ∷ members) =
    let t : Live = tx_of B m.number m.accesses in
    let r : GroupReply = member_reply (end_step W t).0 in
    let rest = answered_so B (ahead W (made_by t r)) members in
    (ap (λ (xs : List Member). m ∷ xs) rest.0, ap (λ (xs : List GroupReply). r ∷ xs) rest.1)

answers_are : (W : World) (members : List Member) → (members_of (with_answers W members) ≡ members) × (replies_of (with_answers W members) ≡ group_answers W members)
answers_are W members =
    subst (λ (rs : List GroupReply). (members_of (answered members rs) ≡ members) × (replies_of (answered members rs) ≡ rs)) (sym (ap (λ (x : List GroupReply × World). x.0) (group_is W (txs_of W members))))
    (answered_so W W members)

left_history : (txs : List Live) (W : World) → (leave_all txs W).history ≡ W.history
left_history [] W = refl
left_history (t ∷ txs) W = left_history txs (after_leaving W t)

goes_group : (S : State) (members : List Member) (was now : ℕ) → IsWorld S.world → Fits S (entry.Refused (call.EndGroup members) (cause.Disk was now)) → Adds S (entry.Refused (call.EndGroup members) (cause.Disk was now))
goes_group S members was now is fits =
    let W : World = S.world in
    let up : S.lost ≡ None = (may_of S (call.EndGroup members) (cause.Disk was now) fits).0.0 in
    let group : IsGroup W members = fits.answers.0 in
    let xs : List MemberEnd = with_answers W members in
    let are = answers_are W members in
    let same : lost_commits W (members_of xs) ≡ lost_commits W members = ap (lost_commits W) are.0 in
    record {
      told = entry.EndGroup xs;
      up = up;
      fits = record {
        needs = tt;
        takes = subst (λ (ms : List Member). AreLoose (member_numbers ms) S) (sym are.0) fits.takes;
        answers = (up, subst (IsGroup W) (sym are.0) group, ap (group_answers W) are.0 ∙ sym are.1);
      };
      same = same;
      adds = group_history W (members_of xs);
      history = ap (with_commits (lost_commits W members)) (left_history (txs_of W members) W) ∙ ap (λ (cs : List Commit). with_commits cs W.history) (sym same);
      begins = subst (λ (cs : List Commit). AllByRecursion (λ c. c.begin ≤ last W.history) cs) (sym same) (begins_group S members is fits.takes group);
    }

goes_fault : (S : State) (c : Call) (was now : ℕ) → IsWorld S.world → Fits S (entry.Refused c (cause.Disk was now)) → Goes S (entry.Refused c (cause.Disk was now))
goes_fault S (call.Begin named) was now is fits = absurd (may_of S (call.Begin named) (cause.Disk was now) fits).0
goes_fault S (call.Fetch n block) was now is fits = inl refl
goes_fault S (call.End n accesses) was now is fits =
    let may = may_of S (call.End n accesses) (cause.Disk was now) fits in
    inr (record {
      told = entry.End n accesses (Committed (last S.world.history + 1));
      up = may.0.0;
      fits = record { needs = tt; takes = fits.takes; answers = (may.0.0, fits.answers.0, may.0.1) };
      same = refl;
      adds = refl;
      history = refl;
      begins = (begin_of S n accesses is (loose_is n S fits.takes.0).0 fits.answers.0, tt);
    })
goes_fault S (call.EndGroup members) was now is fits = inr (goes_group S members was now is fits)
goes_fault S call.Trim was now is fits = absurd (may_of S call.Trim (cause.Disk was now) fits).0
goes_fault S call.Compact was now is fits = inl (nothing_lost S.world S.lost (may_of S call.Compact (cause.Disk was now) fits).0.0)
goes_fault S call.Upgrade was now is fits = inl (nothing_lost S.world S.lost (may_of S call.Upgrade (cause.Disk was now) fits).0.0)
goes_fault S (call.Post n label accesses) was now is fits = absurd (may_of S (call.Post n label accesses) (cause.Disk was now) fits).0
goes_fault S (call.Recent n) was now is fits = absurd (may_of S (call.Recent n) (cause.Disk was now) fits).0

goes_refusal : (S : State) (c : Call) (why : Cause) → IsWorld S.world → Fits S (entry.Refused c why) → Goes S (entry.Refused c why)
goes_refusal S c (cause.Disk was now) is fits = goes_fault S c was now is fits
goes_refusal S c why is fits = inl refl

goes_end : (S : State) (n : ℕ) (accesses : List Access) (r : EndReply) → IsWorld S.world → Fits S (entry.End n accesses r) → Goes S (entry.End n accesses r)
goes_end S n accesses (Committed k) is fits =
    inr (record {
      told = entry.End n accesses (Committed k);
      up = fits.answers.0;
      fits = fits;
      same = refl;
      adds = refl;
      history = up_history (after S (entry.End n accesses (Committed k))).world S.lost fits.answers.0;
      begins = (begin_of S n accesses is (loose_is n S fits.takes.0).0 fits.answers.1, tt);
    })
goes_end S n accesses ReadOnly is fits = inl (same_lost S.world (after S (entry.End n accesses ReadOnly)).world S.lost refl)
goes_end S n accesses (Conflict c) is fits = inl (same_lost S.world (after S (entry.End n accesses (Conflict c))).world S.lost refl)

goes : (S : State) (e : Entry) → IsWorld S.world → Fits S e → Goes S e
goes S (entry.Begin n at mode) is fits = inl (same_lost S.world (after S (entry.Begin n at mode)).world S.lost refl)
goes S (entry.Fetch n block bytes) is fits = inl refl
goes S (entry.End n accesses r) is fits = goes_end S n accesses r is fits
goes S (entry.EndGroup ends) is fits =
    let history = group_history S.world (members_of ends) in
    inr (record {
      told = entry.EndGroup ends;
      up = fits.answers.0;
      fits = fits;
      same = refl;
      adds = history;
      history = up_history (after S (entry.EndGroup ends)).world S.lost fits.answers.0 ∙ history;
      begins = begins_group S (members_of ends) is fits.takes fits.answers.1;
    })
goes S (entry.Abort n) is fits = inl (same_lost S.world (after S (entry.Abort n)).world S.lost refl)
goes S (entry.Trim n) is fits = inl (same_lost S.world (after S (entry.Trim n)).world S.lost refl)
goes S (entry.Compact n) is fits = inl (same_lost S.world (after S (entry.Compact n)).world S.lost refl)
goes S (entry.Upgrade n) is fits = inl (same_lost S.world (after S (entry.Upgrade n)).world S.lost refl)
goes S (entry.Stat numbers) is fits = inl refl
goes S (entry.Post n label accesses) is fits = inl refl
goes S (entry.Look label found) is fits = inl refl
goes S (entry.Sweep None) is fits = inl refl
goes S (entry.Sweep (Some n)) is fits = inl (same_lost S.world (after S (entry.Sweep (Some n))).world S.lost refl)
goes S (entry.Recent n upto) is fits = inl refl
goes S (entry.Refused c why) is fits = goes_refusal S c why is fits

-- ---- what is known of the commits of a list

second_part : (P : Commit → Type 0) (xs ys : List Commit) → AllByRecursion P (xs ++ ys) → AllByRecursion P ys
second_part P [] ys all = all
second_part P (x ∷ xs) ys all = second_part P xs ys all.1

in_members : (P : Commit → Type 0) (W : World) (first others : List MemberEnd) (n k : ℕ) (accesses : List Access) → let xs = first ++ commits_as n k accesses ∷ others in
    AllByRecursion P (commits_made (txs_of W (members_of xs)) (replies_of xs)) → P (commit_at W n accesses)
in_members P W [] others n k accesses all = all.0
in_members P W (m ∷ first) others n k accesses all =
    let rest : List MemberEnd = first ++ commits_as n k accesses ∷ others in
    in_members P W first others n k accesses (second_part P (made_by (tx_of W m.number m.accesses) m.reply) (commits_made (txs_of W (members_of rest)) (replies_of rest)) all)

-- the commits of a list of accounts are by calls of the stores
by_their_calls : (accounts : Accounts) (A : Start) (es : List Entry) → IsLegal A es → AreOfAccounts accounts A es → CommitsAreByCalls (image_tree A.world.geometry) A es
by_their_calls accounts A es legal all = record {
  ends = λ before later n k accesses is. (all before later (entry.End n accesses (Committed k)) is).0.of;
  groups = λ before later first others n k accesses is.
      let W = world_at A before in
      let xs : List MemberEnd = first ++ commits_as n k accesses ∷ others in
      let fits : Fits (state_at A before) (entry.EndGroup xs) = (legal_append (opened A) before (entry.EndGroup xs ∷ later) (subst (IsLegal A) is legal)).1.0 in
      (in_members (CommitsAccounts accounts A.world.geometry W.history) W first others n k accesses
      (subst (λ (replies : List GroupReply). AllByRecursion (CommitsAccounts accounts A.world.geometry W.history) (commits_made (txs_of W (members_of xs)) replies)) fits.answers.2
      (all before later (entry.EndGroup xs) is))).of;
}

-- an element after the first part of a list
behind : {X : Type 0} (b m later : List X) (x : X) → (b ++ x ∷ m) ++ later ≡ b ++ x ∷ (m ++ later)
behind b m later x = append_assoc b (x ∷ m) later

module _ (accounts : Accounts) (A : Start) (es : List Entry) (sound : IsWorld A.world) (idle : A.world.live ≡ []) (legal : IsLegal A es)
    (well : StoresAreWell (image_tree A.world.geometry) A.world.geometry A.world.history) (all : AreOfAccounts accounts A es)
    (begins : KeepsSumIn accounts A.world.geometry (array_at A.world.history (last A.world.history))) where
  abbrev g : Geometry
  g = A.world.geometry

  abbrev n0 : ℕ
  n0 = last A.world.history

  -- the sum holds at each commit of the history at a place of the list
  abbrev Upto : List Entry → Type 0
  Upto before = KeepsSumSince accounts g (whole (state_at A before)).history n0

  upto_first : Upto []
  upto_first k from to = subst (λ (j : ℕ). KeepsSumIn accounts g (array_at A.world.history j)) (let e : n0 ≡ k = omega arith in e) begins

  module _ (before later : List Entry) (e : Entry) (are : es ≡ before ++ e ∷ later) where
    abbrev S : State
    S = state_at A before

    abbrev W : World
    W = world_at A before

    here : LegalFrom (opened A) before × LegalFrom S (e ∷ later)
    here = legal_append (opened A) before (e ∷ later) (subst (IsLegal A) are legal)

    module _ (adds : Adds S e) where
      abbrev cs : List Commit
      cs = commits_by W adds.told

      abbrev one : List Entry
      one = before ++ adds.told ∷ []

      abbrev P : Commit → Type 0
      P = CommitsAccounts accounts g W.history

      each : AllByRecursion P cs
      each = subst (AllByRecursion P) (sym adds.same) (all before later e are)

      legal_one : IsLegal A one
      legal_one = legal_snoc (opened A) before adds.told here.0 adds.fits

      all_one : AreOfAccounts accounts A one
      all_one b l x is =
          elim (snoc_split before b l adds.told x is) [
            | inl last_is ↦ subst (λ (xs : List Entry). IsOfAccountsAt accounts A xs x) last_is.0 (subst (IsOfAccountsAt accounts A before) last_is.1 each)
            | inr earlier ↦ all b (earlier.0 ++ e ∷ later) x (are ∙ ap (λ (xs : List Entry). xs ++ e ∷ later) earlier.1 ∙ behind b earlier.0 (e ∷ later) x)
          ]

      in_order : AreCallsInOrderAt (image_tree A.world.geometry) A one
      in_order = stores_answer_at A one sound idle legal_one (sound_at A one sound legal_one).isolated well (by_their_calls accounts A one legal_one all_one)

      abbrev G : History
      G = with_commits cs W.history

      one_is : (world_at A one).history ≡ G
      one_is = ap (λ (T : State). T.world.history) (after_snoc (opened A) before adds.told) ∙ adds.adds

      by_both : IsByBoth (image_hash g) (image_tree g) (world_at A one).geometry G n0
      by_both = subst (λ (H : History). IsByBoth (image_hash g) (image_tree g) (world_at A one).geometry H n0) one_is in_order.by_calls

      some : 0 < W.history.first
      some = (sound_at A before sound here.0).history.first

      longer : (k : ℕ) → k ≤ last W.history → array_at G k ≡ array_at W.history k
      longer k low = array_extends W.history G k some (record { first = refl; base = refl; more = cs; commits = refl }) low

      -- a commit that the entry adds keeps the sum
      keeps_at : (k : ℕ) (c : Commit) → n0 < k → k ≤ last G → slice_get G.commits (k - G.first) ≡ Some c → c.begin ≤ last W.history → P c
          → KeepsSumIn accounts g (array_at G (k - 1)) → KeepsSumIn accounts g (array_at G k)
      keeps_at k c from to at begin of was =
          let here = subst (λ (o : Option Commit). IfSome o (λ c. (of : IsOfBoth (image_hash g) (image_tree g) G c) → BothInOrder (image_hash g) (image_tree g) of.parts (array_at G (k - 1)) (array_at G k))) at
          (both_commits (image_hash g) (image_tree g) (hash_blocks g sound.valid) (tree_blocks g sound.valid) (world_at A one).geometry G n0 by_both k from to) in
          let parts = of.of.parts in
          let order = here (record {
            parts = parts;
            are = of.of.are;
            made = subst (λ (B : Array). AreMixed (image_hash g) (image_tree g) B parts) (sym (longer c.begin begin)) of.of.made;
            mode = of.of.mode;
          }) in
          let first = order.first in
          subst (KeepsSum accounts) first.ends
          (keep_sum accounts g ((image_hash g).map_of (array_at G (k - 1))) (calls_in (firsts parts)) (answers_in (firsts parts)) of.does first.answers was)

      least : n0 ≤ last W.history
      least = let f = follows_all (opened A) before in last_longer A.world.history W.history sound.history.first f.history

      -- so each of them does, one after the other
      more : KeepsSumIn accounts g (array_at W.history (last W.history)) → (j : ℕ) → last W.history + j ≤ last G → KeepsSumIn accounts g (array_at G (last W.history + j))
      more was zero to =
          let same : last W.history + 0 ≡ last W.history = omega arith in
          subst (λ (k : ℕ). KeepsSumIn accounts g (array_at G k)) (sym same) (subst (KeepsSumIn accounts g) (sym (longer (last W.history) (omega arith))) was)
      more was (suc j) to =
          let k : ℕ = last W.history + suc j in
          let low = least in
          let positive = some in
          let count : length (W.history.commits ++ cs) ≡ length W.history.commits + length cs = length-append W.history.commits cs in
          let before_is : last W.history + j ≡ k - 1 = omega arith in
          let place : (k - G.first) ≡ length W.history.commits + j = omega arith in
          let at = nth_of cs j P (λ c. c.begin ≤ last W.history) (omega (arith, count)) each adds.begins in
          keeps_at k at.one (omega (arith, low)) to (ap (slice_get G.commits) place ∙ slice_get_behind W.history.commits cs j ∙ at.is) at.second at.first
          (subst (λ (i : ℕ). KeepsSumIn accounts g (array_at G i)) before_is (more was j (omega arith)))

      grown : Upto before → KeepsSumSince accounts g G n0
      grown upto =
          let was : KeepsSumSince accounts g W.history n0 = subst (λ (H : History). KeepsSumSince accounts g H n0) (up_history W S.lost adds.up) upto in
          λ k from to.
          elim (cases_lt (last W.history) k) [
            | inl past ↦
                let j : ℕ = k - last W.history in
                let same : last W.history + j ≡ k = omega arith in
                subst (λ (i : ℕ). KeepsSumIn accounts g (array_at G i)) same (more (was (last W.history) least (omega arith)) j (omega arith))
            | inr low ↦ subst (KeepsSumIn accounts g) (sym (longer k low)) (was k from low)
          ]

    after_is : whole (state_at A (before ++ e ∷ [])) ≡ whole (after S e)
    after_is = ap whole (after_snoc (opened A) before e)

    step : Upto before → Upto (before ++ e ∷ [])
    step upto =
        subst (λ (V : World). KeepsSumSince accounts g V.history n0) (sym after_is) (elim (goes S e (sound_at A before sound here.0) here.1.0) [
          | inl same ↦ subst (λ (H : History). KeepsSumSince accounts g H n0) (sym same) upto
          | inr adds ↦ subst (λ (H : History). KeepsSumSince accounts g H n0) (sym adds.history) (grown adds upto)
        ])

  walk : (before later : List Entry) → es ≡ before ++ later → Upto before → Upto es
  walk before [] are upto = subst Upto (sym (are ∙ append-nil before)) upto
  walk before (e ∷ later) are upto = walk (before ++ e ∷ []) later (are ∙ sym (append_assoc before (e ∷ []) later)) (step before later e are upto)

  pub sum_kept : KeepsSumAt accounts A es
  sum_kept = walk [] es refl upto_first
