-- What a group makes of a world: its commits stand after the others, and its members leave.
use Rattle.iso_shared.proofs.Words.{arith, ◌≡◌, ◌∙◌, sym, refl, subst, List, [], ◌∷◌, ◌++◌, append_assoc, Commit, Live, World, Extends, ahead, decided, leave_all, made_by, member_reply, with_commits, History, end_step, with_live, group_is, leave_all_is, nothing_ahead, Member, after_group, commits_made, lost_commits, txs_of}

pub behind_it : (H : History) (more : List Commit) → Extends H (with_commits more H)
behind_it H more = record { first = refl; base = refl; more = more; commits = refl }

ahead_more : (W : World) (first more : List Commit) → ahead (ahead W first) more ≡ ahead W (first ++ more)
ahead_more W first more = let e = append_assoc W.history.commits first more in λ i. record W { history = record W.history { commits = e i } }

-- members that are decided add the commits that their replies tell of
pub decided_so : (W : World) (txs : List Live) → (decided W txs).1 ≡ ahead W (commits_made txs (decided W txs).0)
decided_so W [] = nothing_ahead W
decided_so W (t ∷ txs) =
    let made : List Commit = made_by t (member_reply (end_step W t).0) in
    decided_so (ahead W made) txs ∙ ahead_more W made (commits_made txs (decided (ahead W made) txs).0)

pub decided_extends : (W : World) (txs : List Live) → Extends W.history (decided W txs).1.history
decided_extends W txs = subst (λ (V : World). Extends W.history V.history) (sym (decided_so W txs)) (behind_it W.history (commits_made txs (decided W txs).0))

-- the world after a group
pub after_is : (W : World) (members : List Member) → after_group W members ≡ leave_all (txs_of W members) (ahead W (lost_commits W members))
after_is W members = grind (arith, group_is, decided_so)

pub after_history : (W : World) (members : List Member) → (after_group W members).history ≡ (decided W (txs_of W members)).1.history
after_history W members = grind (arith, group_is, leave_all_is)

-- the same, told by who is live then
pub after_live : (W : World) (members : List Member) → after_group W members ≡ with_live (ahead W (lost_commits W members)) (leave_all (txs_of W members) (ahead W (lost_commits W members))).live
after_live W members = after_is W members ∙ leave_all_is (txs_of W members) (ahead W (lost_commits W members))
