-- What the answers to an end tell: the number of the commit, or that there was no write.
use Rattle.store_scripts.proofs.EntryWords.{◌≡◌, ℕ, ◌+◌, ◌-◌, ◌==◌, Bool, true, false, cond, Option, Some, None, nat_lt, refl, sym, ap, Clash, CoreReply, LAST, clash, has_write, last, member_reply, after_commit, after_leaving, commit_step, end_step, need, Live, World, used}
use Rattle.iso_model.specs.declared.access.GroupReply.TheVariants as member
use Rattle.iso_model.specs.declared.core_reply.CoreReply.TheVariants as core

module _ (V : World) (t : Live) where
  commit_is_next : (o : Option Clash) (k : ℕ) → (commit_step V t o).0 ≡ core.Committed k → k ≡ last V.history + 1
  unfolding commit_step
  commit_is_next (Some d) k done = cc
  commit_is_next None k done = go (last V.history == LAST) (nat_lt (V.geometry.log - used V) (need V t)) done
    where
      go : (a b : Bool)
          → (cond {A = CoreReply × World} a (core.Worn, V) (cond b (core.LogFull (need V t) (V.geometry.log - used V), V) (core.Committed (last V.history + 1), after_commit V t))).0 ≡ core.Committed k
          → k ≡ last V.history + 1
      go true b done = cc
      go false true done = cc
      go false false done = sym (let e : last V.history + 1 ≡ k = cc in e)

  -- an end that commits makes the next commit
  pub end_is_next : (k : ℕ) → (end_step V t).0 ≡ core.Committed k → k ≡ last V.history + 1
  unfolding end_step
  end_is_next k done = go (has_write t.accesses) done
    where
      go : (b : Bool) → (cond {A = CoreReply × World} b (commit_step V t (clash V.geometry V.history t.mode t.begin t.accesses)) (core.ReadOnly, after_leaving V t)).0 ≡ core.Committed k → k ≡ last V.history + 1
      go true done = commit_is_next (clash V.geometry V.history t.mode t.begin t.accesses) k done
      go false done = cc

  commit_writes : (o : Option Clash) → (commit_step V t o).0 ≡ core.ReadOnly → ⊥
  unfolding commit_step
  commit_writes (Some d) done = cc
  commit_writes None done = go (last V.history == LAST) (nat_lt (V.geometry.log - used V) (need V t)) done
    where
      go : (a b : Bool)
          → (cond {A = CoreReply × World} a (core.Worn, V) (cond b (core.LogFull (need V t) (V.geometry.log - used V), V) (core.Committed (last V.history + 1), after_commit V t))).0 ≡ core.ReadOnly → ⊥
      go true b done = cc
      go false true done = cc
      go false false done = cc

  -- an end that is read-only has no write
  pub end_writes_not : (end_step V t).0 ≡ core.ReadOnly → has_write t.accesses ≡ false
  unfolding end_step
  end_writes_not done = go (has_write t.accesses) done
    where
      go : (b : Bool) → (cond {A = CoreReply × World} b (commit_step V t (clash V.geometry V.history t.mode t.begin t.accesses)) (core.ReadOnly, after_leaving V t)).0 ≡ core.ReadOnly → b ≡ false
      go true done = absurd (commit_writes (clash V.geometry V.history t.mode t.begin t.accesses) done)
      go false done = refl

  member_writes : (o : Option Clash) → member_reply (commit_step V t o).0 ≡ member.ReadOnly → ⊥
  unfolding commit_step
  member_writes (Some d) done = cc
  member_writes None done = go (last V.history == LAST) (nat_lt (V.geometry.log - used V) (need V t)) done
    where
      go : (a b : Bool)
          → member_reply (cond {A = CoreReply × World} a (core.Worn, V) (cond b (core.LogFull (need V t) (V.geometry.log - used V), V) (core.Committed (last V.history + 1), after_commit V t))).0 ≡ member.ReadOnly → ⊥
      go true b done = cc
      go false true done = cc
      go false false done = cc

  -- nor has a member of a group that is read-only
  pub member_writes_not : member_reply (end_step V t).0 ≡ member.ReadOnly → has_write t.accesses ≡ false
  unfolding end_step
  member_writes_not done = go (has_write t.accesses) done
    where
      go : (b : Bool) → member_reply (cond {A = CoreReply × World} b (commit_step V t (clash V.geometry V.history t.mode t.begin t.accesses)) (core.ReadOnly, after_leaving V t)).0 ≡ member.ReadOnly → b ≡ false
      go true done = absurd (member_writes (clash V.geometry V.history t.mode t.begin t.accesses) done)
      go false done = refl

-- a member that is told of a commit has made it
pub committed_is : (answer : CoreReply) (k : ℕ) → member_reply answer ≡ member.Committed k → answer ≡ core.Committed k
committed_is (core.Committed m) k is = let same : m ≡ k = cc is in ap (λ (v : ℕ). core.Committed v) same
committed_is answer k is = absurd (cc is)
