-- Where the members of a group stand in the history.
use Rattle.store_scripts.proofs.{EntryWords.{◌≡◌, sym, refl, subst, append-nil, ℕ, ◌+◌, false, List, [], ◌∷◌, ◌++◌, Access, Commit, GroupReply, History, last, appended, has_write, with_commits, Live, World, Extends, extends_on, ahead, behind_it, decided, decided_extends, end_step, made_by, member_reply, MemberEnd, members_of, replies_of, tx_of, txs_of, commit_at, commits_as, ends_bare}, Numbers.{committed_is, end_is_next, member_writes_not}}
use Rattle.iso_model.specs.declared.access.GroupReply.TheVariants as member

-- between two histories there is one after which the commit is the next
pub record IsMade (H G : History) (c : Commit) (k : ℕ) : Type 0 where
  pub at : History
  pub from : Extends H at
  pub number : k ≡ last at + 1
  pub within : Extends (appended at c) G

-- members that are decided so, each with what the world B has of it
abbrev pub decides : (B W : World) → List MemberEnd → List GroupReply × World
decides B W ends = decided W (txs_of B (members_of ends))

pub made_at : (B W : World) (first others : List MemberEnd) (n k : ℕ) (accesses : List Access) → (decides B W (first ++ commits_as n k accesses ∷ others)).0 ≡ replies_of (first ++ commits_as n k accesses ∷ others)
    → IsMade W.history (decides B W (first ++ commits_as n k accesses ∷ others)).1.history (commit_at B n accesses) k
made_at B W [] others n k accesses are =
    let t : Live = tx_of B n accesses in
    let r : GroupReply = member_reply (end_step W t).0 in
    let V : World = ahead W (made_by t r) in
    let reply : r ≡ member.Committed k = cc are in
    record {
      at = W.history;
      from = record { first = refl; base = refl; more = []; commits = sym (append-nil W.history.commits) };
      number = end_is_next W t k (committed_is (end_step W t).0 k reply);
      within = subst (λ (q : GroupReply). Extends (with_commits (made_by t q) W.history) (decides B V others).1.history) reply (decided_extends V (txs_of B (members_of others)));
    }
made_at B W (m ∷ first) others n k accesses are =
    let t : Live = tx_of B m.number m.accesses in
    let made : List Commit = made_by t (member_reply (end_step W t).0) in
    let V : World = ahead W made in
    let rest : (decides B V (first ++ commits_as n k accesses ∷ others)).0 ≡ replies_of (first ++ commits_as n k accesses ∷ others) = cc are in
    let later = made_at B V first others n k accesses rest in
    record { at = later.at; from = extends_on W.history V.history later.at (behind_it W.history made) later.from; number = later.number; within = later.within }

-- a member that ended without a write has none
pub bare_at : (B W : World) (first others : List MemberEnd) (n : ℕ) (accesses : List Access) → (decides B W (first ++ ends_bare n accesses ∷ others)).0 ≡ replies_of (first ++ ends_bare n accesses ∷ others) → has_write accesses ≡ false
bare_at B W [] others n accesses are =
    let t : Live = tx_of B n accesses in
    let reply : member_reply (end_step W t).0 ≡ member.ReadOnly = cc are in
    member_writes_not W t reply
bare_at B W (m ∷ first) others n accesses are =
    let t : Live = tx_of B m.number m.accesses in
    let V : World = ahead W (made_by t (member_reply (end_step W t).0)) in
    let rest : (decides B V (first ++ ends_bare n accesses ∷ others)).0 ≡ replies_of (first ++ ends_bare n accesses ∷ others) = cc are in
    bare_at B V first others n accesses rest
