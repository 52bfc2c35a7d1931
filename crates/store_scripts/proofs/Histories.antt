-- The history of a legal list is one of the image: each commit has accesses that a transaction may have made.
use Rattle.store_scripts.proofs.{ThreadWords.{◌≡◌, ◌∙◌, sym, subst, ℕ, List, [], ◌∷◌, ◌++◌, Some, None, AllByRecursion, Commit, Committed, ReadOnly, Conflict, Geometry, GroupReply, leave_all, History, AreAccesses, IsHistory, Live, World, appended_is, Call, Cause, Entry, Member, Fits, LegalFrom, MayHaveMade, State, after, after_all, after_fault, after_refusal, commits_made, lost_commits, members_of, txs_of, follows_next, after_live, after_leaving}, Sound.same_shape_accesses}
use Rattle.iso_model.specs.declared.access.GroupReply.TheVariants as member
use Rattle.iso_shared.specs.declared.entry.Call.TheVariants as call
use Rattle.iso_shared.specs.declared.entry.Cause.TheVariants as cause
use Rattle.iso_shared.specs.declared.entry.Entry.TheVariants as entry

-- an image of these numbers, which an upgrade leaves
pub record HasNumbers (g : Geometry) (U : State) : Type 0 where
  pub block : g.block ≡ U.world.geometry.block
  pub blocks : g.blocks ≡ U.world.geometry.blocks

numbers_next : (g : Geometry) (U : State) (e : Entry) → HasNumbers g U → HasNumbers g (after U e)
numbers_next g U e has = let f = follows_next U e in record { block = has.block ∙ sym f.block; blocks = has.blocks ∙ sym f.blocks }

-- several commits more
more_is : (g : Geometry) (H : History) (more : List Commit) → IsHistory g H → AllByRecursion (λ c. AreAccesses g c.accesses) more → IsHistory g (record H { commits = H.commits ++ more })
more_is g H more is all = record { first = is.first; base = is.base; commits = joined H.commits is.commits }
  where
    joined : (commits : List Commit) → AllByRecursion (λ c. AreAccesses g c.accesses) commits → AllByRecursion (λ c. AreAccesses g c.accesses) (commits ++ more)
    joined [] old = all
    joined (c ∷ commits) old = (old.0, joined commits old.1)

commits_of : (g : Geometry) (W : World) (members : List Member) (replies : List GroupReply) → AllByRecursion (λ m. AreAccesses g m.accesses) members
    → AllByRecursion (λ c. AreAccesses g c.accesses) (commits_made (txs_of W members) replies)
commits_of g W [] replies all = tt
commits_of g W (m ∷ members) [] all = tt
commits_of g W (m ∷ members) (member.Committed k ∷ replies) all = (all.0, commits_of g W members replies all.1)
commits_of g W (m ∷ members) (member.ReadOnly ∷ replies) all = commits_of g W members replies all.1
commits_of g W (m ∷ members) (member.Conflict c ∷ replies) all = commits_of g W members replies all.1
commits_of g W (m ∷ members) (member.Full need free ∷ replies) all = commits_of g W members replies all.1
commits_of g W (m ∷ members) (member.Worn ∷ replies) all = commits_of g W members replies all.1

may_all : (g : Geometry) (U : State) (members : List Member) → HasNumbers g U → AllByRecursion (λ m. MayHaveMade U.world m.accesses) members → AllByRecursion (λ m. AreAccesses g m.accesses) members
may_all g U [] has all = tt
may_all g U (m ∷ members) has all = (same_shape_accesses U.world.geometry g has.blocks has.block m.accesses all.0.each, may_all g U members has all.1)

fault_is : (g : Geometry) (U : State) (c : Call) (k : ℕ) → IsHistory g U.world.history → IsHistory g (after_fault U c k).world.history
fault_is g U (call.Begin named) k is = is
fault_is g U (call.Fetch n block) k is = is
fault_is g U (call.End n accesses) k is = is
fault_is g U (call.EndGroup members) k is = left (txs_of U.world members) U.world is
  where
    left : (txs : List Live) (W : World) → IsHistory g W.history → IsHistory g (leave_all txs W).history
    left [] W is = is
    left (t ∷ txs) W is = left txs (after_leaving W t) is
fault_is g U call.Trim k is = is
fault_is g U call.Compact k is = is
fault_is g U call.Upgrade k is = is
fault_is g U (call.Post n label accesses) k is = is
fault_is g U (call.Recent n) k is = is

refusal_is : (g : Geometry) (U : State) (c : Call) (why : Cause) → IsHistory g U.world.history → IsHistory g (after_refusal U c why).world.history
refusal_is g U c (cause.Disk before now) is = fault_is g U c now is
refusal_is g U c why is = is

history_next : (g : Geometry) (U : State) (e : Entry) → HasNumbers g U → Fits U e → IsHistory g U.world.history → IsHistory g (after U e).world.history
history_next g U (entry.Begin n at mode) has fits is = is
history_next g U (entry.Fetch n block bytes) has fits is = is
history_next g U (entry.End n accesses (Committed k)) has fits is =
    appended_is g U.world.history _ is (same_shape_accesses U.world.geometry g has.blocks has.block accesses fits.answers.1.each)
history_next g U (entry.End n accesses ReadOnly) has fits is = is
history_next g U (entry.End n accesses (Conflict c)) has fits is = is
history_next g U (entry.EndGroup ends) has fits is =
    subst (λ (V : World). IsHistory g V.history) (sym (after_live U.world (members_of ends)))
    (more_is g U.world.history (lost_commits U.world (members_of ends)) is (commits_of g U.world (members_of ends) _ (may_all g U (members_of ends) has fits.answers.1.each)))
history_next g U (entry.Abort n) has fits is = is
history_next g U (entry.Trim n) has fits is = is
history_next g U (entry.Compact n) has fits is = is
history_next g U (entry.Upgrade n) has fits is = is
history_next g U (entry.Stat numbers) has fits is = is
history_next g U (entry.Post n label accesses) has fits is = is
history_next g U (entry.Look label found) has fits is = is
history_next g U (entry.Sweep None) has fits is = is
history_next g U (entry.Sweep (Some n)) has fits is = is
history_next g U (entry.Recent n upto) has fits is = is
history_next g U (entry.Refused c why) has fits is = refusal_is g U c why is

pub history_all : (g : Geometry) (U : State) (es : List Entry) → HasNumbers g U → LegalFrom U es → IsHistory g U.world.history → IsHistory g (after_all U es).world.history
history_all g U [] has legal is = is
history_all g U (e ∷ es) has legal is = history_all g (after U e) es (numbers_next g U e has) legal.1 (history_next g U e has legal.0 is)
