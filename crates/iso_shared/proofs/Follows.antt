-- What stays along a list: the history grows, and a transaction keeps its begin and its mode for as long as it is live.
use Rattle.iso_shared.proofs.{Words.{◌≡◌, ℕ, ◌+◌, ◌-◌, ◌<◌, ◌≤◌, ◌==◌, Bool, true, false, cond, List, [], ◌∷◌, ◌++◌, Option, Some, None, length, length-append, take, refl, sym, ap, ◌∙◌, subst, arith, nat_tests, take-append-le, Checked, up_to, Access, Commit, EndReply, Committed, ReadOnly, Conflict, Geometry, Mode, clash, clash_from, first_after, has_write, History, last, World, Live, without, Extends, extends_itself, extends_on, Doing, after_leaving, ahead, leave_all, Call, Cause, Entry, Member, IsAhead, IsOwn, Start, State, is_live, live_of, after, after_all, after_fault, after_group, after_refusal, after_sweep, lost_commit, lost_commits, members_of, opened, state_at, txs_of, with_world, IsPrefix}, Grouped.{after_is, behind_it}, Trace.{after_append, live_snoc, live_without, of_snoc, of_without}}
use Rattle.std.proofs.Common.{drop}
use Rattle.iso_shared.specs.declared.entry.Call.TheVariants as call
use Rattle.iso_shared.specs.declared.entry.Cause.TheVariants as cause
use Rattle.iso_shared.specs.declared.entry.Entry.TheVariants as entry

-- what leads from a state to a later one
pub record Follows (S T : State) : Type 0 where
  pub next : S.world.next ≤ T.world.next
  pub block : T.world.geometry.block ≡ S.world.geometry.block
  pub blocks : T.world.geometry.blocks ≡ S.world.geometry.blocks
  pub mode : T.world.geometry.mode ≡ S.world.geometry.mode
  pub history : Extends S.world.history T.world.history
  pub live : (n : ℕ) → n < S.world.next → is_live n T.world.live ≡ true → (is_live n S.world.live ≡ true) × (live_of n T.world.live ≡ live_of n S.world.live)

pub follows_itself : (S : State) → Follows S S
follows_itself S = record { next = omega arith; block = refl; blocks = refl; mode = refl; history = extends_itself S.world.history; live = λ n below is. (is, refl) }

pub follows_on : (S T U : State) → Follows S T → Follows T U → Follows S U
follows_on S T U f g = grind (arith, extends_on)

-- a state with the same world
same_world : (S T : State) → T.world ≡ S.world → Follows S T
same_world S T same = subst (λ (W : World). Follows S (record T { world = W })) (sym same) (follows_itself' S T)
  where
    follows_itself' : (S T : State) → Follows S (record T { world = S.world })
    follows_itself' S T = record { next = omega arith; block = refl; blocks = refl; mode = refl; history = extends_itself S.world.history; live = λ n below is. (is, refl) }

left_by : (n k : ℕ) (live : List Live) (b : Bool) → (k == n) ≡ b → cond b false (is_live n live) ≡ true → (is_live n live ≡ true) × (live_of n (without k live) ≡ live_of n live)
left_by n k live true is l = absurd (cc l)
left_by n k live false is l = (l, of_without k n live is)

left_live : (n k : ℕ) (live : List Live) → is_live n (without k live) ≡ true → (is_live n live ≡ true) × (live_of n (without k live) ≡ live_of n live)
left_live n k live l = left_by n k live (k == n) refl (sym (live_without k n live) ∙ l)

pub follows_left : (S T : State) (k : ℕ) → T.world.live ≡ without k S.world.live → T.world.next ≡ S.world.next → T.world.geometry ≡ S.world.geometry → Extends S.world.history T.world.history → Follows S T
follows_left S T k left next geometry history = record {
  next = omega (arith, next);
  block = ap (λ g. g.block) geometry;
  blocks = ap (λ g. g.blocks) geometry;
  mode = ap (λ g. g.mode) geometry;
  history = history;
  live = λ n below is.
      let r = left_live n k S.world.live (sym (ap (is_live n) left) ∙ is) in
      (r.0, ap (live_of n) left ∙ r.1);
}

pub one_more_commit : (H : History) (c : Commit) → Extends H (record H { commits = H.commits ++ c ∷ [] })
one_more_commit H c = record { first = refl; base = refl; more = c ∷ []; commits = refl }

follows_end : (S : State) (k : ℕ) (accesses : List Access) (r : EndReply) → Follows S (after S (entry.End k accesses r))
follows_end S k accesses (Committed c) = follows_left S (after S (entry.End k accesses (Committed c))) k refl refl refl (one_more_commit S.world.history (lost_commit S.world k accesses))
follows_end S k accesses ReadOnly = follows_left S (after S (entry.End k accesses ReadOnly)) k refl refl refl (extends_itself S.world.history)
follows_end S k accesses (Conflict c) = follows_left S (after S (entry.End k accesses (Conflict c))) k refl refl refl (extends_itself S.world.history)

-- several leave
follows_all_left : (T : State) (txs : List Live) → Follows T (with_world T (leave_all txs T.world))
follows_all_left T [] = follows_itself T
follows_all_left T (t ∷ txs) =
    let U : State = with_world T (after_leaving T.world t) in
    follows_on T U (with_world U (leave_all txs U.world)) (follows_left T U t.number refl refl refl (extends_itself T.world.history)) (follows_all_left U txs)

follows_group : (S : State) (members : List Member) → Follows S (with_world S (after_group S.world members))
follows_group S members =
    let more : List Commit = lost_commits S.world members in
    let U : State = with_world S (ahead S.world more) in
    let txs : List Live = txs_of S.world members in
    let grown : Follows S U = record { next = omega arith; block = refl; blocks = refl; mode = refl; history = behind_it S.world.history more; live = λ n below is. (is, refl) } in
    subst (λ (W : World). Follows S (with_world S W)) (sym (after_is S.world members))
    (follows_on S U (with_world U (leave_all txs U.world)) grown (follows_all_left U txs))

follows_fault : (S : State) (c : Call) (now : ℕ) → Follows S (after_fault S c now)
follows_fault S (call.End n accesses) now = follows_left S (after_fault S (call.End n accesses) now) n refl refl refl (extends_itself S.world.history)
follows_fault S (call.EndGroup members) now = grind (arith, follows_on, follows_all_left, same_world)
follows_fault S c now = same_world S _ refl

follows_refusal : (S : State) (c : Call) (why : Cause) → Follows S (after_refusal S c why)
follows_refusal S c cause.Down = follows_itself S
follows_refusal S c (cause.Disk before now) = follows_fault S c now
follows_refusal S c why = same_world S _ refl

begun_by : (n : ℕ) (t : Live) (live : List Live) → (t.number == n) ≡ false → is_live n (live ++ t ∷ []) ≡ true → is_live n live ≡ true
begun_by n t live other is = sym (ap (λ b. cond b true (is_live n live)) other) ∙ sym (live_snoc n live t) ∙ is

follows_begin : (S : State) (t : Live) (T : State) → T.world.live ≡ S.world.live ++ t ∷ [] → t.number ≡ S.world.next → T.world.next ≡ S.world.next + 1 → T.world.geometry ≡ S.world.geometry
    → T.world.history ≡ S.world.history → Follows S T
follows_begin S t T live number next geometry history = record {
  next = omega (arith, next);
  block = ap (λ g. g.block) geometry;
  blocks = ap (λ g. g.blocks) geometry;
  mode = ap (λ g. g.mode) geometry;
  history = subst (Extends S.world.history) (sym history) (extends_itself S.world.history);
  live = λ n below is.
      let m : ℕ = t.number in
      let same : m ≡ S.world.next = number in
      let other : (m == n) ≡ false = not_same m n (omega (arith, below)) in
      let was = begun_by n t S.world.live other (sym (ap (is_live n) live) ∙ is) in
      (was, ap (live_of n) live ∙ of_snoc n S.world.live t was);
}
  where
    not_same : (k n : ℕ) → n < k → (k == n) ≡ false
    not_same k n lt = grind (arith, nat_tests)

follows_sweep : (S : State) (found : Option ℕ) → Follows S (after_sweep S found)
follows_sweep S None = follows_itself S
follows_sweep S (Some k) = follows_left S (after_sweep S (Some k)) k refl refl refl (extends_itself S.world.history)

pub follows_next : (S : State) (e : Entry) → Follows S (after S e)
follows_next S (entry.Begin k at mode) = follows_begin S _ (after S (entry.Begin k at mode)) refl refl refl refl refl
follows_next S (entry.End k accesses r) = follows_end S k accesses r
follows_next S (entry.EndGroup ends) = follows_group S (members_of ends)
follows_next S (entry.Abort k) = follows_left S (after S (entry.Abort k)) k refl refl refl (extends_itself S.world.history)
follows_next S (entry.Trim k) = record { next = omega arith; block = refl; blocks = refl; mode = refl; history = extends_itself S.world.history; live = λ n below is. (is, refl) }
follows_next S (entry.Compact k) = record { next = omega arith; block = refl; blocks = refl; mode = refl; history = extends_itself S.world.history; live = λ n below is. (is, refl) }
follows_next S (entry.Upgrade k) = record { next = omega arith; block = refl; blocks = refl; mode = refl; history = extends_itself S.world.history; live = λ n below is. (is, refl) }
follows_next S (entry.Post k l accesses) = same_world S _ refl
follows_next S (entry.Look l found) = same_world S _ refl
follows_next S (entry.Sweep found) = follows_sweep S found
follows_next S (entry.Refused c why) = follows_refusal S c why
follows_next S e = follows_itself S

pub follows_all : (S : State) (es : List Entry) → Follows S (after_all S es)
follows_all S [] = follows_itself S
follows_all S (e ∷ es) = follows_on S (after S e) (after_all (after S e) es) (follows_next S e) (follows_all (after S e) es)

-- a list that begins with another one leads on from its state
pub follows_prefix : (A : Start) (xs ys : List Entry) → IsPrefix xs ys → Follows (state_at A xs) (state_at A ys)
follows_prefix A xs ys p = grind (arith, after_append, follows_all)

pub histories_grow : (A : Start) (front later : List Entry) → Extends (state_at A front).world.history (state_at A (front ++ later)).world.history
histories_grow A front later = subst (λ (T : State). Extends (state_at A front).world.history T.world.history) (sym (after_append (opened A) front later)) (follows_all (state_at A front) later).history

pub own_kept : (S T : State) (tx : ℕ) (work : Doing) → Follows S T → IsOwn S tx work → IsOwn T tx work
own_kept S T tx work f own = grind arith

clash_from_same : (g f : Geometry) (mode : Mode) (accesses : List Access) (k : ℕ) (commits : List Commit) → f.block ≡ g.block → f.blocks ≡ g.blocks
    → clash_from g mode accesses k commits ≡ clash_from f mode accesses k commits
clash_from_same g f mode accesses k [] block blocks = refl
clash_from_same g f mode accesses k (c ∷ commits) block blocks = grind arith

-- a clash hangs on the size and the number of blocks alone
pub clash_same : (g f : Geometry) (H : History) (mode : Mode) (begin : ℕ) (accesses : List Access) → f.block ≡ g.block → f.blocks ≡ g.blocks
    → clash g H mode begin accesses ≡ clash f H mode begin accesses
unfolding clash
clash_same g f H mode begin accesses block blocks = ap (λ v. cond (has_write accesses) v None) (clash_from_same g f mode accesses (first_after H begin) (drop (begin + 1 - H.first) H.commits) block blocks)

-- the commits up to a number that a history has are those of each longer history
pub up_to_same : (H G : History) (n : ℕ) → 0 < H.first → n ≤ last H → Extends H G → up_to G n ≡ up_to H n
up_to_same H G n some within more =
    let b : n + 1 - G.first ≡ n + 1 - H.first = omega (arith, more.first) in
    let c : take (n + 1 - H.first) (H.commits ++ more.more) ≡ take (n + 1 - H.first) H.commits = take-append-le (n + 1 - H.first) H.commits more.more (omega arith) in
    λ i. record { first = more.first i; base = more.base i; commits = (ap (λ (k : ℕ). take k G.commits) b ∙ ap (take (n + 1 - H.first)) more.commits ∙ c) i }

pub last_longer : (H G : History) → 0 < H.first → Extends H G → last H ≤ last G
last_longer H G some more = omega (arith, more.first, ap length more.commits ∙ length-append H.commits more.more)

pub ahead_kept : (S T : State) (work : Doing) (checked : Checked) → Follows S T → IsAhead S work checked → IsAhead T work checked
ahead_kept S T work checked f is = grind (arith, last_longer, clash_same, up_to_same)
