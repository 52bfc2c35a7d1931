-- Lines that are answered one after the other.
use Rattle.script_runner.proofs.{Words.{arith, ◌≡◌, ◌⊎◌, ℕ, Bool, false, IsTrue, List, [], ◌∷◌, ◌++◌, ap, refl, sym, subst, ◌∙◌, inl, inr, append_assoc, append-nil, IsSome, AllByRecursion, append_known, Rose, DiskState, IsLawful, LeavesOnly, started, weakened, at_end, SinkState, Broke, CountsStand, Wrote, append_known-nil, Line, last, Shows, replies, after, step, reply_line, World, AreLines, IsOp, IsWorld, LeadsTo, after_leads, step_leads, RunEnd, ShowsEither, ShowsBetween, ShowsLast, DiskCount, SinkCounts, Ran, IfTold, IsPlain, StandsSo, PutReplies, PutRepliesBy, Replied, Answered, IfUp, IsBehind, AllShow, MadeNothing, leads_on, Disk, Output, Memory}, Acknowledged.all_kept, Replying.{IsQuiet, put_halted, put_held, put_more, put_none, put_quiet, quiet_replies, replied_on, wrote_on}, Histories.{between_since, runs_joined, shows_last, step_between}}

pub after-append : (W : World) (xs ys : List (ℕ × Line)) → after W (xs ++ ys) ≡ after (after W xs) ys
after-append W [] ys = refl
after-append W (x ∷ xs) ys = after-append (step W x.1.client x.1.op).1 xs ys

pub replies-append : (W : World) (xs ys : List (ℕ × Line)) → replies W (xs ++ ys) ≡ replies W xs ++ replies (after W xs) ys
replies-append W [] ys = refl
replies-append W (x ∷ xs) ys =
    ap (λ text. reply_line x.1.client (step W x.1.client x.1.op).0 ++ text) (replies-append (step W x.1.client x.1.op).1 xs ys)
    ∙ sym (append_assoc (reply_line x.1.client (step W x.1.client x.1.op).0) _ _)

pub counts_stand : (k : SinkState) → CountsStand k k
counts_stand k = record { faults = refl; refusals = refl }

-- a sink that stays as whole as it was, and was whole, is not broken
broke_not : {before now : Bool} → now ≡ before → before ≡ false → IsTrue now → ⊥
broke_not same whole broken = cc

counts_on : (k mid l : SinkState) → CountsStand k mid → CountsStand mid l → CountsStand k l
counts_on k mid l first second = record { faults = second.faults ∙ first.faults; refusals = second.refusals ∙ first.refusals }

-- what holds of all lines holds of the first and of the others
pub all_append : (P : ℕ × Line → Type 0) (xs ys : List (ℕ × Line)) → AllByRecursion P xs → AllByRecursion P ys → AllByRecursion P (xs ++ ys)
all_append P [] ys first second = second
all_append P (x ∷ xs) ys first second = (first.0, all_append P xs ys first.1 second)

pub all_first : (P : ℕ × Line → Type 0) (xs ys : List (ℕ × Line)) → AllByRecursion P (xs ++ ys) → AllByRecursion P xs
all_first P [] ys all = tt
all_first P (x ∷ xs) ys all = (all.0, all_first P xs ys all.1)

all_others : (P : ℕ × Line → Type 0) (xs ys : List (ℕ × Line)) → AllByRecursion P (xs ++ ys) → AllByRecursion P ys
all_others P [] ys all = all
all_others P (x ∷ xs) ys all = all_others P xs ys all.1

-- the world after lines, and then after more of them
behind_on : (d mid : DiskState) (W V U : World) (xs ys : List (ℕ × Line)) → IfTold d (IsSome mid.contents) → IsBehind d W xs V → IsBehind mid V ys U → IsBehind d W (xs ++ ys) U
behind_on d mid W V U xs ys tells first second = grind (arith, after-append, all_others, all_first, leads_on)

-- after no line
behind_none : (d : DiskState) (W : World) → IsWorld W → IsBehind d W [] W
behind_none d W is = record { known = λ how. refl; leads = after_leads W [] is tt }

-- after one line that the machine has run
pub behind_one : {stands : World → Type 0} {d : DiskState} (W : World) (x : ℕ × Line) → IsWorld W → IsOp x.1.op
    → (so : StandsSo stands d (IsPlain x.1.op) (step W x.1.client x.1.op).1) → IsWorld so.world → IsBehind d W (x ∷ []) so.world
behind_one W x is good so sound = grind (arith, step_leads)

-- after one line that it may have run
pub behind_step : {d : DiskState} (W : World) (x : ℕ × Line) → IsWorld W → IsOp x.1.op → IsBehind d W (x ∷ []) (step W x.1.client x.1.op).1
behind_step W x is good = record { known = λ how. refl; leads = step_leads W x.1.client x.1.op is good }

module _ {stands : World → Type 0} {d : DiskState} {k : SinkState} (W : World) where
  -- before the first line
  pub ran_none : IsLawful d → IsWorld W → stands W → ((c : List ℕ) → d.now c → Shows c W.geometry W.history (last W.history))
      → Ran stands d d k k W []
  ran_none laws is stood shown = record {
    sound = is;
    good = tt;
    replies = λ told. sym (append_known-nil _);
    told = λ told. told;
    reached = W;
    reached_is = behind_none d W is;
    on_any_disk = put_none k W;
    moments = started laws (λ c here. shows_last W c (shown c here));
    exit = λ c here. shows_last W c (shown c here);
    world = stood;
    disk = refl;
    output = counts_stand k;
    whole = refl;
  }

-- an image shows a history, whatever its world is
between_same : (W U V : World) → V.history ≡ U.history → V.geometry ≡ U.geometry → (c : List ℕ) → ShowsBetween W U c → ShowsBetween W V c
between_same W U V history geometry c shown = grind arith

-- the moments of one line
line_moments : {d e : DiskState} (W : World) (x : ℕ × Line) → IsWorld W → IsOp x.1.op → (V : World) → V.history ≡ (step W x.1.client x.1.op).1.history
    → V.geometry ≡ (step W x.1.client x.1.op).1.geometry → LeavesOnly d e (ShowsEither W (step W x.1.client x.1.op).1) → LeavesOnly d e (ShowsBetween W V)
line_moments W x is good V history geometry moments =
    let U = (step W x.1.client x.1.op).1 in
    weakened moments (λ c shown. between_same W U V history geometry c (step_between W U is (step_leads W x.1.client x.1.op is good) c shown))

module _ {stands : World → Type 0} {d e : DiskState} {k l : SinkState} (W : World) (x : ℕ × Line) (is : IsWorld W) (good : IsOp x.1.op)
    (moments : LeavesOnly d e (ShowsEither W (step W x.1.client x.1.op).1)) where
  -- one line was run, and the sink took its whole reply
  pub ran_one : (so : StandsSo stands d (IsPlain x.1.op) (step W x.1.client x.1.op).1) → IsWorld so.world
      → ((c : List ℕ) → e.now c → Shows c so.world.geometry so.world.history (last so.world.history))
      → IfTold d (Wrote k l (replies W (x ∷ []))) → PutReplies k l W (x ∷ []) so.world → IfTold d (IsSome e.contents) → e.faults ≡ d.faults → CountsStand k l
      → l.is_broken ≡ k.is_broken → Ran stands d e k l W (x ∷ [])
  ran_one so sound shown text put tells faults counts whole = record {
    sound = is;
    good = (good, tt);
    replies = text;
    told = tells;
    reached = so.world;
    reached_is = behind_one W x is good so sound;
    on_any_disk = put;
    moments = line_moments W x is good so.world so.history so.geometry moments;
    exit = λ c here. shows_last so.world c (shown c here);
    world = so.is;
    disk = faults;
    output = counts;
    whole = whole;
  }

  -- one line may have been run, and halts
  halted_at : (end : RunEnd) (V : World) → (end ≡ Memory → MadeNothing d e W W ⊎ AllShow e V) → V.history ≡ (step W x.1.client x.1.op).1.history → V.geometry ≡ (step W x.1.client x.1.op).1.geometry → IsBehind d W (x ∷ []) V
      → IsLawful e → IfTold d (Replied end k l [] (replies W (x ∷ []))) → PutRepliesBy end k l W [] (x ∷ []) W V → IfUp end (stands V)
      → DiskCount end d.faults e.faults → SinkCounts end k l → l.is_broken ≡ k.is_broken → Answered stands d e k l W end [] (x ∷ [])
  halted_at end V made history geometry behind laws text put up faults counts whole =
      let shown : LeavesOnly d e (ShowsBetween W V) = line_moments W x is good V history geometry moments in
      record {
        good = (good, tt);
        replies = text;
        order = after_leads W [] is tt;
        order_next = step_leads W x.1.client x.1.op is good;
        acknowledged = λ n told. absurd told;
        reached = W;
        final = V;
        reached_is = behind_none d W is;
        final_is = behind;
        final_on = behind.leads;
        whole_is = λ none. absurd (cc none);
        on_any_disk = put;
        exit = at_end laws shown;
        moments = shown;
        world = up;
        unmade = made;
        disk = faults;
        output = counts;
        at_once = λ before now. absurd (broke_not whole before now);
      }

  -- the step failed
  pub halted_step : (end : RunEnd) → (end ≡ Memory → LeavesOnly d e (ShowsLast W)) → IsLawful e → IfTold d (Replied end k l [] (replies W (x ∷ [])))
      → PutRepliesBy end k l W [] (x ∷ []) W (step W x.1.client x.1.op).1 → IfUp end (stands (step W x.1.client x.1.op).1)
      → DiskCount end d.faults e.faults → SinkCounts end k l → l.is_broken ≡ k.is_broken → Answered stands d e k l W end [] (x ∷ [])
  halted_step end made laws text put up faults counts whole =
      halted_at end (step W x.1.client x.1.op).1 (λ memory. let shown : LeavesOnly d e (ShowsBetween W W) = weakened (made memory) (shows_last W) in inl (record { exit = at_end laws shown; moments = shown }))
      refl refl (behind_step W x is good) laws text put up faults counts whole

  -- the step was done
  pub halted_one : (end : RunEnd) → (so : StandsSo stands d (IsPlain x.1.op) (step W x.1.client x.1.op).1) → IsWorld so.world
      → ((c : List ℕ) → e.now c → Shows c so.world.geometry so.world.history (last so.world.history)) → IsLawful e → IfTold d (Replied end k l [] (replies W (x ∷ []))) → PutRepliesBy end k l W [] (x ∷ []) W so.world → IfUp end (stands so.world)
      → DiskCount end d.faults e.faults → SinkCounts end k l → l.is_broken ≡ k.is_broken → Answered stands d e k l W end [] (x ∷ [])
  halted_one end so sound shown laws text put up faults counts whole = halted_at end so.world (λ memory. inr (λ c here. shows_last so.world c (shown c here))) so.history so.geometry (behind_one W x is good so sound) laws text put up faults counts whole

-- counts, after a run in which they stand
disk_on : (end : RunEnd) (before mid now : ℕ) → mid ≡ before → DiskCount end mid now → DiskCount end before now
disk_on end before mid now same count = subst (λ n. DiskCount end n now) same count

sink_on : (end : RunEnd) (k mid l : SinkState) → CountsStand k mid → SinkCounts end mid l → SinkCounts end k l
sink_on Output k mid l same (inl failed) = inl (subst (λ n. Rose n l.faults) same.faults failed.0, failed.1 ∙ same.refusals)
sink_on Output k mid l same (inr refused) = inr (subst (λ n. Rose n l.refusals) same.refusals refused.0, refused.1 ∙ same.faults)
sink_on x k mid l same counts = counts_on k mid l same counts

quiet_disk : (end : RunEnd) (before now : ℕ) → IsQuiet end → now ≡ before → DiskCount end before now
quiet_disk Disk before now quiet same = absurd quiet
quiet_disk Output before now quiet same = absurd quiet
quiet_disk x before now quiet same = same

quiet_sink : (end : RunEnd) (k l : SinkState) → IsQuiet end → CountsStand k l → SinkCounts end k l
quiet_sink Disk k l quiet same = absurd quiet
quiet_sink Output k l quiet same = absurd quiet
quiet_sink x k l quiet same = same

if_up : (end : RunEnd) (P : Type 0) → P → IfUp end P
if_up Memory P is = tt
if_up Disk P is = tt
if_up x P is = is

-- a run between two others
after_on : (W : World) (xs ys : List (ℕ × Line)) → IsWorld W → AreLines xs → AreLines ys → LeadsTo (after W xs) (after W (xs ++ ys))
after_on W xs ys is good more =
    subst (λ (V : World). LeadsTo (after W xs) V) (sym (after-append W xs ys)) (after_leads (after W xs) ys (after_leads W xs is good).world more)

-- nothing was made after the later lines, and so after all
made_behind : {stands : World → Type 0} {d mid e : DiskState} {k l : SinkState} (W : World) (xs : List (ℕ × Line)) → (first : Ran stands d mid k l W xs)
    → {V F : World} → MadeNothing mid e first.reached V ⊎ AllShow e F → V ≡ first.reached → MadeNothing d e W first.reached ⊎ AllShow e F
made_behind W xs first (inr made) same = inr made
made_behind {mid = mid} {e = e} W xs first (inl made) same =
    let U = first.reached in
    let leads = first.reached_is.leads in
    let nothing : MadeNothing mid e U U = subst (λ (V : World). MadeNothing mid e U V) same made in
    inl (record { exit = nothing.exit; moments = runs_joined W U U leads (after_leads U [] leads.world tt) first.moments nothing.moments })

module _ {stands : World → Type 0} {d mid e : DiskState} {k mid_sink l : SinkState} {before_stands : World → Type 0} (W : World) (xs ys : List (ℕ × Line)) where
  -- more lines
  pub ran_more : (first : Ran before_stands d mid k mid_sink W xs) → Ran stands mid e mid_sink l first.reached ys → Ran stands d e k l W (xs ++ ys)
  ran_more first second =
      let U = first.reached in
      record {
        sound = first.sound;
        good = all_append (λ line. IsOp line.1.op) xs ys first.good second.good;
        replies = λ told.
            wrote_on k mid_sink l (replies W xs) (replies (after W xs) ys) (first.replies told)
            (subst (λ (V : World). Wrote mid_sink l (replies V ys)) (first.reached_is.known (inl told)) (second.replies (first.told told)))
            ∙ ap (append_known k.written) (sym (replies-append W xs ys));
        told = λ told. second.told (first.told told);
        reached = second.reached;
        reached_is = behind_on d mid W U second.reached xs ys first.told first.reached_is second.reached_is;
        on_any_disk = put_more k mid_sink l W U second.reached xs ys first.on_any_disk second.on_any_disk;
        moments = runs_joined W U second.reached first.reached_is.leads second.reached_is.leads first.moments second.moments;
        exit = second.exit;
        world = second.world;
        disk = second.disk ∙ first.disk;
        output = counts_on k mid_sink l first.output second.output;
        whole = second.whole ∙ first.whole;
      }

  -- more lines, after which one halts
  pub halted_more : (end : RunEnd) → (first : Ran before_stands d mid k mid_sink W xs) → (ys ≡ [] → ⊥) → Answered stands mid e mid_sink l first.reached end [] ys
      → Answered stands d e k l W end xs ys
  halted_more end first some second =
      let U = first.reached in
      record {
        good = all_append (λ line. IsOp line.1.op) xs ys first.good second.good;
        replies = λ told. replied_on end k mid_sink l (replies W xs) (replies (after W xs) ys) (first.replies told)
            (subst (λ (V : World). Replied end mid_sink l [] (replies V ys)) (first.reached_is.known (inl told)) (second.replies (first.told told)));
        order = after_leads W xs first.sound first.good;
        order_next = after_on W xs ys first.sound first.good second.good;
        acknowledged = all_kept W xs first.sound first.good;
        reached = U;
        final = second.final;
        reached_is = first.reached_is;
        final_is = behind_on d mid W U second.final xs ys first.told first.reached_is second.final_is;
        final_on = second.final_is.leads;
        whole_is = λ none. absurd (some none);
        on_any_disk = put_halted end k mid_sink l W U second.reached second.final xs ys first.on_any_disk second.on_any_disk;
        exit = λ c here. between_since U second.reached second.final second.reached_is.leads c (second.exit c here);
        moments = runs_joined W U second.final first.reached_is.leads second.final_is.leads first.moments second.moments;
        world = second.world;
        unmade = λ memory. made_behind W xs first (second.unmade memory) (second.reached_is.known (inr tt));
        disk = disk_on end d.faults mid.faults e.faults first.disk second.disk;
        output = sink_on end k mid_sink l first.output second.output;
        at_once = λ before now. second.at_once (first.whole ∙ before) now;
      }

-- the run ends between two lines
ended_by : {stands : World → Type 0} {d e : DiskState} {k mid l : SinkState} (W : World) (xs : List (ℕ × Line)) (end : RunEnd) → (ran : Ran stands d e k mid W xs)
    → IfTold d (Replied end k l (replies W xs) []) → PutRepliesBy end k l W xs [] ran.reached ran.reached → DiskCount end d.faults e.faults → SinkCounts end k l
    → Answered stands d e k l W end xs []
ended_by {stands = stands} {d = d} W xs end ran text put faults counts =
    let all : xs ≡ xs ++ [] = sym (append-nil xs) in
    record {
      good = subst (λ (ys : List (ℕ × Line)). AreLines ys) all ran.good;
      replies = text;
      order = after_leads W xs ran.sound ran.good;
      order_next = after_on W xs [] ran.sound ran.good tt;
      acknowledged = all_kept W xs ran.sound ran.good;
      reached = ran.reached;
      final = ran.reached;
      reached_is = ran.reached_is;
      final_is = subst (λ (ys : List (ℕ × Line)). IsBehind d W ys ran.reached) all ran.reached_is;
      final_on = after_leads ran.reached [] ran.reached_is.leads.world tt;
      whole_is = λ none. refl;
      on_any_disk = put;
      exit = ran.exit;
      moments = ran.moments;
      world = if_up end (stands ran.reached) ran.world;
      unmade = λ memory. inl (record { exit = ran.exit; moments = ran.moments });
      disk = faults;
      output = counts;
      at_once = λ before now. refl;
    }

-- with no fault
pub ended_here : {stands : World → Type 0} {d e : DiskState} {k l : SinkState} (W : World) (xs : List (ℕ × Line)) (end : RunEnd) → IsQuiet end → Ran stands d e k l W xs
    → Answered stands d e k l W end xs []
ended_here {d = d} {e = e} {k = k} {l = l} W xs end quiet ran =
    ended_by W xs end ran (λ told. quiet_replies end k l (replies W xs) [] quiet (ran.replies told)) (put_quiet end k l W ran.reached xs quiet ran.on_any_disk)
    (quiet_disk end d.faults e.faults quiet ran.disk) (quiet_sink end k l quiet ran.output)

-- the sink could not hand on what it held back
pub held_here : {stands : World → Type 0} {d e : DiskState} {k mid l : SinkState} (W : World) (xs : List (ℕ × Line)) → Ran stands d e k mid W xs → Broke mid l
    → Rose mid.faults l.faults → Answered stands d e k l W Output xs []
held_here {k = k} {mid = mid} {l = l} W xs ran broke rose =
    ended_by W xs Output ran (λ told. inr (refl, broke.written ∙ ran.replies told)) (put_held k mid l W ran.reached xs ran.on_any_disk broke.written)
    ran.disk (inl (subst (λ n. Rose n l.faults) ran.output.faults rose, broke.refusals ∙ ran.output.refusals))
