-- What images show of the history while the list grows.
use Rattle.iso_shared.proofs.{Words.{◌≡◌, ⊎_elim, ℕ, ◌<◌, ◌≤◌, List, [], ◌∷◌, ◌++◌, Option, Some, None, refl, sym, ap, ◌∙◌, subst, arith, Access, Commit, EndReply, Committed, ReadOnly, Conflict, Geometry, History, last, Shows, World, Extends, shows_any_form, shows_longer, extends_itself, extends_on, ShowsBetween, ShowsLast, Core, DiskState, StandsFor, disk_of, shows_world, standing_of, Holds, IsPrefix, ShowsFrom, leave_all_is, Call, Cause, Entry, Member, Answers, IsLegal, LegalFrom, MayRefuse, ShowsSince, whole, with_lost, Start, State, after, after_all, after_end, after_fault, after_group, after_refusal, lost_commit, lost_commits, members_of, opened, state_at, txs_of}, Follows.{follows_prefix, last_longer, one_more_commit}, Grouped.{after_live, behind_it}, Trace.after_snoc}
use Rattle.iso_shared.specs.declared.entry.Call.TheVariants as call
use Rattle.iso_shared.specs.declared.entry.Cause.TheVariants as cause
use Rattle.iso_shared.specs.declared.entry.Entry.TheVariants as entry

-- the geometry stays but for the form, and the history grows
pub record Grows (W V : World) : Type 0 where
  pub geometry : V.geometry ≡ record W.geometry { form = V.geometry.form }
  pub history : Extends W.history V.history

pub grows_itself : (W : World) → Grows W W
grows_itself W = record { geometry = refl; history = extends_itself W.history }

grows_on : (W V U : World) → Grows W V → Grows V U → Grows W U
grows_on W V U first second = record {
  geometry = second.geometry ∙ ap (λ (g : Geometry). let h : Geometry = record g { form = U.geometry.form } in h) first.geometry;
  history = extends_on W.history V.history U.history first.history second.history;
}

shows_grown : (W V : World) (bytes : List ℕ) (p : ℕ) → 0 < W.history.first → Grows W V → Shows bytes W.geometry W.history p → Shows bytes V.geometry V.history p
shows_grown W V bytes p some grows shown =
    subst (λ (g : Geometry). Shows bytes g V.history p) (sym grows.geometry)
    (shows_any_form bytes W.geometry V.geometry.form V.history p (shows_longer bytes W.geometry W.history V.history p some grows.history shown))

-- what shows a history between two commits shows each longer one there
pub between_grown : (W V U : World) (c : List ℕ) → 0 < V.history.first → Grows V U → ShowsBetween W V c → ShowsBetween W U c
between_grown W V U c some grows shown =
    let to : shown.at ≤ last V.history = shown.to in
    let more = last_longer V.history U.history some grows.history in
    record { at = shown.at; from = shown.from; to = omega arith; shows = shows_grown V U c shown.at some grows shown.shows }

last_between : (W V U : World) (c : List ℕ) → 0 < W.history.first → Grows W V → 0 < V.history.first → Grows V U → ShowsLast V c → ShowsBetween W U c
last_between W V U c first begins some grows shown =
    record { at = last V.history; from = last_longer W.history V.history first begins.history; to = last_longer V.history U.history some grows.history; shows = shows_grown V U c (last V.history) some grows shown }

-- ---- along the list

-- the history stays, and the geometry but for the form
formed : (W V : World) (o : Option (List Commit)) → V.geometry ≡ record W.geometry { form = V.geometry.form } → V.history ≡ W.history → Grows (with_lost W o) (with_lost V o)
formed W V None geometry history = record { geometry = geometry; history = subst (λ (H : History). Extends W.history H) (sym history) (extends_itself W.history) }
formed W V (Some lost) geometry history = grind (arith, extends_itself)

-- while the device is up, commits may be added
added : (W V : World) (o p : Option (List Commit)) → o ≡ None → Grows W (with_lost V p) → Grows (with_lost W o) (with_lost V p)
added W V o p up grows = subst (λ (q : Option (List Commit)). Grows (with_lost W q) (with_lost V p)) (sym up) grows

grows_end : (S : State) (n : ℕ) (accesses : List Access) (r : EndReply) → S.lost ≡ None → Grows (whole S) (whole (after S (entry.End n accesses r)))
grows_end S n accesses (Committed k) up =
    subst (λ (q : Option (List Commit)). Grows (with_lost S.world q) (with_lost (after_end S.world n accesses (Committed k)) q)) (sym up)
    (record { geometry = refl; history = one_more_commit S.world.history (lost_commit S.world n accesses) })
grows_end S n accesses ReadOnly up = formed S.world (after S (entry.End n accesses ReadOnly)).world S.lost refl refl
grows_end S n accesses (Conflict c) up = formed S.world (after S (entry.End n accesses (Conflict c))).world S.lost refl refl

grows_group : (S : State) (members : List Member) → S.lost ≡ None → Grows (whole S) (with_lost (after_group S.world members) S.lost)
grows_group S members up =
    let one : Grows S.world (after_group S.world members) =
    subst (Grows S.world) (sym (after_live S.world members)) (record { geometry = refl; history = behind_it S.world.history (lost_commits S.world members) }) in
    subst (λ (q : Option (List Commit)). Grows (with_lost S.world q) (with_lost (after_group S.world members) q)) (sym up) one

grows_fault : (S : State) (c : Call) (before now : ℕ) → MayRefuse S c (cause.Disk before now) → Grows (whole S) (whole (after_fault S c now))
grows_fault S (call.Fetch n block) before now may = formed S.world S.world S.lost refl refl
grows_fault S (call.End n accesses) before now may =
    let T : State = after_fault S (call.End n accesses) now in
    added S.world T.world S.lost T.lost may.0.0 (record { geometry = refl; history = behind_it S.world.history (lost_commit S.world n accesses ∷ []) })
grows_fault S (call.EndGroup members) before now may =
    let T : State = after_fault S (call.EndGroup members) now in
    added S.world T.world S.lost T.lost may.0.0
    (subst (λ (V : World). Grows S.world (with_lost V T.lost)) (sym (leave_all_is (txs_of S.world members) S.world))
    (record { geometry = refl; history = behind_it S.world.history (lost_commits S.world members) }))
grows_fault S call.Compact before now may = added S.world S.world S.lost (Some []) may.0.0 (record { geometry = refl; history = behind_it S.world.history [] })
grows_fault S call.Upgrade before now may = added S.world S.world S.lost (Some []) may.0.0 (record { geometry = refl; history = behind_it S.world.history [] })
grows_fault S c before now may = absurd may.0

grows_refusal : (S : State) (c : Call) (why : Cause) → MayRefuse S c why → Grows (whole S) (whole (after_refusal S c why))
grows_refusal S c (cause.Disk before now) may = grows_fault S c before now may
grows_refusal S c why may = grows_itself (whole S)

pub grows_next : (S : State) (e : Entry) → Answers S e → Grows (whole S) (whole (after S e))
grows_next S (entry.Begin n at mode) a = formed S.world (after S (entry.Begin n at mode)).world S.lost refl refl
grows_next S (entry.End n accesses r) a = grows_end S n accesses r a.0
grows_next S (entry.EndGroup ends) a = grows_group S (members_of ends) a.0
grows_next S (entry.Abort n) a = formed S.world (after S (entry.Abort n)).world S.lost refl refl
grows_next S (entry.Trim n) a = formed S.world (after S (entry.Trim n)).world S.lost refl refl
grows_next S (entry.Compact n) a = formed S.world (after S (entry.Compact n)).world S.lost refl refl
grows_next S (entry.Upgrade n) a = formed S.world (after S (entry.Upgrade n)).world S.lost refl refl
grows_next S (entry.Post n label accesses) a = formed S.world S.world S.lost refl refl
grows_next S (entry.Look label found) a = formed S.world S.world S.lost refl refl
grows_next S (entry.Sweep (Some n)) a = formed S.world (after S (entry.Sweep (Some n))).world S.lost refl refl
grows_next S (entry.Refused c why) a = grows_refusal S c why a.1
grows_next S e a = grows_itself (whole S)

grows_from : (S : State) (es : List Entry) → LegalFrom S es → Grows (whole S) (whole (after_all S es))
grows_from S [] legal = grows_itself (whole S)
grows_from S (e ∷ es) legal = grows_on (whole S) (whole (after S e)) (whole (after_all (after S e) es)) (grows_next S e legal.0.answers) (grows_from (after S e) es legal.1)

-- a legal list leads from its start to a longer history
pub grows_all : (A : Start) (es : List Entry) → IsLegal A es → Grows A.world (whole (state_at A es))
grows_all A es legal = grows_from (opened A) es legal

grows_lost : (W : World) (o : Option (List Commit)) → Grows W (with_lost W o)
grows_lost W None = grows_itself W
grows_lost W (Some lost) = record { geometry = refl; history = behind_it W.history lost }

-- what the images of now show of a core that represents the state
pub shows_now : {D : Type 0} (disk : D → DiskState) (core : Core D) (S : State) → Holds disk core S → (c : List ℕ) → (disk (disk_of core)).now c → ShowsBetween S.world (whole S) c
shows_now disk core S h c here = by S.lost h.world
  where
    W : World
    W = S.world

    by : (o : Option (List Commit)) → StandsFor disk core W (standing_of o) → ShowsBetween W (with_lost W o) c
    by None stands = record { at = last W.history; from = omega arith; to = omega arith; shows = shows_world W core.kept.half stands.kept_of.world c (stands.images.each c here) }
    by (Some lost) stands =
        let some : 0 < W.history.first = stands.kept_of.world.history.first in
        let V : World = with_lost W (Some lost) in
        ⊎_elim (λ (s : ShowsLast W c). last_between W W V c some (grows_itself W) some (grows_lost W (Some lost)) s)
        (λ (s : ShowsLast V c). last_between W V V c some (grows_lost W (Some lost)) some (grows_itself V) s)
        (stands.images c here)

first_whole : (W : World) (o : Option (List Commit)) → 0 < W.history.first → 0 < (with_lost W o).history.first
first_whole W None some = some
first_whole W (Some lost) some = some

module _ (A : Start) (es : List Entry) (e : Entry) (legal : IsLegal A es) (some : 0 < (state_at A es).world.history.first) (answers : Answers (state_at A es) e) where
  first_here : 0 < (whole (state_at A es)).history.first
  first_here = first_whole (state_at A es).world (state_at A es).lost some

  -- what the images showed before an entry they show after it
  pub since_next : (c : List ℕ) → ShowsSince A es c → ShowsSince A (es ++ e ∷ []) c
  since_next c shown = grind (arith, after_snoc, between_grown, first_here, grows_next)

  -- an image that shows the last commit before the entry, or the last one after it, shows none before that one
  pub from_last : (c : List ℕ) → ShowsLast (whole (state_at A es)) c → ShowsFrom A es (es ++ e ∷ []) c
  from_last c shown =
      let S : State = state_at A es in
      subst (λ (T : State). ShowsBetween S.world (whole T) c) (sym (after_snoc (opened A) es e))
      (last_between S.world (whole S) (whole (after S e)) c some (grows_lost S.world S.lost) first_here (grows_next S e answers) shown)

  pub from_after : (c : List ℕ) → ShowsLast (whole (after (state_at A es) e)) c → ShowsFrom A es (es ++ e ∷ []) c
  from_after c shown =
      let S : State = state_at A es in
      let next = grows_next S e answers in
      let here = first_here in
      let later : (whole (after S e)).history.first ≡ (whole S).history.first = next.history.first in
      subst (λ (T : State). ShowsBetween S.world (whole T) c) (sym (after_snoc (opened A) es e))
      (last_between S.world (whole (after S e)) (whole (after S e)) c some (grows_on S.world (whole S) (whole (after S e)) (grows_lost S.world S.lost) next) (omega arith) (grows_itself (whole (after S e))) shown)

  -- what shows no commit before the last one of a front shows none with one entry more
  pub from_next : (before : List Entry) (c : List ℕ) → ShowsFrom A before es c → ShowsFrom A before (es ++ e ∷ []) c
  from_next before c shown =
      let S : State = state_at A es in
      let B : World = (state_at A before).world in
      subst (λ (T : State). ShowsBetween B (whole T) c) (sym (after_snoc (opened A) es e))
      (between_grown B (whole S) (whole (after S e)) c first_here (grows_next S e answers) shown)

  -- nor before the last one of a shorter front
  pub from_front : (before : List Entry) → IsPrefix before es → (c : List ℕ) → ShowsFrom A es (es ++ e ∷ []) c → ShowsFrom A before (es ++ e ∷ []) c
  from_front before is c shown =
      let more = (follows_prefix A before es is).history in
      let same : (state_at A es).world.history.first ≡ (state_at A before).world.history.first = more.first in
      let le : last (state_at A before).world.history ≤ last (state_at A es).world.history = last_longer (state_at A before).world.history (state_at A es).world.history (omega (arith, some, same)) more in
      let from : last (state_at A es).world.history ≤ shown.at = shown.from in
      record { at = shown.at; from = omega (arith, le, from); to = shown.to; shows = shown.shows }
