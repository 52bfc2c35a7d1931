-- A machine whose members are taken out, and what it answers once the core has ended them.
use Rattle.iso_machine.proofs.{Words.{◌≡◌, ◌∙◌, ◌⊎◌, inl, inr, sym, refl, ap, subst, ℕ, ◌≤◌, List, [], ◌∷◌, length, map, Option, Some, None, Err, arith, AllByRecursion, DiskState, LeavesOnly, Geometry, GroupReply, CoreError, World, Live, found_ones, group, group_step, grouped, label_replies, looks, step, Reply, Core, GroupEnd, StandsFor, AreEach, IsMember, up, ShowsEither, ShowsLast, Attached, IsSized, live_of, AreOf, Answers, Never, answer_to, HasTaken, filled, found_in, left_in, member_of, stand_in, without_found, under, reply_in, AreListed, Finder}, Quiet.{answers_by, no_reply}, Groups.{are_members, filled_is, found_is, geometry_behind, live_behind, looks_is, none_found, stands_looked}}
use Rattle.iso_core.specs.Calls as core
use Rattle.iso_model.specs.declared.core_error.CoreError.TheVariants as error
use Rattle.script_model.specs.declared.script.Op.TheVariants as op

pub step_is : (W : World) (c : ℕ) (texts : List (List ℕ)) → step W c (op.Group texts) ≡ grouped (group_step W texts)
unfolding step
step_is W c texts = refl

-- no more are found than there are labels
ones_fit : (found : List (Option Live)) → length (found_ones found) ≤ length found
ones_fit [] = omega arith
ones_fit (None ∷ found) = let rest = ones_fit found in omega arith
ones_fit (Some t ∷ found) = let rest = ones_fit found in omega arith

found_count : (texts : List (List ℕ)) (live : List Live) → length (found_in texts live) ≡ length texts
found_count [] live = refl
found_count (text ∷ texts) live = let rest = found_count texts (without_found live (under text live)) in omega arith

member_count : (gone : List Attached) → length (map member_of gone) ≡ length (map live_of gone)
member_count [] = refl
member_count (a ∷ gone) = let rest = member_count gone in omega arith

module _ {D : Type 0} {state : D → DiskState} {kernel : Core D} {table : Finder} {live left : List Attached} {W : World} (of : AreOf state kernel table live W) {texts : List (List ℕ)} {answers : List (Option GroupReply)} {ends : List GroupEnd}
    (taken : HasTaken texts live left [] answers [] ends) where
  abbrev V : World
  V = (looks W texts).1

  abbrev found : List (Option Live)
  found = (looks W texts).0

  abbrev members : List Live
  members = found_ones found

  members_are : map live_of taken.gone ≡ found_ones (found_in texts W.live)
  members_are = taken.members ∙ ap (λ (l : List Live). found_ones (found_in texts l)) of.live_are

  -- THE CALL OF THE CORE
  pub stands : StandsFor state kernel V up
  stands = stands_looked state kernel texts W of.core_of

  pub ready : AreEach (IsMember V) ends members
  ready =
      subst (λ (es : List GroupEnd). AreEach (IsMember V) es members) (sym taken.ends)
      (are_members texts W taken.gone of.core_of.kept_of.world (taken.gone_sized W.geometry of.sized) members_are)

  pub few : length ends ≤ length texts
  few =
      let one = ones_fit (found_in texts W.live) in
      let two = found_count texts W.live in
      let three = member_count taken.gone in
      omega (arith, ap length taken.ends, ap length members_are)

  -- AFTERWARDS
  pub behind : {new : Core D} (now : Finder) → AreListed now left → StandsFor state new (group V members).1 up → AreOf state new now left (group_step W texts).1
  unfolding group_step
  behind now listed after = record {
    core_of = after;
    live_are = taken.live ∙ ap (left_in texts) of.live_are ∙ sym (live_behind texts W);
    sized = subst (λ (g : Geometry). AllByRecursion (IsSized g) left) (sym (geometry_behind texts W)) (taken.stay_sized W.geometry of.sized);
    listed = listed;
  }

  answers_are : answers ≡ map stand_in found
  answers_are = taken.answers ∙ ap (λ (l : List Live). map stand_in (found_in texts l)) of.live_are ∙ ap (map stand_in) (sym (found_is texts W))

  pub moments_of : {old new : DiskState} → LeavesOnly old new (ShowsEither V (group V members).1) → LeavesOnly old new (ShowsEither W (group_step W texts).1)
  unfolding group_step
  moments_of {old = old} {new = new} moments = subst (λ (U : World). LeavesOnly old new (ShowsEither U (group V members).1)) (looks_is texts W) moments

  -- NO MEMBER
  no_members : ends ≡ [] → members ≡ []
  no_members none =
      sym (members_are ∙ ap found_ones (sym (found_is texts W))) ∙ none_gone taken.gone (sym taken.ends ∙ none)
    where
      none_gone : (gone : List Attached) → map member_of gone ≡ [] → map live_of gone ≡ []
      none_gone [] is = refl
      none_gone (a ∷ gone) is = cc

  pub nobody : ends ≡ [] → group_step W texts ≡ (answers, V)
  unfolding group_step
  nobody none =
      let nobody_is = no_members none in
      ap (λ (ms : List Live). (label_replies found (group V ms).0, (group V ms).1)) nobody_is ∙ ap (λ (xs : List (Option GroupReply)). (xs, V)) (sym (answers_are ∙ none_found found nobody_is))

  pub nobody_stands : (now : Finder) → AreListed now left → ends ≡ [] → AreOf state kernel now left V
  nobody_stands now listed none =
      subst (λ (U : World). AreOf state kernel now left U) (ap (λ (x : List (Option GroupReply) × World). x.1) (nobody none))
      (behind now listed (subst (λ (ms : List Live). StandsFor state kernel (group V ms).1 up) (sym (no_members none)) stands))

  -- THE REPLIES
  pub replies_are : (new : List GroupEnd) → map reply_in new ≡ map Some (group V members).0 → filled answers (map reply_in new) ≡ (group_step W texts).0
  unfolding group_step
  replies_are new given =
      ap (filled answers) given ∙ ap (λ (xs : List (Option GroupReply)). filled xs (map Some (group V members).0)) answers_are ∙ filled_is found (group V members).0

-- the disk failed, or memory was wanting
pub group_fails : {T : Type 0} {stands : World → Type 0} {old new : DiskState} {W : World} {given : Reply × World} (e : CoreError) → (e ≡ error.Disk) ⊎ (e ≡ error.Memory) → LeavesOnly old new (ShowsEither W given.1)
    → (e ≡ error.Memory → LeavesOnly old new (ShowsLast W)) → core.BlamesDisk {T = T} old.faults new.faults (Err e) → Answers Never stands old new W given (answer_to e)
group_fails e (inl is) moments unmade cause =
    answers_by (ap answer_to is) (no_reply moments (λ e. absurd (cc e)) (λ e. absurd (cc e)) (record { later = cause.later; failed = λ x. cause.failed (ap Err is); passed = tt; memory = λ x. absurd (cc x) }) (λ may. absurd may))
group_fails e (inr is) moments unmade cause =
    answers_by (ap answer_to is) (no_reply moments (λ e. unmade is) (λ e. absurd (cc e)) (record { later = cause.later; failed = λ x. absurd (cc x); passed = tt; memory = λ x. cause.other (λ y. cc (is, y)) }) (λ may. absurd may))
