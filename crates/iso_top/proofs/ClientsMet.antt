-- A run of clients on an image that was opened, as the whole call has done it.
use Rattle.iso_top.proofs.{Words.{same_Some, ◌≡◌, ◌⊎◌, inl, inr, ⊎_elim, ◌≤◌, ℕ, List, Option, None, refl, sym, ◌∙◌, ap, subst, arith, Rose, Core, StandsFor, disk_of, up, DiskState, IsBoundTo, IsLawful, LeavesOnly, joined, lasts, since_bind, still_bound, weakened, SinkState, SourceState, Geometry, Line, World, start_at, whole, between_grown, grows_all, ShowsBetween, Start, State, state_at, OpenError, ParEnd, files_answer_at, lines_tell, script_lines, AreLines, Script, stores_answer_at, ScriptError, HasNoLines, HasRead, Opened, HasCore, HasNoCore, HasRunClients, HasRunNone, BeginsWith, HasNotBegun, Printed, HasClosed, HasRunLines, PutOf, OpensTo, error_text, script_error_status, script_error_text}, RunsOfClients.{failed_run, images_shown, were_run}}
use Rattle.script_runner.specs.declared.lines.ScriptError.TheVariants as error

-- nothing was begun
pub none_begun : {D : Type 0} (state : D → DiskState) (made : Option Geometry) (name : List ℕ) (e : OpenError) (given left image : D) (input : SourceState) (output_old output_new : SinkState)
    → HasNoCore made name e (state given) (state left) → image ≡ left → Printed output_old output_new (error_text e) → HasNotBegun made name e (state given) (state image) input input output_old output_new
none_begun state made name e given left image input output_old output_new none same printed =
    subst (λ d. HasNotBegun made name e (state given) (state d) input input output_old output_new) (sym same)
    (record { unbegun = none.unbegun; once = none.once; refused = none.refused; cause = none.cause; unread = refl; printed = printed })

module _ {D : Type 0} (state : D → DiskState) (lawful : (d : D) → IsLawful (state d)) (name : List ℕ) (given : D) (core : Core D) (has : HasCore state None name given core) where
  -- the world that the core represents is one that a list may begin with
  pub may_begin : (o : Opened D) → o.core ≡ core → o.given.value ≡ given → (W : World) × BeginsWith state o W
  may_begin o core_is given_is = (
    has.world,
    record {
      stands = subst (λ (c : Core D). StandsFor state c has.world up) (sym core_is) has.stands;
      idle = has.idle;
      name = name;
      opens = subst (λ (d : D). OpensTo ((state d).named name) has.world) (sym given_is) has.starts;
      bound = has.bound;
      binds = has.binds;
      moments = subst (λ (c : Core D). LeavesOnly (state has.bound) (state (disk_of c)) (ShowsBetween has.world has.world)) (sym core_is)
          (weakened has.moments (λ c shown. ⊎_elim (λ (none : ⊥). absurd none) (λ (is : ShowsBetween has.world has.world c). is) shown));
    },
  )

  bound_still : (d : D) → (state d).bound ≡ (state (disk_of core)).bound → IsBoundTo name (state d)
  bound_still d same = let (t, is) = still_bound name has.untouched ((state has.bound).clock, has.binds) in (t, same ∙ is)

  -- no line was run
  pub ran_none : (e : ScriptError) (input_old input_new : SourceState) (output_old output_new : SinkState) (image : D) → image ≡ disk_of core → HasNoLines input_old input_new e
      → Printed output_old output_new (script_error_text e) → HasRunNone name e (state given) (state image) input_old input_new output_old output_new
  ran_none e input_old input_new output_old output_new image same why printed =
      subst (λ (d : D). HasRunNone name e (state given) (state d) input_old input_new output_old output_new) (sym same)
      (record {
        world = has.world;
        opens = has.starts;
        bound = bound_still (disk_of core) refl;
        once = has.untouched.same_binds ∙ has.once;
        unwritten = since_bind name has.binds has.untouched;
        why = why;
        printed = printed;
        passed = has.faults;
      })

  -- the clients were run
  pub ran_clients : (o : Opened D) → o.core ≡ core → o.given.value ≡ given → (lines : List (ℕ × Line)) (status : ℕ) (image : D) (input_old input_new : SourceState) (old new : SinkState)
      → HasRead input_old input_new lines → (W : World) (end : ParEnd) → BeginsWith state o W → HasClosed state (start_at W (state (disk_of o.core))) (state (disk_of o.core)) lines end image → PutOf end.status end.text status old new
      → HasRunClients state name status given image input_old input_new old new
  ran_clients o core_is given_is lines status image input_old input_new old new read W end begins closed' put =
      let A : Start = start_at W (state (disk_of core)) in
      let closed : HasClosed state A (state (disk_of core)) lines end image = subst (λ (c : Core D). HasClosed state (start_at W (state (disk_of c))) (state (disk_of c)) lines end image) core_is closed' in
      let first : LeavesOnly (state begins.bound) (state (disk_of core)) (ShowsBetween W W) = subst (λ (c : Core D). LeavesOnly (state begins.bound) (state (disk_of c)) (ShowsBetween W W)) core_is begins.moments in
      let its_name : begins.name ≡ name = ap (λ (m : ℕ × List ℕ). m.1) (same_Some ((state begins.bound).clock, begins.name) ((state has.bound).clock, name)
      (sym begins.binds ∙ sym first.same_bound ∙ has.untouched.same_bound ∙ has.binds)) in
      let ran = were_run A lines closed.entries status end old new closed.ended put in
      let S : State = state_at A closed.entries in
      let counts : S.faults ≤ (state (disk_of closed.core)).faults = closed.holds.counts in
      record {
        world = W;
        opens = subst (λ (d : D). OpensTo ((state d).named name) W) given_is (subst (λ (n : List ℕ). OpensTo ((state o.given.value).named n) W) its_name begins.opens);
        start = disk_of core;
        tells = has.told;
        faults = has.faults;
        lines = lines;
        read = read;
        entries = closed.entries;
        ran = ran;
        isolated = closed.isolated;
        stores = stores_answer_at A closed.entries begins.stands.kept_of.world begins.idle closed.legal closed.isolated;
        files = files_answer_at A closed.entries begins.stands.kept_of.world begins.idle closed.legal closed.isolated;
        calls = λ parts told.
            lines_tell A lines parts closed.entries begins.stands.kept_of.world begins.idle closed.isolated (subst (λ (s : Script). AreLines s.lines) read.lines_are (script_lines read.bytes)) told;
        exit = λ bytes here. images_shown state closed.core S closed.holds bytes (subst (λ (d : D). (state d).now bytes) closed.image_is here);
        since = since_bind begins.name begins.binds
            (joined (weakened first (λ c shown. between_grown W W (whole S) c begins.stands.kept_of.world.history.first (grows_all A closed.entries closed.legal) shown)) closed.came.moments);
        moments = closed.moments;
        turns = closed.turns;
        bound = bound_still image closed.came.moments.same_bound;
        once = closed.came.moments.same_binds ∙ has.untouched.same_binds ∙ has.once;
        unwritten = λ none. since_bind name has.binds (lasts (lawful (disk_of core)) has.untouched (closed.came.unwritten none));
        failed = λ five.
            let rose = failed_run A lines closed.entries status old new ran five in
            let more : Rose (state (disk_of core)).faults (state (disk_of closed.core)).faults = omega arith in
            subst (λ (d : D). Rose (state given).faults (state d).faults) (sym closed.image_is) (subst (λ (n : ℕ). Rose n (state (disk_of closed.core)).faults) has.faults more);
      }

  pub ran_lines : (o : Opened D) → o.core ≡ core → o.given.value ≡ given → (lines : List (ℕ × Line)) (status : ℕ) (image : D) (input_old input_new : SourceState) (old new : SinkState)
      → HasRead input_old input_new lines → HasRunLines state o lines status image old new
      → ((e : ScriptError) × (status ≡ script_error_status e) × HasRunNone name e (state given) (state image) input_old input_new old new)
      ⊎ HasRunClients state name status given image input_old input_new old new
  ran_lines o core_is given_is lines status image input_old input_new old new read (inl (W, end, begins, closed, put)) =
      inr (ran_clients o core_is given_is lines status image input_old input_new old new read W end begins closed put)
  ran_lines o core_is given_is lines status image input_old input_new old new read (inr (eight, same, printed)) =
      inl (error.Memory, eight, ran_none error.Memory input_old input_new old new image (same ∙ ap disk_of core_is) read.passed printed)
