-- A table whose transactions change, leave and begin.
use Rattle.iso_machine.proofs.{Words.{◌≡◌, ◌∙◌, sym, refl, ap, subst, ℕ, ◌<◌, List, [], ◌∷◌, ◌++◌, length, get_or, set, map, Option, Some, None, find, AllByRecursion, remove, map_push, set-get_or, DiskState, Geometry, Mode, last, after_begin, with_live, World, Live, attached, client, is_at_client, unattached, with, without, AreDistinct, IsWorld, IsLive, all_push, all_weaker, Core, IsAmong, IsTx, IsWorkOf, StandsFor, disk_of, bare, up, Doing, IsActive, IsWorkedTo, HoldsAt, IfSome, MatchOption, IsLawful, Reply, Ok, Err, Answers, Stop, shows, after_switch, ◌≢◌, ◌⊎◌, inl, CoreReply, CoreError, Refuses, switch_step, as_step, answer_to, Wanting, LeavesOnly, ShowsLast, weakened, IsSome}, Besides.stands_besides, Lists.{all_at, all_remove, all_set}, Quiet.{quiet, quiet_memory}, Refusals.{IsRefusal, blames, refused}, Switches.{keeps_switch, worn_still}}
use Rattle.iso_core.specs.Calls.{BlamesDisk}
use Rattle.iso_model.specs.declared.core_error.CoreError.TheVariants as error
use Rattle.script_model.specs.declared.stop.Stop.TheVariants as stop
use Rattle.device_desk.specs.{declared.seat.Seat.Seat, Seats.{AreOf, IsHere, IsSized, live_of}}
use Rattle.device_desk.proofs.Lists.{among_at, bare_with, none_above, with_at, without_at}

module _ {D : Type 0} {state : D → DiskState} {core : Core D} {live : List Seat} {W : World} (of : AreOf state core live W) where
  pub distinct : AreDistinct (map live_of live)
  distinct = subst (λ (l : List Live). AreDistinct l) (sym of.live_are) of.core_of.kept_of.world.distinct

  pub distinct_in : (list : List Seat) → list ≡ live → AreDistinct (map live_of list)
  distinct_in list same = subst (λ (l : List Seat). AreDistinct (map live_of l)) (sym same) distinct

  -- nobody has the next number
  pub next_is_free : attached W W.next ≡ None
  next_is_free =
      ap (λ (l : List Live). find (λ t. is_at_client W.next t.place) l) (sym of.live_are)
      ∙ none_above W.next live (subst (λ (l : List Live). AllByRecursion (λ (t : Live). t.number < W.next) l) (sym of.live_are)
      (all_weaker (IsLive W) (λ t. t.number < W.next) (λ t is. is.number) W.live of.core_of.kept_of.world.live))

  -- the one at a place of the list
  module _ (i : ℕ) (d : Seat) (inside : i < length live) where
    pub is_tx : IsTx W (get_or live i d).tx (live_of (get_or live i d))
    is_tx = record { number = refl; among = subst (λ (l : List Live). IsAmong (live_of (get_or live i d)) l) of.live_are (among_at live i d inside) }

    pub is_work : IsWorkOf W (live_of (get_or live i d)) (get_or live i d).work.value
    is_work =
        let sized = all_at (IsSized W.geometry) live i d of.sized inside in
        record { begin = refl; mode = refl; size = sized.size; blocks = sized.blocks; accesses = refl }

    pub is_active : IsActive W (live_of (get_or live i d)) (get_or live i d).work.value
    is_active = record {
      is_work = is_work;
      here = ap (λ (l : List Live). with (live_of (get_or live i d)) l) (sym of.live_are) ∙ with_at live i d (get_or live i d) distinct inside refl
          ∙ ap (λ (l : List Seat). map live_of l) (set-get_or live i d) ∙ of.live_are;
    }

    -- another work of the same transaction
    changed : {new : Core D} (b : Seat) → b.tx ≡ (get_or live i d).tx → b.work.value.begin ≡ (get_or live i d).work.value.begin → b.work.value.mode ≡ (get_or live i d).work.value.mode → IsSized W.geometry b
        → StandsFor state new W up → IsWorld (with_live W (with (live_of b) W.live)) → AreOf state new (set live i b) (with_live W (with (live_of b) W.live))
    changed {new = new} b tx begin mode sized stands is =
        let live_is : map live_of (set live i b) ≡ with (live_of b) W.live =
        sym (with_at live i d b distinct inside tx) ∙ ap (λ (l : List Live). with (live_of b) l) of.live_are in
        record {
          core_of = stands_besides state new W (with (live_of b) W.live) stands is
              (ap (λ (l : List Live). map bare l) (sym live_is)
              ∙ bare_with live i d b (λ j. record { number = tx j; begin = begin j; mode = mode j; accesses = []; place = unattached })
              ∙ ap (λ (l : List Live). map bare l) of.live_are);
          live_are = live_is;
          sized = all_set (IsSized W.geometry) live i b of.sized sized;
        }

    worked_there : {new : Core D} (work : Doing) (given : World) → IsWorkedTo W (live_of (get_or live i d)) given work → StandsFor state new W up → IsWorld given
        → AreOf state new (set live i (record (get_or live i d) { work = record (get_or live i d).work { value = work } })) given
    worked_there {new = new} work given to stands is =
        let a : Seat = get_or live i d in
        let same : live_of (record a { work = record a.work { value = work } }) ≡ record (live_of a) { accesses = work.accesses } =
        λ j. record { number = a.tx; begin = to.is_work.begin j; mode = to.is_work.mode j; accesses = work.accesses; place = client a.tx } in
        let world : given ≡ with_live W (with (live_of (record a { work = record a.work { value = work } })) W.live) = to.world ∙ ap (λ (t : Live). with_live W (with t W.live)) (sym same) in
        subst (λ (V : World). AreOf state new (set live i (record a { work = record a.work { value = work } })) V) (sym world)
        (changed (record a { work = record a.work { value = work } }) refl to.is_work.begin to.is_work.mode (record { size = to.is_work.size; blocks = to.is_work.blocks }) stands
        (subst (λ (V : World). IsWorld V) world is))

    pub worked_on : {new : Core D} {b : Seat} → b ≡ get_or live i d → (work : Doing) (given : World) → IsWorkedTo W (live_of b) given work → StandsFor state new W up → IsWorld given
        → AreOf state new (set live i (record b { work = record b.work { value = work } })) given
    worked_on {new = new} same work given to stands is =
        subst (λ (b : Seat). IsWorkedTo W (live_of b) given work → AreOf state new (set live i (record b { work = record b.work { value = work } })) given) (sym same)
        (λ done. worked_there work given done stands is) to

    -- it leaves
    pub left : {new : Core D} {b : Seat} → b ≡ get_or live i d → (V : World) → V.live ≡ without b.tx W.live → V.geometry ≡ W.geometry → StandsFor state new V up → AreOf state new (remove live i) V
    left same V live_is geometry stands = record {
      core_of = stands;
      live_are = sym (without_at live i d distinct inside) ∙ ap (λ (l : List Live). without (get_or live i d).tx l) of.live_are ∙ ap (λ (b : Seat). without b.tx W.live) (sym same) ∙ sym live_is;
      sized = subst (λ (g : Geometry). AllByRecursion (IsSized g) (remove live i)) (sym geometry) (all_remove (IsSized W.geometry) live i of.sized);
    }

  pub begun : {new : Core D} (b : Seat) (number : ℕ) (mode : Mode) → live_of b ≡ record { number = W.next; begin = last W.history; mode = mode; accesses = []; place = client number } → IsSized W.geometry b
      → StandsFor state new (after_begin W unattached mode) up → IsWorld (after_begin W (client number) mode) → AreOf state new (live ++ b ∷ []) (after_begin W (client number) mode)
  begun {new = new} b number mode is sized stands world = record {
    core_of = stands_besides state new (after_begin W unattached mode) (after_begin W (client number) mode).live stands world
        (map_push bare W.live (record { number = W.next; begin = last W.history; mode = mode; accesses = []; place = client number })
        ∙ sym (map_push bare W.live (record { number = W.next; begin = last W.history; mode = mode; accesses = []; place = unattached })));
    live_are = map_push live_of live b ∙ (λ j. of.live_are j ++ is j ∷ []);
    sized = all_push (IsSized W.geometry) live b of.sized sized;
  }

  pub same : {new : Core D} → StandsFor state new W up → AreOf state new live W
  same stands = record { core_of = stands; live_are = of.live_are; sized = of.sized }

  -- the transactions stay where the base moves
  pub switched : {new : Core D} (form : ℕ) → StandsFor state new (after_switch W form) up → AreOf state new live (after_switch W form)
  switched form stands = record {
    core_of = stands;
    live_are = of.live_are;
    sized = all_weaker (IsSized W.geometry) (IsSized (after_switch W form).geometry) (λ a is. record { size = is.size; blocks = is.blocks }) live of.sized;
  }

  -- a switch that is refused
  pub switch_refused : {new : Core D} (form : ℕ) (answer : CoreReply) (e : CoreError) → (IsRefusal answer → ⊥) → (e ≡ error.Disk) ⊎ Refuses (switch_step W form answer).0 e → (e ≢ error.Disk → StandsFor state new W up)
      → (e ≢ error.Disk → e ≢ error.Memory → disk_of new ≡ disk_of core) → LeavesOnly (state (disk_of core)) (state (disk_of new)) (ShowsLast W)
      → BlamesDisk {T = ℕ} (state (disk_of core)).faults (state (disk_of new)).faults (Err e)
      → Answers Wanting (AreOf state new live) (state (disk_of core)) (state (disk_of new)) W (as_step (switch_step W form answer)) (answer_to e)
  switch_refused {new = new} form answer e none is stands still moments cause =
      refused (λ may. absurd (cc may)) e (record {
        is = is;
        keeps = keeps_switch W form answer none;
        same = λ other. same (stands other);
        told = λ some told. subst (λ d. IsSome (state d).contents) (sym (worn_still (disk_of core) (disk_of new) e still some)) told;
        moments = weakened moments (λ image shown. inl shown);
        unmade = λ e. moments;
        cause = blames e cause;
      })

  -- who has a number
  attached_none : (number : ℕ) (list : List Seat) → list ≡ live → find (λ t. is_at_client number t.place) (map live_of list) ≡ None → attached W number ≡ None
  attached_none number list same is =
      ap (λ (l : List Live). find (λ t. is_at_client number t.place) l) (sym of.live_are)
      ∙ ap (λ (l : List Seat). find (λ t. is_at_client number t.place) (map live_of l)) (sym same) ∙ is

  attached_some : (number : ℕ) (list : List Seat) (i : ℕ) (d : Seat) → list ≡ live → find (λ t. is_at_client number t.place) (map live_of list) ≡ Some (live_of (get_or list i d))
      → attached W number ≡ Some (live_of (get_or live i d))
  attached_some number list i d same is =
      ap (λ (l : List Live). find (λ t. is_at_client number t.place) l) (sym of.live_are)
      ∙ ap (λ (l : List Seat). find (λ t. is_at_client number t.place) (map live_of l)) (sym same) ∙ is ∙ ap (λ (l : List Seat). Some (live_of (get_or l i d))) same

  pub place_here : (number : ℕ) (list : List Seat) (r : Option ℕ) → list ≡ live
      → MatchOption r (find (λ t. is_at_client number t.place) (map live_of list) ≡ None) (λ i. (i < length list) × HoldsAt (λ a. find (λ t. is_at_client number t.place) (map live_of list) ≡ Some (live_of a)) list i)
      → IfSome r (λ i. i < length live) × MatchOption r (attached W number ≡ None) (HoldsAt (IsHere W number) live)
  place_here number list None same is = (tt, attached_none number list same is)
  place_here number list (Some i) same is =
      let inside : i < length live = subst (λ (l : List Seat). i < length l) same is.0 in
      (inside, λ d. record { here = attached_some number list i d same (is.1 d); tx = is_tx i d inside; active = is_active i d inside })

  -- answers that leave the disk as it was
  module _ {new : Core D} {list : List Seat} {goes_on : Stop → Type 0} {given : Reply × World} (laws : IsLawful (state (disk_of core))) (still : disk_of new ≡ disk_of core) where
    pub stays_with : {r : Reply} {V : World} → given ≡ (r, V) → AreOf state new list V → Answers goes_on (AreOf state new list) (state (disk_of core)) (state (disk_of new)) W given (Ok r)
    stays_with {r = r} is after =
        subst (λ (disk : D). Answers goes_on (AreOf state new list) (state (disk_of core)) (state disk) W given (Ok r)) (sym still) (quiet laws (shows state core W of.core_of) is after)

    pub wants_memory : (goes_on stop.Memory → AreOf state new list W) → Answers goes_on (AreOf state new list) (state (disk_of core)) (state (disk_of new)) W given (Err stop.Memory)
    wants_memory after =
        subst (λ (disk : D). Answers goes_on (AreOf state new list) (state (disk_of core)) (state disk) W given (Err stop.Memory)) (sym still) (quiet_memory laws (shows state core W of.core_of) after)

-- the one at the place of a number, and its work
pub at_place : (W : World) (number : ℕ) (live : List Seat) (i : ℕ) {d : Seat} {work : Doing} → HoldsAt (IsHere W number) live i → d ≡ get_or live i d → work ≡ d.work.value → IsHere W number d × IsActive W (live_of d) work
at_place W number live i {d = d} here is_at value =
    let h : IsHere W number d = subst (IsHere W number) (sym is_at) (here d) in
    (h, subst (IsActive W (live_of d)) (sym value) h.active)
