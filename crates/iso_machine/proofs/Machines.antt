-- A machine whose transactions change, leave and begin.
use Rattle.iso_machine.proofs.{Words.{◌≡◌, ◌∙◌, sym, refl, ap, subst, ℕ, ◌<◌, Bool, List, [], ◌∷◌, ◌++◌, length, get_or, set, map, Option, Some, None, find, AllByRecursion, remove, map_push, set-get_or, DiskState, Geometry, Mode, Op, last, after_begin, with_live, in_transaction, out_of_transaction, release_step, step, takeover_step, World, Live, Place, attached, held, is_at_client, is_under_label, unattached, with, without, AreDistinct, IsWorld, IsOp, all_push, step_leads, Core, IsAmong, IsTx, IsWorkOf, StandsFor, bare, up, Doing, Attached, IsActive, IsWorkedTo, act_step, AreKnown, AreListed, AreOf, Finder, IsOff, IsSized, IsTrue, is_label, live_of, number_at, number_under, HoldsAt, IfSome, IsHere, MatchOption, get, key_of, nat_eq, ◌≢◌}, Besides.stands_besides, Lists.{all_at, all_remove, all_set, among_at, bare_with, remove_set, with_at, without_at}, Whereabouts.{alone, client_lone, clients_go, is_there}}
use Rattle.script_model.specs.declared.script.Op.TheVariants as op
use Rattle.iso_machine.specs.declared.attached.Spot.TheVariants as spot

module _ {D : Type 0} {state : D → DiskState} {core : Core D} {table : Finder} {live : List Attached} {W : World} (of : AreOf state core table live W) where
  pub distinct : AreDistinct (map live_of live)
  distinct = subst (λ (l : List Live). AreDistinct l) (sym of.live_are) of.core_of.kept_of.world.distinct

  pub known : (list : List Attached) → list ≡ live → AreKnown table list
  known list same = subst (AreKnown table) (sym same) (record { listed = of.listed; distinct = distinct })

  pub nobody_at : (list : List Attached) (client : ℕ) (number : Option ℕ) → list ≡ live → client < 256 → number ≡ number_at client table → number ≡ None → AllByRecursion (IsOff (is_at_client client)) list
  nobody_at list client number same fits is none = (known list same).listed.clients client fits (sym is ∙ none)

  pub nobody_under : (list : List Attached) (text : List ℕ) (number : Option ℕ) → list ≡ live → IsTrue (is_label text) → number ≡ number_under text table → number ≡ None → AllByRecursion (IsOff (is_under_label text)) list
  nobody_under list text number same label is none = (known list same).listed.labels text label (sym is ∙ none)

  pub relisted : (now : Finder) → AreListed now live → AreOf state core now live W
  relisted now listed = record { core_of = of.core_of; live_are = of.live_are; sized = of.sized; listed = listed }

  -- the one at a place of the list
  module _ (i : ℕ) (d : Attached) (inside : i < length live) where
    pub is_tx : IsTx W (get_or live i d).tx (live_of (get_or live i d))
    is_tx = record { number = refl; among = subst (λ (l : List Live). IsAmong (live_of (get_or live i d)) l) of.live_are (among_at live i d inside) }

    pub is_work : IsWorkOf W (live_of (get_or live i d)) (get_or live i d).work.value
    is_work =
        let sized = all_at (IsSized W.geometry) live i d of.sized inside in
        record { begin = refl; mode = refl; size = sized.size; blocks = sized.blocks; accesses = refl }

    pub is_active : IsActive W (live_of (get_or live i d)) (get_or live i d).work.value
    is_active = record {
      is_work = is_work;
      here = ap (λ (l : List Live). with (live_of (get_or live i d)) l) (sym of.live_are) ∙ with_at live i d (get_or live i d) distinct inside refl
          ∙ ap (λ (l : List Attached). map live_of l) (set-get_or live i d) ∙ of.live_are;
    }

    -- another work of the same transaction, or another place
    pub changed : {new : Core D} (now : Finder) (b : Attached) → AreListed now (set live i b) → b.tx ≡ (get_or live i d).tx → b.work.value.begin ≡ (get_or live i d).work.value.begin → b.work.value.mode ≡ (get_or live i d).work.value.mode → IsSized W.geometry b
        → StandsFor state new W up → IsWorld (with_live W (with (live_of b) W.live)) → AreOf state new now (set live i b) (with_live W (with (live_of b) W.live))
    changed {new = new} now b listed tx begin mode sized stands is =
        let live_is : map live_of (set live i b) ≡ with (live_of b) W.live =
        sym (with_at live i d b distinct inside tx) ∙ ap (λ (l : List Live). with (live_of b) l) of.live_are in
        record {
          core_of = stands_besides state new W (with (live_of b) W.live) stands is
              (ap (λ (l : List Live). map bare l) (sym live_is)
              ∙ bare_with live i d b (λ j. record { number = tx j; begin = begin j; mode = mode j; accesses = []; place = unattached })
              ∙ ap (λ (l : List Live). map bare l) of.live_are);
          live_are = live_is;
          sized = all_set (IsSized W.geometry) live i b of.sized sized;
          listed = listed;
        }

    still : (test : Place → Bool) (work : Doing) → AllByRecursion (IsOff test) live → AllByRecursion (IsOff test) (set live i (record (get_or live i d) { work = record (get_or live i d).work { value = work } }))
    still test work all = all_set (IsOff test) live i (record (get_or live i d) { work = record (get_or live i d).work { value = work } }) all (all_at (IsOff test) live i d all inside)

    worked_there : {new : Core D} (work : Doing) (given : World) → IsWorkedTo W (live_of (get_or live i d)) given work → StandsFor state new W up → IsWorld given
        → AreOf state new table (set live i (record (get_or live i d) { work = record (get_or live i d).work { value = work } })) given
    worked_there {new = new} work given to stands is =
        let a : Attached = get_or live i d in
        let same : live_of (record a { work = record a.work { value = work } }) ≡ record (live_of a) { accesses = work.accesses } =
        λ j. record { number = a.tx; begin = to.is_work.begin j; mode = to.is_work.mode j; accesses = work.accesses; place = (live_of a).place } in
        let world : given ≡ with_live W (with (live_of (record a { work = record a.work { value = work } })) W.live) = to.world ∙ ap (λ (t : Live). with_live W (with t W.live)) (sym same) in
        subst (λ (V : World). AreOf state new table (set live i (record a { work = record a.work { value = work } })) V) (sym world)
        (changed table (record a { work = record a.work { value = work } })
        (record {
          clients = λ c fits none. still (is_at_client c) work (of.listed.clients c fits none);
          labels = λ text is none. still (is_under_label text) work (of.listed.labels text is none);
        }) refl to.is_work.begin to.is_work.mode (record { size = to.is_work.size; blocks = to.is_work.blocks }) stands (subst (λ (V : World). IsWorld V) world is))

    pub worked_on : {new : Core D} {b : Attached} → b ≡ get_or live i d → (work : Doing) (given : World) → IsWorkedTo W (live_of b) given work → StandsFor state new W up → IsWorld given
        → AreOf state new table (set live i (record b { work = record b.work { value = work } })) given
    worked_on {new = new} same work given to stands is =
        subst (λ (b : Attached). IsWorkedTo W (live_of b) given work → AreOf state new table (set live i (record b { work = record b.work { value = work } })) given) (sym same)
        (λ done. worked_there work given done stands is) to

    -- the one of a client leaves
    listed_without : (client : ℕ) (now : Finder) → attached W client ≡ Some (live_of (get_or live i d)) → ((k : ℕ) → k ≢ client → number_at k now ≡ number_at k table) → now.labels ≡ table.labels → AreListed now (remove live i)
    listed_without client now here others labels =
        let e : Attached = record (get_or live i d) { spot = spot.Label [] } in
        record {
          clients = clients_go table now live (remove live i) client (λ k all. all_remove (IsOff (is_at_client k)) live i all)
              (subst (AllByRecursion (IsOff (is_at_client client))) (remove_set live i e)
              (all_remove (IsOff (is_at_client client)) (set live i e) i
              (alone (is_at_client client) (client_lone client) live i d e distinct inside (is_there (is_at_client client) W.live (live_of (get_or live i d)) here) refl)))
              of.listed.clients others;
          labels = λ text is none. all_remove (IsOff (is_under_label text)) live i (of.listed.labels text is (ap (λ l. get nat_eq l (key_of text)) (sym labels) ∙ none));
        }

    pub left : {new : Core D} {b : Attached} → b ≡ get_or live i d → (client : ℕ) (now : Finder) (V : World) → attached W client ≡ Some (live_of b) → ((k : ℕ) → k ≢ client → number_at k now ≡ number_at k table) → now.labels ≡ table.labels
        → V.live ≡ without b.tx W.live → V.geometry ≡ W.geometry → StandsFor state new V up → AreOf state new now (remove live i) V
    left same client now V here others labels live_is geometry stands = record {
      core_of = stands;
      live_are = sym (without_at live i d distinct inside) ∙ ap (λ (l : List Live). without (get_or live i d).tx l) of.live_are ∙ ap (λ (b : Attached). without b.tx W.live) (sym same) ∙ sym live_is;
      sized = subst (λ (g : Geometry). AllByRecursion (IsSized g) (remove live i)) (sym geometry) (all_remove (IsSized W.geometry) live i of.sized);
      listed = listed_without client now (here ∙ ap (λ (b : Attached). Some (live_of b)) same) others labels;
    }

  pub begun : {new : Core D} (now : Finder) (b : Attached) (place : Place) (mode : Mode) → AreListed now (live ++ b ∷ []) → live_of b ≡ record { number = W.next; begin = last W.history; mode = mode; accesses = []; place = place } → IsSized W.geometry b
      → StandsFor state new (after_begin W unattached mode) up → IsWorld (after_begin W place mode) → AreOf state new now (live ++ b ∷ []) (after_begin W place mode)
  begun {new = new} now b place mode listed is sized stands world = record {
    core_of = stands_besides state new (after_begin W unattached mode) (after_begin W place mode).live stands world
        (map_push bare W.live (record { number = W.next; begin = last W.history; mode = mode; accesses = []; place = place })
        ∙ sym (map_push bare W.live (record { number = W.next; begin = last W.history; mode = mode; accesses = []; place = unattached })));
    live_are = map_push live_of live b ∙ (λ j. of.live_are j ++ is j ∷ []);
    sized = all_push (IsSized W.geometry) live b of.sized sized;
    listed = listed;
  }

  pub same : {new : Core D} → StandsFor state new W up → AreOf state new table live W
  same stands = record { core_of = stands; live_are = of.live_are; sized = of.sized; listed = of.listed }

  -- who is attached to a client
  attached_none : (client : ℕ) (list : List Attached) → list ≡ live → find (λ t. is_at_client client t.place) (map live_of list) ≡ None → attached W client ≡ None
  attached_none client list same is =
      ap (λ (l : List Live). find (λ t. is_at_client client t.place) l) (sym of.live_are)
      ∙ ap (λ (l : List Attached). find (λ t. is_at_client client t.place) (map live_of l)) (sym same) ∙ is

  attached_some : (client : ℕ) (list : List Attached) (i : ℕ) (d : Attached) → list ≡ live → find (λ t. is_at_client client t.place) (map live_of list) ≡ Some (live_of (get_or list i d))
      → attached W client ≡ Some (live_of (get_or live i d))
  attached_some client list i d same is =
      ap (λ (l : List Live). find (λ t. is_at_client client t.place) l) (sym of.live_are)
      ∙ ap (λ (l : List Attached). find (λ t. is_at_client client t.place) (map live_of l)) (sym same) ∙ is ∙ ap (λ (l : List Attached). Some (live_of (get_or l i d))) same

  pub place_here : (client : ℕ) (list : List Attached) (r : Option ℕ) → list ≡ live
      → MatchOption r (find (λ t. is_at_client client t.place) (map live_of list) ≡ None) (λ i. (i < length list) × HoldsAt (λ a. find (λ t. is_at_client client t.place) (map live_of list) ≡ Some (live_of a)) list i)
      → IfSome r (λ i. i < length live) × MatchOption r (attached W client ≡ None) (HoldsAt (IsHere W client) live)
  place_here client list None same is = (tt, attached_none client list same is)
  place_here client list (Some i) same is =
      let inside : i < length live = subst (λ (l : List Attached). i < length l) same is.0 in
      (inside, λ d. record { here = attached_some client list i d same (is.1 d); tx = is_tx i d inside; active = is_active i d inside })

  -- who is under a label
  pub held_none : (text : List ℕ) (list : List Attached) → list ≡ live → find (λ t. is_under_label text t.place) (map live_of list) ≡ None → held W text ≡ None
  held_none text list same is =
      ap (λ (l : List Live). find (λ t. is_under_label text t.place) l) (sym of.live_are)
      ∙ ap (λ (l : List Attached). find (λ t. is_under_label text t.place) (map live_of l)) (sym same) ∙ is

  pub held_some : (text : List ℕ) (list : List Attached) (i : ℕ) (d : Attached) → list ≡ live → find (λ t. is_under_label text t.place) (map live_of list) ≡ Some (live_of (get_or list i d))
      → held W text ≡ Some (live_of (get_or live i d))
  held_some text list i d same is =
      ap (λ (l : List Live). find (λ t. is_under_label text t.place) l) (sym of.live_are)
      ∙ ap (λ (l : List Attached). find (λ t. is_under_label text t.place) (map live_of l)) (sym same) ∙ is ∙ ap (λ (l : List Attached). Some (live_of (get_or l i d))) same

-- the one at the place of a client's, and its work
pub at_place : (W : World) (client : ℕ) (live : List Attached) (i : ℕ) {d : Attached} {work : Doing} → HoldsAt (IsHere W client) live i → d ≡ get_or live i d → work ≡ d.work.value → IsHere W client d × IsActive W (live_of d) work
at_place W client live i {d = d} here is_at value =
    let h : IsHere W client d = subst (IsHere W client) (sym is_at) (here d) in
    (h, subst (IsActive W (live_of d)) (sym value) h.active)

-- an access leads to a sound world
pub act_leads : (W : World) (c : ℕ) (t : Live) (o : Op) → IsWorld W → IsOp o → attached W c ≡ Some t → IsWorld (act_step W t o).1
unfolding step
act_leads W c t (op.Begin m) is isop here = is
act_leads W c t op.End is isop here = is
act_leads W c t op.Abort is isop here = is
act_leads W c t (op.Put block off bytes) is isop here = subst (λ (o : Option Live). IsWorld (in_transaction W o (λ t. act_step W t (op.Put block off bytes))).1) here (step_leads W c (op.Put block off bytes) is isop).world
act_leads W c t (op.Read block) is isop here = subst (λ (o : Option Live). IsWorld (in_transaction W o (λ t. act_step W t (op.Read block))).1) here (step_leads W c (op.Read block) is isop).world
act_leads W c t (op.Get block off len) is isop here = subst (λ (o : Option Live). IsWorld (in_transaction W o (λ t. act_step W t (op.Get block off len))).1) here (step_leads W c (op.Get block off len) is isop).world
act_leads W c t (op.Write block bytes) is isop here = subst (λ (o : Option Live). IsWorld (in_transaction W o (λ t. act_step W t (op.Write block bytes))).1) here (step_leads W c (op.Write block bytes) is isop).world
act_leads W c t (op.Fill block bytes) is isop here = subst (λ (o : Option Live). IsWorld (in_transaction W o (λ t. act_step W t (op.Fill block bytes))).1) here (step_leads W c (op.Fill block bytes) is isop).world
act_leads W c t (op.Mark off len) is isop here = subst (λ (o : Option Live). IsWorld (in_transaction W o (λ t. act_step W t (op.Mark off len))).1) here (step_leads W c (op.Mark off len) is isop).world
act_leads W c t (op.Release text) is isop here = is
act_leads W c t (op.Takeover text) is isop here = is
act_leads W c t (op.Await text) is isop here = is
act_leads W c t (op.Group texts) is isop here = is
act_leads W c t op.Trim is isop here = is
act_leads W c t op.Stat is isop here = is
act_leads W c t op.Compact is isop here = is
act_leads W c t op.Upgrade is isop here = is
act_leads W c t (op.HashPut key value) is isop here = is
act_leads W c t (op.HashGet key) is isop here = is
act_leads W c t (op.HashDelete key) is isop here = is
act_leads W c t (op.TreePut key value) is isop here = is
act_leads W c t (op.TreeGet key) is isop here = is
act_leads W c t (op.TreeDelete key) is isop here = is
act_leads W c t (op.TreeScan from to most) is isop here = is
act_leads W c t (op.FileNew name) is isop here = is
act_leads W c t (op.FileWrite name off bytes) is isop here = is
act_leads W c t (op.FileRead name off len) is isop here = is
act_leads W c t (op.FileMove from to) is isop here = is
act_leads W c t (op.FileDelete name) is isop here = is

-- a release and a takeover, by who is where
pub release_is : (W : World) (c : ℕ) (text : List ℕ) (o p : Option Live) → attached W c ≡ o → held W text ≡ p → step W c (op.Release text) ≡ in_transaction W o (λ t. release_step W t text p)
unfolding step
release_is W c text o p here there = λ i. in_transaction W (here i) (λ t. release_step W t text (there i))

pub takeover_is : (W : World) (c : ℕ) (text : List ℕ) (o p : Option Live) → attached W c ≡ o → held W text ≡ p → step W c (op.Takeover text) ≡ out_of_transaction W o (takeover_step W c p)
unfolding step
takeover_is W c text o p here there = λ i. out_of_transaction W (here i) (takeover_step W c (there i))
