-- What an operation on a store makes of the world.
use Rattle.iso_machine.proofs.{Words.{◌≡◌, ◌≢◌, ◌∙◌, sym, refl, ap, subst, ℕ, ◌+◌, ◌-◌, ◌≤◌, ◌==◌, Bool, true, false, cond, List, ◌++◌, length, Option, Some, None, Result, Ok, Err, IfOk, option_map, arith, DiskState, IsLawful, Access, Serial, Snapshot, Op, Reply, FileAreas, FsRegion, own, array_at, MAX_ACCESSES, array_of, in_store, with_accesses, World, Live, Core, IsTx, StandsFor, disk_of, up, IsSameWork, tx_of, array_in, array_told, array_shown, Doing, Tx, Stop, IfTold, IsActive, IsGiven, HasCalled, AreStoreAreas, is_empty_scan, store_areas, store_blocks, store_ended, store_areas_fit, store_areas_are, IsStored, store_act}, Accesses.{has_worked, refused}}
use Rattle.std.{specs.Prelude.IsSome, proofs.lemmas.Bool.{eq-eqb, ne_eqb}}
use Rattle.script_model.specs.declared.script.Reply.TheVariants as reply
use Rattle.store_calls.specs.Calls.{placed}

no_store : (W : World) (t : Live) (blocks : ℕ) (result : Reply × World) → blocks ≡ 0 → in_store W t blocks result ≡ (reply.NoStore, W)
no_store W t blocks result e = let none : (blocks == 0) ≡ true = eq-eqb blocks 0 e in rw none refl

no_serial : (W : World) (t : Live) (blocks : ℕ) (result : Reply × World) → blocks ≢ 0 → t.mode ≡ Snapshot → in_store W t blocks result ≡ (reply.StoreMode, W)
no_serial W t blocks result some mode = let there : (blocks == 0) ≡ false = ne_eqb blocks 0 some in rw (there, mode) refl

there_is : (W : World) (t : Live) (blocks : ℕ) (result : Reply × World) → blocks ≢ 0 → t.mode ≡ Serial → in_store W t blocks result ≡ result
there_is W t blocks result some mode = let there : (blocks == 0) ≡ false = ne_eqb blocks 0 some in rw (there, mode) refl

told_array : {X : Type 0} (o : Option (List ℕ)) (f : List ℕ → X) → IsSome o → (x : X) × (option_map f o ≡ Some x)
told_array None f some = absurd (cc some)
told_array (Some c) f some = (f c, refl)

module _ {D : Type 0} (state : D → DiskState) (core : Core D) (tx : ℕ) (old : Doing) (op : Op) (W : World) (t : Live) (laws : IsLawful (state (disk_of core))) (of : StandsFor state core W up)
    (here : IsTx W tx t) (active : IsActive W t old) (few : length old.accesses ≤ 4096) where
  -- what a call ends with, in these areas
  abbrev ended : FileAreas → List Access × Reply
  ended a = store_ended a op (MAX_ACCESSES - length t.accesses) (array_of W t)

  stay : (r : Reply) → store_act W t op ≡ (r, W) → IsStored (state (disk_of core)) W t (store_act W t op) old r
  stay r is =
      let given : IsGiven W t (store_act W t op) old r = refused W t old active (store_act W t op) r is in
      record { reply = λ told. given.reply; world = (store_act W t op).1; worked = given.worked; told = λ told. refl }

  -- where the operation's store is
  module _ (at : FsRegion) (regions : placed W.geometry.block at ≡ store_areas W.geometry op) where
    abbrev size : ℕ
    size = at.files.size

    abbrev areas : FileAreas
    areas = placed old.size at

    blocks_are : size ≡ store_blocks W.geometry op
    blocks_are = ap (λ (a : FileAreas). a.files.blocks) regions

    areas_are : areas ≡ store_areas W.geometry op
    areas_are = (λ i. placed (active.is_work.size i) at) ∙ regions

    pub without_store : size ≡ 0 → IsStored (state (disk_of core)) W t (store_act W t op) old reply.NoStore
    without_store none = stay reply.NoStore (no_store W t (store_blocks W.geometry op) _ (sym blocks_are ∙ none))

    pub without_mode : size ≢ 0 → old.mode ≡ Snapshot → IsStored (state (disk_of core)) W t (store_act W t op) old reply.StoreMode
    without_mode some mode = stay reply.StoreMode (no_serial W t (store_blocks W.geometry op) _ (λ e. some (blocks_are ∙ e)) (sym active.is_work.mode ∙ mode))

    -- what the rules answer where the store is there
    act_is : size ≢ 0 → old.mode ≡ Serial → (empty : Bool) → is_empty_scan op ≡ empty → store_act W t op ≡ cond empty (reply.BadRange, W) ((ended areas).1, with_accesses W t (t.accesses ++ (ended areas).0))
    act_is some mode empty is =
        there_is W t (store_blocks W.geometry op) _ (λ e. some (blocks_are ∙ e)) (sym active.is_work.mode ∙ mode)
        ∙ (λ i. cond (is i) (reply.BadRange, W) ((ended (sym areas_are i)).1, with_accesses W t (t.accesses ++ (ended (sym areas_are i)).0)))

    pub without_pairs : size ≢ 0 → old.mode ≡ Serial → is_empty_scan op ≡ true → IsStored (state (disk_of core)) W t (store_act W t op) old reply.BadRange
    without_pairs some mode empty = stay reply.BadRange (act_is some mode true empty)

    pub may_store : size ≢ 0 → AreStoreAreas op areas
    may_store some = subst (AreStoreAreas op) (sym areas_are) (store_areas_are W.geometry op of.kept_of.world.valid (λ e. some (blocks_are ∙ e)))

    pub store_fits : at.files.start + size ≤ old.blocks
    store_fits = omega (arith, ap (λ (a : FileAreas). a.files.start) regions, blocks_are, active.is_work.blocks, store_areas_fit W.geometry op of.kept_of.world.valid)

    -- the store was called
    pub stored : (new : Doing) (r : Reply) → size ≢ 0 → old.mode ≡ Serial → is_empty_scan op ≡ false → IsSameWork old new
        → HasCalled (store_ended areas op) (tx_of (array_told state core old.begin) old) (tx_of (array_told state core old.begin) new) (Ok r)
        → IsStored (state (disk_of core)) W t (store_act W t op) new r
    stored new r some mode full same called =
        let made : new.accesses ≡ t.accesses ++ called.done = ap (λ (v : Tx). v.accesses) called.is ∙ ap (λ (l : List Access). l ++ called.done) active.is_work.accesses in
        let is_ended : IfTold (state (disk_of core)) (ended areas ≡ (called.done, r)) =
        λ told.
        let array = told_array (state (disk_of core)).contents (array_in core.kept old.begin) told in
        let shown : array.0 ≡ array_at W.history t.begin = array_shown state core tx old W t laws of here active.is_work array.0 array.1 in
        sym (λ i. store_ended areas op (4096 - length (active.is_work.accesses i)) (own (shown i) (active.is_work.accesses i))) ∙ called.told array.0 array.1 in
        let given : IfTold (state (disk_of core)) (store_act W t op ≡ (r, with_accesses W t (t.accesses ++ called.done))) =
        λ told. act_is some mode false full ∙ ap (λ (e : List Access × Reply). let x : Reply × World = (e.1, with_accesses W t (t.accesses ++ e.0)) in x) (is_ended told) in
        record {
          reply = λ told. sym (ap (λ (x : Reply × World). x.0) (given told));
          world = with_accesses W t new.accesses;
          worked = has_worked active same;
          told = λ told. ap (λ (l : List Access). with_accesses W t l) made ∙ sym (ap (λ (x : Reply × World). x.1) (given told));
        }

    pub stored_if : (new : Doing) (r : Result Reply Stop) → size ≢ 0 → old.mode ≡ Serial → is_empty_scan op ≡ false → IsSameWork old new
        → HasCalled (store_ended areas op) (tx_of (array_told state core old.begin) old) (tx_of (array_told state core old.begin) new) r
        → IfOk r (IsStored (state (disk_of core)) W t (store_act W t op) new)
    stored_if new (Ok r) some mode full same called = stored new r some mode full same called
    stored_if new (Err e) some mode full same called = tt
