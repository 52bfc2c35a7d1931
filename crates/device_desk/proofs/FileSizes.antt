-- The size of a file: two calls, one after the other.
use Rattle.iso_machine.proofs.{Words.{◌≡◌, ◌≢◌, ◌∙◌, inl, inr, sym, refl, ap, subst, ⊎_elim, ℕ, ◌+◌, ◌==◌, Bool, true, false, cond, List, Option, Some, None, Result, Ok, Err, IfOk, IsSome, OnOk, map, arith, eq-eqb, ne_eqb, option_map, DiskState, LeavesOnly, weakened, last, Shows, Reply, ShowsEither, ShowsLast, World, Live, Doing, Geometry, FileAreas, FsRegion, Access, Stop, attached, in_transaction, step, get_step, access_step, with_access, get_access, shown_to, is_outside, length, with_live, without_accesses, Always, Answers, AnswersTold, IsActive, IsWorkedTo, IsStored, store_act, MAX_ACCESSES, nat_le, drop, take}, Accesses.get_is, Asked.store_so, Lists.accesses_apart, Told.{store_keeps, told_as}}
use Rattle.counts.specs.Count.{Rose}
use Rattle.iso_disk.proofs.Moments.{joined}
use Rattle.script_model.specs.FilesArea.{file_blocks, files_area}
use Rattle.script_model.specs.declared.script.Op.TheVariants as op
use Rattle.script_model.specs.declared.script.Reply.TheVariants as reply
use Rattle.script_runner.specs.Stopped.{SameButAccesses}
use Rattle.store_calls.specs.Calls.{placed}
use Rattle.store_model.specs.FileNodes.{is_number, number_of}
use Rattle.device_desk.specs.{declared.table.Table.Table, Device.{Device, StandsAt}, Seats.IsTableOf, Sizes.{Sized, StandsBeside, head_step, looked, looked_step, size_step, value_step}}
use Rattle.device_desk.proofs.Devices.{replied, stopped}

-- THE HISTORY STAYS
pub record Keeps (W V : World) : Type 0 where
  pub history : V.history ≡ W.history
  pub geometry : V.geometry ≡ W.geometry

pub keeps_same : (W : World) → Keeps W W
keeps_same W = record { history = refl; geometry = refl }

pub keeps_both : {W V U : World} → Keeps W V → Keeps V U → Keeps W U
keeps_both first second = record { history = second.history ∙ first.history; geometry = second.geometry ∙ first.geometry }

pub keeps_shown : {W V : World} → Keeps W V → (c : List ℕ) → ShowsLast V c → ShowsLast W c
keeps_shown {W = W} {V = V} keeps c shown =
    subst (λ h. Shows c W.geometry h (last h)) keeps.history (subst (λ (g : Geometry). Shows c g V.history (last V.history)) keeps.geometry shown)

access_keeps : (W : World) (t : Live) (block : ℕ) (wrong : Bool) (answer : Reply) (a : Access) → Keeps W (access_step W t block wrong answer a).1
access_keeps W t block wrong answer a = go (nat_le W.geometry.blocks block) wrong (nat_le MAX_ACCESSES (length t.accesses))
  where
    go : (outside wrong many : Bool)
        → Keeps W (cond {A = Reply × World} outside (reply.BadBlock, W) (cond wrong (reply.BadRange, W) (cond many (reply.TooManyAccesses, W) (answer, with_access W t a)))).1
    go true wrong many = keeps_same W
    go false true many = keeps_same W
    go false false true = keeps_same W
    go false false false = record { history = refl; geometry = refl }

pub step_get : (W : World) (number block off len : ℕ) → in_transaction W (attached W number) (λ t. get_step W t block off len) ≡ step W number (op.Get block off len)
unfolding step
step_get W number block off len = refl

get_keeps : (W : World) (number block off len : ℕ) → Keeps W (step W number (op.Get block off len)).1
get_keeps W number block off len = subst (λ (x : Reply × World). Keeps W x.1) (step_get W number block off len) (on (attached W number))
  where
    on : (o : Option Live) → Keeps W (in_transaction W o (λ t. get_step W t block off len)).1
    on None = keeps_same W
    on (Some t) =
        subst (λ (x : Reply × World). Keeps W x.1) (sym (get_is W t block off len))
        (access_keeps W t block (is_outside W.geometry.block off len) (reply.Shown (take len (drop off (shown_to W t block)))) (get_access block off len))

pub step_tree_get : (W : World) (number : ℕ) (name : List ℕ) → in_transaction W (attached W number) (λ t. store_act W t (op.TreeGet name)) ≡ step W number (op.TreeGet name)
step_tree_get W number name = (store_so W number (op.TreeGet name) (inr (inr (inr (inr (inl (name, refl))))))).0

pub stored_keeps : (W : World) (number : ℕ) (name : List ℕ) → Keeps W (in_transaction W (attached W number) (λ t. store_act W t (op.TreeGet name))).1
stored_keeps W number name = on (attached W number)
  where
    on : (o : Option Live) → Keeps W (in_transaction W o (λ t. store_act W t (op.TreeGet name))).1
    on None = keeps_same W
    on (Some t) = let keeps = store_keeps W t (op.TreeGet name) in record { history = keeps.0; geometry = keeps.1 }

tree_get_keeps : (W : World) (number : ℕ) (name : List ℕ) → Keeps W (step W number (op.TreeGet name)).1
tree_get_keeps W number name = subst (λ (x : Reply × World). Keeps W x.1) (step_tree_get W number name) (stored_keeps W number name)

value_keeps : (W : World) (number : ℕ) (value : List ℕ) → Keeps W (value_step W number value).1
value_keeps W number value = go (is_number (files_area W.geometry).files value)
  where
    go : (b : Bool) → Keeps W (cond {A = Reply × World} b (head_step W number ((files_area W.geometry).files.start + number_of value)) (reply.Broken (files_area W.geometry).tree.start, W)).1
    go true = get_keeps W number ((files_area W.geometry).files.start + number_of value) 0 8
    go false = keeps_same W

pub looked_keeps : (number : ℕ) (found : Result (List ℕ) Reply) (W : World) → Keeps W (looked_step number found W).1
looked_keeps number (Ok value) W = value_keeps W number value
looked_keeps number (Err r) W = keeps_same W

-- WHERE THE SIZE IS ASKED FOR
module _ (W : World) (number : ℕ) (name : List ℕ) where
  abbrev got : Reply × World
  got = step W number (op.TreeGet name)

  abbrev behind : Bool → Reply × World
  behind none = cond none (reply.NoStore, W) (looked_step number (looked got.0) got.1)

  pub nobody : attached W number ≡ None → size_step W number name ≡ (reply.NotInTx, W)
  nobody none = ap (λ (o : Option Live). in_transaction W o (λ t. behind (file_blocks W.geometry == 0))) none

  pub no_files : {t : Live} → attached W number ≡ Some t → file_blocks W.geometry ≡ 0 → size_step W number name ≡ (reply.NoStore, W)
  no_files here none = ap (λ (o : Option Live). in_transaction W o (λ t. behind (file_blocks W.geometry == 0))) here ∙ ap behind (eq-eqb (file_blocks W.geometry) 0 none)

  pub asked : {t : Live} → attached W number ≡ Some t → file_blocks W.geometry ≢ 0 → size_step W number name ≡ looked_step number (looked got.0) got.1
  asked here some = ap (λ (o : Option Live). in_transaction W o (λ t. behind (file_blocks W.geometry == 0))) here ∙ ap behind (ne_eqb (file_blocks W.geometry) 0 some)

pub size_keeps : (W : World) (number : ℕ) (name : List ℕ) → Keeps W (size_step W number name).1
size_keeps W number name = on (attached W number)
  where
    go : (b : Bool) → Keeps W (behind W number name b).1
    go true = keeps_same W
    go false = keeps_both (tree_get_keeps W number name) (looked_keeps number (looked (got W number name).0) (got W number name).1)

    on : (o : Option Live) → Keeps W (in_transaction W o (λ t. behind W number name (file_blocks W.geometry == 0))).1
    on None = keeps_same W
    on (Some t) = go (file_blocks W.geometry == 0)

pub none_there : (f : Live → ℕ) (o : Option Live) → None ≡ option_map f o → o ≡ None
none_there f None same = refl
none_there f (Some t) same = absurd (cc same)

pub some_there : (f : Live → ℕ) (n : ℕ) (o : Option Live) → Some n ≡ option_map f o → (t : Live) × (o ≡ Some t)
some_there f n None same = absurd (cc same)
some_there f n (Some t) same = (t, refl)

-- how many blocks the files have
pub blocks_are : (W : World) (g : Geometry) (at : FsRegion) → g ≡ W.geometry → placed g.block at ≡ files_area g → at.files.size ≡ file_blocks W.geometry
blocks_are W g at same is = ap (λ (a : FileAreas). a.files.blocks) is ∙ ap file_blocks same

-- THE FIRST CALL
-- a call of a store leaves its transaction with other accesses
module _ (stands : World → Type 0) (d : DiskState) {W : World} {t : Live} {old work : Doing} (given : Reply × World) where
  pub beside : IsActive W t old → (result : Result Reply Stop) → IfOk result (IsStored d W t given work) → ((V : World) → IsWorkedTo W t V work → stands V) → OnOk result (StandsBeside stands d W given.1)
  beside active (Ok r) is world = record {
    world = is.world;
    is = world is.world is.worked;
    known = is.told;
    same = subst (λ (V : World). SameButAccesses V W) (sym is.worked.world)
        (record { live = accesses_apart t (record t { accesses = work.accesses }) W.live refl ∙ ap (map without_accesses) active.here; rest = refl });
  }
  beside active (Err why) is world = tt

-- THE SECOND CALL
module _ {stands : World → Type 0} {old new : DiskState} {W : World} {given : Reply × World} (f : Reply → Reply) where
  formed_as : (r : Reply) → Answers Always stands old new W given (Ok r) → AnswersTold Always stands old new W (f given.0, given.1) ⊥ (Ok (f r))
  formed_as r is = record {
    reply = λ told. ap f (is.reply told);
    but_shown = λ call. absurd call;
    told = is.told;
    world = record { world = given.1; is = is.world; known = λ how. refl; history = refl; geometry = refl };
    moments = is.moments;
    unmade = λ e. absurd (cc e);
    up = λ e. absurd (cc e);
    cause = record { later = is.cause.later; failed = λ e. absurd (cc e); passed = is.cause.passed; memory = λ e. absurd (cc e) };
    stopped = tt;
  }

  -- a reply that is told in another form
  pub formed : {other : Reply × World} (r s : Reply) → s ≡ f r → (f given.0, given.1) ≡ other → Answers Always stands old new W given (Ok r) → AnswersTold Always stands old new W other ⊥ (Ok s)
  formed {other = other} r s is same answer = subst (λ (x : Reply). AnswersTold Always stands old new W other ⊥ (Ok x)) (sym is) (told_as same (formed_as r answer))

  pub unformed : (why : Stop) → Answers Always stands old new W given (Err why) → AnswersTold Always stands old new W (f given.0, given.1) ⊥ (Err why)
  unformed why is = record {
    reply = tt;
    but_shown = λ call. tt;
    told = tt;
    world = tt;
    moments = is.moments;
    unmade = is.unmade;
    up = is.up;
    cause = is.cause;
    stopped = λ may. record { world = W; is = is.stopped may; same = record { live = refl; rest = refl }; whole = λ call. absurd call };
  }

-- where a value leads
module _ (W : World) (g : Geometry) (at : FsRegion) (number : ℕ) (value : List ℕ) (same : g ≡ W.geometry) (is : placed g.block at ≡ files_area g) where
  there : placed g.block at ≡ files_area W.geometry
  there = is ∙ ap files_area same

  pub leads_nowhere : is_number (placed g.block at).files value ≡ false → value_step W number value ≡ (reply.Broken at.tree.start, W)
  leads_nowhere none =
      (λ i. cond (is_number (sym there i).files value) (head_step W number ((sym there i).files.start + number_of value)) (reply.Broken (sym there i).tree.start, W))
      ∙ ap (λ (b : Bool). cond {A = Reply × World} b (head_step W number (at.files.start + number_of value)) (reply.Broken at.tree.start, W)) none

  pub leads_to : (block : ℕ) → is_number (placed g.block at).files value ≡ true → block ≡ at.files.start + number_of value → value_step W number value ≡ head_step W number block
  leads_to block some at_block =
      (λ i. cond (is_number (sym there i).files value) (head_step W number ((sym there i).files.start + number_of value)) (reply.Broken (sym there i).tree.start, W))
      ∙ ap (λ (b : Bool). cond {A = Reply × World} b (head_step W number (at.files.start + number_of value)) (reply.Broken at.tree.start, W)) some
      ∙ ap (head_step W number) (sym at_block)

-- BOTH
same_both : {U V W : World} → SameButAccesses U V → SameButAccesses V W → SameButAccesses U W
same_both {W = W} first second = record { live = first.live ∙ second.live; rest = ap (λ (X : World). with_live X W.live) first.rest ∙ second.rest }

beside_keeps : {middle : World → Type 0} {d : DiskState} {W given : World} (b : StandsBeside middle d W given) → Keeps W b.world
beside_keeps b = record { history = ap (λ (X : World). X.history) b.same.rest; geometry = ap (λ (X : World). X.geometry) b.same.rest }

-- no moment shows another commit
shows_still : {old new : DiskState} {W V U : World} → Keeps W V → Keeps W U → LeavesOnly old new (ShowsEither V U) → LeavesOnly old new (ShowsLast W)
shows_still first second moments = weakened moments (λ c image. ⊎_elim (keeps_shown first c) (keeps_shown second c) image)

module _ {middle stands : World → Type 0} {old mid new : DiskState} {W : World} {first given next : Reply × World} {r : Reply} (was : AnswersTold Always middle old mid W first ⊥ (Ok r)) (b : StandsBeside middle old W first.1)
    (same : IsSome old.contents → next ≡ given) (first_keeps : Keeps W first.1) (given_keeps : Keeps W given.1) (next_keeps : Keeps b.world next.1) where
  pub one_after_other : (result : Result Reply Stop) → AnswersTold Always stands mid new b.world next ⊥ result → AnswersTold Always stands old new W given ⊥ result
  one_after_other (Ok s) is = record {
    reply = λ told. is.reply (was.told told) ∙ ap (λ (x : Reply × World). x.0) (same told);
    but_shown = λ call. absurd call;
    told = λ told. is.told (was.told told);
    world = record {
      world = is.world.world;
      is = is.world.is;
      known = λ how. ⊎_elim (λ told. is.world.known (inl (was.told told)) ∙ ap (λ (x : Reply × World). x.1) (same told)) (λ call. absurd call) how;
      history = is.world.history ∙ next_keeps.history ∙ (beside_keeps b).history ∙ sym given_keeps.history;
      geometry = is.world.geometry ∙ next_keeps.geometry ∙ (beside_keeps b).geometry ∙ sym given_keeps.geometry;
    };
    moments = weakened (joined (shows_still (keeps_same W) first_keeps was.moments) (shows_still (beside_keeps b) (keeps_both (beside_keeps b) next_keeps) is.moments)) (λ c shown. inl shown);
    unmade = λ e. absurd (cc e);
    up = λ e. absurd (cc e);
    cause = record { later = omega (arith, was.cause.passed, is.cause.later); failed = λ e. absurd (cc e); passed = is.cause.passed ∙ was.cause.passed; memory = λ e. absurd (cc e) };
    stopped = tt;
  }
  one_after_other (Err why) is = record {
    reply = tt;
    but_shown = λ call. tt;
    told = tt;
    world = tt;
    moments = weakened (joined (shows_still (keeps_same W) first_keeps was.moments) (shows_still (beside_keeps b) (keeps_both (beside_keeps b) next_keeps) is.moments)) (λ c shown. inl shown);
    unmade = λ e. joined (shows_still (keeps_same W) first_keeps was.moments) (weakened (is.unmade e) (λ c shown. keeps_shown (beside_keeps b) c shown));
    up = is.up;
    cause = record {
      later = omega (arith, was.cause.passed, is.cause.later);
      failed = λ e. subst (λ (n : ℕ). Rose n new.faults) was.cause.passed (is.cause.failed e);
      passed = tt;
      memory = λ e. is.cause.memory e ∙ was.cause.passed;
    };
    stopped = λ may. let still = is.stopped may in record { world = still.world; is = still.is; same = same_both still.same b.same; whole = λ call. absurd call };
  }

-- the first call stopped
pub first_stopped : {stands : World → Type 0} {old new : DiskState} {W : World} {first given : Reply × World} {why : Stop} → Keeps W first.1
    → AnswersTold Always stands old new W first ⊥ (Err why) → AnswersTold Always stands old new W given ⊥ (Err why)
first_stopped first_keeps is = record {
  reply = tt;
  but_shown = λ call. tt;
  told = tt;
  world = tt;
  moments = weakened is.moments (λ c image. inl (⊎_elim (λ shown. shown) (keeps_shown first_keeps c) image));
  unmade = is.unmade;
  up = is.up;
  cause = is.cause;
  stopped = is.stopped;
}

-- what a table answers is what its desk answers
module _ {D : Type 0} {state : D → DiskState} where
  pub sized_on : {table : Table D} {up : Bool} {old new : DiskState} {W : World} {given : Reply × World} (result : Result Reply Stop) → up ≡ true → AnswersTold Always (IsTableOf state table) old new W given ⊥ result
      → AnswersTold Always (StandsAt state (record { table = table; up = up })) old new W given ⊥ result
  sized_on (Ok r) on is = replied on is
  sized_on (Err why) on is = stopped (λ may. on) is

  -- and the world after it
  pub sized_world : (table : Table D) {old new : DiskState} {W : World} {given : Reply × World} (result : Result Reply Stop) → AnswersTold Always (IsTableOf state table) old new W given ⊥ result → (V : World) × IsTableOf state table V
  sized_world table (Ok r) is = (is.world.world, is.world.is)
  sized_world table (Err why) is = let still = is.stopped tt in (still.world, still.is)

  pub sized_from : {table : Table D} {up : Bool} {d new : Device D} {result : Result Reply Stop} → record { table = table; up = up } ≡ d → (number : ℕ) (key name : List ℕ) → key ≡ name
      → ((W : World) → StandsAt state (record { table = table; up = up }) W → Sized state (record { table = table; up = up }) new W number key result) → (W : World) → StandsAt state d W → Sized state d new W number name result
  sized_from {d = d} {new = new} {result = result} view number key name same did =
      subst (λ (b : List ℕ). (W : World) → StandsAt state d W → Sized state d new W number b result) same
      (subst (λ (e : Device D). (W : World) → StandsAt state e W → Sized state e new W number key result) view did)
