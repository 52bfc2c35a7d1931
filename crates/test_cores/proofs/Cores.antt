-- A core of the tests in which one transaction began and did something.
use Rattle.std.{proofs.Common.{◌≡◌, ◌≢◌, ◌∙◌, sym, refl, ap, subst, inl, ℕ, ◌+◌, ◌<◌, ◌≤◌, Bool, true, false, cond, ◌==◌, ◌&&◌, not, List, [], ◌∷◌, ◌++◌, length, map, None, arith, nat_lt, nat_le}, specs.List.AllByRecursion}
use Rattle.conflict_rule.{proofs.Clashing.none_behind, specs.Decision.up_to}
use Rattle.iso_core.{proofs.Standings.{kept_live, stands_on}, specs.{Calls.{IsCheckedOf, IsTx, IsWorkOf}, Core.StandsFor, Kept.bare, Standing.{Standing, up}, declared.core_itself.Core.Core}}
use Rattle.iso_disk.specs.Disk.{DiskState}
use Rattle.iso_model.{proofs.Worlds.with_lives, specs.{Conflict.clash, Geometry.same_mode, History.{History, last}, Premises.{AreAccesses, AreBytes, IsAccess}, Step.{after_begin, begin_step, with_live, write_access}, World.{Live, World, floor_of, unattached}, Worlds.{AreDistinct, IsLive}, declared.access.{Access.Access, Geometry.Geometry, Mode.Mode}, declared.core_reply.CoreReply.CoreReply, declared.limits.TheConstants.{LAST, MAX_ACCESSES, MAX_LIVE}}}
use Rattle.iso_model.specs.declared.core_reply.CoreReply.TheVariants as reply
use Rattle.tx_table.specs.Work.{Doing}
use Rattle.test_cores.specs.Cores.{HasDone}

-- the transaction that began, with what it did
abbrev pub working : World → Mode → List Access → Live
working W mode accesses = record { number = W.next; begin = last W.history; mode = mode; accesses = accesses; place = unattached }

-- the world in which it alone is live
abbrev pub worked : World → Mode → List Access → World
worked W mode accesses = with_live (after_begin W unattached mode) (working W mode accesses ∷ [])

-- a core that represents a world represents it with other transactions that began as those did
pub stands_with : {D : Type 0} (state : D → DiskState) (core : Core D) (V : World) (was now : List Live) → StandsFor state core V up → V.live ≡ was → map bare was ≡ map bare now
    → floor_of (last V.history) was ≤ floor_of (last V.history) now → AllByRecursion (IsLive (with_live V now)) now → AreDistinct now → length now ≤ MAX_LIVE → StandsFor state core (with_live V now) up
stands_with state core V was now of are same floors live distinct count =
    let world = of.kept_of.world in
    let old = of.kept_of.keeps in
    stands_on (state core.disk) core.kept core.kept V up now V.next V.trim of refl refl (kept_live core.kept V core.kept.live core.kept.next V.next now of.kept_of
    (with_lives V now V.next world live distinct count world.next) (record {
      from = old.notes.from;
      before = (let least = subst (λ (l : List Live). old.notes.from ≤ floor_of (last V.history) l) are old.notes.before in omega arith);
      notes = old.notes.notes;
    }) old.next (old.live ∙ ap (map bare) are ∙ same))

-- what was done is the work of a transaction
pub is_work : (V W : World) (t : Live) (g : Geometry) (at : ℕ) (work : Doing) → g ≡ W.geometry → V.geometry ≡ W.geometry → at ≡ t.begin → t.mode ≡ W.geometry.mode → t.accesses ≡ work.accesses → HasDone g at work → IsWorkOf V t work
is_work V W t g at work same kept begin mode accesses did = record {
  begin = did.begin ∙ begin;
  mode = did.mode ∙ ap (λ (g : Geometry). g.mode) same ∙ sym mode;
  size = did.size ∙ ap (λ (g : Geometry). g.block) (same ∙ sym kept);
  blocks = did.blocks ∙ ap (λ (g : Geometry). g.blocks) (same ∙ sym kept);
  accesses = sym accesses;
}

-- no commit is above the last one
is_checked : (W : World) (mode : Mode) (accesses : List Access) (upto : ℕ) → upto ≡ last W.history
    → IsCheckedOf (worked W mode accesses) (working W mode accesses) (record { upto = upto; clash = None })
is_checked W mode accesses upto is = record {
  from = omega (arith, is);
  to = omega (arith, is);
  clash = subst (λ (n : ℕ). None ≡ clash W.geometry (up_to W.history upto) mode n accesses) is (none_behind W.geometry W.history mode accesses upto);
}

-- a begin that is not refused is at the last commit
begun_by : (test : Bool) (W : World) (refusal : CoreReply) (next : CoreReply × World) (n : ℕ) → refusal ≢ reply.Began n → (cond test (refusal, W) next).0 ≡ reply.Began n → next.0 ≡ reply.Began n
begun_by true W refusal next n other is = absurd (other is)
begun_by false W refusal next n other is = is

pub began_at : (W : World) (mode : Mode) (n : ℕ) → (begin_step W unattached mode).0 ≡ reply.Began n → n ≡ last W.history
unfolding begin_step
began_at W mode n is =
    let first = begun_by ((W.geometry.form == 1) && not (same_mode mode W.geometry.mode)) W reply.ModeFixed _ n (λ e. cc e) is in
    let second = begun_by (nat_le MAX_LIVE (length W.live)) W reply.TooManyTx _ n (λ e. cc e) first in
    let third : reply.Began (last W.history) ≡ reply.Began n = begun_by (nat_lt LAST W.next) W reply.Worn _ n (λ e. cc e) second in
    cc third

module _ {D : Type 0} (state : D → DiskState) (core : Core D) (W : World) (of : StandsFor state core (after_begin W unattached W.geometry.mode) up) (none : W.live ≡ []) where
  -- the transaction may end that did something
  pub may_end : (at tx : ℕ) (work : Doing) (g : Geometry) → g ≡ W.geometry → tx ≡ W.next → (begin_step W unattached W.geometry.mode).0 ≡ reply.Began at → HasDone g at work
      → (V : World) × (standing : Standing) × (t : Live) × StandsFor state core V standing × IsTx V tx t × IsWorkOf V t work × IsCheckedOf V t (record { upto = at; clash = None })
  may_end at tx work g same number began did =
      let mode = W.geometry.mode in
      let begin : at ≡ last W.history = began_at W mode at began in
      let V : World = worked W mode work.accesses in
      let t : Live = working W mode work.accesses in
      let are : W.live ++ working W mode [] ∷ [] ≡ working W mode [] ∷ [] = ap (λ (l : List Live). l ++ working W mode [] ∷ []) none in
      let was = (subst (λ (l : List Live). AllByRecursion (IsLive (after_begin W unattached mode)) l) are of.kept_of.world.live).0 in (
        V,
        up,
        t,
        stands_with state core (after_begin W unattached mode) (working W mode [] ∷ []) (t ∷ []) of are refl (omega arith)
            (record { accesses = subst (λ (g : Geometry). AreAccesses g work.accesses) same did.accesses; count = did.few; since = was.since; begin = was.begin; mode = was.mode; number = was.number; place = tt }, tt)
            (tt, tt) (omega arith),
        record { number = sym number; among = inl refl },
        is_work V W t g at work same refl begin refl refl did,
        is_checked W mode work.accesses at begin,
      )

-- ---- works

-- the write of a whole block
pub write_is : (g : Geometry) (block : ℕ) (bytes : List ℕ) → block < g.blocks → length bytes ≡ g.block → AreBytes bytes → IsAccess g (write_access block bytes)
write_is g block bytes inside size values = record {
  block = inside;
  spans = tt;
  few = omega arith;
  bytes = λ is. size;
  none = λ e. cc e;
  values = values;
}

-- the work of a transaction that made some accesses
pub has_done : (g : Geometry) (at : ℕ) (accesses : List Access) (work : Doing) → AreAccesses g accesses → length accesses ≤ MAX_ACCESSES
    → work ≡ record { begin = at; mode = g.mode; size = g.block; blocks = g.blocks; accesses = accesses; ready = None; settled = false } → HasDone g at work
has_done g at accesses work are few did = subst (HasDone g at) (sym did) (record { begin = refl; mode = refl; size = refl; blocks = refl; accesses = are; few = few })
