-- A core of the tests in which two transactions began and did something.
use Rattle.std.{proofs.Common.{◌≡◌, sym, refl, ap, subst, inl, inr, ℕ, ◌+◌, ◌<◌, ◌≤◌, List, [], ◌∷◌, ◌++◌, length, None, arith}, specs.List.AllByRecursion}
use Rattle.iso_core.specs.{Core.StandsFor, Planned.{AreEach, IsMember}, Standing.{Standing, up}, declared.core_itself.Core.Core, declared.group_end.GroupEnd.GroupEnd}
use Rattle.iso_disk.specs.Disk.{DiskState}
use Rattle.iso_model.specs.{History.last, Premises.{AreAccesses, IsAccess}, Step.{after_begin, begin_step, read_access, with_live}, World.{Live, World, unattached}, Worlds.IsLive, declared.access.{Access.Access, Geometry.Geometry, Mode.Mode}, declared.limits.TheConstants.MAX_ACCESSES}
use Rattle.iso_model.specs.declared.core_reply.CoreReply.TheVariants as reply
use Rattle.test_cores.{specs.Cores.HasDone, proofs.Cores.{began_at, is_work, stands_with, working}}

-- the world in which the two began
abbrev pub two_begun : World → Mode → World
two_begun W mode = after_begin (after_begin W unattached mode) unattached mode

-- the second one
abbrev pub second : World → Mode → List Access → Live
second W mode accesses = record { number = W.next + 1; begin = last W.history; mode = mode; accesses = accesses; place = unattached }

-- the world in which they alone are live
abbrev pub two_worked : World → Mode → (a b : List Access) → World
two_worked W mode a b = with_live (two_begun W mode) (working W mode a ∷ second W mode b ∷ [])

module _ {D : Type 0} (state : D → DiskState) (core : Core D) (W : World) (mode : Mode) (a b : List Access)
    (of : StandsFor state core (two_begun W mode) up) (none : W.live ≡ []) (first_accesses : AreAccesses W.geometry a) (second_accesses : AreAccesses W.geometry b)
    (first_few : length a ≤ MAX_ACCESSES) (second_few : length b ≤ MAX_ACCESSES) where
  are : (W.live ++ working W mode [] ∷ []) ++ second W mode [] ∷ [] ≡ working W mode [] ∷ second W mode [] ∷ []
  are = ap (λ (l : List Live). (l ++ working W mode [] ∷ []) ++ second W mode [] ∷ []) none

  pub two_work : StandsFor state core (two_worked W mode a b) up
  two_work =
      let were = subst (λ (l : List Live). AllByRecursion (IsLive (two_begun W mode)) l) are of.kept_of.world.live in
      let one = were.0 in
      let two = were.1.0 in
      stands_with state core (two_begun W mode) (working W mode [] ∷ second W mode [] ∷ []) (working W mode a ∷ second W mode b ∷ []) of are refl (omega arith) (
        record { accesses = first_accesses; count = first_few; since = one.since; begin = one.begin; mode = one.mode; number = one.number; place = tt },
        (record { accesses = second_accesses; count = second_few; since = two.since; begin = two.begin; mode = two.mode; number = two.number; place = tt }, tt),
      )
      ((record { numbers = λ e. absurd (omega (arith, e)); places = tt }, tt), (tt, tt)) (omega arith)

-- the two may end as a group
pub may_group : {D : Type 0} (state : D → DiskState) (core : Core D) (W : World) → StandsFor state core (two_begun W W.geometry.mode) up → W.live ≡ []
    → (g : Geometry) → g ≡ W.geometry → (m n : ℕ) → (begin_step W unattached W.geometry.mode).0 ≡ reply.Began m
    → (begin_step (after_begin W unattached W.geometry.mode) unattached W.geometry.mode).0 ≡ reply.Began n
    → (one two : GroupEnd) → one.tx ≡ W.next → two.tx ≡ W.next + 1 → one.reply ≡ None → two.reply ≡ None → HasDone g m one.work → HasDone g n two.work
    → (V : World) × (standing : Standing) × (members : List Live) × StandsFor state core V standing × AreEach (IsMember V) (one ∷ two ∷ []) members
may_group state core W of none g same m n began_one began_two one two first_tx second_tx no_first no_second did_one did_two =
    let mode = W.geometry.mode in
    let a = one.work.accesses in
    let b = two.work.accesses in
    let V : World = two_worked W mode a b in
    let t : Live = working W mode a in
    let u : Live = second W mode b in (
      V,
      up,
      t ∷ u ∷ [],
      two_work state core W mode a b of none (subst (λ (g : Geometry). AreAccesses g a) same did_one.accesses) (subst (λ (g : Geometry). AreAccesses g b) same did_two.accesses) did_one.few did_two.few,
      (
        record {
          here = record { number = sym first_tx; among = inl refl };
          work = is_work V W t g m one.work same refl (began_at W mode m began_one) refl refl did_one;
          none = no_first;
        },
        ((λ e. absurd (omega (arith, e))), tt),
        (
          record {
            here = record { number = sym second_tx; among = inr (inl refl) };
            work = is_work V W u g n two.work same refl (began_at (after_begin W unattached mode) mode n began_two) refl refl did_two;
            none = no_second;
          },
          tt,
          tt,
        ),
      ),
    )

-- the read of a whole block
pub read_is : (g : Geometry) (block : ℕ) → block < g.blocks → IsAccess g (read_access block)
read_is g block inside = record {
  block = inside;
  spans = tt;
  few = omega arith;
  bytes = λ e. cc e;
  none = λ is. refl;
  values = λ i. omega arith;
}
