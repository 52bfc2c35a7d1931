-- A core of the tests in which one transaction began, and one that is down.
use Rattle.std.proofs.Common.{◌≡◌, sym, refl, subst, inl, ℕ, ◌<◌, List, [], ◌∷◌, ◌++◌, length}
use Rattle.iso_core.specs.{Calls.{IsAmong, IsTx}, Core.StandsFor, Standing.{Standing, up, down}, declared.core_itself.Core.Core}
use Rattle.iso_disk.specs.Disk.{DiskState}
use Rattle.iso_model.specs.{Step.after_begin, World.{Live, World, unattached}, declared.access.Geometry.Geometry}
use Rattle.recover_tests.specs.Cores.{IsDown}
use Rattle.test_cores.proofs.Cores.{working}

-- the transaction may read
pub may_fetch : {D : Type 0} (state : D → DiskState) (core : Core D) (W : World) → StandsFor state core (after_begin W unattached W.geometry.mode) up → W.live ≡ []
    → (tx block : ℕ) (into : List ℕ) (g : Geometry) → g ≡ W.geometry → tx ≡ W.next → block < g.blocks → length into ≡ g.block
    → (V : World) × (standing : Standing) × (t : Live) × StandsFor state core V standing × IsTx V tx t × (block < V.geometry.blocks) × (length into ≡ V.geometry.block)
may_fetch state core W of none tx block into g same number inside size =
    let t = working W W.geometry.mode [] in (
      after_begin W unattached W.geometry.mode,
      up,
      t,
      of,
      record { number = sym number; among = subst (λ (l : List Live). IsAmong t (l ++ t ∷ [])) (sym none) (inl refl) },
      subst (λ (g : Geometry). block < g.blocks) same inside,
      subst (λ (g : Geometry). length into ≡ g.block) same size,
    )

-- a core that is down and that a call left as it was is down
pub stays_down : {D : Type 0} (state : D → DiskState) (old new : Core D) → new ≡ old → IsDown state old → IsDown state new
stays_down state old new same is = subst (IsDown state) (sym same) is

-- and represents a world
pub stands_down : {D : Type 0} (state : D → DiskState) (core : Core D) → IsDown state core → (W : World) × (standing : Standing) × StandsFor state core W standing
stands_down state core is = (is.world, down [], is.stands)
