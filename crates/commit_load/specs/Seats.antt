-- Which client is a desk's, and what each worker has before and after its part.
use Rattle.std.specs.Prelude.{◌≡◌, ℕ, ◌<◌, List, Option, Some, None, length, slice_get, slice_index_or}
use Rattle.committer.specs.{declared.desk.Desk.Desk, Sides.{IsClient, Rests}}
use Rattle.committer.specs.declared.ends.{Ends.Ends, Outcome.Outcome}
use Rattle.iso_shared.specs.{declared.shared.Shared.Shared, declared.tx.Tx.Tx, Ports.{IsPort, port_view}}
use Rattle.commit_load.specs.declared.seats.Worker.{Worker}

-- a desk at which transactions are handed in
abbrev pub DeskOf : (D O P : Type 0) → Type 0
DeskOf D O P = Desk (Ends D O P) (Tx D O) (Outcome D O)

module _ {D O P : Type 0} where
  -- it is the client of the desk, without a request, and has a port of the device with 128 units
  pub record IsWorker (shared : Shared D O) (desk : DeskOf D O P) (w : Worker D O P) : Type 0 where
    pub client : IsClient desk w.client
    pub rests : Rests w.client
    pub port : IsPort shared w.port
    pub units : (port_view w.port).units ≡ 128

  -- the same, where there is a desk
  abbrev pub IsSeated : Shared D O → Option (DeskOf D O P) → Worker D O P → Type 0
  IsSeated shared None w = ⊥
  IsSeated shared (Some desk) w = IsWorker shared desk w

  -- at each desk there is a worker
  pub record AreSeated (shared : Shared D O) (desks : List (DeskOf D O P)) (workers : List (Worker D O P)) : Type 0 where
    pub same : length workers ≡ length desks
    pub each : (i : ℕ) (w : Worker D O P) → i < length workers → IsSeated shared (slice_get desks i) (slice_index_or workers i w)
