-- The clients of the tests: a port, and at most one transaction.
use Rattle.std.specs.Prelude.{◌≡◌, ◌<◌, Option, MatchOption}
use Rattle.iso_memdisk.specs.declared.disk.MemDisk.{MemDisk}
use Rattle.iso_shared.specs.{declared.shared.Port.Port, declared.shared.Shared.Shared, declared.tx.Tx.Tx, Ports.{IsPort, IsTx, port_view}, States.Start, TestImage.small}

-- Between two calls both are of the device. Without a transaction the port has a unit for one.
abbrev pub IsClient : {O : Type 0} → Shared MemDisk O → Start → Port MemDisk O → Option (Tx MemDisk O) → Type 0
IsClient s A p t = (A.world.geometry ≡ small) × IsPort s p × MatchOption t (1 < (port_view p).units) (IsTx s A)
