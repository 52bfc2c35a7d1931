-- The origin of no transaction.
use Rattle.std.specs.Prelude.{[], None, true}
use Rattle.iso_disk.specs.{Disk.DiskState, Untold.untold}
use Rattle.iso_model.specs.declared.access.Mode.TheVariants.{Serial}
use Rattle.tx_table.specs.Work.{Doing}

abbrev pub no_disk : DiskState
no_disk = untold 0 0 0 None

abbrev pub no_doing : Doing
no_doing = record { begin = 0; mode = Serial; size = 0; blocks = 0; accesses = []; ready = None; settled = true }
