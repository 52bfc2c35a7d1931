-- What an answer comes to.
use Rattle.std.specs.Prelude.{Result, Ok, Err}
use Rattle.script_model.specs.{declared.script.Reply.Reply, declared.stop.Stop.Stop}
use Rattle.script_model.specs.declared.script.Reply.TheVariants as reply
use Rattle.script_model.specs.declared.stop.Stop.TheVariants as stop
use Rattle.device_desk.specs.declared.status.Status.{Status}
use Rattle.device_desk.specs.declared.status.Status.TheVariants as status

abbrev pub status_of : Result Reply Stop → Status
status_of (Err stop.Down) = status.Down
status_of (Err stop.Disk) = status.Disk
status_of (Err stop.Memory) = status.Memory
status_of (Ok (reply.Conflict clash)) = status.Conflict
status_of (Ok reply.Missing) = status.Missing
status_of (Ok reply.Exists) = status.Exists
status_of (Ok (reply.LogFull need free)) = status.LogFull
status_of (Ok reply.TooManyTx) = status.TooManyTransactions
status_of (Ok reply.ModeFixed) = status.ModeFixed
status_of (Ok reply.BadBlock) = status.BadBlock
status_of (Ok reply.BadRange) = status.BadRange
status_of (Ok reply.NoAccess) = status.NoAccess
status_of (Ok reply.TooManyMarks) = status.TooManyMarks
status_of (Ok reply.TooManyAccesses) = status.TooManyAccesses
status_of (Ok reply.NoStore) = status.NoStore
status_of (Ok reply.StoreMode) = status.StoreMode
status_of (Ok reply.BadKey) = status.BadKey
status_of (Ok reply.BadValue) = status.BadValue
status_of (Ok reply.BadName) = status.BadName
status_of (Ok (reply.NoBlocks need free)) = status.NoBlocks
status_of (Ok (reply.Broken block)) = status.Broken
status_of (Ok reply.Worn) = status.Worn
status_of (Ok reply.NotInTx) = status.NoTransaction
status_of (Ok r) = status.Done
