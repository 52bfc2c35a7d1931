-- What a script answers where a core answers so.
use Rattle.std.specs.Prelude.{Result, Ok, Err}
use Rattle.iso_model.specs.{declared.core_error.CoreError.CoreError, declared.core_reply.CoreReply.CoreReply, World.World}
use Rattle.iso_model.specs.declared.core_error.CoreError.TheVariants as error
use Rattle.iso_model.specs.declared.core_reply.CoreReply.TheVariants as core
use Rattle.script_model.specs.{declared.script.Reply.Reply, declared.stop.Stop.Stop}
use Rattle.script_model.specs.declared.script.Reply.TheVariants as reply
use Rattle.script_model.specs.declared.stop.Stop.TheVariants as stop

abbrev pub as_reply : CoreReply → Reply
as_reply core.Done = reply.Done
as_reply (core.Began n) = reply.Began n
as_reply (core.Committed n) = reply.Committed n
as_reply core.ReadOnly = reply.ReadOnly
as_reply (core.Conflict c) = reply.Conflict c
as_reply (core.Compacted n) = reply.Compacted n
as_reply (core.Upgraded n) = reply.Upgraded n
as_reply core.ModeFixed = reply.ModeFixed
as_reply core.TooManyTx = reply.TooManyTx
as_reply core.Worn = reply.Worn
as_reply (core.LogFull need free) = reply.LogFull need free

-- what a core's step is answered in a script, and the same world after it
abbrev pub as_step : CoreReply × World → Reply × World
as_step r = (as_reply r.0, r.1)

-- what an error of a core is answered: the model's reply that it represents, or why there is none
abbrev pub refused : CoreError → Result Reply Stop
refused error.Down = Err stop.Down
refused error.TooManyTx = Ok reply.TooManyTx
refused (error.LogFull need free) = Ok (reply.LogFull need free)
refused error.Disk = Err stop.Disk
refused error.Memory = Err stop.Memory
refused (error.Worn at) = Ok reply.Worn
refused error.ModeFixed = Ok reply.ModeFixed
