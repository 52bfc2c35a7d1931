-- What the answers of a session's calls are for a client.
use Rattle.std.specs.Prelude.{ℕ, List, Option, Some, None, Result, Ok, Err, if◌then◌else◌, nat_le}
use Rattle.handle_pass.specs.{declared.errors.BeginError.BeginError, declared.errors.EndError.EndError, declared.errors.PostTxError.PostTxError}
use Rattle.handle_pass.specs.declared.errors.BeginError.TheVariants as begin
use Rattle.handle_pass.specs.declared.errors.EndError.TheVariants as end
use Rattle.handle_pass.specs.declared.errors.PostTxError.TheVariants as post
use Rattle.iso_core.specs.declared.answers.Stat.{Stat}
use Rattle.iso_model.specs.{declared.access.EndReply.EndReply, declared.access.GroupReply.GroupReply, declared.core_error.CoreError.CoreError, declared.memory.InTx.InTx, declared.memory.NotInTx.NotInTx}
use Rattle.store_model.specs.declared.stores.TxError.{TxError}
use Rattle.store_model.specs.declared.stores.TxError.TheVariants as tx
pub use Rattle.script_model.specs.CoreReplies.{refused}
use Rattle.script_model.specs.{CoreReplies.as_reply, declared.script.Reply.Reply, declared.stop.Stop.Stop}
use Rattle.script_model.specs.declared.script.Reply.TheVariants as reply
use Rattle.iso_shared.specs.{declared.entry.Posting.Posting, Legal.reply_of, Told.numbers_of}
use Rattle.par_script.specs.Lines.{stat_reply}
use Rattle.script_model.specs.declared.stop.Stop.TheVariants as stop

abbrev pub begun : Result ℕ BeginError → Result Reply Stop
begun (Ok at) = Ok (reply.Began at)
begun (Err begin.InTx) = Ok reply.InTx
begun (Err (begin.Core e)) = refused e

abbrev pub not_ended : EndError → Result Reply Stop
not_ended end.NotInTx = Ok reply.NotInTx
not_ended (end.Core e) = refused e

abbrev pub ended : Result EndReply EndError → Result Reply Stop
ended (Ok r) = Ok (as_reply (reply_of r))
ended (Err e) = not_ended e

abbrev pub aborted : Result (Unit {0}) NotInTx → Result Reply Stop
aborted (Ok done) = Ok reply.Done
aborted (Err e) = Ok reply.NotInTx

abbrev pub posted : Result (Unit {0}) PostTxError → Result Reply Stop
posted (Ok done) = Ok reply.Done
posted (Err post.NotInTx) = Ok reply.NotInTx
posted (Err post.LabelTaken) = Ok reply.LabelTaken
posted (Err post.Memory) = Err stop.Memory

abbrev pub looked : Result (Option ℕ) InTx → Result Reply Stop
looked (Ok (Some at)) = Ok (reply.Began at)
looked (Ok None) = Ok reply.NoHandle
looked (Err e) = Ok reply.InTx

abbrev pub grouped : Result (List (Option GroupReply)) CoreError → Result Reply Stop
grouped (Ok answers) = Ok (reply.Grouped answers)
grouped (Err e) = refused e

-- the answer of a switch or a trim, by the reply that it is where it is not refused
abbrev pub numbered : (ℕ → Reply) → Result ℕ CoreError → Result Reply Stop
numbered said (Ok n) = Ok (said n)
numbered said (Err e) = refused e

abbrev pub trimmed : Result ℕ CoreError → Result Reply Stop
trimmed r = numbered (λ n. reply.Trimmed n) r

abbrev pub compacted : Result ℕ CoreError → Result Reply Stop
compacted r = numbered (λ n. reply.Compacted n) r

abbrev pub upgraded : Result ℕ CoreError → Result Reply Stop
upgraded r = numbered (λ n. reply.Upgraded n) r

abbrev pub numbers : Stat → Reply
numbers s = stat_reply (numbers_of s)

-- what a write or a mark is answered
abbrev pub accessed : Result (Unit {0}) TxError → Result Reply Stop
accessed (Ok done) = Ok reply.Done
accessed (Err tx.NotInTx) = Ok reply.NotInTx
accessed (Err tx.BadBlock) = Ok reply.BadBlock
accessed (Err tx.BadRange) = Ok reply.BadRange
accessed (Err tx.NoAccess) = Ok reply.NoAccess
accessed (Err tx.TooManyMarks) = Ok reply.TooManyMarks
accessed (Err tx.TooManyAccesses) = Ok reply.TooManyAccesses
accessed (Err tx.Memory) = Err stop.Memory
accessed (Err tx.Down) = Err stop.Down
accessed (Err tx.Disk) = Err stop.Disk

-- what an access is answered whose bytes are wrong
abbrev pub wrong_bytes : (blocks : ℕ) → Option Posting → (block : ℕ) → Reply
wrong_bytes blocks None block = reply.NotInTx
wrong_bytes blocks (Some o) block = if nat_le blocks block then reply.BadBlock else reply.BadRange

-- what a mark is refused whose bytes are outside a block
abbrev pub refused_mark : Option Posting → TxError
refused_mark None = tx.NotInTx
refused_mark (Some o) = tx.BadRange

-- what a line is answered that read these bytes, or could not
abbrev pub shown : Result (Unit {0}) TxError → (bytes : List ℕ) → Result Reply Stop
shown (Ok done) bytes = Ok (reply.Shown bytes)
shown (Err e) bytes = accessed (Err e)
