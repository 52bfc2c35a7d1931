-- The call that an operation makes of a store, and the answer that its reply tells.
use Rattle.std.specs.Prelude.{true, false, [], Option, Some, None, option_map}
use Rattle.script_model.specs.{declared.script.Op.Op, declared.script.Op.TheVariants.{HashPut, HashGet, HashDelete, TreePut, TreeGet, TreeDelete, TreeScan, FileNew, FileWrite, FileRead, FileMove, FileDelete}, declared.script.Reply.Reply}
use Rattle.script_model.specs.declared.script.Reply.TheVariants as reply
use Rattle.store_laws.specs.{Calls.{Del, Found, Get, Got, KeyCall, Put, StoreAnswer, WasPut, WasThere}, Files.{FileAnswer, FileCall, FileMade, FileRead as WasRead, FileThere, MakeFile, ReadFile, RemoveFile, RenameFile, WriteFile}, Tree.{OnKey, Scan, TreeCall}}

-- a call that was answered Ok, with its answer: of the hash store, or of a second one that is beside it
pub data Answered (Call Answer : Type 0) : Type 0 where
  OfHash : (call : KeyCall) → (answer : StoreAnswer) → Answered Call Answer
  OfSecond : (call : Call) → (answer : Answer) → Answered Call Answer

-- The answer that a reply to a put, a look-up, a removal and a scan tells; none where the call was refused.
abbrev pub put_answer : Reply → Option StoreAnswer
put_answer reply.Done = Some WasPut
put_answer r = None

abbrev pub get_answer : Reply → Option StoreAnswer
get_answer (reply.Found value) = Some (Got (Some value))
get_answer reply.Missing = Some (Got None)
get_answer r = None

abbrev pub del_answer : Reply → Option StoreAnswer
del_answer reply.Done = Some (WasThere true)
del_answer reply.Missing = Some (WasThere false)
del_answer r = None

abbrev pub scan_answer : Reply → Option StoreAnswer
scan_answer (reply.Pairs pairs) = Some (Found pairs)
scan_answer reply.Missing = Some (Found [])
scan_answer r = None

-- the call of the hash store or of the tree store that an operation makes, and the answer that its reply tells, if it was answered Ok
abbrev pub answered : Op → Reply → Option (Answered TreeCall StoreAnswer)
answered (HashPut key value) r = option_map (OfHash (Put key value)) (put_answer r)
answered (HashGet key) r = option_map (OfHash (Get key)) (get_answer r)
answered (HashDelete key) r = option_map (OfHash (Del key)) (del_answer r)
answered (TreePut key value) r = option_map (OfSecond (OnKey (Put key value))) (put_answer r)
answered (TreeGet key) r = option_map (OfSecond (OnKey (Get key))) (get_answer r)
answered (TreeDelete key) r = option_map (OfSecond (OnKey (Del key))) (del_answer r)
answered (TreeScan from to most) r = option_map (OfSecond (Scan from to most)) (scan_answer r)
answered op r = None

-- The answer of a call that makes a file, of a read of one, and of a call that says whether the file was there, by its reply.
abbrev pub make_answer : Reply → Option FileAnswer
make_answer reply.Done = Some FileMade
make_answer r = None

abbrev pub read_answer : Reply → Option FileAnswer
read_answer (reply.Found bytes) = Some (WasRead (Some bytes))
read_answer reply.Missing = Some (WasRead None)
read_answer r = None

abbrev pub there_answer : Reply → Option FileAnswer
there_answer reply.Done = Some (FileThere true)
there_answer reply.Missing = Some (FileThere false)
there_answer r = None

-- the call of the hash store or on files
abbrev pub file_answered : Op → Reply → Option (Answered FileCall FileAnswer)
file_answered (HashPut key value) r = option_map (OfHash (Put key value)) (put_answer r)
file_answered (HashGet key) r = option_map (OfHash (Get key)) (get_answer r)
file_answered (HashDelete key) r = option_map (OfHash (Del key)) (del_answer r)
file_answered (FileNew name) r = option_map (OfSecond (MakeFile name)) (make_answer r)
file_answered (FileWrite name off bytes) r = option_map (OfSecond (WriteFile name off bytes)) (there_answer r)
file_answered (FileRead name off len) r = option_map (OfSecond (ReadFile name off len)) (read_answer r)
file_answered (FileMove from to) r = option_map (OfSecond (RenameFile from to)) (there_answer r)
file_answered (FileDelete name) r = option_map (OfSecond (RemoveFile name)) (there_answer r)
file_answered op r = None

-- an operation that calls the hash store or the tree store
abbrev pub CallsStore : Op → Type 0
CallsStore (HashPut key value) = Unit {0}
CallsStore (HashGet key) = Unit {0}
CallsStore (HashDelete key) = Unit {0}
CallsStore (TreePut key value) = Unit {0}
CallsStore (TreeGet key) = Unit {0}
CallsStore (TreeDelete key) = Unit {0}
CallsStore (TreeScan from to most) = Unit {0}
CallsStore op = ⊥
