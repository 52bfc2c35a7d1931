-- What the size of a file is answered: the tree store is asked for the number of its first block, and then that block for the size.
use Rattle.std.specs.Prelude.{◌≡◌, ℕ, ◌+◌, ◌==◌, ◌&&◌, Bool, if◌then◌else◌, List, Result, Ok, Err, drop, length, nat_le, slice_index}
use Rattle.iso_disk.specs.Disk.{DiskState}
use Rattle.iso_model.specs.World.{World, attached}
use Rattle.iso_machine.specs.Answering.{Always, AnswersTold}
use Rattle.script_model.specs.{declared.script.Op.TheVariants.{Get, TreeGet}, declared.script.Reply.Reply, declared.stop.Stop.Stop, FilesArea.{file_blocks, files_area}, Step.{in_transaction, step}}
use Rattle.script_model.specs.declared.script.Reply.TheVariants as reply
use Rattle.script_runner.specs.{Stopped.SameButAccesses, Told.IfTold}
use Rattle.store_model.specs.{Cells.word_at, FileNodes.{is_number, most_bytes, number_of}}
use Rattle.device_desk.specs.Device.{Device, StandsAt, state_at}

-- whether these are the first eight bytes of a file's first block, in blocks of this size; the last four spell the file's size
abbrev pub is_head : (size : ℕ) → (head : List ℕ) → Bool
is_head size head = (length head == 8) && ((slice_index head 0 == 3) && nat_le (word_at 4 head) (most_bytes size))

-- the size that they spell, where they are what is shown of the block
abbrev pub size_in : (size block : ℕ) → Reply → Reply
size_in size block (reply.Shown head) = if is_head size head then reply.Found (drop 4 head) else reply.Broken block
size_in size block r = r

abbrev pub head_step : World → (number block : ℕ) → Reply × World
head_step W number block = (size_in W.geometry.block block (step W number (Get block 0 8)).0, (step W number (Get block 0 8)).1)

-- the same, where a value of the tree store spells the number of the block
abbrev pub value_step : World → (number : ℕ) → (value : List ℕ) → Reply × World
value_step W number value =
    if is_number (files_area W.geometry).files value then head_step W number ((files_area W.geometry).files.start + number_of value)
    else (reply.Broken (files_area W.geometry).tree.start, W)

-- the value that a look-up of the name has found, or else what the size is answered
abbrev pub looked : Reply → Result (List ℕ) Reply
looked (reply.Found value) = Ok value
looked reply.BadKey = Err reply.BadName
looked r = Err r

abbrev pub looked_step : (number : ℕ) → Result (List ℕ) Reply → World → Reply × World
looked_step number (Ok value) W = value_step W number value
looked_step number (Err r) W = (r, W)

-- the size of the file of a name, four bytes, where the image has room for files
abbrev pub size_step : World → (number : ℕ) → (name : List ℕ) → Reply × World
size_step W number name =
    in_transaction W (attached W number)
    (λ t. if file_blocks W.geometry == 0 then (reply.NoStore, W) else looked_step number (looked (step W number (TreeGet name)).0) (step W number (TreeGet name)).1)

-- From the world W the size is answered so.
abbrev pub Sized : {D : Type 0} (state : D → DiskState) (old new : Device D) (W : World) (number : ℕ) → (name : List ℕ) → Result Reply Stop → Type 0
Sized state old new W number name result = AnswersTold Always (StandsAt state new) (state_at state old) (state_at state new) W (size_step W number name) ⊥ result

-- It represents a world that is the same but for accesses, and the one that is given where the disk tells its bytes.
pub record StandsBeside (stands : World → Type 0) (d : DiskState) (W given : World) : Type 0 where
  pub world : World
  pub is : stands world
  pub known : IfTold d (world ≡ given)
  pub same : SameButAccesses world W
