-- Operations whose bytes are bytes, and those that change nothing that is shown.
use Rattle.std.specs.{Prelude.{◌≡◌, ◌⊎◌, ℕ, ◌≤◌, Bool, true, false, not, IsTrue, List, [], ◌∷◌, Option, Some, length}, List.AllByRecursion}
use Rattle.iso_model.specs.{declared.access.GroupReply.GroupReply, Premises.AreBytes, Labels.is_label}
use Rattle.iso_model.specs.declared.access.GroupReply.TheVariants as member
use Rattle.script_model.specs.{declared.script.Line.Line, declared.script.Op.Op, declared.script.Op.TheVariants.{Begin, End, Abort, Put, Read, Get, Write, Fill, Mark, Release, Takeover, Await, Group, Trim, Stat, Compact, Upgrade, HashPut, HashGet, HashDelete, TreePut, TreeGet, TreeDelete, TreeScan, FileNew, FileWrite, FileRead, FileMove, FileDelete}, declared.script.Reply.Reply, declared.script.Reply.TheVariants.{Committed, Grouped}, declared.script.TheConstants.MAX_LABELS}

-- an operation whose bytes are bytes, whose label is one, and which has no more labels than a group may have
abbrev pub IsOp : Op → Type 0
IsOp (Begin mode) = Unit {0}
IsOp End = Unit {0}
IsOp Abort = Unit {0}
IsOp (Put block off bytes) = AreBytes bytes
IsOp (Read block) = Unit {0}
IsOp (Get block off len) = Unit {0}
IsOp (Write block bytes) = AreBytes bytes
IsOp (Fill block bytes) = AreBytes bytes
IsOp (Mark off len) = Unit {0}
IsOp (Release text) = IsTrue (is_label text)
IsOp (Takeover text) = Unit {0}
IsOp (Await text) = Unit {0}
IsOp (Group texts) = (1 ≤ length texts) × (length texts ≤ MAX_LABELS)
IsOp Trim = Unit {0}
IsOp Stat = Unit {0}
IsOp Compact = Unit {0}
IsOp Upgrade = Unit {0}
IsOp (HashPut key value) = AreBytes key × AreBytes value
IsOp (HashGet key) = Unit {0}
IsOp (HashDelete key) = Unit {0}
IsOp (TreePut key value) = AreBytes key × AreBytes value
IsOp (TreeGet key) = Unit {0}
IsOp (TreeDelete key) = Unit {0}
IsOp (TreeScan from to most) = Unit {0}
IsOp (FileNew name) = AreBytes name
IsOp (FileWrite name off bytes) = AreBytes bytes
IsOp (FileRead name off len) = Unit {0}
IsOp (FileMove from to) = AreBytes to
IsOp (FileDelete name) = Unit {0}

-- lines of such operations
abbrev pub AreLines : List (ℕ × Line) → Type 0
AreLines lines = AllByRecursion (λ line. IsOp line.1.op) lines

-- an operation that changes no transaction and no commit
abbrev pub IsUpkeep : Op → Type 0
IsUpkeep Trim = Unit {0}
IsUpkeep Stat = Unit {0}
IsUpkeep Compact = Unit {0}
IsUpkeep Upgrade = Unit {0}
IsUpkeep op = ⊥

-- an operation on a store
abbrev pub is_on_store : Op → Bool
is_on_store (HashPut key value) = true
is_on_store (HashGet key) = true
is_on_store (HashDelete key) = true
is_on_store (TreePut key value) = true
is_on_store (TreeGet key) = true
is_on_store (TreeDelete key) = true
is_on_store (TreeScan from to most) = true
is_on_store (FileNew name) = true
is_on_store (FileWrite name off bytes) = true
is_on_store (FileRead name off len) = true
is_on_store (FileMove from to) = true
is_on_store (FileDelete name) = true
is_on_store op = false

abbrev pub When : Bool → Type 0
When true = Unit {0}
When false = ⊥

abbrev pub IsOnStore : Op → Type 0
IsOnStore op = When (is_on_store op)

-- an operation that calls no store
abbrev pub IsPlain : Op → Type 0
IsPlain op = When (not (is_on_store op))

-- one of the answers to the labels of a group is that commit n was made
abbrev pub IsAmongGrouped : (n : ℕ) → List (Option GroupReply) → Type 0
IsAmongGrouped n [] = ⊥
IsAmongGrouped n (answer ∷ answers) = (answer ≡ Some (member.Committed n)) ⊎ IsAmongGrouped n answers

-- the reply says that commit n was made: to an end, or to a label of a group
abbrev pub SaysCommit : Reply → (n : ℕ) → Type 0
SaysCommit reply n = (reply ≡ Committed n) ⊎ ((answers : List (Option GroupReply)) × (reply ≡ Grouped answers) × IsAmongGrouped n answers)
