-- The printed spelling of a line, and the lines that it can say.
use Rattle.std.specs.{Prelude.{ℕ, ◌≤◌, ◌<◌, ◌^◌, IsTrue, List, [], ◌∷◌, ◌++◌, Some, None, codes, decimal, length}, List.AllByRecursion}
use Rattle.iso_model.specs.{declared.access.Mode.Mode, declared.access.Mode.TheVariants.{Serial, Snapshot}, Premises.AreBytes, Labels.is_label}
use Rattle.script_model.specs.{declared.script.Line.Line, declared.script.Op.Op, declared.script.Op.TheVariants.{Begin, End, Abort, Put, Read, Get, Write, Fill, Mark, Release, Takeover, Await, Group, Trim, Stat, Compact, Upgrade, HashPut, HashGet, HashDelete, TreePut, TreeGet, TreeDelete, TreeScan, FileNew, FileWrite, FileRead, FileMove, FileDelete}, declared.script.TheConstants.MAX_LABELS, Text.{dashed, hex_text}}

-- the name of an operation
abbrev pub name_of : Op → List ℕ
name_of (Begin mode) = codes "begin"
name_of End = codes "end"
name_of Abort = codes "abort"
name_of (Put block off bytes) = codes "put"
name_of (Read block) = codes "read"
name_of (Get block off len) = codes "get"
name_of (Write block bytes) = codes "write"
name_of (Fill block bytes) = codes "fill"
name_of (Mark off len) = codes "mark"
name_of (Release label) = codes "release"
name_of (Takeover label) = codes "takeover"
name_of (Await label) = codes "await"
name_of (Group labels) = codes "group"
name_of Trim = codes "trim"
name_of Stat = codes "stat"
name_of Compact = codes "compact"
name_of Upgrade = codes "upgrade"
name_of (HashPut key value) = codes "hput"
name_of (HashGet key) = codes "hget"
name_of (HashDelete key) = codes "hdel"
name_of (TreePut key value) = codes "tput"
name_of (TreeGet key) = codes "tget"
name_of (TreeDelete key) = codes "tdel"
name_of (TreeScan from to most) = codes "tscan"
name_of (FileNew name) = codes "fnew"
name_of (FileWrite name off bytes) = codes "fwrite"
name_of (FileRead name off len) = codes "fread"
name_of (FileMove from to) = codes "fmove"
name_of (FileDelete name) = codes "fdel"

abbrev pub mode_word : Mode → List ℕ
mode_word Serial = codes "serial"
mode_word Snapshot = codes "snapshot"

-- the words after the name: numbers in decimal, bytes in hexadecimal in lower case, a dash for no key, value or name
abbrev pub arguments_of : Op → List (List ℕ)
arguments_of (Begin None) = []
arguments_of (Begin (Some mode)) = mode_word mode ∷ []
arguments_of (Put block off bytes) = decimal block ∷ decimal off ∷ hex_text bytes ∷ []
arguments_of (Read block) = decimal block ∷ []
arguments_of (Get block off len) = decimal block ∷ decimal off ∷ decimal len ∷ []
arguments_of (Write block bytes) = decimal block ∷ hex_text bytes ∷ []
arguments_of (Fill block bytes) = decimal block ∷ hex_text bytes ∷ []
arguments_of (Mark off len) = decimal off ∷ decimal len ∷ []
arguments_of (Release label) = label ∷ []
arguments_of (Takeover label) = label ∷ []
arguments_of (Await label) = label ∷ []
arguments_of (Group labels) = labels
arguments_of (HashPut key value) = dashed key ∷ dashed value ∷ []
arguments_of (HashGet key) = dashed key ∷ []
arguments_of (HashDelete key) = dashed key ∷ []
arguments_of (TreePut key value) = dashed key ∷ dashed value ∷ []
arguments_of (TreeGet key) = dashed key ∷ []
arguments_of (TreeDelete key) = dashed key ∷ []
arguments_of (TreeScan from to most) = dashed from ∷ dashed to ∷ decimal most ∷ []
arguments_of (FileNew name) = dashed name ∷ []
arguments_of (FileWrite name off bytes) = dashed name ∷ decimal off ∷ hex_text bytes ∷ []
arguments_of (FileRead name off len) = dashed name ∷ decimal off ∷ decimal len ∷ []
arguments_of (FileMove from to) = dashed from ∷ dashed to ∷ []
arguments_of (FileDelete name) = dashed name ∷ []
arguments_of op = []

-- words with one space between two of them
abbrev pub spaced : List (List ℕ) → List ℕ
spaced [] = []
spaced (word ∷ []) = word
spaced (word ∷ next ∷ words) = word ++ 32 ∷ spaced (next ∷ words)

-- the words of a line
abbrev pub line_words : Line → List (List ℕ)
line_words line = decimal line.client ∷ name_of line.op ∷ arguments_of line.op

-- the printed spelling of a line
unfoldable pub line_text : Line → List ℕ
line_text line = spaced (line_words line)

-- at least one byte
pub record AreSome (bytes : List ℕ) : Type 0 where
  pub some : 0 < length bytes
  pub values : AreBytes bytes

-- an operation that a line can say: its numbers are below 2 ^ 32, it has bytes where it takes any, its label is
-- one, and it has no more labels than a group may have
abbrev pub IsSayable : Op → Type 0
IsSayable (Put block off bytes) = (block < 2 ^ 32) × (off < 2 ^ 32) × AreSome bytes
IsSayable (Read block) = block < 2 ^ 32
IsSayable (Get block off len) = (block < 2 ^ 32) × (off < 2 ^ 32) × (len < 2 ^ 32)
IsSayable (Write block bytes) = (block < 2 ^ 32) × AreSome bytes
IsSayable (Fill block bytes) = (block < 2 ^ 32) × AreSome bytes
IsSayable (Mark off len) = (off < 2 ^ 32) × (len < 2 ^ 32)
IsSayable (Release label) = IsTrue (is_label label)
IsSayable (Takeover label) = IsTrue (is_label label)
IsSayable (Await label) = IsTrue (is_label label)
IsSayable (Group labels) = (1 ≤ length labels) × (length labels ≤ MAX_LABELS) × AllByRecursion (λ label. IsTrue (is_label label)) labels
IsSayable (HashPut key value) = AreBytes key × AreBytes value
IsSayable (HashGet key) = AreBytes key
IsSayable (HashDelete key) = AreBytes key
IsSayable (TreePut key value) = AreBytes key × AreBytes value
IsSayable (TreeGet key) = AreBytes key
IsSayable (TreeDelete key) = AreBytes key
IsSayable (TreeScan from to most) = AreBytes from × AreBytes to × (most < 2 ^ 32)
IsSayable (FileNew name) = AreBytes name
IsSayable (FileWrite name off bytes) = AreBytes name × (off < 2 ^ 32) × AreSome bytes
IsSayable (FileRead name off len) = AreBytes name × (off < 2 ^ 32) × (len < 2 ^ 32)
IsSayable (FileMove from to) = AreBytes from × AreBytes to
IsSayable (FileDelete name) = AreBytes name
IsSayable op = Unit {0}

-- a line that can be said
pub record IsLine (line : Line) : Type 0 where
  pub first : 1 ≤ line.client
  pub last : line.client ≤ 64
  pub op : IsSayable line.op
