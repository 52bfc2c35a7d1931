-- A write into a file, by what the code has of it.
use Rattle.std.specs.Prelude.{◌≡◌, ℕ, ◌+◌, ◌<◌, ◌≤◌, ◌++◌, Bool, List, length}
use Rattle.store_model.specs.{FileCalls.{Call, write_sized}, FileNodes.{blocks_for, bytes_of, entries_of, file_block}}
use Rattle.iso_fs.specs.declared.{file.FileBlock.FileBlock, patch.Writing.Writing}

-- the numbers of the data blocks of a file
abbrev pub entries : FileBlock → List ℕ
entries f = entries_of f.area.size f.bytes.now

-- to the bytes of a file block with so many data blocks, these are added
abbrev pub AddsEntries : (count : ℕ) → (before now news : List ℕ) → Type 0
AddsEntries count before now news = (bytes : ℕ) (es : List ℕ) → length es ≡ count → before ≡ file_block (length before) bytes es → now ≡ file_block (length before) bytes (es ++ news)

-- where the bytes end that are written
abbrev pub write_end : Writing → ℕ
write_end w = w.off + length w.bytes.now

-- what is left of it once these new blocks are taken
abbrev pub sized_by : Writing → (news : List ℕ) → Call Bool
sized_by w news = write_sized w.file.area w.off w.bytes.now w.file.number w.file.bytes.now news

-- it passes the end of its file, which with `more` blocks has as many as it takes then
pub record IsGrowth (w : Writing) (more : ℕ) : Type 0 where
  pub grows : bytes_of w.file.bytes.now < write_end w
  pub count : w.file.count + more ≡ blocks_for w.file.area.size (write_end w)

-- so, and a call may take as many blocks
pub record NeedsBlocks (w : Writing) (need : ℕ) : Type 0 where
  pub some : 1 ≤ need
  pub few : need ≤ 16
  pub grows : IsGrowth w need
