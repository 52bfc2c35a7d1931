-- When pages stand for the bytes of a disk.
use Rattle.std.specs.{Prelude.{◌≡◌, ℕ, ◌+◌, ◌++◌, ◌-◌, ◌*◌, ◌/◌, ◌%◌, ◌<◌, ◌≤◌, ◌==◌, List, Option, count_by, length, replicate, set, take, drop, Some, None, Result, OnOk, slice_get, slice_index}, Option.ForSome}
use Rattle.counts.specs.Count.{HasCause}
use Rattle.iso_disk.specs.Disk.{DiskState, Elapses, Torn, spliced}

-- Pages of 4096 bytes lie one after the other from byte 96 on, as the blocks of an image do; the bytes before that are page 0.
abbrev pub start_of : ℕ → ℕ
start_of n = n * 4096 - 4000

abbrev pub end_of : ℕ → ℕ
end_of n = n * 4096 + 96

-- the page of a place of the disk
abbrev pub page_at : ℕ → ℕ
page_at at = (at + 4000) / 4096

-- the bytes of a page; those of the last one may be fewer
abbrev pub page_of : List ℕ → ℕ → List ℕ
page_of c n = take (end_of n - start_of n) (drop (start_of n) c)

-- these bytes have a page from a place on
abbrev pub HasPage : List ℕ → ℕ → List ℕ → ℕ → Type 0
HasPage c n bytes from = take (length (page_of c n)) (drop from bytes) ≡ page_of c n

-- the page of this number is held, in its place
abbrev pub IsHeld : List (Option ℕ) → ℕ → Type 0
IsHeld numbers n = slice_get numbers (n % 2053) ≡ Some (Some n)

-- where the bytes of a place begin: it is told where those of each place end, and 0 for a place that has none yet
abbrev pub from_of : List ℕ → ℕ → ℕ
from_of ends place = slice_index ends place - 4096

-- where the byte of a place of the disk lies among the bytes of pages
abbrev pub byte_at : List ℕ → ℕ → ℕ
byte_at ends at = from_of ends (page_at at % 2053) + (at - start_of (page_at at))

-- a page of zeros throughout
abbrev pub IsBlank : List ℕ → ℕ → Type 0
IsBlank c n = page_of c n ≡ replicate (length (page_of c n)) 0

-- the place of a page stands for it: by its bytes, or for zeros where it has none
pub record StandsFor (c : List ℕ) (n : ℕ) (ends bytes : List ℕ) : Type 0 where
  pub zeros : slice_index ends (n % 2053) ≡ 0 → IsBlank c n
  pub has : 0 < slice_index ends (n % 2053) → HasPage c n bytes (from_of ends (n % 2053))

-- the place of each page that is held stands for it
abbrev pub Stand : List (Option ℕ) → (ends bytes c : List ℕ) → Type 0
Stand numbers ends bytes c = (n : ℕ) → IsHeld numbers n → StandsFor c n ends bytes

-- The places that have bytes have a page each, apart from the others, and so much memory has room for those that have none.
pub record AreLaid (ends bytes : List ℕ) (memory : ℕ) : Type 0 where
  pub whole : (i : ℕ) → 0 < slice_index ends i → 4096 ≤ slice_index ends i
  pub within : (i : ℕ) → slice_index ends i ≤ length bytes
  pub apart : (i j : ℕ) → (i ≡ j → ⊥) → 0 < slice_index ends i → slice_index ends i ≤ slice_index ends j → slice_index ends i + 4096 ≤ slice_index ends j
  pub room : length bytes + 4096 * count_by (λ e. e == 0) ends ≤ memory

-- the page of this number has a place, and the bytes of places are laid
pub record HasPlace (numbers : List (Option ℕ)) (ends bytes : List ℕ) (memory number : ℕ) : Type 0 where
  pub place : number % 2053 < length numbers
  pub places : length ends ≡ length numbers
  pub laid : AreLaid ends bytes memory

-- a place that had no bytes has these, after the others
pub record HasAdded (old_ends old_bytes new_ends new_bytes : List ℕ) (memory place : ℕ) (page : List ℕ) : Type 0 where
  pub ends : new_ends ≡ set old_ends place (length old_bytes + 4096)
  pub bytes : new_bytes ≡ old_bytes ++ page
  pub laid : AreLaid new_ends new_bytes memory

-- so many bytes from a place on lie in its page, which is held
pub record AreHeld (numbers : List (Option ℕ)) (at len : ℕ) : Type 0 where
  pub held : IsHeld numbers (page_at at)
  pub inside : at + len ≤ end_of (page_at at)

-- they lie in its page, and there is one at least
pub record ArePart (at len : ℕ) : Type 0 where
  pub some : 0 < len
  pub inside : at + len ≤ end_of (page_at at)

-- all bytes of a page that has as many as a place
pub record AreWhole (number : ℕ) (page : List ℕ) : Type 0 where
  pub whole : length page ≡ 4096
  pub full : start_of number + 4096 ≡ end_of number

-- what pages show from a place of the disk on, whose page is held
pub record Shows (ends held : List ℕ) (at len : ℕ) (into : List ℕ) : Type 0 where
  pub zeros : slice_index ends (page_at at % 2053) ≡ 0 → into ≡ replicate len 0
  pub bytes : 0 < slice_index ends (page_at at % 2053) → into ≡ take len (drop (byte_at ends at) held)

-- places that stood for the bytes of a disk stand for them once these are written from a place on
abbrev pub Follow : List (Option ℕ) → (ends bytes : List ℕ) → List (Option ℕ) → (ends' bytes' : List ℕ) → ℕ → List ℕ → Type 0
Follow numbers ends bytes numbers' ends' bytes' at written = (c : List ℕ) → at + length written ≤ length c → Stand numbers ends bytes c → Stand numbers' ends' bytes' (spliced c at written)

-- no page is held
abbrev pub HoldsNone : List (Option ℕ) → Type 0
HoldsNone numbers = (k : ℕ) (number : Option ℕ) → slice_get numbers k ≡ Some number → number ≡ None

-- the page of each byte in the range is held
abbrev pub HoldsRange : List (Option ℕ) → ℕ → ℕ → Type 0
HoldsRange numbers at len = (place : ℕ) → at ≤ place → place < at + len → IsHeld numbers (page_at place)

-- a call that only reads of the disk: it tells what it told, and nothing else is left of it by a crash
pub record HasLooked {T E : Type 0} (old new : DiskState) (result : Result T E) : Type 0 where
  pub contents : new.contents ≡ old.contents
  pub crash : Elapses old new old.now
  pub cause : HasCause old.faults new.faults result

-- one that reads so many bytes from a place on into some of these
pub record ReadsInto {T E : Type 0} (old new : DiskState) (at : ℕ) (bytes bytes' : List ℕ) (from len : ℕ) (result : Result T E) : Type 0 where
  pub read : OnOk result (ForSome old.contents (λ c. take len (drop from bytes') ≡ take len (drop at c)))
  pub others : Torn from len bytes bytes'
  pub looked : HasLooked old new result

-- no place has another page than before but that of this number
pub record KeepsOthers (numbers numbers' : List (Option ℕ)) (number : ℕ) : Type 0 where
  pub others : (k : ℕ) → (k ≡ number % 2053 → ⊥) → slice_get numbers' k ≡ slice_get numbers k
  pub places : length numbers' ≡ length numbers

-- one that reads the page of this number into its place, or leaves nothing there: no other place changes
pub record HasFilled {T E : Type 0} (numbers : List (Option ℕ)) (ends bytes : List ℕ) (numbers' : List (Option ℕ)) (ends' bytes' : List ℕ) (number : ℕ) (old new : DiskState) (result : Result T E) : Type 0 where
  pub stand : ForSome old.contents (λ c. Stand numbers ends bytes c → Stand numbers' ends' bytes' c)
  pub held : OnOk result (IsHeld numbers' number)
  pub kept : KeepsOthers numbers numbers' number
  pub looked : HasLooked old new result
