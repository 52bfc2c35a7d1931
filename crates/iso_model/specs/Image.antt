-- The bytes of an image, and the history that they hold.
use Rattle.std.specs.{Prelude.{◌≡◌, ◌≢◌, ◌⊎◌, ℕ, zero, suc, ◌+◌, ◌-◌, ◌<◌, ◌≤◌, Bool, true, false, ◌==◌, if◌then◌else◌, List, [], ◌∷◌, ◌++◌, Option, Some, None, IsTrue, IfSome, length, nat_lt, take, drop, map, replicate, flat_map, sum_by, slice_get, slice_index, codes}, List.AllByRecursion, Int.{to_be_bytes, from_be_bytes, w16, w32, w64}}
use Rattle.iso_model.specs.{declared.access.Access.Access, declared.access.Commit.Commit, declared.access.Geometry.Geometry, declared.access.Mode.Mode, declared.access.Mode.TheVariants.{Serial, Snapshot}, declared.access.Run.Run, declared.limits.TheConstants.LAST, Array.Array, Effect.{runs, effect_at}, Geometry.{is_valid, same_mode, image_size, header_place, base_place, log_place}, History.{History, last, array_at}, Step.put_access}

-- the writes that a record with these runs represents
abbrev pub recorded : Geometry → List Run → List Access
recorded g runs = map (λ run. put_access g.block run.block run.off run.bytes) runs

abbrev pub mode_byte : Mode → ℕ
mode_byte Serial = 0
mode_byte Snapshot = 1

-- the 64 bytes of the superblock, with this gate
unfoldable pub superblock : (gate : ℕ) → Geometry → List ℕ
superblock gate g =
    codes "ISOTOPE1" ++ to_be_bytes w32 1 ++ to_be_bytes w32 g.block ++ to_be_bytes w32 g.blocks ++ to_be_bytes w32 g.log
    ++ mode_byte g.mode ∷ 0 ∷ 0 ∷ 0 ∷ [] ++ to_be_bytes w32 g.hash ++ to_be_bytes w32 g.tree ++ replicate 27 0 ++ gate ∷ []

-- the 32 bytes of a half's header
unfoldable pub half_header : (gate form generation base : ℕ) → List ℕ
half_header gate form generation base =
    gate ∷ form ∷ [] ++ replicate 6 0 ++ to_be_bytes w64 generation ++ to_be_bytes w64 base ++ replicate 8 0

-- one run in a record
abbrev pub part : Run → List ℕ
part run = to_be_bytes w32 run.block ++ to_be_bytes w16 run.off ++ to_be_bytes w16 (length run.bytes) ++ run.bytes

-- the length of a record's parts
abbrev pub body_length : List Run → ℕ
body_length parts = sum_by (λ run. 8 + length run.bytes) parts

-- the record of commit n with these parts and this gate; its kind tells the commit's mode
unfoldable pub spell : (gate kind n : ℕ) → List Run → List ℕ
spell gate kind n parts =
    gate ∷ kind ∷ 0 ∷ 0 ∷ [] ++ to_be_bytes w32 (length parts) ++ to_be_bytes w32 (body_length parts) ++ to_be_bytes w64 n
    ++ flat_map part parts

-- what a record tells of a commit: its mode, and the runs that it wrote
pub record Written : Type 0 where
  pub mode : Mode
  pub parts : List Run

abbrev pub written : Geometry → Commit → Written
written g c = record { mode = c.mode; parts = runs g c.accesses }

-- the kind of a record: 1 is the image's own mode, and 2 the other one
abbrev pub kind_of : Geometry → Mode → ℕ
kind_of g mode = if same_mode mode g.mode then 1 else 2

-- open records, the first of them with the number n
abbrev pub records : Geometry → (n : ℕ) → List Written → List ℕ
records g n [] = []
records g n (w ∷ more) = spell 1 (kind_of g w.mode) n w.parts ++ records g (n + 1) more

-- the commit that a record represents: a write for each part
abbrev pub commit_of : Geometry → (n : ℕ) → Written → Commit
commit_of g n w = record { begin = n - 1; mode = w.mode; accesses = recorded g w.parts }

abbrev pub commits_of : Geometry → (n : ℕ) → List Written → List Commit
commits_of g n [] = []
commits_of g n (w ∷ more) = commit_of g n w ∷ commits_of g (n + 1) more

-- the history as an image tells it whose base is the array after commit b: the later commits, as their records tell them
abbrev pub held : Geometry → (b : ℕ) → History → History
held g b H = record {
  first = b + 1;
  base = array_at H b;
  commits = commits_of g (b + 1) (map (written g) (drop (b + 1 - H.first) H.commits));
}

-- a run of bytes that lies in a block of the array
pub record IsRun (g : Geometry) (run : Run) : Type 0 where
  pub block : run.block < g.blocks
  pub some : 0 < length run.bytes
  pub fits : run.off + length run.bytes ≤ g.block

-- run y may follow run x: it begins in a later block, or in the same one after the byte after x
abbrev pub ComesAfter : Run → Run → Type 0
ComesAfter x y = (x.block < y.block) ⊎ ((x.block ≡ y.block) × (x.off + length x.bytes < y.off))

-- maximal runs in the array, rising
abbrev pub AreRuns : Geometry → List Run → Type 0
AreRuns g [] = Unit {0}
AreRuns g (x ∷ []) = IsRun g x
AreRuns g (x ∷ y ∷ more) = IsRun g x × ComesAfter x y × AreRuns g (y ∷ more)

-- what a record may hold: at least one run; in form 1 the mode is the image's
pub record IsRecord (g : Geometry) (w : Written) : Type 0 where
  pub some : 0 < length w.parts
  pub runs : AreRuns g w.parts
  pub mode : g.form ≡ 1 → w.mode ≡ g.mode

-- n blocks of `size` bytes, from the front of the bytes
abbrev pub blocks_of : (size n : ℕ) → List ℕ → Array
blocks_of size zero bytes = []
blocks_of size (suc n) bytes = take size bytes ∷ blocks_of size n (drop size bytes)

-- the half with the open gate and the larger generation, the first on a tie
abbrev pub chosen_half : (first_open : Bool) → (first : ℕ) → (second_open : Bool) → (second : ℕ) → Option ℕ
chosen_half true first true second = Some (if nat_lt first second then 1 else 0)
chosen_half true first false second = Some 0
chosen_half false first true second = Some 1
chosen_half false first false second = None

abbrev pub is_open_at : List ℕ → (gate : ℕ) → Bool
is_open_at bytes gate = slice_index bytes gate == 1

abbrev pub generation_at : List ℕ → (header : ℕ) → ℕ
generation_at bytes header = from_be_bytes w64 (take 8 (drop (header + 8) bytes))

-- the current half of an image of this geometry
abbrev pub current_half : Geometry → List ℕ → Option ℕ
current_half g bytes =
    chosen_half (is_open_at bytes (header_place g 0)) (generation_at bytes (header_place g 0))
    (is_open_at bytes (header_place g 1)) (generation_at bytes (header_place g 1))

-- The log's bytes are these records, then a closed gate; what follows is free.
abbrev pub IsLog : Geometry → (first : ℕ) → List Written → List ℕ → Type 0
IsLog g first told bytes = (gate : ℕ) × (rest : List ℕ) × (gate ≢ 1) × (bytes ≡ records g first told ++ gate ∷ rest)

-- the bytes are an image of this geometry, whose current half has this generation and holds this history
pub record IsImage (bytes : List ℕ) (g : Geometry) (generation : ℕ) (H : History) : Type 0 where
  pub super : take 64 bytes ≡ superblock 1 g
  pub valid : IsTrue (is_valid g)
  pub size : length bytes ≡ image_size g
  pub half : ℕ
  pub current : current_half g bytes ≡ Some half
  pub header : take 32 (drop (header_place g half) bytes) ≡ half_header 1 g.form generation (H.first - 1)
  pub first : 0 < H.first
  pub generation_bound : generation ≤ LAST
  pub base_bound : H.first - 1 ≤ LAST
  pub base : H.base ≡ blocks_of g.block g.blocks (drop (base_place g half) bytes)
  pub told : List Written
  pub each : AllByRecursion (IsRecord g) told
  pub last : H.first + length told - 1 ≤ LAST
  pub commits : H.commits ≡ commits_of g H.first told
  pub log : IsLog g H.first told (take g.log (drop (log_place g half) bytes))

-- the two lists of accesses write the same values at the same bytes of the array
abbrev pub SameEffect : Geometry → List Access → List Access → Type 0
SameEffect g xs ys = (b p : ℕ) → b < g.blocks → p < g.block → effect_at xs b p ≡ effect_at ys b p

-- the same commit as the image holds it and as it was made
pub record SameCommit (g : Geometry) (held made : Commit) : Type 0 where
  pub mode : held.mode ≡ made.mode
  pub effect : SameEffect g held.accesses made.accesses

-- The image shows the history H of an image of geometry g at its commit p: the arrays that it holds are those of H,
-- up to p, and so are the effects and the modes of its commits.
pub record Shows (bytes : List ℕ) (g : Geometry) (H : History) (p : ℕ) : Type 0 where
  pub until : p ≤ last H
  pub form : ℕ
  pub generation : ℕ
  pub held : History
  pub image : IsImage bytes (record g { form = form }) generation held
  pub last : last held ≡ p
  pub first : H.first ≤ held.first
  pub arrays : (n : ℕ) → held.first ≤ n + 1 → n ≤ p → array_at held n ≡ array_at H n
  pub commits : (n : ℕ) → held.first ≤ n → n ≤ p →
      IfSome (slice_get held.commits (n - held.first)) (λ c. IfSome (slice_get H.commits (n - H.first)) (SameCommit g c))
