-- The words of the laws: what they suppose of a geometry, an array, an access and a history, and what runs say of a byte.
use Rattle.std.specs.{Prelude.{◌≡◌, ℕ, ◌+◌, ◌-◌, ◌*◌, ◌<◌, ◌≤◌, Bool, ◌&&◌, ◌==◌, cond, List, [], ◌∷◌, ◌++◌, Option, Some, None, IsTrue, IsFalse, length, slice_index, slice_index_or}, List.AllByRecursion}
use Rattle.iso_model.specs.{declared.access.Access.Access, declared.access.Commit.Commit, declared.access.Geometry.Geometry, declared.access.Run.Run, declared.access.Span.Span, declared.limits.TheConstants.MAX_SPANS, Array.{Array, in_span}, Effect.{is_write, or_else}, Geometry.{image_size, half_size}, History.History}

-- the limits that a valid geometry keeps
pub record Limits (g : Geometry) : Type 0 where
  pub least_block : 64 ≤ g.block
  pub largest_block : g.block ≤ 4096
  pub some_blocks : 1 ≤ g.blocks
  pub most_blocks : g.blocks ≤ 16384
  pub least_log : 64 ≤ g.log
  pub largest_log : g.log ≤ 67108864
  pub regions : g.hash + g.tree ≤ g.blocks
  pub least_form : 1 ≤ g.form
  pub largest_form : g.form ≤ 2
  pub base : g.blocks * g.block ≤ 67108864
  pub half : half_size g ≤ 134217760
  pub image : image_size g ≤ 268435584

-- each of them is a byte
abbrev pub AreBytes : List ℕ → Type 0
AreBytes bytes = (i : ℕ) → slice_index bytes i < 256

-- the bytes of block b, none where the array has no such block
abbrev pub block_at : Array → (b : ℕ) → List ℕ
block_at A b = slice_index_or A b []

-- an array of the geometry's blocks, each with its bytes
pub record HasShape (g : Geometry) (A : Array) : Type 0 where
  pub blocks : length A ≡ g.blocks
  pub bytes : (b : ℕ) → b < g.blocks → length (block_at A b) ≡ g.block
  pub values : (b : ℕ) → AreBytes (block_at A b)

-- a write has `size` bytes
abbrev pub HasBytes : ℕ → Access → Type 0
HasBytes size a = IsTrue (is_write a) → length a.bytes ≡ size

-- a span of at least one byte in a block of this size
pub record IsSpan (size : ℕ) (span : Span) : Type 0 where
  pub some : 0 < span.len
  pub fits : span.off + span.len ≤ size

-- an access to a block of the array; a write has the bytes of a whole block, a read has none
pub record IsAccess (g : Geometry) (a : Access) : Type 0 where
  pub block : a.block < g.blocks
  pub spans : AllByRecursion (IsSpan g.block) a.spans
  pub few : length a.spans ≤ MAX_SPANS
  pub bytes : HasBytes g.block a
  pub none : IsFalse (is_write a) → a.bytes ≡ []
  pub values : AreBytes a.bytes

abbrev pub AreAccesses : Geometry → List Access → Type 0
AreAccesses g accesses = AllByRecursion (IsAccess g) accesses

-- a history of an image of this geometry
pub record IsHistory (g : Geometry) (H : History) : Type 0 where
  pub first : 0 < H.first
  pub base : HasShape g H.base
  pub commits : AllByRecursion (λ c. AreAccesses g c.accesses) H.commits

-- the history with one more commit
abbrev pub appended : History → Commit → History
appended H c = record H { commits = H.commits ++ c ∷ [] }

-- whether the run has the byte at p of block b
abbrev pub in_run : (b p : ℕ) → Run → Bool
in_run b p run = (run.block == b) && in_span p (record { off = run.off; len = length run.bytes })

-- the value that the run has at byte p of block b, if it has the byte
abbrev pub value_of : Run → (b p : ℕ) → Option ℕ
value_of run b p = cond (in_run b p run) (Some (slice_index run.bytes (p - run.off))) None

-- the value that the runs have at byte p of block b, if one of them has the byte: that of the last such run
abbrev pub value_in : List Run → (b p : ℕ) → Option ℕ
value_in [] b p = None
value_in (run ∷ runs) b p = or_else (value_in runs b p) (value_of run b p)
