-- A store's call as a program: reads of marked bytes, each of which decides what comes next, and writes.
use Rattle.std.specs.{Prelude.{◌≡◌, ℕ, zero, suc, Bool, false, ◌&&◌, ◌||◌, not, cond, IsTrue, List, [], ◌∷◌, ◌++◌, Option, Some, None, length, take, drop, nat_le}, List.AllByRecursion}
use Rattle.iso_model.specs.{declared.access.Access.Access, declared.access.Kind.TheVariants.{Read, Write}, declared.access.Span.Span, Array.{Array, put, byte_at}, Effect.{own, covers, is_write}, Premises.block_at}

-- A call that answers an R. `Look` reads a block under a first mark; the bytes under it decide whether there is a further mark,
-- and the bytes under both decide what comes next. `LookWhole` reads a block without a mark. `Reserve` goes on only where
-- `count` more accesses fit. `Store` writes the bytes of a block, under these marks.
pub data Program (R : Type 0) : Type 0 where
  Done : R → Program R
  Look : (block : ℕ) → (mark : Span) → (further : List ℕ → Option Span) → (next : List ℕ → List ℕ → Program R) → Program R
  LookWhole : (block : ℕ) → (next : List ℕ → Program R) → Program R
  Reserve : (count : ℕ) → (next : Program R) → Program R
  Store : (block : ℕ) → (spans : List Span) → (bytes : List ℕ) → (next : Program R) → Program R

-- the bytes of a block in a span
abbrev pub bytes_in : Span → List ℕ → List ℕ
bytes_in span block = take span.len (drop span.off block)

-- the bytes under a further mark, and none where there is none
abbrev pub further_bytes : Option Span → List ℕ → List ℕ
further_bytes None block = []
further_bytes (Some span) block = bytes_in span block

abbrev pub with_further : Option Span → List Span
with_further None = []
with_further (Some span) = span ∷ []

-- a read of a block with these marks
abbrev pub look_access : (block : ℕ) → List Span → Access
look_access block spans = record { kind = Read; block = block; spans = spans; bytes = [] }

-- a write of a block with these marks
abbrev pub store_access : (block : ℕ) → List Span → List ℕ → Access
store_access block spans bytes = record { kind = Write; block = block; spans = spans; bytes = bytes }

-- the accesses of the program on an array, in order
abbrev pub accesses_of : {R : Type 0} → Program R → Array → List Access
accesses_of (Done r) A = []
accesses_of (Look block mark further next) A =
    look_access block (mark ∷ with_further (further (bytes_in mark (block_at A block))))
    ∷ accesses_of (next (bytes_in mark (block_at A block)) (further_bytes (further (bytes_in mark (block_at A block))) (block_at A block))) A
accesses_of (LookWhole block next) A = look_access block [] ∷ accesses_of (next (block_at A block)) A
accesses_of (Reserve count next) A = accesses_of next A
accesses_of (Store block spans bytes next) A =
    store_access block spans bytes ∷ accesses_of next (put A (store_access block spans bytes))

-- its answer
abbrev pub answer_of : {R : Type 0} → Program R → Array → R
answer_of (Done r) A = r
answer_of (Look block mark further next) A =
    answer_of (next (bytes_in mark (block_at A block)) (further_bytes (further (bytes_in mark (block_at A block))) (block_at A block))) A
answer_of (LookWhole block next) A = answer_of (next (block_at A block)) A
answer_of (Reserve count next) A = answer_of next A
answer_of (Store block spans bytes next) A = answer_of next (put A (store_access block spans bytes))

-- accesses, and an answer where there is one: with these accesses before them
abbrev pub after : {R : Type 0} → List Access → List Access × Option R → List Access × Option R
after done rest = (done ++ rest.0, rest.1)

-- The accesses of the program, and its answer, in a transaction that has room for `room` more accesses; there is no answer
-- where an access or a reservation does not fit.
abbrev pub outcome : {R : Type 0} → (room : ℕ) → Program R → Array → List Access × Option R
outcome room (Done r) A = ([], Some r)
outcome zero (Look block mark further next) A = ([], None)
outcome (suc room) (Look block mark further next) A =
    after (look_access block (mark ∷ with_further (further (bytes_in mark (block_at A block)))) ∷ [])
    (outcome room (next (bytes_in mark (block_at A block)) (further_bytes (further (bytes_in mark (block_at A block))) (block_at A block))) A)
outcome zero (LookWhole block next) A = ([], None)
outcome (suc room) (LookWhole block next) A = after (look_access block [] ∷ []) (outcome room (next (block_at A block)) A)
outcome room (Reserve count next) A = cond (nat_le count room) (outcome room next A) ([], None)
outcome zero (Store block spans bytes next) A = ([], None)
outcome (suc room) (Store block spans bytes next) A =
    after (store_access block spans bytes ∷ []) (outcome room next (put A (store_access block spans bytes)))

-- one program after the other, which its answer chooses
abbrev pub then_do : {R S : Type 0} → Program R → (R → Program S) → Program S
then_do (Done r) f = f r
then_do (Look block mark further next) f = Look block mark further (λ xs ys. then_do (next xs ys) f)
then_do (LookWhole block next) f = LookWhole block (λ xs. then_do (next xs) f)
then_do (Reserve count next) f = Reserve count (then_do next f)
then_do (Store block spans bytes next) f = Store block spans bytes (then_do next f)

-- whether the accesses depend on the byte: a read covers it, and no write before that read
abbrev pub depends : List Access → (b p : ℕ) → Bool
depends [] b p = false
depends (a ∷ accesses) b p = covers Read b p a || (not (covers Write b p a) && depends accesses b p)

-- accesses that read alone
abbrev pub AreReads : List Access → Type 0
AreReads accesses = AllByRecursion (λ a. is_write a ≡ false) accesses

-- an array of as many blocks, each of as many bytes
pub record SameShape (A B : Array) : Type 0 where
  pub blocks : length B ≡ length A
  pub bytes : (b : ℕ) → length (block_at B b) ≡ length (block_at A b)

-- the arrays agree on the bytes that the accesses depend on
abbrev pub Agree : List Access → Array → Array → Type 0
Agree accesses A B = (b p : ℕ) → IsTrue (depends accesses b p) → byte_at B b p ≡ byte_at A b p

-- A call that made these accesses on the array and answered r is local: on every array of that shape that is well formed and
-- agrees with it on the bytes that the call depends on, the operation on the map of that array gives the answer, and these
-- writes leave a well-formed array with the map that the operation gives.
pub record IsLocal {M R : Type 0} (IsWellFormed : Array → Type 0) (map_of : Array → M) (op : M → R × M) (A : Array) (accesses : List Access) (r : R) : Type 0 where
  pub answers : (B : Array) → SameShape A B → IsWellFormed B → Agree accesses A B → (op (map_of B)).0 ≡ r
  pub well_formed : (B : Array) → SameShape A B → IsWellFormed B → Agree accesses A B → IsWellFormed (own B accesses)
  pub maps : (B : Array) → SameShape A B → IsWellFormed B → Agree accesses A B → map_of (own B accesses) ≡ (op (map_of B)).1
