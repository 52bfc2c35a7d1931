-- The accesses of a store's call are accesses to the array.
use Rattle.store_model.proofs.Words.{◌≡◌, refl, ℕ, zero, suc, ◌<◌, ◌≤◌, Bool, true, false, cond, List, [], ◌∷◌, length, Option, Some, None, IfSome, nat_le, arith, Access, Geometry, Span, Array, put, block_at, AreAccesses, AreBytes, HasShape, IsAccess, IsSpan, Program, Done, Look, LookWhole, Reserve, Store, after, bytes_in, further_bytes, look_access, outcome, store_access, then_do, with_further, bytes_drop, bytes_take, no_bytes, length-block_put, length-put, put_values, ◌+◌, Area, AllByRecursion}

-- each access of the program is one to the array, whatever bytes it reads, and each answer has P
abbrev pub AllFit : {R : Type 0} → Geometry → (R → Type 0) → Program R → Type 0
AllFit g P (Done r) = P r
AllFit g P (Look block mark further next) =
    (block < g.blocks) × IsSpan g.block mark × ((xs : List ℕ) → IfSome (further xs) (IsSpan g.block))
    × ((xs ys : List ℕ) → AreBytes xs → AreBytes ys → AllFit g P (next xs ys))
AllFit g P (LookWhole block next) = (block < g.blocks) × ((xs : List ℕ) → length xs ≡ g.block → AreBytes xs → AllFit g P (next xs))
AllFit g P (Reserve count next) = AllFit g P next
AllFit g P (Store block spans bytes next) = IsAccess g (store_access block spans bytes) × AllFit g P next

-- one program after the other
pub fit_then : {R S : Type 0} (g : Geometry) (P : R → Type 0) (Q : S → Type 0) (p : Program R) (f : R → Program S)
    → AllFit g P p → ((r : R) → P r → AllFit g Q (f r)) → AllFit g Q (then_do p f)
fit_then g P Q (Done r) f fit more = more r fit
fit_then g P Q (Look block mark further next) f (inside, span, spans, rest) more =
    (inside, span, spans, λ xs ys x_bytes y_bytes. fit_then g P Q (next xs ys) f (rest xs ys x_bytes y_bytes) more)
fit_then g P Q (LookWhole block next) f (inside, rest) more = (inside, λ xs long bytes. fit_then g P Q (next xs) f (rest xs long bytes) more)
fit_then g P Q (Reserve count next) f fit more = fit_then g P Q next f fit more
fit_then g P Q (Store block spans bytes next) f (access, rest) more = (access, fit_then g P Q next f rest more)

pub fit_cond : {R : Type 0} (g : Geometry) (P : R → Type 0) (test : Bool) (p q : Program R) → (test ≡ true → AllFit g P p) → (test ≡ false → AllFit g P q) → AllFit g P (cond test p q)
fit_cond g P test p q yes_fits no_fits = grind arith

-- a read under one mark and perhaps a further one
look_is : (g : Geometry) (block : ℕ) (mark : Span) (further : Option Span) → block < g.blocks → IsSpan g.block mark → IfSome further (IsSpan g.block)
    → IsAccess g (look_access block (mark ∷ with_further further))
look_is g block mark None inside span more = record { block = inside; spans = (span, tt); few = omega arith; bytes = λ write. cc; none = λ read. refl; values = no_bytes }
look_is g block mark (Some other) inside span more = grind (arith, no_bytes)

whole_is : (g : Geometry) (block : ℕ) → block < g.blocks → IsAccess g (look_access block [])
whole_is g block inside = record { block = inside; spans = tt; few = omega arith; bytes = λ write. cc; none = λ read. refl; values = no_bytes }

shape_put : (g : Geometry) (A : Array) (w : Access) → HasShape g A → IsAccess g w → HasShape g (put A w)
shape_put g A w shape is = grind (arith, length-put, length-block_put, put_values)

span_bytes : (span : Span) (block : List ℕ) → AreBytes block → AreBytes (bytes_in span block)
span_bytes span block bytes = bytes_take span.len _ (bytes_drop span.off block bytes)

further_are_bytes : (further : Option Span) (block : List ℕ) → AreBytes block → AreBytes (further_bytes further block)
further_are_bytes None block bytes = no_bytes
further_are_bytes (Some span) block bytes = span_bytes span block bytes

-- accesses to the array, at most `room`
pub record Fits {R : Type 0} (g : Geometry) (room : ℕ) (ended : List Access × Option R) : Type 0 where
  pub accesses : AreAccesses g ended.0
  pub count : length ended.0 ≤ room

nothing_fits : {R : Type 0} (g : Geometry) (room : ℕ) (end : Option R) → Fits g room ([], end)
nothing_fits g room end = record { accesses = tt; count = omega arith }

one_fits : {R : Type 0} (g : Geometry) (room : ℕ) (a : Access) (ended : List Access × Option R) → IsAccess g a → Fits g room ended → Fits g (suc room) (after (a ∷ []) ended)
one_fits g room a ended is rest = record { accesses = (is, rest.accesses); count = omega (arith, rest.count) }

either_fits : {R : Type 0} (g : Geometry) (room : ℕ) (test : Bool) (ended : List Access × Option R) → Fits g room ended → Fits g room (cond test ended ([], None))
either_fits g room true ended fits = fits
either_fits g room false ended fits = nothing_fits g room None

-- The accesses of a program that runs on this array fit: it reads what is there, and each answer has P with the array in the end.
abbrev pub FitsOn : {R : Type 0} → Geometry → (R → Array → Type 0) → Program R → Array → Type 0
FitsOn g P (Done r) A = P r A
FitsOn g P (Look block mark further next) A =
    (block < g.blocks) × IsSpan g.block mark × IfSome (further (bytes_in mark (block_at A block))) (IsSpan g.block)
    × FitsOn g P (next (bytes_in mark (block_at A block)) (further_bytes (further (bytes_in mark (block_at A block))) (block_at A block))) A
FitsOn g P (LookWhole block next) A = (block < g.blocks) × FitsOn g P (next (block_at A block)) A
FitsOn g P (Reserve count next) A = FitsOn g P next A
FitsOn g P (Store block spans bytes next) A = IsAccess g (store_access block spans bytes) × FitsOn g P next (put A (store_access block spans bytes))

pub fits_then : {R S : Type 0} (g : Geometry) (P : R → Array → Type 0) (Q : S → Array → Type 0) (p : Program R) (f : R → Program S) (A : Array)
    → FitsOn g P p A → ((r : R) (B : Array) → P r B → FitsOn g Q (f r) B) → FitsOn g Q (then_do p f) A
fits_then g P Q (Done r) f A fit more = more r A fit
fits_then g P Q (Look block mark further next) f A (inside, span, other, rest) more =
    (inside, span, other, fits_then g P Q (next (bytes_in mark (block_at A block)) (further_bytes (further (bytes_in mark (block_at A block))) (block_at A block))) f A rest more)
fits_then g P Q (LookWhole block next) f A (inside, rest) more = (inside, fits_then g P Q (next (block_at A block)) f A rest more)
fits_then g P Q (Reserve count next) f A fit more = fits_then g P Q next f A fit more
fits_then g P Q (Store block spans bytes next) f A (access, rest) more = (access, fits_then g P Q next f (put A (store_access block spans bytes)) rest more)

pub fits_cond : {R : Type 0} (g : Geometry) (P : R → Array → Type 0) (test : Bool) (p q : Program R) (A : Array) → (test ≡ true → FitsOn g P p A) → (test ≡ false → FitsOn g P q A)
    → FitsOn g P (cond test p q) A
fits_cond g P test p q A yes_fits no_fits = grind arith

-- with less to say of each answer
pub fits_more : {R : Type 0} (g : Geometry) (P Q : R → Array → Type 0) (p : Program R) (A : Array) → FitsOn g P p A → ((r : R) (B : Array) → P r B → Q r B) → FitsOn g Q p A
fits_more g P Q (Done r) A fit more = more r A fit
fits_more g P Q (Look block mark further next) A (inside, span, other, rest) more =
    (inside, span, other, fits_more g P Q (next (bytes_in mark (block_at A block)) (further_bytes (further (bytes_in mark (block_at A block))) (block_at A block))) A rest more)
fits_more g P Q (LookWhole block next) A (inside, rest) more = (inside, fits_more g P Q (next (block_at A block)) A rest more)
fits_more g P Q (Reserve count next) A fit more = fits_more g P Q next A fit more
fits_more g P Q (Store block spans bytes next) A (access, rest) more = (access, fits_more g P Q next (put A (store_access block spans bytes)) rest more)

-- a program that fits whatever it reads fits on each array
pub fits_on : {R : Type 0} (g : Geometry) (P : R → Type 0) (p : Program R) (A : Array) → HasShape g A → AllFit g P p → FitsOn g (λ r B. P r) p A
fits_on g P (Done r) A shape fit = fit
fits_on g P (Look block mark further next) A shape (inside, span, spans, rest) =
    let x = bytes_in mark (block_at A block) in
    let y = further_bytes (further x) (block_at A block) in
    (inside, span, spans x, fits_on g P (next x y) A shape (rest x y (span_bytes mark (block_at A block) (shape.values block)) (further_are_bytes (further x) (block_at A block) (shape.values block))))
fits_on g P (LookWhole block next) A shape (inside, rest) = (inside, fits_on g P (next (block_at A block)) A shape (rest (block_at A block) (shape.bytes block inside) (shape.values block)))
fits_on g P (Reserve count next) A shape fit = fits_on g P next A shape fit
fits_on g P (Store block spans bytes next) A shape (access, rest) =
    (access, fits_on g P next (put A (store_access block spans bytes)) (shape_put g A (store_access block spans bytes) shape access) rest)

-- what the program does in a transaction that has room for `room` more accesses
pub outcome_fits : {R : Type 0} (g : Geometry) (P : R → Array → Type 0) (room : ℕ) (p : Program R) (A : Array) → FitsOn g P p A → Fits g room (outcome room p A)
outcome_fits g P room (Done r) A fit = nothing_fits g room (Some r)
outcome_fits g P zero (Look block mark further next) A fit = nothing_fits g zero None
outcome_fits g P (suc room) (Look block mark further next) A (inside, span, other, rest) =
    let x = bytes_in mark (block_at A block) in
    let y = further_bytes (further x) (block_at A block) in
    one_fits g room (look_access block (mark ∷ with_further (further x))) (outcome room (next x y) A) (look_is g block mark (further x) inside span other)
    (outcome_fits g P room (next x y) A rest)
outcome_fits g P zero (LookWhole block next) A fit = nothing_fits g zero None
outcome_fits g P (suc room) (LookWhole block next) A (inside, rest) =
    one_fits g room (look_access block []) (outcome room (next (block_at A block)) A) (whole_is g block inside) (outcome_fits g P room (next (block_at A block)) A rest)
outcome_fits g P room (Reserve count next) A fit = either_fits g room (nat_le count room) (outcome room next A) (outcome_fits g P room next A fit)
outcome_fits g P zero (Store block spans bytes next) A fit = nothing_fits g zero None
outcome_fits g P (suc room) (Store block spans bytes next) A (access, rest) =
    one_fits g room (store_access block spans bytes) (outcome room next (put A (store_access block spans bytes))) access
    (outcome_fits g P room next (put A (store_access block spans bytes)) rest)

-- a write of a block of an area
pub stored_in : (g : Geometry) (a : Area) → a.size ≡ g.block → a.start + a.blocks ≤ g.blocks → (block : ℕ) (spans : List Span) (bytes : List ℕ) → block < a.blocks → AllByRecursion (IsSpan g.block) spans
    → length spans ≤ 8 → length bytes ≡ a.size → AreBytes bytes → IsAccess g (store_access (a.start + block) spans bytes)
stored_in g a size fits block spans bytes below all few long values = grind arith
