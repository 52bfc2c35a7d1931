-- A program's accesses and its answer are a function of the bytes that it depends on.
use Rattle.tx_blocks.proofs.Words.{◌≡◌, ◌∙◌, sym, refl, ap, subst, ℕ, ◌+◌, ◌-◌, ◌<◌, ◌≤◌, Bool, true, false, ◌&&◌, ◌==◌, not, cond, IsTrue, List, [], ◌∷◌, ◌++◌, length, get_or, drop, Option, Some, None, arith, inl, inr, eq-eqb, ne_eqb, AllByRecursion, both_ways, cases_eq, cases_lt, or_left, or_right, and_from, nat_tests, ext_get_or, get_or-take, get_or-drop, get_or_past, length-take, length-drop, Access, Span, Read, Array, covered, in_span, put, byte_at, own, is_write, covers, block_at, Program, Done, Look, LookWhole, Reserve, Store, bytes_in, further_bytes, with_further, look_access, store_access, accesses_of, answer_of, then_do, depends, SameShape, Agree, AreReads, IsLocal, put_at, length-put, length-block_put, other_block, Area, IsTx, Tx, Result, Ok, Err, StoreError, length-block_own}

-- each write has the bytes of a whole block
abbrev pub AreWhole : Array → List Access → Type 0
AreWhole A accesses = AllByRecursion (λ a. IsTrue (is_write a) → length a.bytes ≡ length (block_at A a.block)) accesses

-- each block of an area has the bytes of a block
abbrev pub HasBlocks : Area → Array → Type 0
HasBlocks a A = (k : ℕ) → k < a.blocks → length (block_at A (a.start + k)) ≡ a.size

pub blocks_of : (a : Area) (t : Tx) (A : Array) → IsTx t → t.size ≡ a.size → a.start + a.blocks ≤ t.blocks → t.base ≡ Some A → HasBlocks a (own A t.accesses)
blocks_of a t A is size fits told k below = length-block_own A t.accesses (a.start + k) ∙ (is.base A told).bytes (a.start + k) (omega arith) ∙ size

-- writes of whole blocks, and those of more
pub whole_append : (A : Array) (xs ys : List Access) → AreWhole A xs → AreWhole A ys → AreWhole A (xs ++ ys)
whole_append A [] ys all more = more
whole_append A (x ∷ xs) ys all more = (all.0, whole_append A xs ys all.1 more)

-- a program that reads alone, whichever way it goes
pub cond_reads : {R : Type 0} (t : Bool) (p q : Program R) (A : Array) → AreReads (accesses_of p A) → AreReads (accesses_of q A) → AreReads (accesses_of (cond t p q) A)
cond_reads true p q A then_all else_all = then_all
cond_reads false p q A then_all else_all = else_all

-- what answers tell
pub same_ok : {X : Type 0} (x y : X) (E : Type 0) → ◌≡◌ {A = Result X E} (Ok x) (Ok y) → x ≡ y
same_ok x y E e = cc

pub no_ok : {X : Type 0} (e : StoreError) (x : X) → ◌≡◌ {A = Result X StoreError} (Err e) (Ok x) → ⊥
no_ok e x is = cc

-- what is done after a program is done on the array that it leaves
pub accesses_then : {R S : Type 0} (p : Program R) (f : R → Program S) (A : Array)
    → accesses_of (then_do p f) A ≡ accesses_of p A ++ accesses_of (f (answer_of p A)) (own A (accesses_of p A))
accesses_then (Done r) f A = refl
accesses_then (Look block mark further next) f A = ap (λ rest. look_access block (mark ∷ with_further (further (bytes_in mark (block_at A block)))) ∷ rest)
    (accesses_then (next (bytes_in mark (block_at A block)) (further_bytes (further (bytes_in mark (block_at A block))) (block_at A block))) f A)
accesses_then (LookWhole block next) f A = ap (λ rest. look_access block [] ∷ rest) (accesses_then (next (block_at A block)) f A)
accesses_then (Reserve count next) f A = accesses_then next f A
accesses_then (Store block spans bytes next) f A = ap (λ rest. store_access block spans bytes ∷ rest) (accesses_then next f (put A (store_access block spans bytes)))

pub answer_then : {R S : Type 0} (p : Program R) (f : R → Program S) (A : Array)
    → answer_of (then_do p f) A ≡ answer_of (f (answer_of p A)) (own A (accesses_of p A))
answer_then (Done r) f A = refl
answer_then (Look block mark further next) f A =
    answer_then (next (bytes_in mark (block_at A block)) (further_bytes (further (bytes_in mark (block_at A block))) (block_at A block))) f A
answer_then (LookWhole block next) f A = answer_then (next (block_at A block)) f A
answer_then (Reserve count next) f A = answer_then next f A
answer_then (Store block spans bytes next) f A = answer_then next f (put A (store_access block spans bytes))

-- a byte of a span is in the block
byte_in : (span : Span) (block : List ℕ) (i : ℕ) → i < span.len → get_or (bytes_in span block) i 0 ≡ get_or block (span.off + i) 0
byte_in span block i below = get_or-take span.len (drop span.off block) i 0 below ∙ get_or-drop span.off block i 0

in_span_at : (span : Span) (i : ℕ) → i < span.len → in_span (span.off + i) span ≡ true
in_span_at span i below = grind (arith, nat_tests)

-- blocks of one length that agree in a span have the same bytes there
pub same_bytes : (span : Span) (x y : List ℕ) → length y ≡ length x → ((p : ℕ) → in_span p span ≡ true → get_or y p 0 ≡ get_or x p 0) → bytes_in span y ≡ bytes_in span x
same_bytes span x y same agree = ext_get_or 0 (bytes_in span y) (bytes_in span x)
    (length-take span.len (drop span.off y) ∙ ap (λ n. Prim.Native.Nat.min span.len n) (length-drop span.off y ∙ ap (λ n. n - span.off) same ∙ sym (length-drop span.off x)) ∙ sym (length-take span.len (drop span.off x)))
    (λ i below.
    let inside : i < span.len = omega (arith, length-take span.len (drop span.off y)) in
    byte_in span y i inside ∙ agree (span.off + i) (in_span_at span i inside) ∙ sym (byte_in span x i inside))

covers_read : (b p : ℕ) (spans : List Span) → covered spans p ≡ true → covers Read b p (look_access b spans) ≡ true
covers_read b p spans has = let same : (b == b) ≡ true = eq-eqb b b refl in rw same has

-- arrays that agree on what a read and the rest depend on agree on what the read covers, and on what the rest depends on
agree_head : (b : ℕ) (spans : List Span) (rest : List Access) (A B : Array) → Agree (look_access b spans ∷ rest) A B
    → (p : ℕ) → covered spans p ≡ true → byte_at B b p ≡ byte_at A b p
agree_head b spans rest A B agree p has = agree b p (or_left (covers Read b p (look_access b spans)) (depends rest b p) (covers_read b p spans has))

agree_rest : (b : ℕ) (spans : List Span) (rest : List Access) (A B : Array) → Agree (look_access b spans ∷ rest) A B → Agree rest A B
agree_rest b spans rest A B agree c p has = agree c p (or_right (covers Read c p (look_access b spans)) (depends rest c p) has)

put_past : (A : Array) (w : Access) (b p : ℕ) → length (block_at A b) ≤ p → byte_at (put A w) b p ≡ 0
put_past A w b p past = get_or_past (block_at (put A w) b) p 0 (omega (arith, length-block_put A w b))

one_value : (test : Bool) (v x y : ℕ) → (test ≡ false → x ≡ y) → cond test v x ≡ cond test v y
one_value true v x y h = refl
one_value false v x y h = h refl

-- arrays that agree on what a write and the rest depend on agree, after the write, on what the rest depends on
agree_stored : (b : ℕ) (spans : List Span) (bytes : List ℕ) (rest : List Access) (A B : Array) → SameShape A B → length bytes ≡ length (block_at A b)
    → Agree (store_access b spans bytes ∷ rest) A B → Agree rest (put A (store_access b spans bytes)) (put B (store_access b spans bytes))
agree_stored b spans bytes rest A B same whole agree c p has = elim (cases_lt p (length (block_at A c))) [
  | inl inside ↦ elim (cases_eq b c) [
    | inl here ↦
        (let wholeA : length bytes ≡ length (block_at A c) = whole ∙ ap (λ k. length (block_at A k)) here in
        let wholeB : length bytes ≡ length (block_at B c) = wholeA ∙ sym (same.bytes c) in
        let insideB : p < length (block_at B c) = omega (arith, same.bytes c) in
        put_at B (store_access b spans bytes) c p wholeB insideB
        ∙ one_value ((b == c) && covered spans p) (get_or bytes p 0) (byte_at B c p) (byte_at A c p)
        (λ not. agree c p (or_right (covers Read c p (store_access b spans bytes)) _ (and_from _ _ (ap (λ t. Rattle.std.specs.Prelude.not t) not) has)))
        ∙ sym (put_at A (store_access b spans bytes) c p wholeA inside))
    | inr other ↦
        (let not : (b == c) ≡ false = ne_eqb b c other in
        ap (λ (x : List ℕ). get_or x p 0) (other_block B (store_access b spans bytes) c (λ e. other (sym e)))
        ∙ agree c p (rw not has)
        ∙ sym (ap (λ (x : List ℕ). get_or x p 0) (other_block A (store_access b spans bytes) c (λ e. other (sym e)))))
  ]
  | inr past ↦ put_past B (store_access b spans bytes) c p (omega (arith, same.bytes c)) ∙ sym (put_past A (store_access b spans bytes) c p past)
]

same_shape_put : (A B : Array) (w : Access) → SameShape A B → SameShape (put A w) (put B w)
same_shape_put A B w same = record {
  blocks = length-put B w ∙ same.blocks ∙ sym (length-put A w);
  bytes = λ b. length-block_put B w b ∙ same.bytes b ∙ sym (length-block_put A w b);
}

whole_after : (A : Array) (w : Access) (rest : List Access) → AreWhole A rest → AreWhole (put A w) rest
whole_after A w [] all = tt
whole_after A w (a ∷ rest) all = (λ write. all.0 write ∙ sym (length-block_put A w a.block), whole_after A w rest all.1)

agree_bytes : (b : ℕ) (mark : Span) (more : List Span) (span : Span) (A B : Array) → SameShape A B
    → ((p : ℕ) → in_span p span ≡ true → covered (mark ∷ more) p ≡ true)
    → ((p : ℕ) → covered (mark ∷ more) p ≡ true → byte_at B b p ≡ byte_at A b p) → bytes_in span (block_at B b) ≡ bytes_in span (block_at A b)
agree_bytes b mark more span A B same covers agree = same_bytes span (block_at A b) (block_at B b) (same.bytes b) (λ p has. agree p (covers p has))

agree_further : (b : ℕ) (mark : Span) (further : Option Span) (A B : Array) → SameShape A B
    → ((p : ℕ) → covered (mark ∷ with_further further) p ≡ true → byte_at B b p ≡ byte_at A b p)
    → further_bytes further (block_at B b) ≡ further_bytes further (block_at A b)
agree_further b mark None A B same agree = refl
agree_further b mark (Some span) A B same agree =
    agree_bytes b mark (span ∷ []) span A B same (λ p has. or_right (in_span p mark) _ (or_left (in_span p span) false has)) agree

-- A program does the same, and answers the same, on arrays that agree on the bytes that it depends on.
pub record DoesTheSame {R : Type 0} (p : Program R) (A B : Array) : Type 0 where
  pub accesses : accesses_of p B ≡ accesses_of p A
  pub answer : answer_of p B ≡ answer_of p A

pub determined : {R : Type 0} (p : Program R) (A B : Array) → SameShape A B → AreWhole A (accesses_of p A) → Agree (accesses_of p A) A B → DoesTheSame p A B
determined (Done r) A B same whole agree = record { accesses = refl; answer = refl }
determined (Look block mark further next) A B same whole agree =
    let x = bytes_in mark (block_at A block) in
    let y = further_bytes (further x) (block_at A block) in
    let spans = with_further (further x) in
    let rest = accesses_of (next x y) A in
    let head = agree_head block (mark ∷ spans) rest A B agree in
    let first : bytes_in mark (block_at B block) ≡ x = agree_bytes block mark spans mark A B same (λ p has. or_left (in_span p mark) _ has) head in
    let second : further_bytes (further x) (block_at B block) ≡ y = agree_further block mark (further x) A B same head in
    let ih = determined (next x y) A B same whole.1 (agree_rest block (mark ∷ spans) rest A B agree) in
    record {
      accesses = rw (first, second) (ap (λ r. look_access block (mark ∷ spans) ∷ r) ih.accesses);
      answer = rw (first, second) ih.answer;
    }
determined (LookWhole block next) A B same whole agree =
    let x = block_at A block in
    let rest = accesses_of (next x) A in
    let e : block_at B block ≡ x = ext_get_or 0 (block_at B block) x (same.bytes block) (λ p below. agree_head block [] rest A B agree p refl) in
    let ih = determined (next x) A B same whole.1 (agree_rest block [] rest A B agree) in
    record {
      accesses = rw e (ap (λ r. look_access block [] ∷ r) ih.accesses);
      answer = rw e ih.answer;
    }
determined (Reserve count next) A B same whole agree =
    let ih = determined next A B same whole agree in
    record { accesses = ih.accesses; answer = ih.answer }
determined (Store block spans bytes next) A B same whole agree =
    let w = store_access block spans bytes in
    let rest = accesses_of next (put A w) in
    let ih = determined next (put A w) (put B w) (same_shape_put A B w same) (whole_after A w rest whole.1)
    (agree_stored block spans bytes rest A B same (whole.0 refl) agree) in
    record { accesses = ap (λ r. w ∷ r) ih.accesses; answer = ih.answer }

pub own_reads : (A : Array) (accesses : List Access) → AreReads accesses → own A accesses ≡ A
own_reads A [] all = refl
own_reads A (a ∷ accesses) all = subst (λ (t : Bool). own (cond t (put A a) A) accesses ≡ A) (sym all.0) (own_reads A accesses all.1)

pub whole_reads : (A : Array) (accesses : List Access) → AreReads accesses → AreWhole A accesses
whole_reads A [] all = tt
whole_reads A (a ∷ accesses) all = (λ write. absurd (both_ways (is_write a) all.0 write), whole_reads A accesses all.1)

pub reads_append : (xs ys : List Access) → AreReads xs → AreReads ys → AreReads (xs ++ ys)
reads_append [] ys all more = more
reads_append (x ∷ xs) ys all more = (all.0, reads_append xs ys all.1 more)

pub reads_then : {R S : Type 0} (p : Program R) (f : R → S) (A : Array) → AreReads (accesses_of p A) → AreReads (accesses_of (then_do p (λ r. Done (f r))) A)
reads_then p f A all = subst AreReads (sym (accesses_then p (λ r. Done (f r)) A)) (reads_append (accesses_of p A) [] all tt)

-- What a program does to each well-formed array is what the operation does to its map.
pub record IsCorrect {M R X : Type 0} (IsWellFormed : Array → Type 0) (map_of : Array → M) (op : M → R × M) (answered : R → X) (p : Program X) : Type 0 where
  pub answer : (B : Array) (r : R) → IsWellFormed B → answer_of p B ≡ answered r → (op (map_of B)).0 ≡ r
  pub well_formed : (B : Array) (r : R) → IsWellFormed B → answer_of p B ≡ answered r → IsWellFormed (own B (accesses_of p B))
  pub maps : (B : Array) (r : R) → IsWellFormed B → answer_of p B ≡ answered r → map_of (own B (accesses_of p B)) ≡ (op (map_of B)).1

-- A correct program is local.
pub local_from : {M R X : Type 0} (IsWellFormed : Array → Type 0) (map_of : Array → M) (op : M → R × M) (answered : R → X) (p : Program X) (A : Array) (r : R)
    → IsCorrect IsWellFormed map_of op answered p → AreWhole A (accesses_of p A) → answer_of p A ≡ answered r
    → IsLocal IsWellFormed map_of op A (accesses_of p A) r
local_from IsWellFormed map_of op answered p A r correct whole is = record {
  answers = λ B same well agree.
      let does = determined p A B same whole agree in
      correct.answer B r well (does.answer ∙ is);
  well_formed = λ B same well agree.
      let does = determined p A B same whole agree in
      subst (λ (accesses : List Access). IsWellFormed (own B accesses)) does.accesses (correct.well_formed B r well (does.answer ∙ is));
  maps = λ B same well agree.
      let does = determined p A B same whole agree in
      subst (λ (accesses : List Access). map_of (own B accesses) ≡ (op (map_of B)).1) does.accesses (correct.maps B r well (does.answer ∙ is));
}
