-- What a program answers where each block that it reads is one of bytes, and the shape of the array that it leaves.
use Rattle.script_model.proofs.Words.{arith, ◌&&◌, ◌==◌, ℕ, zero, suc, ◌+◌, Bool, true, false, cond, List, [], Option, Some, None, Result, Ok, Err, Access, Area, Geometry, StoreError, AreBytes, HasShape, IsAccess, block_at, FitsOn, Program, Look, LookWhole, Reserve, Store, bytes_in, further_bytes, store_access, then_do, at_cell, text_of, word_at, is_part, is_key, cell_of, put, no_bytes, bytes_drop, bytes_take, length-block_put, length-put, put_values, AtLeaf, Descent, descend, get_below, is_child, is_head, is_node, with_head, Array, Span, AtBroken, got, Broken, BadKey}
use Rattle.store_model.specs.{Stores.Done, TreeCalls.get_program}

-- each answer has Q, whatever bytes are read
abbrev pub Answers : {R : Type 0} → (R → Type 0) → Program R → Type 0
Answers Q (Done r) = Q r
Answers Q (Look block mark further next) = (xs ys : List ℕ) → AreBytes xs → AreBytes ys → Answers Q (next xs ys)
Answers Q (LookWhole block next) = (xs : List ℕ) → AreBytes xs → Answers Q (next xs)
Answers Q (Reserve count next) = Answers Q next
Answers Q (Store block spans bytes next) = Answers Q next

pub answers_any : {R : Type 0} (p : Program R) → Answers (λ r. Unit {0}) p
answers_any (Done r) = tt
answers_any (Look block mark further next) = λ xs ys x_are y_are. answers_any (next xs ys)
answers_any (LookWhole block next) = λ xs are. answers_any (next xs)
answers_any (Reserve count next) = answers_any next
answers_any (Store block spans bytes next) = answers_any next

pub answers_then : {R S : Type 0} (P : R → Type 0) (Q : S → Type 0) (p : Program R) (f : R → Program S) → Answers P p → ((r : R) → P r → Answers Q (f r)) → Answers Q (then_do p f)
answers_then P Q (Done r) f is more = more r is
answers_then P Q (Look block mark further next) f is more = λ xs ys x_are y_are. answers_then P Q (next xs ys) f (is xs ys x_are y_are) more
answers_then P Q (LookWhole block next) f is more = λ xs are. answers_then P Q (next xs) f (is xs are) more
answers_then P Q (Reserve count next) f is more = answers_then P Q next f is more
answers_then P Q (Store block spans bytes next) f is more = answers_then P Q next f is more

pub answers_cond : {R : Type 0} (Q : R → Type 0) (test : Bool) (p q : Program R) → Answers Q p → Answers Q q → Answers Q (cond test p q)
answers_cond Q true p q first second = first
answers_cond Q false p q first second = second

span_bytes : (span : Span) (block : List ℕ) → AreBytes block → AreBytes (bytes_in span block)
span_bytes span block are = bytes_take span.len _ (bytes_drop span.off block are)

further_are : (further : Option Span) (block : List ℕ) → AreBytes block → AreBytes (further_bytes further block)
further_are None block are = no_bytes
further_are (Some span) block are = span_bytes span block are

shape_put : (g : Geometry) (A : Array) (w : Access) → HasShape g A → IsAccess g w → HasShape g (put A w)
shape_put g A w shape is = grind (arith, length-put, length-block_put, put_values)

-- A program whose accesses are accesses leaves an array of the image's shape, and its answer on this array is one of its answers.
pub answers_on : {R : Type 0} (g : Geometry) (Q : R → Type 0) (p : Program R) (A : Array) → HasShape g A → FitsOn g (λ r B. Unit {0}) p A → Answers Q p
    → FitsOn g (λ r B. HasShape g B × Q r) p A
answers_on g Q (Done r) A shape fit is = (shape, is)
answers_on g Q (Look block mark further next) A shape (inside, span, other, rest) is =
    let x = bytes_in mark (block_at A block) in
    let y = further_bytes (further x) (block_at A block) in
    (inside, span, other, answers_on g Q (next x y) A shape rest (is x y (span_bytes mark (block_at A block) (shape.values block)) (further_are (further x) (block_at A block) (shape.values block))))
answers_on g Q (LookWhole block next) A shape (inside, rest) is =
    (inside, answers_on g Q (next (block_at A block)) A shape rest (is (block_at A block) (shape.values block)))
answers_on g Q (Reserve count next) A shape fit is = answers_on g Q next A shape fit is
answers_on g Q (Store block spans bytes next) A shape (access, rest) is =
    (access, answers_on g Q next (put A (store_access block spans bytes)) (shape_put g A (store_access block spans bytes) shape access) rest is)

-- THE VALUE THAT THE TREE STORE FINDS
-- the value is one of bytes, if there is one
abbrev pub FindsBytes : Result (Option (List ℕ)) StoreError → Type 0
FindsBytes (Err e) = Unit {0}
FindsBytes (Ok None) = Unit {0}
FindsBytes (Ok (Some value)) = AreBytes value

abbrev EndsInBytes : Descent → Type 0
EndsInBytes (AtLeaf path leaf keys value) = AreBytes value
EndsInBytes (AtBroken block) = Unit {0}

descend_answers : (a : Area) (key : List ℕ) (with_value : Bool) (level block : ℕ) (path : List (ℕ × ℕ)) → Answers EndsInBytes (descend a key with_value level block path)
descend_answers a key with_value zero block path = λ keys value keys_are value_are.
    answers_cond EndsInBytes (is_node a.size 0 keys) (Done (AtLeaf path block keys value)) (Done (AtBroken (a.start + block))) value_are tt
descend_answers a key with_value (suc level) block path = λ keys value keys_are value_are.
    answers_cond EndsInBytes (is_node a.size (suc level) keys && is_child a.blocks value) _ (Done (AtBroken (a.start + block)))
    (descend_answers a key with_value level _ _) tt

got_answers : (a : Area) (key : List ℕ) (d : Descent) → EndsInBytes d → FindsBytes (got a key d)
got_answers a key (AtBroken block) is = tt
got_answers a key (AtLeaf path leaf keys value) is = at (cell_of key keys)
  where
    part : (test : Bool) → FindsBytes (cond test (Ok (Some (text_of value))) (Err (Broken (a.start + leaf))))
    part true = bytes_take _ _ (bytes_drop 1 value is)
    part false = tt

    at : (o : Option ℕ) → FindsBytes (at_cell o (λ i. cond (is_part 32 value) (Ok (Some (text_of value))) (Err (Broken (a.start + leaf)))) (Ok None))
    at None = tt
    at (Some i) = part (is_part 32 value)

pub get_answers : (a : Area) (key : List ℕ) → Answers FindsBytes (get_program a key)
unfolding get_program
get_answers a key =
    answers_cond FindsBytes (is_key key) (with_head a (get_below a key)) (Done (Err BadKey))
    (λ head none head_are none_are.
    answers_cond FindsBytes (is_head a head) _ (Done (Err (Broken a.start)))
    (below_answers (word_at 0 head) (word_at 4 head)) tt) tt
  where
    below_answers : (root level : ℕ) → Answers FindsBytes (get_below a key root level)
    below_answers root level =
        answers_cond FindsBytes (root == 0) (Done (Ok None)) (then_do (descend a key true level root []) (λ d. Done (got a key d))) tt
        (answers_then EndsInBytes FindsBytes (descend a key true level root []) (λ d. Done (got a key d)) (descend_answers a key true level root []) (λ d is. got_answers a key d is))
