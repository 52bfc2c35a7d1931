-- What a write and a list of writes leave at each byte.
use Rattle.iso_model.proofs.Words.{◌≡◌, ◌≢◌, ◌∙◌, sym, refl, ap, ℕ, zero, suc, ◌+◌, ◌<◌, Bool, true, false, ◌&&◌, ◌||◌, ◌==◌, cond, IsTrue, List, [], ◌∷◌, length, get_or, Option, Some, None, is_some, unwrap_or, arith, inl, inr, eq-eqb, ne_eqb, subst, AllByRecursion, cases_eq, cases_lt, length-set, get_or-set_same, get_or-set_other, set_past, get_or_past, Access, Commit, Span, Write, Array, covered, merged, put, byte_at, is_write, own, touches, covers, or_else, effect_at, all_own, block_at, HasBytes}

pub length-merged : (spans : List Span) (p : ℕ) (old new : List ℕ) → length (merged spans p old new) ≡ length old
length-merged spans p [] new = refl
length-merged spans p (x ∷ old) [] = refl
length-merged spans p (x ∷ old) (y ∷ new) = ap suc (length-merged spans (p + 1) old new)

-- a byte after a merge
pub merged_at : (spans : List Span) (p k : ℕ) (old new : List ℕ) → k < length old → length new ≡ length old
    → get_or (merged spans p old new) k 0 ≡ cond (covered spans (p + k)) (get_or new k 0) (get_or old k 0)
merged_at spans p k [] new inside same = absurd (omega arith)
merged_at spans p k (x ∷ old) [] inside same = absurd (omega arith)
merged_at spans p zero (x ∷ old) (y ∷ new) inside same = let e : p + 0 ≡ p = omega arith in rw e refl
merged_at spans p (suc k) (x ∷ old) (y ∷ new) inside same =
    let e : p + suc k ≡ p + 1 + k = omega arith in
    rw e (merged_at spans (p + 1) k old new (omega arith) (omega arith))

-- a byte that is not covered, whatever the new bytes are
pub merged_kept : (spans : List Span) (p k : ℕ) (old new : List ℕ) → covered spans (p + k) ≡ false
    → get_or (merged spans p old new) k 0 ≡ get_or old k 0
merged_kept spans p k [] new not = refl
merged_kept spans p k (x ∷ old) [] not = refl
merged_kept spans p zero (x ∷ old) (y ∷ new) not = let e : p + 0 ≡ p = omega arith in rw (rw e at not) refl
merged_kept spans p (suc k) (x ∷ old) (y ∷ new) not =
    let e : p + suc k ≡ p + 1 + k = omega arith in
    merged_kept spans (p + 1) k old new (rw e at not)

-- the blocks after a write
pub length-put : (A : Array) (w : Access) → length (put A w) ≡ length A
unfolding put
length-put A w = length-set A w.block (merged w.spans 0 (get_or A w.block []) w.bytes)

pub other_block : (A : Array) (w : Access) (b : ℕ) → b ≢ w.block → block_at (put A w) b ≡ block_at A b
unfolding put
other_block A w b other = get_or-set_other A w.block b (merged w.spans 0 (get_or A w.block []) w.bytes) [] other

pub written_block : (A : Array) (w : Access) → block_at (put A w) w.block ≡ merged w.spans 0 (block_at A w.block) w.bytes
unfolding put
written_block A w = elim (cases_lt w.block (length A)) [
  | inl inside ↦ get_or-set_same A w.block (merged w.spans 0 (get_or A w.block []) w.bytes) [] inside
  | inr past ↦
      ap (λ (B : Array). get_or B w.block []) (set_past A w.block (merged w.spans 0 (get_or A w.block []) w.bytes) past)
      ∙ get_or_past A w.block [] past
      ∙ sym (ap (λ old. merged w.spans 0 old w.bytes) (get_or_past A w.block [] past))
]

pub length-block_put : (A : Array) (w : Access) (b : ℕ) → length (block_at (put A w) b) ≡ length (block_at A b)
length-block_put A w b = grind (arith, written_block, length-merged, other_block)

-- a byte of the written block
pub put_here : (A : Array) (w : Access) (p : ℕ) → length w.bytes ≡ length (block_at A w.block) → p < length (block_at A w.block)
    → byte_at (put A w) w.block p ≡ cond (covered w.spans p) (get_or w.bytes p 0) (byte_at A w.block p)
put_here A w p same inside = grind (arith, written_block, merged_at)

-- a byte after a write
pub put_at : (A : Array) (w : Access) (b p : ℕ) → length w.bytes ≡ length (block_at A b) → p < length (block_at A b)
    → byte_at (put A w) b p ≡ cond ((w.block == b) && covered w.spans p) (get_or w.bytes p 0) (byte_at A b p)
put_at A w b p same inside = elim (cases_eq w.block b) [
  | inl e ↦
      (let here : (w.block == b) ≡ true = eq-eqb w.block b e in
      rw here (subst (λ (c : ℕ). length w.bytes ≡ length (block_at A c) → p < length (block_at A c)
      → byte_at (put A w) c p ≡ cond (covered w.spans p) (get_or w.bytes p 0) (byte_at A c p)) e (put_here A w p) same inside))
  | inr other ↦
      (let not : (w.block == b) ≡ false = ne_eqb w.block b other in
      rw not (ap (λ (bytes : List ℕ). get_or bytes p 0) (other_block A w b (λ e. other (sym e)))))
]

-- a byte that the write does not cover, whatever its bytes are
pub put_kept : (A : Array) (w : Access) (p : ℕ) → covered w.spans p ≡ false → byte_at (put A w) w.block p ≡ byte_at A w.block p
put_kept A w p not = grind (arith, written_block, merged_kept)

-- a byte after an access
pub access_at : (test : Bool) (A : Array) (a : Access) (b p size : ℕ) → (IsTrue test → length a.bytes ≡ size) → length (block_at A b) ≡ size → p < size
    → byte_at (cond test (put A a) A) b p ≡ cond (test && (a.block == b) && covered a.spans p) (get_or a.bytes p 0) (byte_at A b p)
access_at true A a b p size whole same inside = put_at A a b p (whole refl ∙ sym same) (omega arith)
access_at false A a b p size whole same inside = refl

pub length-access : (test : Bool) (A : Array) (a : Access) → length (cond test (put A a) A) ≡ length A
length-access test A a = grind (arith, length-put)

pub length-block_access : (test : Bool) (A : Array) (a : Access) (b : ℕ) → length (block_at (cond test (put A a) A) b) ≡ length (block_at A b)
length-block_access test A a b = grind (arith, length-block_put)

pub length-own : (A : Array) (accesses : List Access) → length (own A accesses) ≡ length A
length-own A [] = refl
length-own A (a ∷ accesses) = length-own (cond (is_write a) (put A a) A) accesses ∙ length-access (is_write a) A a

pub length-block_own : (A : Array) (accesses : List Access) (b : ℕ) → length (block_at (own A accesses) b) ≡ length (block_at A b)
length-block_own A [] b = refl
length-block_own A (a ∷ accesses) b = length-block_own (cond (is_write a) (put A a) A) accesses b ∙ length-block_access (is_write a) A a b

pub value_of_or_else : (o : Option ℕ) (test : Bool) (x y : ℕ) → unwrap_or o (cond test x y) ≡ unwrap_or (or_else o (cond test (Some x) None)) y
value_of_or_else o test x y = grind arith

pub some_of_or_else : (o : Option ℕ) (test : Bool) (x : ℕ) → (test || is_some o) ≡ is_some (or_else o (cond test (Some x) None))
some_of_or_else o test x = grind arith

-- a byte after the writes of a list: the list's effect there, or else what it was
pub own_at : (A : Array) (accesses : List Access) (b p size : ℕ) → AllByRecursion (HasBytes size) accesses → length (block_at A b) ≡ size → p < size
    → byte_at (own A accesses) b p ≡ unwrap_or (effect_at accesses b p) (byte_at A b p)
own_at A [] b p size whole same inside = refl
own_at A (a ∷ accesses) b p size whole same inside =
    own_at (cond (is_write a) (put A a) A) accesses b p size whole.1 (length-block_access (is_write a) A a b ∙ same) inside
    ∙ ap (unwrap_or (effect_at accesses b p)) (access_at (is_write a) A a b p size whole.0 same inside)
    ∙ value_of_or_else (effect_at accesses b p) (covers Write b p a) (get_or a.bytes p 0) (byte_at A b p)

-- a list writes a byte where one of its writes covers it
pub touches_where_effect : (accesses : List Access) (b p : ℕ) → touches Write accesses b p ≡ is_some (effect_at accesses b p)
touches_where_effect [] b p = refl
touches_where_effect (a ∷ accesses) b p =
    ap (λ t. covers Write b p a || t) (touches_where_effect accesses b p)
    ∙ some_of_or_else (effect_at accesses b p) (covers Write b p a) (get_or a.bytes p 0)

-- the arrays after the writes of commits
pub length-all_own : (A : Array) (commits : List Commit) → length (all_own A commits) ≡ length A
length-all_own A [] = refl
length-all_own A (c ∷ commits) = length-all_own (own A c.accesses) commits ∙ length-own A c.accesses

pub length-block_all_own : (A : Array) (commits : List Commit) (b : ℕ) → length (block_at (all_own A commits) b) ≡ length (block_at A b)
length-block_all_own A [] b = refl
length-block_all_own A (c ∷ commits) b = length-block_all_own (own A c.accesses) commits b ∙ length-block_own A c.accesses b
