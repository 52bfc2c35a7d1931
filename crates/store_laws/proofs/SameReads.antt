-- What reads show on two arrays, and the bytes that a call depends on.
use Rattle.store_laws.proofs.Words.{◌≡◌, ◌∙◌, sym, refl, ap, ℕ, zero, suc, ◌+◌, ◌-◌, ◌<◌, ◌≤◌, Bool, true, false, ◌&&◌, ◌==◌, not, cond, IsTrue, IfSome, List, [], ◌∷◌, ◌++◌, get_or, take, Some, slice_get, option_map, unwrap_or, arith, inl, inr, subst, and_parts, eqb-true, or_cases, none-some, same_Some, Access, Commit, Read, Write, Array, byte_at, covered, put, IsSerialAt, covers, is_write, own, History, all_own, array_at, block_at, Agree, SameShape, length-all_own, length-block_all_own, length-block_own, length-own, other_block, put_kept}

-- the array after one access
abbrev pub next : Array → Access → Array
next A a = cond (is_write a) (put A a) A

-- each read shows at the bytes that it covers the same, whether the accesses begin on the one array or on the other
abbrev pub SameReads : List Access → (A B : Array) → Type 0
SameReads [] A B = Unit {0}
SameReads (a ∷ accesses) A B = ((p : ℕ) → covers Read a.block p a ≡ true → byte_at B a.block p ≡ byte_at A a.block p) × SameReads accesses (next A a) (next B a)

pub reads_split : (xs ys : List Access) (A B : Array) → SameReads (xs ++ ys) A B → SameReads xs A B × SameReads ys (own A xs) (own B xs)
reads_split [] ys A B same = (tt, same)
reads_split (a ∷ xs) ys A B same = let rest = reads_split xs ys (next A a) (next B a) same.1 in ((same.0, rest.0), rest.1)

-- what access i of the list shows on an array
abbrev shown_on : Array → List Access → (i : ℕ) → List ℕ
shown_on A accesses i = unwrap_or (option_map (λ a. block_at (own A (take i accesses)) a.block) (slice_get accesses i)) []

pub reads_from : (accesses : List Access) (A B : Array)
    → ((i p : ℕ) → IfSome (slice_get accesses i) (λ a. IsTrue (covers Read a.block p a) → get_or (shown_on A accesses i) p 0 ≡ get_or (shown_on B accesses i) p 0))
    → SameReads accesses A B
reads_from [] A B same = tt
reads_from (a ∷ accesses) A B same = (λ p covered. sym (same 0 p covered), reads_from accesses (next A a) (next B a) (λ i p. same (suc i) p))

-- the reads of a commit that is serial show directly before it what they showed at its begin
pub serial_reads : (H : History) (k : ℕ) (c : Commit) → slice_get H.commits (k - H.first) ≡ Some c → IsSerialAt H k
    → SameReads c.accesses (array_at H c.begin) (array_at H (k - 1))
serial_reads H k c is serial = grind (arith, reads_from) steps 100000

write_keeps : (a : Access) (test : Bool) (A : Array) (b p : ℕ) → test && (a.block == b) && covered a.spans p ≡ false → byte_at (cond test (put A a) A) b p ≡ byte_at A b p
write_keeps a false A b p none = refl
write_keeps a true A b p none = grind (arith, not, put_kept, other_block) steps 100000

-- an access that does not write the byte keeps it
pub next_keeps : (a : Access) (A : Array) (b p : ℕ) → covers Write b p a ≡ false → byte_at (next A a) b p ≡ byte_at A b p
next_keeps a A b p none = write_keeps a (is_write a) A b p none

unwritten : (t : Bool) → not t ≡ true → t ≡ false
unwritten false e = refl
unwritten true e = cc

-- where reads show the same, the arrays agree on the bytes that the accesses depend on
pub agree_where : (accesses : List Access) (A B : Array) → SameReads accesses A B → Agree accesses A B
agree_where [] A B same b p has = cc
agree_where (a ∷ accesses) A B same b p has = elim (or_cases _ _ has) [
  | inl read ↦
      (let parts = and_parts _ _ read in
      let here : a.block ≡ b = eqb-true _ _ (and_parts _ _ parts.0).1 in
      subst (λ (c : ℕ). covers Read c p a ≡ true → byte_at B c p ≡ byte_at A c p) here (same.0 p) read)
  | inr later ↦
      (let parts = and_parts _ _ later in
      let none = unwritten _ parts.0 in
      sym (next_keeps a B b p none) ∙ agree_where accesses (next A a) (next B a) same.1 b p parts.1 ∙ next_keeps a A b p none)
]

-- arrays of one shape stay so
pub same_shape_own : (A B : Array) (accesses : List Access) → SameShape A B → SameShape (own A accesses) (own B accesses)
same_shape_own A B accesses same = grind (arith, length-own, length-block_own) steps 100000

-- all arrays of a history have one shape
pub same_shape_at : (H : History) (m n : ℕ) → SameShape (array_at H m) (array_at H n)
same_shape_at H m n = grind (arith, length-all_own, length-block_all_own) steps 100000

all_own_next : (A : Array) (commits : List Commit) (i : ℕ) (c : Commit) → slice_get commits i ≡ Some c
    → all_own A (take (suc i) commits) ≡ own (all_own A (take i commits)) c.accesses
all_own_next A [] i c is = absurd (none-some c is)
all_own_next A (d ∷ commits) zero c is = ap (λ (e : Commit). own A e.accesses) (same_Some d c is)
all_own_next A (d ∷ commits) (suc i) c is = all_own_next (own A d.accesses) commits i c is

-- the array at a number is the one before it, after the commit
pub array_next : (H : History) (k : ℕ) (c : Commit) → 0 < H.first → H.first ≤ k → slice_get H.commits (k - H.first) ≡ Some c
    → array_at H k ≡ own (array_at H (k - 1)) c.accesses
array_next H k c first from is =
    let here : k + 1 - H.first ≡ suc (k - H.first) = omega arith in
    let before : k - H.first ≡ k - 1 + 1 - H.first = omega arith in
    grind (arith, all_own_next)
