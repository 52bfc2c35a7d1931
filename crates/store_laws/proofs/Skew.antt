-- Two snapshots that are isolated and whose calls are in no order: so snapshots make no calls.
use Rattle.store_laws.proofs.Words.{◌≡◌, ◌∙◌, sym, refl, ap, ℕ, zero, suc, ◌==◌, Bool, true, false, cond, List, [], ◌∷◌, IfSome, IsTrue, length, replicate, slice_get, arith, inl, inr, get_or, false≢true, or_cases, Access, Commit, Snapshot, Span, Array, byte_at, covered, in_span, put, IsSnapshotAt, Meets, is_write, History, array_at, block_at, IsLocal, look_access, store_access, length-block_put, put_here, put_kept, small, AnswerInOrder, AreMade, Called, MapStore}

-- two numbers in block 0: a call copies the second over the first, or the first over the second, and answers what it copied
abbrev two_numbers : MapStore
two_numbers = record {
  Map = ℕ × ℕ;
  Call = Bool;
  Answer = ℕ;
  has_block = λ b. b == 0;
  IsWellFormed = λ A. length (block_at A 0) ≡ 64;
  map_of = λ A. (byte_at A 0 0, byte_at A 0 1);
  act = λ back m. cond back (m.1, (m.1, m.1)) (m.0, (m.0, m.0));
}

abbrev byte : ℕ → List Span
byte p = record { off = p; len = 1 } ∷ []

abbrev copy_back : ℕ → List Access
copy_back x = look_access 0 (byte 1) ∷ store_access 0 (byte 0) (x ∷ replicate 63 0) ∷ []

abbrev copy_on : ℕ → List Access
copy_on x = look_access 0 (byte 0) ∷ store_access 0 (byte 1) (0 ∷ x ∷ replicate 62 0) ∷ []

copy_on_is_local : (A : Array) (x : ℕ) → byte_at A 0 0 ≡ x → IsLocal two_numbers.IsWellFormed two_numbers.map_of (two_numbers.act false) A (copy_on x) x
copy_on_is_local A x is = record {
  answers = λ B same well agree. agree 0 0 refl ∙ is;
  well_formed = λ B same well agree. length-block_put B (store_access 0 (byte 1) (0 ∷ x ∷ replicate 62 0)) 0 ∙ well;
  maps = λ B same well agree.
      let w = store_access 0 (byte 1) (0 ∷ x ∷ replicate 62 0) in
      let first : byte_at (put B w) 0 0 ≡ byte_at B 0 0 = put_kept B w 0 refl in
      let second : byte_at (put B w) 0 1 ≡ byte_at B 0 0 = put_here B w 1 (sym well) (omega arith) ∙ sym (agree 0 0 refl ∙ is) in
      λ i. (first i, second i);
}

abbrev snapshot : List Access → Commit
snapshot accesses = record { begin = 0; mode = Snapshot; accesses = accesses }

-- both began with the numbers 1 and 2
abbrev swapped : History
swapped = record { first = 1; base = (1 ∷ 2 ∷ replicate 62 0) ∷ []; commits = snapshot (copy_back 2) ∷ snapshot (copy_on 1) ∷ [] }

pub second_is_made : AreMade two_numbers (array_at swapped 0) (Called false (copy_on 1) 1 ∷ [])
second_is_made = (copy_on_is_local (array_at swapped 0) 1 refl, tt)

one_span : (span : Span) (p : ℕ) → covered (span ∷ []) p ≡ true → in_span p span ≡ true
one_span span p has = elim (or_cases (in_span p span) false has) [ inl is ↦ is | inr none ↦ absurd (false≢true none) ]

apart : (p : ℕ) → covered (byte 1) p ≡ true → covered (byte 0) p ≡ true → ⊥
apart p one two = grind (arith, one_span) steps 100000

disjoint : (x y : ℕ) → IfSome (slice_get (copy_on 1) x) (λ a. IfSome (slice_get (copy_back 2) y) (λ b. IsTrue (is_write a) → IsTrue (is_write b) → ¬ Meets 64 a b))
disjoint x y = grind arith

pub second_is_a_snapshot : IsSnapshotAt small swapped 2
second_is_a_snapshot = grind (arith, disjoint) steps 100000

some_number : (n : ℕ) → suc zero ≡ suc (suc n) → ⊥
some_number n e = cc

pub second_is_not_in_order : AnswerInOrder two_numbers (Called false (copy_on 1) 1 ∷ []) (array_at swapped 1) (array_at swapped 2) → ⊥
unfolding put
second_is_not_in_order is = some_number 0 (sym (ap (λ (xs : List ℕ). get_or xs 0 0) is.answers))
