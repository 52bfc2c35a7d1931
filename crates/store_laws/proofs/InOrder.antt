-- The calls of a transaction answer as one thread's calls on a map.
use Rattle.store_laws.proofs.{Words.{arith, ◌≡◌, ◌⊎◌, ◌∙◌, sym, refl, ap, subst, ℕ, ◌-◌, ◌<◌, ◌≤◌, Bool, true, false, cond, IsTrue, List, [], ◌∷◌, ◌++◌, Some, slice_get, inl, inr, both_ways, Access, Commit, Array, put, IsSerialAt, is_write, own, History, array_at, block_at, SameShape, other_block, own_append, IsOfItsBlocks, SameRegion, SpareRegion, MapStore, AnswerInOrder, AreMade, Called, Other, Part, accesses_in, calls_in, run}, SameReads.{SameReads, agree_where, array_next, next, reads_split, same_shape_at, same_shape_own, serial_reads}}

spare_access : (s : MapStore) (a : Access) (test : Bool) (A : Array) (b : ℕ) → (IsTrue test → s.has_block a.block ≡ false) → s.has_block b ≡ true
    → block_at (cond test (put A a) A) b ≡ block_at A b
spare_access s a false A b spare has = refl
spare_access s a true A b spare has = other_block A a b (λ e. both_ways (s.has_block b) (ap s.has_block e ∙ spare refl) has)

-- accesses that write no block of the region leave its blocks
pub region_stays : (s : MapStore) (accesses : List Access) (A : Array) → SpareRegion s accesses → SameRegion s A (own A accesses)
region_stays s [] A spare b has = refl
region_stays s (a ∷ accesses) A spare b has = region_stays s accesses (next A a) spare.1 b has ∙ spare_access s a (is_write a) A b spare.0 has

-- no reads show the same on one array
pub reads_same : (accesses : List Access) (A : Array) → SameReads accesses A A
reads_same [] A = tt
reads_same (a ∷ accesses) A = (λ p covered. refl, reads_same accesses (next A a))

pub same_shape : (A : Array) → SameShape A A
same_shape A = record { blocks = refl; bytes = λ b. refl }

later_reads : (s : MapStore) (accesses : List Access) (parts : List (Part s.Call s.Answer)) (A B : Array) → ((calls_in parts ≡ []) ⊎ SameReads (accesses ++ accesses_in parts) A B)
    → (calls_in parts ≡ []) ⊎ SameReads (accesses_in parts) (own A accesses) (own B accesses)
later_reads s accesses parts A B (inl none) = inl none
later_reads s accesses parts A B (inr same) = inr (reads_split accesses (accesses_in parts) A B same).1

called_reads : (s : MapStore) (call : s.Call) (accesses : List Access) (parts : List (Part s.Call s.Answer)) (A B : Array) → ((call ∷ calls_in parts ≡ []) ⊎ SameReads (accesses ++ accesses_in parts) A B)
    → SameReads accesses A B × SameReads (accesses_in parts) (own A accesses) (own B accesses)
called_reads s call accesses parts A B (inl none) = cc
called_reads s call accesses parts A B (inr same) = reads_split accesses (accesses_in parts) A B same

-- the same end, written as one
end_at : (s : MapStore) (parts : List (Part s.Call s.Answer)) (A B C : Array) → B ≡ C → AnswerInOrder s parts A B → AnswerInOrder s parts A C
end_at s parts A B C e order = subst (λ (D : Array). AnswerInOrder s parts A D) e order

-- The parts were shown one array; the calls answer by the map of another, on which their reads show the same.
pub in_order : (s : MapStore) → IsOfItsBlocks s → (parts : List (Part s.Call s.Answer)) (A B : Array) → SameShape A B → AreMade s A parts
    → ((calls_in parts ≡ []) ⊎ SameReads (accesses_in parts) A B) → s.IsWellFormed B → AnswerInOrder s parts B (own B (accesses_in parts))
in_order s regional [] A B shape made same well = record { answers = refl; ends = refl; well_formed = well }
in_order s regional (Called call accesses answer ∷ parts) A B shape made same well =
    let reads = called_reads s call accesses parts A B same in
    let agree = agree_where accesses A B reads.0 in
    let here : (s.act call (s.map_of B)).0 ≡ answer = made.0.answers B shape well agree in
    let map_is : (s.act call (s.map_of B)).1 ≡ s.map_of (own B accesses) = sym (made.0.maps B shape well agree) in
    let ih = in_order s regional parts (own A accesses) (own B accesses) (same_shape_own A B accesses shape) made.1 (inr reads.1) (made.0.well_formed B shape well agree) in
    end_at s (Called call accesses answer ∷ parts) B (own (own B accesses) (accesses_in parts)) (own B (accesses ++ accesses_in parts)) (sym (own_append B accesses (accesses_in parts))) (record {
      answers =
          ap (λ (m : s.Map). (s.act call (s.map_of B)).0 ∷ (run s m (calls_in parts)).0) map_is
          ∙ ap (λ (r : s.Answer). r ∷ (run s (s.map_of (own B accesses)) (calls_in parts)).0) here
          ∙ ap (λ (rest : List s.Answer). answer ∷ rest) ih.answers;
      ends = ap (λ (m : s.Map). (run s m (calls_in parts)).1) map_is ∙ ih.ends;
      well_formed = ih.well_formed;
    })
in_order s regional (Other accesses ∷ parts) A B shape made same well =
    let stays = region_stays s accesses B made.0 in
    let map_is : s.map_of B ≡ s.map_of (own B accesses) = sym (regional.map_is B (own B accesses) stays well) in
    let ih = in_order s regional parts (own A accesses) (own B accesses) (same_shape_own A B accesses shape) made.1 (later_reads s accesses parts A B same) (regional.well_formed B (own B accesses) stays well) in
    grind (arith, end_at, own_append)

-- A transaction's calls answer by the map of the array that it is shown.
pub live_in_order : (s : MapStore) → IsOfItsBlocks s → (A : Array) (parts : List (Part s.Call s.Answer)) → AreMade s A parts → s.IsWellFormed A
    → AnswerInOrder s parts A (own A (accesses_in parts))
live_in_order s regional A parts made well = in_order s regional parts A A (same_shape A) made (inr (reads_same (accesses_in parts) A)) well

-- The calls of a commit answer by the map directly before it.
pub commit_by : (s : MapStore) → IsOfItsBlocks s → (H : History) (k : ℕ) (c : Commit) (parts : List (Part s.Call s.Answer)) → 0 < H.first → H.first ≤ k
    → slice_get H.commits (k - H.first) ≡ Some c → ((calls_in parts ≡ []) ⊎ IsSerialAt H k) → accesses_in parts ≡ c.accesses → AreMade s (array_at H c.begin) parts
    → s.IsWellFormed (array_at H (k - 1)) → AnswerInOrder s parts (array_at H (k - 1)) (array_at H k)
commit_by s regional H k c parts first from is serial are made well =
    let same : (calls_in parts ≡ []) ⊎ SameReads (accesses_in parts) (array_at H c.begin) (array_at H (k - 1)) = elim serial [
      | inl none ↦ inl none
      | inr serial ↦ inr (subst (λ (accesses : List Access). SameReads accesses (array_at H c.begin) (array_at H (k - 1))) (sym are) (serial_reads H k c is serial))
    ] in
    end_at s parts (array_at H (k - 1)) (own (array_at H (k - 1)) (accesses_in parts)) (array_at H k)
    (ap (own (array_at H (k - 1))) are ∙ sym (array_next H k c first from is))
    (in_order s regional parts (array_at H c.begin) (array_at H (k - 1)) (same_shape_at H c.begin (k - 1)) made same well)
