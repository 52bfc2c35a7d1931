-- What a transaction that calls two stores is to each of them.
use Rattle.store_laws.proofs.{Words.{AnswersAt, AreCommitted, BothAnswerFrom, BothAnswerAt, BothAnswerShown, CommitsAfter, arith, ◌≡◌, ◌∙◌, refl, ap, subst, ℕ, ◌-◌, ◌<◌, ◌≤◌, false, List, [], ◌∷◌, ◌++◌, Some, slice_get, inl, inr, Access, Commit, Geometry, Array, IsSerialAt, has_write, own, History, array_at, last, AreMixed, BothByMap, BothInOrder, BothWellFormed, First, IsByBoth, IsOfBoth, MixedParts, Neither, Second, firsts, seconds, AnswerInOrder, AreMade, IsByCalls, IsOfCalls, accesses_in, IsOfItsBlocks, MapStore}, Histories.{commits_in_order, read_only_answers, two_if, well_formed_at}, InOrder.{commit_by, live_in_order}}

-- each store sees the same accesses
pub same_accesses : (s t : MapStore) (parts : MixedParts s t) → accesses_in (seconds parts) ≡ accesses_in (firsts parts)
same_accesses s t [] = refl
same_accesses s t (First call accesses answer ∷ parts) = ap (λ (rest : List Access). accesses ++ rest) (same_accesses s t parts)
same_accesses s t (Second call accesses answer ∷ parts) = ap (λ (rest : List Access). accesses ++ rest) (same_accesses s t parts)
same_accesses s t (Neither accesses ∷ parts) = ap (λ (rest : List Access). accesses ++ rest) (same_accesses s t parts)

pub first_made : (s t : MapStore) (A : Array) (parts : MixedParts s t) → AreMixed s t A parts → AreMade s A (firsts parts)
first_made s t A [] made = tt
first_made s t A (First call accesses answer ∷ parts) made = (made.0, first_made s t (own A accesses) parts made.2)
first_made s t A (Second call accesses answer ∷ parts) made = (made.1, first_made s t (own A accesses) parts made.2)
first_made s t A (Neither accesses ∷ parts) made = (made.0, first_made s t (own A accesses) parts made.2)

pub second_made : (s t : MapStore) (A : Array) (parts : MixedParts s t) → AreMixed s t A parts → AreMade t A (seconds parts)
second_made s t A [] made = tt
second_made s t A (First call accesses answer ∷ parts) made = (made.1, second_made s t (own A accesses) parts made.2)
second_made s t A (Second call accesses answer ∷ parts) made = (made.0, second_made s t (own A accesses) parts made.2)
second_made s t A (Neither accesses ∷ parts) made = (made.1, second_made s t (own A accesses) parts made.2)

abbrev pub first_of_calls : (s t : MapStore) (H : History) (c : Commit) → IsOfBoth s t H c → IsOfCalls s H c
first_of_calls s t H c of = record {
  parts = firsts of.parts;
  are = of.are;
  made = first_made s t (array_at H c.begin) of.parts of.made;
  mode = elim of.mode [ inl none ↦ inl none.0 | inr serial ↦ inr serial ];
}

abbrev pub second_of_calls : (s t : MapStore) (H : History) (c : Commit) → IsOfBoth s t H c → IsOfCalls t H c
second_of_calls s t H c of = record {
  parts = seconds of.parts;
  are = same_accesses s t of.parts ∙ of.are;
  made = second_made s t (array_at H c.begin) of.parts of.made;
  mode = elim of.mode [ inl none ↦ inl none.1 | inr serial ↦ inr serial ];
}

pub both_commit : (s t : MapStore) → IsOfItsBlocks s → IsOfItsBlocks t → (H : History) (k : ℕ) (c : Commit) (parts : MixedParts s t) → 0 < H.first → H.first ≤ k
    → slice_get H.commits (k - H.first) ≡ Some c → IsSerialAt H k → accesses_in (firsts parts) ≡ c.accesses → AreMixed s t (array_at H c.begin) parts
    → BothWellFormed s t (array_at H (k - 1)) → BothInOrder s t parts (array_at H (k - 1)) (array_at H k)
both_commit s t one two H k c parts first from is serial are made well = record {
  first = commit_by s one H k c (firsts parts) first from is (inr serial) are (first_made s t (array_at H c.begin) parts made) well.first;
  second = commit_by t two H k c (seconds parts) first from is (inr serial) (same_accesses s t parts ∙ are) (second_made s t (array_at H c.begin) parts made) well.second;
}

pub both_live : (s t : MapStore) → IsOfItsBlocks s → IsOfItsBlocks t → (A : Array) (parts : MixedParts s t) → AreMixed s t A parts → BothWellFormed s t A
    → BothInOrder s t parts A (own A (accesses_in (firsts parts)))
both_live s t one two A parts made well = record {
  first = live_in_order s one A (firsts parts) (first_made s t A parts made) well.first;
  second = subst (λ (accesses : List Access). AnswerInOrder t (seconds parts) A (own A accesses)) (same_accesses s t parts)
      (live_in_order t two A (seconds parts) (second_made s t A parts made) well.second);
}

store_by : (s t u : MapStore) (g : Geometry) (H : History) (n : ℕ) → ((c : Commit) → IsOfBoth s t H c → IsOfCalls u H c) → (BothWellFormed s t (array_at H n) → u.IsWellFormed (array_at H n)) → IsByBoth s t g H n → IsByCalls u g H n
store_by s t u g H n of begins by = grind arith steps 100000

first_by : (s t : MapStore) (g : Geometry) (H : History) (n : ℕ) → IsByBoth s t g H n → IsByCalls s g H n
first_by s t g H n by = store_by s t s g H n (first_of_calls s t H) (λ well. well.first) by

second_by : (s t : MapStore) (g : Geometry) (H : History) (n : ℕ) → IsByBoth s t g H n → IsByCalls t g H n
second_by s t g H n by = store_by s t t g H n (second_of_calls s t H) (λ well. well.second) by

pub both_well_formed : (s t : MapStore) → IsOfItsBlocks s → IsOfItsBlocks t → (g : Geometry) (H : History) (n m : ℕ) → IsByBoth s t g H n → n ≤ m → m ≤ last H → BothWellFormed s t (array_at H m)
both_well_formed s t one two g H n m by from to = record {
  first = well_formed_at s one g H n m (first_by s t g H n by) from to;
  second = well_formed_at t two g H n m (second_by s t g H n by) from to;
}

pub both_read_only : (s t : MapStore) → IsOfItsBlocks s → IsOfItsBlocks t → (g : Geometry) (H : History) (n begin : ℕ) (parts : MixedParts s t) → IsByBoth s t g H n → n ≤ begin → begin ≤ last H
    → AreMixed s t (array_at H begin) parts → has_write (accesses_in (firsts parts)) ≡ false → BothByMap s t parts (array_at H begin)
both_read_only s t one two g H n begin parts by from to made none =
    let A = array_at H begin in
    let well = both_well_formed s t one two g H n begin by from to in
    record {
      first = read_only_answers s A (firsts parts) (first_made s t A parts made) well.first none;
      second = read_only_answers t A (seconds parts) (second_made s t A parts made) well.second (ap has_write (same_accesses s t parts) ∙ none);
    }

pub both_commits : (s t : MapStore) → IsOfItsBlocks s → IsOfItsBlocks t → (g : Geometry) (H : History) (n : ℕ) → IsByBoth s t g H n → CommitsAfter H n (BothAnswerAt s t H)
both_commits s t one two g H n by k after to =
    two_if (AnswersAt s H k) (AnswersAt t H k) (BothAnswerAt s t H k) (slice_get H.commits (k - H.first))
    (λ c p q is. record { first = p (first_of_calls s t H c is); second = q (second_of_calls s t H c is) })
    (commits_in_order s one g H n (first_by s t g H n by) k after to)
    (commits_in_order t two g H n (second_by s t g H n by) k after to)

-- the same, as the laws say it
pub both_commit_answers : (s t : MapStore) → IsOfItsBlocks s → IsOfItsBlocks t → (H : History) (k : ℕ) (parts : MixedParts s t) → AreCommitted s t H k parts
    → BothInOrder s t parts (array_at H (k - 1)) (array_at H k)
both_commit_answers s t one two H k parts is = both_commit s t one two H k is.commit parts is.first is.since is.is is.serial is.are is.made is.well_formed

pub both_shown_answer : (s t : MapStore) → IsOfItsBlocks s → IsOfItsBlocks t → (A : Array) → BothWellFormed s t A → BothAnswerShown s t A
both_shown_answer s t one two A well parts made = both_live s t one two A parts made well

pub both_answer : (s t : MapStore) → IsOfItsBlocks s → IsOfItsBlocks t → (g : Geometry) (H : History) (n : ℕ) → IsByBoth s t g H n → BothAnswerFrom s t H n
both_answer s t one two g H n by = record {
  commits = both_commits s t one two g H n by;
  live = λ m from to. both_shown_answer s t one two (array_at H m) (both_well_formed s t one two g H n m by from to);
  read_only = λ m from to parts made none. both_read_only s t one two g H n m parts by from to made none;
  well_formed = λ m from to. both_well_formed s t one two g H n m by from to;
}
