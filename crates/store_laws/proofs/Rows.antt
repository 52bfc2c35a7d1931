-- Counters in the first bytes of blocks, as stores: what the laws say of additions, and what they refuse.
use Rattle.store_laws.proofs.{Words.{◌≡◌, ◌∙◌, ◌<◌, ◌≤◌, ◌-◌, inr, sym, refl, ap, ℕ, zero, suc, ◌+◌, ◌==◌, true, false, List, [], ◌∷◌, length, replicate, slice_get, IfSome, arith, eq-eqb, get_or, Access, Commit, Serial, Span, Array, byte_at, put, zeros, HasSeen, IsIsolated, IsSerialAt, own, History, array_at, block_at, IsLocal, depends, look_access, store_access, length-block_put, put_here, if_some_from, small, AnswerInOrder, AreMade, ArraysFrom, Called, CommitsAfter, IsCommitted, Part, accesses_in, run, IsOfItsBlocks, SpareRegion, MapStore, IsByCalls, IsOfCalls, IsOfBoth, BothByMap, BothInOrder, LooksAnswer, First, MixedParts, Second, firsts}, Histories.commit_answers, TwoStores.both_live}

-- a counter in the first byte of a block: a call adds a number, and answers what was there
abbrev counter_in : ℕ → MapStore
counter_in block = record {
  Map = ℕ;
  Call = ℕ;
  Answer = ℕ;
  has_block = λ b. b == block;
  IsWellFormed = λ A. length (block_at A block) ≡ 64;
  map_of = λ A. byte_at A block 0;
  act = λ n m. (m, m + n);
}

-- the counter of block 0
abbrev counter : MapStore
counter = counter_in 0

itself : (b : ℕ) → (b == b) ≡ true
itself b = eq-eqb b b refl

pub counter_is_of_its_blocks : (b : ℕ) → IsOfItsBlocks (counter_in b)
counter_is_of_its_blocks b = grind (arith, itself) steps 100000

abbrev first_byte : List Span
first_byte = record { off = 0; len = 1 } ∷ []

-- the accesses of an addition to what a block shows
abbrev adding_in : (block shown n : ℕ) → List Access
adding_in block shown n = look_access block first_byte ∷ store_access block first_byte ((shown + n) ∷ replicate 63 0) ∷ []

abbrev adding : (shown n : ℕ) → List Access
adding shown n = adding_in 0 shown n

reads_it : (b shown n : ℕ) → depends (adding_in b shown n) b 0 ≡ true
reads_it b shown n = let same = itself b in rw same refl

pub adding_is_local : (b : ℕ) (A : Array) (shown n : ℕ) → byte_at A b 0 ≡ shown
    → IsLocal (counter_in b).IsWellFormed (counter_in b).map_of ((counter_in b).act n) A (adding_in b shown n) shown
adding_is_local b A shown n is = record {
  answers = λ B same well agree. agree b 0 (reads_it b shown n) ∙ is;
  well_formed = λ B same well agree. length-block_put B (store_access b first_byte ((shown + n) ∷ replicate 63 0)) b ∙ well;
  maps = λ B same well agree.
      put_here B (store_access b first_byte ((shown + n) ∷ replicate 63 0)) 0 (sym well) (omega arith)
      ∙ ap (λ (m : ℕ). m + n) (sym (agree b 0 (reads_it b shown n) ∙ is));
}

-- an addition in a transaction that began at a commit
abbrev added_from : (begin shown n : ℕ) → Commit
added_from begin shown n = record { begin = begin; mode = Serial; accesses = adding shown n }

abbrev history : List Commit → History
history commits = record { first = 1; base = zeros 64 4; commits = commits }

abbrev one_call : (shown n : ℕ) → List (Part ℕ ℕ)
one_call shown n = Called n (adding shown n) shown ∷ []

-- Two additions, one after the other: the second read what the first wrote.
abbrev in_turn : History
in_turn = history (added_from 0 0 5 ∷ added_from 1 5 2 ∷ [])

pub each_began_before_itself : IsSerialAt in_turn 2
each_began_before_itself = λ i p. if_some_from _ (slice_get (adding 5 2) i) (λ a is covered. refl)

pub second_is_committed : IsCommitted counter in_turn 2 (one_call 5 2)
unfolding put
second_is_committed = record {
  commit = added_from 1 5 2;
  first = omega arith;
  since = omega arith;
  is = refl;
  serial = each_began_before_itself;
  are = refl;
  made = (adding_is_local 0 (array_at in_turn 1) 5 2 refl, tt);
  well_formed = refl;
}

pub second_answers_five : AnswerInOrder counter (one_call 5 2) (array_at in_turn 1) (array_at in_turn 2)
second_answers_five = commit_answers counter (counter_is_of_its_blocks 0) in_turn 2 (one_call 5 2) second_is_committed

pub counts_seven : run counter 0 (5 ∷ 2 ∷ []) ≡ (0 ∷ 5 ∷ [], 7)
counts_seven = refl

pub holds_seven : counter.map_of (array_at in_turn 2) ≡ 7
unfolding put
holds_seven = refl

-- One transaction adds to the counters of blocks 0 and 1, in turn: each counts for itself.
abbrev both_counters : MixedParts (counter_in 0) (counter_in 1)
both_counters = First 5 (adding_in 0 0 5) 0 ∷ Second 9 (adding_in 1 0 9) 0 ∷ First 2 (adding_in 0 5 2) 5 ∷ []

pub both_count : BothInOrder (counter_in 0) (counter_in 1) both_counters (zeros 64 4) (own (zeros 64 4) (accesses_in (firsts both_counters)))
unfolding put
both_count = grind (arith, both_live, counter_is_of_its_blocks, adding_is_local) steps 100000

some_number : (n : ℕ) → zero ≡ suc n → ⊥
some_number n e = cc

-- A lost update: both began at 0. Each made its call on what it was shown, and the second is not serial; nor did it answer in order.
abbrev lost_update : History
lost_update = history (added_from 0 0 5 ∷ added_from 0 0 2 ∷ [])

pub lost_update_is_made : AreMade counter (array_at lost_update 0) (one_call 0 2)
lost_update_is_made = (adding_is_local 0 (array_at lost_update 0) 0 2 refl, tt)

pub lost_update_is_not_serial : IsSerialAt lost_update 2 → ⊥
unfolding put
lost_update_is_not_serial is = some_number 4 (is 0 0 refl)

pub lost_update_is_not_committed : IsCommitted counter lost_update 2 (one_call 0 2) → ⊥
lost_update_is_not_committed is = lost_update_is_not_serial is.serial

head_of : List ℕ → ℕ
head_of xs = get_or xs 0 0

pub lost_update_is_not_in_order : AnswerInOrder counter (one_call 0 2) (array_at lost_update 1) (array_at lost_update 2) → ⊥
unfolding put head_of
lost_update_is_not_in_order is = some_number 4 (sym (ap head_of is.answers))

-- A plain write of the region is no other access.
pub plain_write_is_no_part : SpareRegion counter (store_access 0 first_byte (replicate 64 1) ∷ []) → ⊥
plain_write_is_no_part spare = Rattle.std.proofs.lemmas.Bool.false≢true (sym (spare.0 refl))

none_read : (b p : ℕ) → depends (store_access 0 first_byte (2 ∷ replicate 63 0) ∷ []) b p ≡ true → ⊥
none_read b p has = Rattle.std.proofs.lemmas.Bool.false≢true (Rattle.std.proofs.lemmas.Bool.and_parts _ false has).1

-- one byte of block 0 is another
abbrev other_array : Array
other_array = (1 ∷ replicate 63 0) ∷ replicate 3 (replicate 64 0)

other_lengths : (b : ℕ) → length (block_at other_array b) ≡ length (block_at (zeros 64 4) b)
other_lengths b = grind arith

-- A call that answers by what it has not read is not local.
pub unread_is_not_local : IsLocal counter.IsWellFormed counter.map_of (counter.act 2) (zeros 64 4) (store_access 0 first_byte (2 ∷ replicate 63 0) ∷ []) 0 → ⊥
unread_is_not_local local =
    some_number 0 (sym (local.answers other_array (record { blocks = refl; bytes = other_lengths }) refl (λ b p has. absurd (none_read b p has))))

-- ---- histories by calls: those of the two additions, from their begin and from their end on, and one of both counters

of_two : (P : ℕ → Type 0) → P 1 → P 2 → (k : ℕ) → 0 < k → k ≤ 2 → P k
of_two P one two zero low high = absurd (omega (arith, low))
of_two P one two (suc zero) low high = one
of_two P one two (suc (suc zero)) low high = two
of_two P one two (suc (suc (suc k))) low high = absurd (omega (arith, high))

first_began_before_itself : IsSerialAt in_turn 1
first_began_before_itself = λ i p. if_some_from _ (slice_get (adding 0 5) i) (λ a is covered. refl)

in_turn_is_isolated : IsIsolated small in_turn
in_turn_is_isolated k low high =
    of_two (λ n. IfSome (slice_get in_turn.commits (n - 1)) (HasSeen small in_turn n))
    (record { since = omega arith; before = omega arith; isolated = first_began_before_itself })
    (record { since = omega arith; before = omega arith; isolated = each_began_before_itself }) k (omega (arith, low)) (omega (arith, high))

one_addition : (begin shown n : ℕ) → byte_at (array_at in_turn begin) 0 0 ≡ shown → IsOfCalls counter in_turn (added_from begin shown n)
one_addition begin shown n is = record { parts = one_call shown n; are = refl; made = (adding_is_local 0 (array_at in_turn begin) shown n is, tt); mode = inr refl }

pub in_turn_is_by_calls : IsByCalls counter small in_turn 0
unfolding put
in_turn_is_by_calls = record {
  first = omega arith;
  since = omega arith;
  within = omega arith;
  isolated = in_turn_is_isolated;
  calls = λ k low high. of_two (λ n. IfSome (slice_get in_turn.commits (n - 1)) (IsOfCalls counter in_turn)) (one_addition 0 0 5 refl) (one_addition 1 5 2 refl) k (omega (arith, low)) (omega (arith, high));
  begins = refl;
}

pub by_calls_from_its_end : IsByCalls counter small in_turn 2
unfolding put
by_calls_from_its_end = record { first = omega arith; since = omega arith; within = omega arith; isolated = in_turn_is_isolated; calls = λ k low high. absurd (omega (arith, low, high)); begins = refl }

abbrev both_at_once : Commit
both_at_once = record { begin = 0; mode = Serial; accesses = accesses_in (firsts both_counters) }

pub commit_of_both : IsOfBoth (counter_in 0) (counter_in 1) (history (both_at_once ∷ [])) both_at_once
unfolding put
commit_of_both = record {
  parts = both_counters;
  are = refl;
  made = (
    adding_is_local 0 (zeros 64 4) 0 5 refl,
    (λ write. refl, (λ write. refl, tt)),
    (
      adding_is_local 1 (own (zeros 64 4) (adding_in 0 0 5)) 0 9 refl,
      (λ write. refl, (λ write. refl, tt)),
      (adding_is_local 0 (own (own (zeros 64 4) (adding_in 0 0 5)) (adding_in 1 0 9)) 5 2 refl, (λ write. refl, (λ write. refl, tt)), tt),
    ),
  );
  mode = inr refl;
}

-- ---- what holds of each commit after a number, and of each array from it on

pub second_begins_at_one : CommitsAfter in_turn 1 (λ k c. c.begin ≡ 1)
second_begins_at_one zero low high = absurd (omega (arith, low))
second_begins_at_one (suc zero) low high = absurd (omega (arith, low))
second_begins_at_one (suc (suc zero)) low high = refl
second_begins_at_one (suc (suc (suc k))) low high = absurd (omega (arith, high))

pub first_begins_before : CommitsAfter in_turn 0 (λ k c. c.begin ≡ 1) → ⊥
first_begins_before each = some_number 0 (each 1 (omega arith) (omega arith))

pub array_at_the_number_counts : ArraysFrom in_turn 0 (λ A. counter.map_of A ≡ 5) → ⊥
array_at_the_number_counts each = some_number 4 (each 0 (omega arith) (omega arith))

pub later_arrays_count : ArraysFrom in_turn 0 (λ A. counter.map_of A ≡ 0) → ⊥
unfolding put
later_arrays_count each = some_number 6 (sym (each 2 (omega arith) (omega arith)))

-- ---- what is no answer by one map

abbrev answered_so : (first second : ℕ) → MixedParts (counter_in 0) (counter_in 1)
answered_so first second = First 5 (adding_in 0 0 5) first ∷ Second 9 (adding_in 1 0 9) second ∷ []

first_by_another_map : BothByMap (counter_in 0) (counter_in 1) (answered_so 7 0) (zeros 64 4) → ⊥
unfolding head_of
first_by_another_map by = some_number 6 (sym (ap head_of by.first))

second_by_another_map : BothByMap (counter_in 0) (counter_in 1) (answered_so 0 7) (zeros 64 4) → ⊥
unfolding head_of
second_by_another_map by = some_number 6 (sym (ap head_of by.second))

each_by_its_map : BothByMap (counter_in 0) (counter_in 1) (answered_so 0 0) (zeros 64 4)
each_by_its_map = record { first = refl; second = refl }

-- A look into a counter answers by what the transaction wrote before it, whoever's call that was.
abbrev looked : (answer : ℕ) → MixedParts counter counter
looked answer = First 5 (adding 0 5) 0 ∷ Second 0 (look_access 0 first_byte ∷ []) answer ∷ []

look_answers_five : LooksAnswer counter counter (zeros 64 4) (looked 5)
unfolding put
look_answers_five = (refl, tt)

look_answers_no_older_map : LooksAnswer counter counter (zeros 64 4) (looked 0) → ⊥
unfolding put
look_answers_no_older_map answers = some_number 4 (sym answers.0)
