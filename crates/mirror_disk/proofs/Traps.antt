-- What a looser definition of a mirror would let through.
use Rattle.std.proofs.Common.{lit<, lit≤}
use Rattle.mirror_disk.proofs.{Words.{◌≡◌, ◌≢◌, inl, inr, ⊎_elim, ◌+◌, ◌<◌, ◌≤◌, ℕ, Bool, true, false, List, [], ◌∷◌, ◌++◌, length, take, drop, replicate, slice_index, Some, None, refl, sym, ◌∙◌, ap, subst, arith, DiskState, WritesNothing, IsHeader, AdoptsFrom, LeavesAlike, AllFailed, CannotLeave, LeavesFailed, body, chosen, epoch, first_name, second_name, last_epoch, number_at, FromA, FromB, IsPair, Used, Both, Broken, OnlyFirst, OnlySecond, Plain, Unbound}, Rows.{disk_of, double, mirror, plain, side, slot}}
use Rattle.iso_disk.specs.declared.disk.Disk.{Ghosts}
use Rattle.mirror_disk.specs.{Adopting.{AdoptFails, AdoptRefuses, TellsHeader, WasBound}, Binding.{BindFails, EitherFailed, IsTaken, IsTooLarge, MakesOnFreeNames, RefusesBound}, Header.word, State.{CannotBeLeft, HasAllFailed, LeavesFailedOut}, declared.mirror.Mirror.Mirror}

-- two lists are not the same that differ at this place
differ : (i m n : ℕ) {x y : List ℕ} → x ≡ y → slice_index x i ≡ m → slice_index y i ≡ n → m ≢ n → ⊥
differ i m n same one two not = not (sym one ∙ ap (λ (l : List ℕ). slice_index l i) same ∙ two)

-- the header with epoch 1 in its first slot and the last epoch in its second one, and no byte after it
abbrev largest : List ℕ
largest = word ++ replicate 8 0 ++ slot 1 ++ 1 ∷ replicate 7 0 ++ 127 ∷ replicate 7 255 ++ replicate 16 0

has_header : IsHeader largest
has_header = record {
  size = lit≤ tt;
  begins = refl;
  gap = refl;
  first = record { zeros = λ _. refl; least = λ _. lit≤ tt; most = λ _. lit≤ tt };
  second = record { zeros = λ _. refl; least = λ _. lit≤ tt; most = λ _. lit≤ tt };
  end = refl;
  has_epoch = lit≤ tt;
}

-- one byte is not that of a header
other_word : IsHeader (take 7 word ++ 50 ∷ drop 8 largest) → ⊥
other_word h = differ 7 50 49 h.begins refl refl (λ is. absurd (omega (arith, is)))

other_gap : IsHeader (word ++ replicate 7 0 ++ 1 ∷ drop 16 largest) → ⊥
other_gap h = differ 7 1 0 h.gap refl refl (λ is. absurd (omega (arith, is)))

other_zeros : IsHeader (word ++ replicate 8 0 ++ 1 ∷ replicate 6 0 ++ 1 ∷ replicate 7 0 ++ 1 ∷ drop 32 largest) → ⊥
other_zeros h = differ 6 1 0 (h.first.zeros refl) refl refl (λ is. absurd (omega (arith, is)))

other_end : IsHeader (take 63 largest ++ 1 ∷ []) → ⊥
other_end h = differ 15 1 0 h.end refl refl (λ is. absurd (omega (arith, is)))

-- an epoch is at least 1 and at most the last one, and one slot is open
abbrev with_second : List ℕ → List ℕ
with_second bytes = take 32 largest ++ bytes ++ replicate 16 0

no_epoch : IsHeader (with_second (1 ∷ replicate 15 0)) → ⊥
no_epoch h = let is : number_at (32 + 8) (with_second (1 ∷ replicate 15 0)) ≡ 0 = refl in absurd (omega (arith, is, h.second.least refl))

behind_the_last : IsHeader (with_second (1 ∷ replicate 7 0 ++ 128 ∷ replicate 7 0)) → ⊥
behind_the_last h = let is : number_at (32 + 8) (with_second (1 ∷ replicate 7 0 ++ 128 ∷ replicate 7 0)) ≡ 9223372036854775808 = refl in absurd (omega (arith, is, h.second.most refl))

none_open : IsHeader (side 0 0 7) → ⊥
none_open h = let is : epoch (side 0 0 7) ≡ 0 = refl in absurd (omega (arith, is, h.has_epoch))

-- two sides are a pair also where both failed, but not where none is bound or the first one alone
pairs : (IsPair Plain → ⊥) × (IsPair Unbound → ⊥) × IsPair Broken
pairs = ((λ is. is.0 refl), (λ is. is.1 refl), ((λ is. cc is), (λ is. cc is)))

-- the images since the first moment of a mirror are those of each side since its moment then
abbrev since_a : List ℕ → Type 0
since_a = FromA (disk_of (side 1 0 7) 0) (disk_of (side 1 2 8) 50) ((3, 4) ∷ (1, 2) ∷ [])

abbrev since_b : List ℕ → Type 0
since_b = FromB (disk_of (side 1 0 7) 0) (disk_of (side 1 2 8) 50) ((3, 4) ∷ (1, 2) ∷ [])

are_since : since_a (side 1 0 1) × since_b (side 1 0 52)
are_since = (refl, refl)

none_since : ((x : List ℕ) → since_a x → x ≡ side 1 0 1) × ((y : List ℕ) → since_b y → y ≡ side 1 0 52)
none_since = ((λ x is. is), (λ y is. is))

-- a mirror leaves what is chosen of its sides, now and at each moment since its bind, and nothing else
is_chosen : ((mirror Both).now (8 ∷ [])) × ((mirror Both).left 0 (1 ∷ [])) × ((mirror Both).left 1 (3 ∷ []))
is_chosen = (
  record { first = side 1 0 7; second = side 1 2 8; of_first = refl; of_second = refl; is = refl },
  record { first = side 1 0 1; second = side 1 0 52; of_first = refl; of_second = refl; is = refl },
  record { first = side 1 0 3; second = side 1 0 54; of_first = refl; of_second = refl; is = refl },
)

none_else : (c : List ℕ) → (mirror Both).now c → c ≡ 8 ∷ []
none_else c of = of.is ∙ (λ i. chosen (of.of_first i) (of.of_second i))

none_else_before : (c : List ℕ) → (mirror Both).left 0 c → c ≡ 1 ∷ []
none_else_before c of = of.is ∙ (λ i. chosen (of.of_first i) (of.of_second i))

-- no call has failed by all its sides where one that is in use did not
first_did : (AllFailed Plain 0 0 0 1 → ⊥) × (AllFailed Both 0 0 0 1 → ⊥) × (AllFailed OnlyFirst 0 0 0 1 → ⊥)
first_did = ((λ rose. absurd (omega (arith, rose))), (λ both. absurd (omega (arith, both.0))), (λ rose. absurd (omega (arith, rose))))

second_did : (AllFailed Both 0 1 0 0 → ⊥) × (AllFailed OnlySecond 0 1 0 0 → ⊥)
second_did = ((λ both. absurd (omega (arith, both.1))), (λ rose. absurd (omega (arith, rose))))

-- where each one in use failed, all have, and so it is where none is in use
have_failed : AllFailed Plain 0 1 0 0 × AllFailed Both 0 1 2 3 × AllFailed OnlyFirst 0 1 0 0 × AllFailed OnlySecond 0 0 0 1 × AllFailed Broken 0 0 0 0 × AllFailed Unbound 0 0 0 0
have_failed = (lit≤ tt, (lit≤ tt, lit≤ tt), lit≤ tt, lit≤ tt, tt, tt)

cannot_be_left : CannotLeave Both last_epoch 0 1 0 0 × CannotLeave Both last_epoch 0 0 0 1
cannot_be_left = ((refl, lit≤ tt, inl (lit≤ tt)), (refl, lit≤ tt, inr (lit≤ tt)))

-- a side can be left out below the last epoch, and only of two
can_be_left : (CannotLeave Both 5 0 1 0 1 → ⊥) × (CannotLeave OnlyFirst last_epoch 0 1 0 1 → ⊥) × (CannotLeave Both last_epoch 0 0 0 0 → ⊥)
can_be_left = (
  (λ cannot. absurd (omega (arith, cannot.1))),
  (λ cannot. absurd (cc cannot.0)),
  (λ cannot. ⊎_elim (λ rose. absurd (omega (arith, rose))) (λ rose. absurd (omega (arith, rose))) cannot.2),
)

-- none is left out that did not fail, and none comes back
failed_alone : (LeavesFailed Both OnlySecond 0 0 0 1 → ⊥) × (LeavesFailed Both OnlyFirst 0 1 0 0 → ⊥) × (LeavesFailed OnlyFirst Both 0 0 0 0 → ⊥) × (LeavesFailed OnlySecond Broken 0 1 0 1 → ⊥)
failed_alone = (
  (λ left. let rose = left.first refl refl in absurd (omega (arith, rose))),
  (λ left. let rose = left.second refl refl in absurd (omega (arith, rose))),
  (λ left. let same = left.stays (λ is. cc is) in absurd (cc same)),
  (λ left. let same = left.stays (λ is. cc is) in absurd (cc same)),
)

-- two headers on sides of one size are no reason to refuse
mirrors_are_taken : (a b : DiskState) (x y : List ℕ) → a.contents ≡ Some x → b.contents ≡ Some y → a.size ≡ b.size → IsHeader x → IsHeader y → AdoptRefuses a b → ⊥
mirrors_are_taken a b x y told_a told_b sizes first second refuses = ⊎_elim (λ differ. differ sizes) (λ none. ⊎_elim (λ no. no x told_a first) (λ no. no y told_b second) none) refuses

-- sides that are alike are not written where none fails
alike_stay : (a b new_a new_b : DiskState) (x y : List ℕ) → a.contents ≡ Some x → b.contents ≡ Some y → LeavesAlike a b new_a new_b → epoch x ≡ epoch y → body x ≡ body y → b.faults ≡ new_b.faults → b.faults < 9 → WritesNothing a new_a × WritesNothing b new_b
alike_stay a b new_a new_b x y told_a told_b leaves epochs bodies same few = ⊎_elim (λ rose. absurd (omega (arith, rose, same, few))) (λ nothing. nothing) (leaves x y told_a told_b epochs bodies)

-- an adopt does not fail where no side does, nor where the other one alone does and has an epoch to be left out by
fails_by_a_fault : (a b mid_a mid_b new_a new_b : DiskState) (x y : List ℕ) → a.contents ≡ Some x → b.contents ≡ Some y → a.faults ≡ 0 → b.faults ≡ 0 → AdoptFails a b mid_a mid_b new_a new_b → new_a.faults ≡ 0 → epoch y ≤ epoch x → epoch x < 9 → mid_b.faults ≡ 0 → ⊥
fails_by_a_fault a b mid_a mid_b new_a new_b x y told_a told_b zero_a zero_b fails none least few before = ⊎_elim
    (λ early. ⊎_elim (λ rose. absurd (omega (arith, rose, zero_a, none, fails.first_behind))) (λ rose. absurd (omega (arith, rose, zero_b, before))) early)
    (λ late. ⊎_elim (λ rose. absurd (omega (arith, rose, zero_a, none, fails.first_before))) (λ last. absurd (omega (arith, last.0, few))) ((late x told_a y told_b).0 least))
    fails.by

-- and where the second side is chosen, in the same way
fails_by_the_second : (a b mid_a mid_b new_a new_b : DiskState) (x y : List ℕ) → a.contents ≡ Some x → b.contents ≡ Some y → a.faults ≡ 0 → b.faults ≡ 0 → AdoptFails a b mid_a mid_b new_a new_b → new_b.faults ≡ 0 → epoch x < epoch y → epoch y < 9 → mid_a.faults ≡ 0 → ⊥
fails_by_the_second a b mid_a mid_b new_a new_b x y told_a told_b zero_a zero_b fails none less few before = ⊎_elim
    (λ early. ⊎_elim (λ rose. absurd (omega (arith, rose, zero_a, before))) (λ rose. absurd (omega (arith, rose, zero_b, none, fails.second_behind))) early)
    (λ late. ⊎_elim (λ rose. absurd (omega (arith, rose, zero_b, none, fails.second_before))) (λ last. absurd (omega (arith, last.0, few))) ((late x told_a y told_b).1 less))
    fails.by

-- at the choice the counts of the sides are between those before and those after
counts_between : {a b mid_a mid_b new_a new_b : DiskState} → AdoptFails a b mid_a mid_b new_a new_b → a.faults ≡ 5 → new_a.faults ≡ 5 → b.faults ≡ 6 → new_b.faults ≡ 6 → (mid_a.faults ≡ 5) × (mid_b.faults ≡ 6)
counts_between fails old_a now_a old_b now_b = (omega (arith, fails.first_before, fails.first_behind, old_a, now_a), omega (arith, fails.second_before, fails.second_behind, old_b, now_b))

-- the choice is made of what the sides told before
tell_at_the_choice : {a b mid_a mid_b new_a new_b : DiskState} → AdoptsFrom a b mid_a mid_b new_a new_b → (mid_a.contents ≡ a.contents) × (mid_b.contents ≡ b.contents)
tell_at_the_choice adopts = (adopts.first_before.same_contents, adopts.second_before.same_contents)

-- where each stable side has one image, an adopt leaves what was chosen of the two at each moment
keeps_the_choice : {a b mid_a mid_b new_a new_b : DiskState} (p q : List ℕ) → AdoptsFrom a b mid_a mid_b new_a new_b → ((x : List ℕ) → mid_a.now x → x ≡ p) → ((y : List ℕ) → mid_b.now y → y ≡ q) → (x y : List ℕ) → new_a.left mid_a.clock x → new_b.left mid_b.clock y → chosen x y ≡ chosen p q
keeps_the_choice p q adopts one two x y left left' = let of = adopts.kept x y left left' in of.is ∙ (λ i. chosen (one of.first of.of_first i) (two of.second of.of_second i))

-- what has a header
has_one : (d : DiskState) (x : List ℕ) → d.contents ≡ Some x → TellsHeader d → IsHeader x
has_one d x told has = has x told

-- a disk that was bound reads what its name had
reads_the_name : {old new : DiskState} (c : List ℕ) → WasBound old new plain → old.named plain ≡ Some c → (new.contents ≡ Some c) × ((t : ℕ) × (new.bound ≡ Some (t, 97 ∷ [])))
reads_the_name c was named = (was.reads c named, was.bound)

-- a short name and a small size have room, and a bind of what exists finds no name taken
has_room : (IsTooLarge double None → ⊥) × (IsTooLarge double (Some 0) → ⊥) × (IsTooLarge double (Some 18446744073709551551) → ⊥)
has_room = (
  (λ large. ⊎_elim (λ long. absurd (omega (arith, long))) (λ none. none) large),
  (λ large. ⊎_elim (λ long. absurd (omega (arith, long))) (λ more. absurd (omega (arith, more))) large),
  (λ large. ⊎_elim (λ long. absurd (omega (arith, long))) (λ more. absurd (omega (arith, more))) large),
)

-- the longest name, and one that has no room for a byte more; a size is too large by one
longest : (name : List ℕ) → length name ≡ 4095 → IsTooLarge name None → ⊥
longest name is large = ⊎_elim (λ long. absurd (omega (arith, long, is))) (λ none. none) large

no_room : ((name : List ℕ) → length name ≡ 4096 → IsTooLarge name None) × IsTooLarge double (Some 18446744073709551552)
no_room = ((λ name is. inl (omega (arith, is))), inr (lit< tt))

-- what a disk sees that is a list of the one name that is taken
abbrev sees : List (List ℕ) → List ℕ → Bool → Type 0
sees taken name free = (free ≡ true → taken ≢ name ∷ []) × (free ≡ false → taken ≡ name ∷ [])

none_is_taken : (IsTaken sees sees (Some 1) [] [] double → ⊥) × (IsTaken sees sees None (plain ∷ []) (plain ∷ []) double → ⊥)
none_is_taken = (
  (λ taken. ⊎_elim (λ first. let is = first.1 refl in absurd (cc is)) (λ second. let is = second.1 refl in absurd (cc is)) taken.1),
  (λ taken. absurd (cc taken.0)),
)

-- disks that have failed so often, and were bound to a name so
abbrev failed_so : ℕ → DiskState
failed_so n = record (disk_of (side 1 0 7) 0) { faults = n }

either_fails : (EitherFailed failed_so failed_so (0, 0) (0, 0) → ⊥) × EitherFailed failed_so failed_so (0, 0) (1, 0) × EitherFailed failed_so failed_so (0, 0) (0, 1)
either_fails = ((λ either. ⊎_elim (λ rose. absurd (omega (arith, rose))) (λ rose. absurd (omega (arith, rose))) either), inl (lit≤ tt), inr (lit≤ tt))

-- the sides that are not taken for a mirror were bound to their own names
abbrev are_bound : List ℕ → Type 0
are_bound name = (t : ℕ) × ((failed_so 0).bound ≡ Some (t, name))

bound_so : RefusesBound failed_so failed_so (0, 0) double → are_bound (97 ∷ 43 ∷ 48 ∷ []) × are_bound (97 ∷ 43 ∷ 49 ∷ [])
bound_so refuses = (refuses.2.bound, refuses.3.bound)

-- a bind of free names to a size with room for it fails by a fault alone
abbrev sees_free : ℕ → List ℕ → Bool → Type 0
sees_free n name free = free ≡ true

no_reason : BindFails failed_so failed_so sees_free sees_free (Some 1) (0, 0) (0, 0) double → ⊥
no_reason fails = ⊎_elim either_fails.0
    (λ more. ⊎_elim (λ named. ⊎_elim has_room_for_one (λ taken. ⊎_elim (λ no. absurd (cc no)) (λ no. absurd (cc no)) taken.1) named) (λ refuses. absurd (cc refuses.0)) more) fails
  where
    has_room_for_one : IsTooLarge double (Some 1) → ⊥
    has_room_for_one large = ⊎_elim (λ long. absurd (omega (arith, long))) (λ more. absurd (omega (arith, more))) large

-- of calls on a mirror: it has not failed by all its sides where the second one did it, a side can be left out below the last epoch, and
-- none is that did not fail
module _ {A B : Type 0} {g : Ghosts A} {h : Ghosts B} (old new : Mirror A B g h) where
  second_did_it : old.marks.used ≡ Both → (h.state old.second).faults ≡ 0 → (h.state new.second).faults ≡ 0 → HasAllFailed old new → ⊥
  second_did_it both before after all =
      let failed = subst (λ (u : Used). AllFailed u (g.state old.first).faults (g.state new.first).faults (h.state old.second).faults (h.state new.second).faults) both all in
      let rose = failed.1 in
      absurd (omega (arith, rose, before, after))

  can_leave : old.marks.epoch ≡ 5 → CannotBeLeft old new → ⊥
  can_leave few cannot = let last = cannot.1 in absurd (omega (arith, last, few))

  did_not_fail : old.marks.used ≡ Both → new.marks.used ≡ OnlySecond → (g.state old.first).faults ≡ 0 → (g.state new.first).faults ≡ 0 → LeavesFailedOut old new → ⊥
  did_not_fail both left before after leaves = let rose = leaves.first both left in absurd (omega (arith, rose, before, after))

-- where one name is taken, no side was called
first_is_taken : MakesOnFreeNames sees sees (Some 1) (first_name double ∷ []) (first_name double ∷ []) [] (plain ∷ []) double → ⊥
first_is_taken made = ⊎_elim (λ free. free.0.0 refl refl) (λ same. let is = same.1 in absurd (cc is)) made

second_is_taken : MakesOnFreeNames sees sees (Some 1) [] (plain ∷ []) (second_name double ∷ []) (second_name double ∷ []) double → ⊥
second_is_taken made = ⊎_elim (λ free. free.1.0 refl refl) (λ same. let is = same.0 in absurd (cc is)) made
