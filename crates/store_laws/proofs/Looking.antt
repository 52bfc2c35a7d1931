-- A transaction that calls a store and looks into another one: its calls answer in order, and each look by what it came to.
use Rattle.store_laws.proofs.{Words.{◌≡◌, sym, subst, ℕ, ◌-◌, List, [], ◌∷◌, inr, arith, slice_get, Access, Commit, Geometry, Mode, Serial, Array, own, History, array_at, HasSeen, IsIsolatedAt, IsSerialAt, SameShape, First, MixedParts, Neither, Second, firsts, AreMade, IsByCalls, accesses_in, IsOfItsBlocks, MapStore, SameRegion, AreLooking, CommitsAfter, LooksAnswer, LooksAnswerAt}, Growth.reads_spare, Histories.{commit_follows, if_some, well_formed_at}, InOrder.{reads_same, region_stays, same_shape}, SameReads.{SameReads, agree_where, reads_split, same_shape_at, same_shape_own, serial_reads}}

module _ (s t : MapStore) (regional : IsOfItsBlocks s) (within : (A : Array) → s.IsWellFormed A → t.IsWellFormed A) where
  -- to the store, looks are other accesses
  pub looking_made : (A : Array) (parts : MixedParts s t) → AreLooking s t A parts → AreMade s A (firsts parts)
  looking_made A [] made = tt
  looking_made A (First call accesses answer ∷ parts) made = (made.0, looking_made (own A accesses) parts made.1)
  looking_made A (Second look accesses answer ∷ parts) made = (reads_spare s accesses made.1, looking_made (own A accesses) parts made.2)
  looking_made A (Neither accesses ∷ parts) made = (made.0, looking_made (own A accesses) parts made.1)

  -- The parts were shown one array; the looks answer by another, on which all reads show the same.
  looks_answer : (parts : MixedParts s t) (A B : Array) → SameShape A B → AreLooking s t A parts → SameReads (accesses_in (firsts parts)) A B → s.IsWellFormed B → LooksAnswer s t B parts
  looks_answer [] A B shape made same well = tt
  looks_answer (First call accesses answer ∷ parts) A B shape made same well =
      let reads = reads_split accesses (accesses_in (firsts parts)) A B same in
      looks_answer parts (own A accesses) (own B accesses) (same_shape_own A B accesses shape) made.1 reads.1 (made.0.well_formed B shape well (agree_where accesses A B reads.0))
  looks_answer (Second look accesses answer ∷ parts) A B shape made same well =
      let reads = reads_split accesses (accesses_in (firsts parts)) A B same in
      let stays : SameRegion s B (own B accesses) = region_stays s accesses B (reads_spare s accesses made.1) in (
        made.0.answers B shape (within B well) (agree_where accesses A B reads.0),
        looks_answer parts (own A accesses) (own B accesses) (same_shape_own A B accesses shape) made.2 reads.1 (regional.well_formed B (own B accesses) stays well),
      )
  looks_answer (Neither accesses ∷ parts) A B shape made same well =
      let reads = reads_split accesses (accesses_in (firsts parts)) A B same in
      let stays : SameRegion s B (own B accesses) = region_stays s accesses B made.0 in
      looks_answer parts (own A accesses) (own B accesses) (same_shape_own A B accesses shape) made.1 reads.1 (regional.well_formed B (own B accesses) stays well)

  -- of a transaction that is live
  pub live_looks : (A : Array) (parts : MixedParts s t) → AreLooking s t A parts → s.IsWellFormed A → LooksAnswer s t A parts
  live_looks A parts made well = looks_answer parts A A (same_shape A) made (reads_same (accesses_in (firsts parts)) A) well

  -- and of a commit that is serial
  serial_seen : (g : Geometry) (H : History) (k : ℕ) (c : Commit) → HasSeen g H k c → c.mode ≡ Serial → IsSerialAt H k
  serial_seen g H k c seen serial = subst (λ (mode : Mode). IsIsolatedAt g H mode k) serial seen.isolated

  pub commit_looks : (g : Geometry) (H : History) (n : ℕ) → IsByCalls s g H n → CommitsAfter H n (LooksAnswerAt s t H)
  commit_looks g H n by k after to =
      let since = by.since in
      let well : s.IsWellFormed (array_at H (k - 1)) = well_formed_at s regional g H n (k - 1) by (omega arith) (omega arith) in
      if_some (HasSeen g H k) (LooksAnswerAt s t H k) (slice_get H.commits (k - H.first))
      (λ c is seen of. record {
        calls = commit_follows s regional g H k c by.first (omega arith) is seen
            (record { parts = firsts of.parts; are = of.are; made = looking_made (array_at H c.begin) of.parts of.made; mode = inr of.serial }) well;
        looks = looks_answer of.parts (array_at H c.begin) (array_at H (k - 1)) (same_shape_at H c.begin (k - 1)) of.made
            (subst (λ (accesses : List Access). SameReads accesses (array_at H c.begin) (array_at H (k - 1))) (sym of.are) (serial_reads H k c is (serial_seen g H k c seen of.serial))) well;
      })
      (by.isolated k (omega arith) to)
