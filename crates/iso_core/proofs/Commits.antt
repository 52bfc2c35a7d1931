-- A core that takes in one appended commit represents the next world; for `take_in`.
use Rattle.iso_core.proofs.{Words.{◌≡◌, ◌∙◌, sym, ap, ℕ, zero, suc, ◌+◌, ◌-◌, ◌<◌, ◌≤◌, ◌==◌, not, List, [], ◌∷◌, ◌++◌, length, map, arith, subst, nat_eq, slice_index_or, drop, length-drop, transport, drop-map, length_push, AllByRecursion, remove_entry, Extent, AreNotes, AreNotesAfter, Held, Note, above, added_after, dropped_after, Half, half_of_world, last_told, with_records, half_after, log_place, History, last, Commit, Geometry, IsRecord, Written, written, after_commit, commit_from, World, Live, floor, floor_of, without, IsWorld, all_filter, floor_above, floor_below, floor_between, IsIndexOf, BlockVersions, at_work, Begun, PartSpan, HasTaken, MayTake, index_more, may_take, Kept, IsGrownBy, written_of, bare, IsOf, LogExtent, extent_of}, Numbers.last_is, Transactions.{kept_floor, kept_without}}

all_dropped : {X : Type 0} (P : X → Type 0) (n : ℕ) (xs : List X) → AllByRecursion P xs → AllByRecursion P (drop n xs)
all_dropped P zero xs all = all
all_dropped P (suc n) [] all = all
all_dropped P (suc n) (x ∷ xs) all = all_dropped P n xs all.1

-- the number of each note is below m plus the number of the commits
pub numbers_from : (g : Geometry) (m : ℕ) (notes : List Note) (commits : List Commit) → AreNotes g m notes commits → (k : ℕ) (d : Note) → k < length notes → (slice_index_or notes k d).0 + 1 ≤ m + length commits
numbers_from g m [] commits are k d below = absurd (omega arith)
numbers_from g m (note ∷ notes) [] are k d below = absurd are
numbers_from g m (note ∷ notes) (c ∷ commits) are zero d below = omega (arith, are.0)
numbers_from g m (note ∷ notes) (c ∷ commits) are (suc k) d below = omega (arith, numbers_from g (m + 1) notes commits are.2 k d (omega arith))

-- the records that a half of the world tells
pub held_records : (W : World) (at : ℕ) → IsWorld W → AllByRecursion (IsRecord W.geometry) (half_of_world W at).told
held_records W at is = subst (AllByRecursion (IsRecord W.geometry)) (drop-map (written W.geometry) (W.base + 1 - W.history.first) W.history.commits) (all_dropped (IsRecord W.geometry) (W.base + 1 - W.history.first) (map (written W.geometry) W.history.commits) is.records)

-- numbers of notes are not above the last commit
numbers_below : (g : Geometry) (H : History) (n : ℕ) (notes : List Note) → 0 < H.first → n ≤ last H → AreNotesAfter g H n notes → (k : ℕ) (d : Note) → k < length notes → (slice_index_or notes k d).0 ≤ last H
numbers_below g H n notes first until are k d below =
    omega (arith, length-drop (n + 1 - H.first) H.commits, numbers_from g _ notes (drop (n + 1 - H.first) H.commits) are k d below)

-- the half of a world with the commit
pub next_half : (W : World) (t : Live) (at : ℕ) → IsWorld W → half_of_world (after_commit W t) at ≡ with_records (written_of W t ∷ []) (half_of_world W at)
next_half W t at is =
    half_after W t at is.since (omega arith) is.history.first

-- the transaction commits in W, and its record was appended to the core, which has not taken it in
module _ (W : World) (tx : ℕ) (t : Live) (kept : Kept) (gate : ℕ) (writes : List (ℕ × List Extent)) (grown : IsGrownBy W tx t kept gate writes) where
  told_number : last_told (half_of_world W kept.half) ≡ last W.history
  told_number = last_is W kept.half grown.was.world

  pub number_is : kept.log.last ≡ last W.history + 1
  number_is = omega (arith, ap (λ (e : LogExtent). e.last) grown.log, length_push (half_of_world W kept.half).told (written_of W t), told_number)

  -- the index may take in the versions of the commit
  pub may_take_in : (number : ℕ) (parts : List PartSpan) → number ≡ kept.log.last → parts ≡ kept.parts.items → MayTake number gate parts kept.index
  may_take_in number parts number_of parts_of =
      let x : Half = half_of_world W kept.half in
      let may = may_take W.geometry x W.trim (written_of W t) kept.index grown.was.world.valid grown.was.keeps.half (held_records W kept.half grown.was.world) grown.follows grown.was.keeps.index in
      transport (λ i. MayTake (sym (number_of ∙ number_is ∙ ap (λ (n : ℕ). n + 1) (sym told_number)) i) (sym grown.gate_is i) (sym (parts_of ∙ grown.prepared.spelled.parts) i) kept.index) may

  -- the number of each note is below that of the new commit
  pub notes_below : (number : ℕ) → number ≡ kept.log.last → (k : ℕ) (d : Note) → k < length kept.notes.notes → (slice_index_or kept.notes.notes k d).0 < number
  notes_below number number_of k d below =
      let from : grown.was.keeps.notes.from ≤ floor W = grown.was.keeps.notes.before in
      let to : floor W ≤ last W.history = (floor_between W grown.was.world).1 in
      let low = numbers_below W.geometry W.history grown.was.keeps.notes.from kept.notes.notes grown.was.world.history.first (omega (arith, from, to)) grown.was.keeps.notes.notes k d below in
      omega (arith, low, number_of, number_is)

  left_floor : (live : List (ℕ × Begun)) → live ≡ remove_entry (nat_eq tx) kept.live → map at_work live ≡ map bare (without t.number W.live)
  left_floor live left = grind (arith, kept_without)

  next_last : last (after_commit W t).history ≡ last W.history + 1
  next_last = omega (arith, length_push W.history.commits (commit_from t))

  pub next_floor : (number : ℕ) (live : List (ℕ × Begun)) → number ≡ kept.log.last → live ≡ remove_entry (nat_eq tx) kept.live → floor_of number (map at_work live) ≡ floor (after_commit W t)
  next_floor number live number_of left =
      (let n = number_of ∙ number_is ∙ sym next_last in λ i. floor_of (n i) (left_floor live left i))
      ∙ kept_floor (last (after_commit W t).history) (without t.number W.live)

  -- the floor does not fall
  floor_rises : floor W ≤ floor (after_commit W t)
  floor_rises =
      floor_above (floor W) (last (after_commit W t).history) (without t.number W.live) (omega (arith, (floor_between W grown.was.world).1, next_last))
      (all_filter (λ u. floor W ≤ u.begin) (λ u. not (u.number == t.number)) W.live (floor_below (last W.history) W.live))

  next_notes : (number to : ℕ) (notes : List Note) → number ≡ kept.log.last → to ≡ floor (after_commit W t) → notes ≡ above to (kept.notes.notes ++ (number, writes) ∷ [])
      → AreNotesAfter W.geometry (after_commit W t).history (floor (after_commit W t)) notes
  next_notes number to notes number_of to_is is =
      let from = grown.was.keeps.notes.from in
      let first : 0 < W.history.first = grown.was.world.history.first in
      let low : from ≤ floor W = grown.was.keeps.notes.before in
      let high : floor W ≤ last W.history = (floor_between W grown.was.world).1 in
      let rises = floor_rises in
      let n : number ≡ W.history.first + length W.history.commits = omega (arith, number_of, number_is, first) in
      let all = added_after W.geometry W.history from kept.notes.notes (commit_from t) writes (omega (arith, low, high, first)) grown.was.keeps.notes.notes grown.prepared.touched in
      let kept_notes = dropped_after W.geometry (after_commit W t).history from (floor (after_commit W t)) (kept.notes.notes ++ (W.history.first + length W.history.commits, writes) ∷ []) (omega (arith, low, rises)) all in
      grind arith

  next_index : (number : ℕ) (parts : List PartSpan) (index : List BlockVersions) → number ≡ kept.log.last → parts ≡ kept.parts.items → HasTaken number gate parts kept.index index
      → IsIndexOf W.geometry (W.base + 1) (log_place W.geometry kept.half) W.trim (half_of_world (after_commit W t) kept.half).told index
  next_index number parts index number_of parts_of taken =
      let x : Half = half_of_world W kept.half in
      let trim : W.trim ≤ last W.history = grown.was.world.trim in
      let n : number ≡ W.base + 1 + length x.told = omega (arith, number_of, number_is, told_number) in
      subst (λ (l : List Written). IsIndexOf W.geometry (W.base + 1) (log_place W.geometry kept.half) W.trim l index)
      (sym (ap (λ (h : Half). h.told) (next_half W t kept.half grown.was.world)))
      (index_more W.geometry (W.base + 1) (log_place W.geometry kept.half) W.trim x.told (written_of W t) kept.index index grown.was.keeps.index (omega (arith, trim, told_number))
      (transport (λ i. HasTaken (n i) (grown.gate_is i) ((parts_of ∙ grown.prepared.spelled.parts) i) kept.index index) taken))

  -- what is kept is that of the world with the commit
  pub commits_so : (number to : ℕ) (parts : List PartSpan) (index : List BlockVersions) (live : List (ℕ × Begun)) (notes : Held) → number ≡ kept.log.last → parts ≡ kept.parts.items
      → HasTaken number gate parts kept.index index → live ≡ remove_entry (nat_eq tx) kept.live → to ≡ floor_of number (map at_work live)
      → notes.notes ≡ above to (kept.notes.notes ++ (number, writes) ∷ []) → IsOf (record kept { index = index; notes = notes; live = live }) (after_commit W t)
  commits_so number to parts index live notes number_of parts_of taken left to_is noted = record {
    world = grown.next;
    keeps = record {
      geometry = grown.was.keeps.geometry;
      half = grown.was.keeps.half;
      generation = grown.was.keeps.generation;
      base = grown.was.keeps.base;
      trim = grown.was.keeps.trim;
      next = grown.was.keeps.next;
      log = grown.log ∙ ap (extent_of W.geometry) (sym (next_half W t kept.half grown.was.world));
      index = next_index number parts index number_of parts_of taken;
      notes = record {
        from = floor (after_commit W t);
        before = omega arith;
        notes = next_notes number to notes.notes number_of (to_is ∙ next_floor number live number_of left) noted;
      };
      live = left_floor live left;
    };
  }
