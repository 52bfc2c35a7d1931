-- What a decision is asked.
use Rattle.iso_core.proofs.{Words.{◌≡◌, ◌∙◌, sym, refl, ap, ℕ, suc, ◌+◌, ◌-◌, ◌≤◌, List, [], ◌∷◌, length, drop, arith, subst, length-drop, true, transport, AreTouched, AreNotes, AreNotesAfter, Bytes, IsAsked, Note, above, Checked, dropped_after, Access, Commit, MAX_ACCESSES, Geometry, Read, Write, last, AreAccesses, World, Live, floor, limits, AreWithin, Doing, Kept, IsCheckedOf, IsTx, IsWorkOf, IsSettledOf, IsOf}, Leaves.has_begun}

notes_count : (g : Geometry) (k : ℕ) (notes : List Note) (commits : List Commit) → AreNotes g k notes commits → length notes ≡ length commits
notes_count g k [] [] are = refl
notes_count g k [] (c ∷ commits) are = absurd are
notes_count g k (note ∷ notes) [] are = absurd are
notes_count g k (note ∷ notes) (c ∷ commits) are = ap suc (notes_count g (k + 1) notes commits are.2)

module _ (kept : Kept) (W : World) (tx : ℕ) (t : Live) (checked : Checked) (of : IsOf kept W) (here : IsTx W tx t) (is : IsCheckedOf W t checked) where
  -- the notes of the commits that were not checked
  pub later_notes : AreNotesAfter W.geometry W.history checked.upto (above checked.upto kept.notes.notes)
  later_notes =
      let begin : floor W ≤ t.begin = (has_begun W tx t of.world here).floor in
      dropped_after W.geometry W.history of.keeps.notes.from checked.upto kept.notes.notes (omega (arith, of.keeps.notes.before, is.from)) of.keeps.notes.notes

  -- are as many as these commits
  pub later_count : length (above checked.upto kept.notes.notes) ≤ last W.history - checked.upto
  later_count =
      let since : W.history.first ≤ W.base + 1 = of.world.since in
      let count = notes_count W.geometry _ (above checked.upto kept.notes.notes) (drop (checked.upto + 1 - W.history.first) W.history.commits) later_notes in
      omega (arith, (has_begun W tx t of.world here).since, is.from, of.world.history.first, count, length-drop (checked.upto + 1 - W.history.first) W.history.commits)

  -- the decision is asked of the transaction
  pub asked : (accesses : AreAccesses W.geometry t.accesses) (work : Doing) → IsWorkOf W t work → (reads writes : Bytes)
      → AreTouched work.size work.blocks Read work.accesses reads → AreTouched work.size work.blocks Write work.accesses writes
      → IsAsked W.geometry W.history t.mode t.begin t.accesses checked.upto checked.clash reads writes kept.notes.notes
  asked accesses work is_work reads writes read written =
      let size : 64 ≤ W.geometry.block = (limits W.geometry of.world.valid).least_block in
      grind (arith, later_notes)

-- a settled work of a transaction
pub settled_of : (W : World) (t : Live) (old new : Doing) → IsWorkOf W t old → new ≡ record old { settled = true } → AreWithin new.size new.blocks new.accesses → length new.accesses ≤ MAX_ACCESSES
    → IsSettledOf W t new
settled_of W t old new is_work is within count =
    let accesses : new.accesses ≡ t.accesses = ap (λ (d : Doing). d.accesses) is ∙ is_work.accesses in
    let size : new.size ≡ W.geometry.block = ap (λ (d : Doing). d.size) is ∙ is_work.size in
    let blocks : new.blocks ≡ W.geometry.blocks = ap (λ (d : Doing). d.blocks) is ∙ is_work.blocks in
    record {
      is_work = grind arith;
      accesses = subst (AreAccesses W.geometry) accesses (within W.geometry (sym size) (sym blocks));
      count = subst (λ (l : List Access). length l ≤ MAX_ACCESSES) accesses count;
      settled = ap (λ (d : Doing). d.settled) is;
    }

-- what a work's writes touch is what the transaction's do
pub touched_by : (W : World) (t : Live) (work : Doing) → IsWorkOf W t work → (bytes : Bytes) → AreTouched work.size work.blocks Write work.accesses bytes
    → AreTouched W.geometry.block W.geometry.blocks Write t.accesses bytes
touched_by W t work is_work bytes touched = transport (λ i. AreTouched (is_work.size i) (is_work.blocks i) Write (is_work.accesses i) bytes) touched
