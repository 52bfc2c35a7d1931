-- Notes that follow a history, when it grows and when they are dropped.
use Rattle.conflict_rule.proofs.{Words.{◌≡◌, ◌∙◌, refl, sym, ap, subst, ℕ, zero, suc, ◌+◌, ◌-◌, ◌<◌, ◌≤◌, false, nat_lt, List, [], ◌∷◌, ◌++◌, length, drop, arith, inl, inr, cases_lt, le-ltb, drop-drop, drop_all, length-drop, drop-append-le, Commit, Geometry, Write, first_after, History, Note, above, RisesFrom, AreTouched, AreNotes, AreNotesAfter, Bytes}, Numbers.all_above}

pub notes_rise : (g : Geometry) (k : ℕ) (notes : List Note) (commits : List Commit) → AreNotes g k notes commits → RisesFrom k notes
notes_rise g k [] commits are = tt
notes_rise g k (x ∷ notes) [] are = absurd are
notes_rise g k (x ∷ notes) (c ∷ commits) are =
    (omega (arith, are.0), subst (λ (n : ℕ). RisesFrom (n + 1) notes) (sym are.0) (notes_rise g (k + 1) notes commits are.2))

dropped : (g : Geometry) (k d m : ℕ) (notes : List Note) (commits : List Commit) → 0 < k → m ≡ k + d → AreNotes g k notes commits
    → AreNotes g m (above (m - 1) notes) (drop d commits)
dropped g k zero m notes commits some is are = grind (arith, all_above, notes_rise)
dropped g k (suc d) m [] [] some is are = tt
dropped g k (suc d) m [] (c ∷ commits) some is are = absurd are
dropped g k (suc d) m (x ∷ notes) [] some is are = absurd are
dropped g k (suc d) m (x ∷ notes) (c ∷ commits) some is are =
    let below : x.0 ≤ m - 1 = omega (arith, are.0) in
    let here : nat_lt (m - 1) x.0 ≡ false = le-ltb (m - 1) x.0 below in
    rw here (dropped g (k + 1) d m notes commits (omega arith) (omega arith) are.2)

pub notes_dropped : (g : Geometry) (k d : ℕ) (notes : List Note) (commits : List Commit) → 0 < k → AreNotes g k notes commits
    → AreNotes g (k + d) (above (k + d - 1) notes) (drop d commits)
notes_dropped g k d notes commits some are = dropped g k d (k + d) notes commits some refl are

pub notes_appended : (g : Geometry) (k number : ℕ) (notes : List Note) (commits : List Commit) (c : Commit) (writes : Bytes) → AreNotes g k notes commits
    → number ≡ k + length commits → AreTouched g.block g.blocks Write c.accesses writes → AreNotes g k (notes ++ (number, writes) ∷ []) (commits ++ c ∷ [])
notes_appended g k number [] [] c writes are is touched = (omega arith, touched, tt)
notes_appended g k number [] (x ∷ commits) c writes are is touched = absurd are
notes_appended g k number (n ∷ notes) [] c writes are is touched = absurd are
notes_appended g k number (n ∷ notes) (x ∷ commits) c writes are is touched =
    (are.0, are.1, notes_appended g (k + 1) number notes commits c writes are.2 (omega arith) touched)

-- the notes after a commit stay those of the history when it grows by one
pub added_after : (g : Geometry) (H : History) (n : ℕ) (notes : List Note) (c : Commit) (writes : Bytes) → n < H.first + length H.commits → AreNotesAfter g H n notes
    → AreTouched g.block g.blocks Write c.accesses writes
    → AreNotesAfter g (record H { commits = H.commits ++ c ∷ [] }) n (notes ++ (H.first + length H.commits, writes) ∷ [])
added_after g H n notes c writes within are touched =
    let d = n + 1 - H.first in
    let inside : d ≤ length H.commits = omega arith in
    let number : H.first + length H.commits ≡ first_after H n + length (drop d H.commits) = omega (arith, length-drop d H.commits) in
    subst (λ (l : List Commit). AreNotes g (first_after H n) (notes ++ (H.first + length H.commits, writes) ∷ []) l) (sym (drop-append-le d H.commits (c ∷ []) inside))
    (notes_appended g (first_after H n) (H.first + length H.commits) notes (drop d H.commits) c writes are number touched)

-- and those above a later number are the notes after that one
pub dropped_after : (g : Geometry) (H : History) (m n : ℕ) (notes : List Note) → m ≤ n → AreNotesAfter g H m notes → AreNotesAfter g H n (above n notes)
dropped_after g H m n notes le are =
    let k = first_after H m in
    let d = (n + 1 - H.first) - (m + 1 - H.first) in
    let some : 0 < k = omega arith in
    let e : k + d ≡ first_after H n = omega arith in
    let f : m + 1 - H.first + d ≡ n + 1 - H.first = omega arith in
    let commits : drop d (drop (m + 1 - H.first) H.commits) ≡ drop (n + 1 - H.first) H.commits =
    drop-drop d (m + 1 - H.first) H.commits ∙ ap (λ (i : ℕ). drop i H.commits) f in
    let kept : above (first_after H n - 1) notes ≡ above n notes = elim (cases_lt (n + 1) H.first) [
      | inl before ↦
          (let same : k ≡ H.first = omega arith in
          let rise : RisesFrom H.first notes = subst (λ (i : ℕ). RisesFrom i notes) same (notes_rise g k notes (drop (m + 1 - H.first) H.commits) are) in
          all_above H.first (first_after H n - 1) notes (omega arith) rise ∙ sym (all_above H.first n notes (omega arith) rise))
      | inr since ↦ (let same : first_after H n - 1 ≡ n = omega arith in ap (λ (i : ℕ). above i notes) same)
    ] in
    subst (λ (l : List Note). AreNotes g (first_after H n) l (drop (n + 1 - H.first) H.commits)) kept
    (subst (λ (i : ℕ). AreNotes g i (above (i - 1) notes) (drop (n + 1 - H.first) H.commits)) e
    (subst (λ (l : List Commit). AreNotes g (k + d) (above (k + d - 1) notes) l) commits
    (notes_dropped g k d notes (drop (m + 1 - H.first) H.commits) some are)))

-- there are none after the last commit
pub none_after : (g : Geometry) (H : History) (n : ℕ) → H.first + length H.commits ≤ n + 1 → AreNotesAfter g H n []
none_after g H n past = subst (λ (l : List Commit). AreNotes g (first_after H n) [] l) (sym (drop_all (n + 1 - H.first) H.commits (omega arith))) tt
