-- The last note that is not above the number is that of the number, or there is none.
use Rattle.conflict_rule.proofs.{Words.{◌≡◌, ◌≢◌, ◌∙◌, ℕ, ◌-◌, ◌<◌, ◌≤◌, List, ap, arith, length, get_or, sym, Some, None, inl, inr, cases_lt, get_or_default, Held, Note, note_of, RisesFrom}, Numbers.{note_at, no_note, in_order}, notes.Notes.look_at.Goals.{else-place-gt0-via-then-place-gt0+else-index-number, else-place-gt0-via-else-place-gt0}}

pub returns-then-index-number-clause-note : Rattle.conflict_rule.proofs.notes.Notes.look_at.Goals.returns-then-index-number-clause-note
returns-then-index-number-clause-note g c =
    let xs = c.self.inside.notes.items in
    let i = c.place_after-place.result in
    let seen : c.as_slice.result.now ≡ xs = c.as_slice.ensures.value in
    let e : xs ≡ c.args.self.now.notes = ap (λ (h : Held). h.notes) c.self.view_is in
    let within : i - 1 < length xs = omega (arith, c.place_after-place.ensures.within, ap (length {A = Note}) seen) in
    let d = c.index-then-index-number.result.now in
    let is : d ≡ get_or xs (i - 1) d = c.index-then-index-number.ensures in
    let other : c.index.result.now ≡ get_or xs (i - 1) d = c.index.ensures ∙ get_or_default xs (i - 1) c.index.result.now d within in
    let same : (get_or xs (i - 1) d).0 ≡ c.args.number = sym (ap (λ (n : Note). n.0) other) ∙ c.if-index-number.true in
    sym (ap (note_of c.args.number) (sym e) ∙ note_at 0 c.args.number (i - 1) xs d c.self.invariant within same ∙ ap (λ (n : Note). Some n.1) (sym is))

-- no note before a place with another number, nor after it
absent : (number i : ℕ) (notes : List Note) → RisesFrom 0 notes → i ≤ length notes
    → ((k : ℕ) → k < i → (d : Note) → (get_or notes k d).0 ≤ number) → ((k : ℕ) → i ≤ k → k < length notes → (d : Note) → number < (get_or notes k d).0)
    → (0 < i → (d : Note) → (get_or notes (i - 1) d).0 ≢ number) → note_of number notes ≡ None
absent number i notes rises within before after other = no_note number notes (λ k d lt. elim (cases_lt k i) [
  | inl less ↦ (λ same.
      (let le = in_order 0 k (i - 1) notes d rises (omega arith) (omega arith) in
      let last = before (i - 1) (omega arith) d in
      let some : 0 < i = omega arith in
      other some d (omega (arith, le, last, same))))
  | inr more ↦ (λ same. (let past = after k more lt d in omega (arith, past, same)))
])

pub returns-else-place-gt0-clause-note : Rattle.conflict_rule.proofs.notes.Notes.look_at.Goals.returns-else-place-gt0-clause-note
returns-else-place-gt0-clause-note g c =
    let xs = c.self.inside.notes.items in
    let i = c.place_after-place.result in
    let seen : c.as_slice.result.now ≡ xs = c.as_slice.ensures.value in
    let e : xs ≡ c.args.self.now.notes = ap (λ (h : Held). h.notes) c.self.view_is in
    let within : i ≤ length xs = omega (arith, c.place_after-place.ensures.within, ap (length {A = Note}) seen) in
    let none : note_of c.args.number xs ≡ None =
    absent c.args.number i xs c.self.invariant within
    (λ k lt d. (let h = c.place_after-place.ensures.before k lt d in rw seen at h))
    (λ k le lt d. (let below : k < length c.as_slice.result.now = omega (arith, ap (length {A = Note}) seen) in let h = c.place_after-place.ensures.after k le below d in rw seen at h))
    (λ some d same. elim c.else-place-gt0.branch [
      | else-place-gt0-via-then-place-gt0+else-index-number w ↦
          (let there : i - 1 < length xs = omega (arith, within) in
          let is : w.index.result.now ≡ get_or xs (i - 1) d = w.index.ensures ∙ get_or_default xs (i - 1) w.index.result.now d there in
          w.if-index-number.false (ap (λ (n : Note). n.0) is ∙ same))
      | else-place-gt0-via-else-place-gt0 w ↦ omega arith
    ]) in
    sym (ap (note_of c.args.number) (sym e) ∙ none)
