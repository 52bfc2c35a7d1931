-- The notes from the place on are copied: those above the number, which rise.
use Rattle.conflict_rule.proofs.{Words.{◌≡◌, ◌∙◌, ◌-◌, List, ap, arith, length, take, drop, sym, subst, take_all, Held, Note, above, RisesFrom}, Numbers.{above_behind, rises_above}}

copied : (c : Rattle.conflict_rule.proofs.notes.Notes.copy_after.Goals.After-new) → c.loop-note.notes.items ≡ above c.args.number c.self.inside.notes.items
copied c =
    let i = c.place_after-place.result in
    c.loop-note.invariant ∙ take_all c.loop-note.note-index (take (length c.as_slice-2.result.now - i) (drop i c.as_slice-2.result.now)) (omega (arith, c.loop-note-test.false, c.loop-note.auto.note-index-end))
    ∙ above_behind c.args.number i c.self.inside.notes.items c.as_slice.result.now c.as_slice-2.result.now c.as_slice.ensures.value c.as_slice-2.ensures.value c.self.invariant
    c.place_after-place.ensures.within c.place_after-place.ensures.before c.place_after-place.ensures.after

pub invariant_of-result : Rattle.conflict_rule.proofs.notes.Notes.copy_after.Goals.invariant_of-result
invariant_of-result c = subst (λ (l : List Note). RisesFrom 0 l) (sym (copied c)) (rises_above 0 c.args.number c.self.inside.notes.items c.self.invariant)

pub returns : Rattle.conflict_rule.proofs.notes.Notes.copy_after.Goals.returns
returns c = copied c ∙ ap (above c.args.number) (ap (λ (h : Held). h.notes) c.self.view_is)
