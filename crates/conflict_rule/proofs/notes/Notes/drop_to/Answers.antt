-- What is kept are the notes above the floor.
use Rattle.conflict_rule.proofs.{Words.{◌≡◌, ◌∙◌, List, ap, arith, length, sym, subst, Held, Note, above, RisesFrom}, Numbers.{above_at, rises_above}}

pub take_first-requires : Rattle.conflict_rule.proofs.notes.Notes.drop_to.Goals.take_first-requires
take_first-requires c = omega (arith, c.place_after-place.ensures.within, ap (length {A = Note}) c.as_slice.ensures.value)

kept : (c : Rattle.conflict_rule.proofs.notes.Notes.drop_to.Goals.After-take_first) → c.take_first.new.notes.items ≡ above c.args.floor c.self.inside.notes.items
kept c =
    c.take_first.ensures
    ∙ above_at c.args.floor c.place_after-place.result c.self.inside.notes.items c.as_slice.result.now c.as_slice.ensures.value c.self.invariant
    c.place_after-place.ensures.within c.place_after-place.ensures.before c.place_after-place.ensures.after

pub invariant_of-self : Rattle.conflict_rule.proofs.notes.Notes.drop_to.Goals.invariant_of-self
invariant_of-self c = subst (λ (l : List Note). RisesFrom 0 l) (sym (kept c)) (rises_above 0 c.args.floor c.self.inside.notes.items c.self.invariant)

pub returns : Rattle.conflict_rule.proofs.notes.Notes.drop_to.Goals.returns
returns c = record { notes = kept c ∙ ap (above c.args.floor) (ap (λ (h : Held). h.notes) c.self.view_is) }
