-- The notes above a number are those from a place on.
use Rattle.conflict_rule.proofs.{Words.{◌∙◌, ap, Held, above}, Numbers.above_behind}

pub returns : Rattle.conflict_rule.proofs.notes.Notes.after.Goals.returns
returns c = record {
  notes = c.of.ensures
      ∙ above_behind c.args.number c.place_after-place.result c.self.inside.notes.items c.as_slice.result.now c.as_slice-2.result.now c.as_slice.ensures.value c.as_slice-2.ensures.value c.self.invariant
      c.place_after-place.ensures.within c.place_after-place.ensures.before c.place_after-place.ensures.after
      ∙ ap (above c.args.number) (ap (λ (h : Held). h.notes) c.self.view_is);
}
