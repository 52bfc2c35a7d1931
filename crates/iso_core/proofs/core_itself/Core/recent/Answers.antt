use Rattle.iso_core.proofs.{Words.{◌∙◌, refl, sym, subst, ◌≤◌, List, arith, AreNotesAfter, Note, dropped_after, floor}, Leaves.has_begun, Numbers.log_last}

pub returns-in-Ok-clause-notes : Rattle.iso_core.proofs.core_itself.Core.recent.Goals.returns-in-Ok-clause-notes
returns-in-Ok-clause-notes g c W t stands here le =
    let of = stands.kept_of in
    let since = of.keeps.notes in
    let begin : floor W ≤ t.begin = (has_begun W c.args.tx t of.world here).floor in (
      refl,
      c.last.ensures ∙ log_last c.args.self.now.kept W of.world of.keeps,
      subst (λ (notes : List Note). AreNotesAfter W.geometry W.history c.args.after notes) (sym c.in-Ok.ensures)
          (dropped_after W.geometry W.history since.from c.args.after c.args.self.now.kept.notes.notes (omega (arith, since.before, begin, le)) since.notes),
    )
