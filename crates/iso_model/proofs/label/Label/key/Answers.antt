-- The key has room for each byte, and tells the label.
use Rattle.iso_model.proofs.{Words.{◌≡◌, ◌∙◌, List, ℕ, IsTrue, take, drop, ap, subst, arith, is_label, key_of}, Labels.{key_has_room, key_tells}}

pub overflow_mul-key : Rattle.iso_model.proofs.label.Label.key.Goals.overflow_mul-key
overflow_mul-key c = grind (arith, key_has_room)

pub overflow_add-key : Rattle.iso_model.proofs.label.Label.key.Goals.overflow_add-key
overflow_add-key c = grind (arith, key_has_room)

pub returns-clause-label : Rattle.iso_model.proofs.label.Label.key.Goals.returns-clause-label
returns-clause-label c = subst (λ (l : List ℕ). IsTrue (is_label l)) c.self.view_is c.self.invariant.1

pub returns-clause-apart : Rattle.iso_model.proofs.label.Label.key.Goals.returns-clause-apart
returns-clause-apart c other label same =
    let text = take c.self.inside.len c.self.inside.bytes in
    let none : c.loop-at.at ≡ 0 = omega arith in
    let key : key_of other ≡ key_of text = same ∙ c.loop-at.invariant.key ∙ ap (λ (n : ℕ). key_of (drop n text)) none in
    key_tells other text label c.self.invariant.1 key ∙ c.self.view_is
