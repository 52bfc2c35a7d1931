use Rattle.half_switch.proofs.Words.{◌≡◌, laid}

abbrev pub invariant-loop-part : Rattle.half_switch.proofs.lay.lay_parts.Given.invariant-loop-part
invariant-loop-part l =
    (Rattle.half_switch.proofs.lay.lay_parts.Given.iterator-loop-part).can_next l.parts × (Rattle.half_switch.proofs.lay.lay_parts.Given.iterator-loop-part).is_finite l.parts
    × (laid l.size l.parts l.into ≡ laid l.fn.size l.fn.parts l.fn.into)
