use Rattle.std.proofs.Common.{Some, take, ap, sym, ◌∙◌}
use Rattle.iso_io.proofs.Told.{given_front}

-- what was left is what was given, and then what is left now
pub returns-then-not-is_empty-clause-bytes : Rattle.iso_io.proofs.mem_source.MemSourceSource.take.Goals.returns-then-not-is_empty-clause-bytes
returns-then-not-is_empty-clause-bytes c =
    let given = take c.give-given.result c.give-given.new.into in
    let front = given_front c.self.inside.bytes.items given c.self.inside.at c.give-given.result (cc (c.give-given.ensures.bytes, c.deref-2.ensures.value)) in
    ap (λ left. Some left) (ap (λ s. s.left) (sym c.self.view_is) ∙ sym front)
