use Rattle.iso_format.proofs.{Words.{◌+◌, ◌++◌, ◌∷◌, [], subst, ap, sym, ◌∙◌, arith, Run, HoldsParts, Spelled, spelled}, Buffers.{IsPushed, pushed, count_less}}

pub overflow_add-self : Rattle.iso_format.proofs.record_buffer.RecordBuffer.push_part.Goals.overflow_add-self
overflow_add-self c = grind (arith, count_less)

one_more : (c : Rattle.iso_format.proofs.record_buffer.RecordBuffer.push_part.Goals.After-self-1) →
    IsPushed c.self.inside.start c.self.inside.count c.self.inside.bytes.items (record { block = c.args.block; off = c.args.off; bytes = c.args.bytes.now })
one_more c = search (arith, pushed)

pub invariant_of-self-2 : Rattle.iso_format.proofs.record_buffer.RecordBuffer.push_part.Goals.invariant_of-self-2
invariant_of-self-2 c =
    subst (HoldsParts c.self.inside.start (c.self.inside.count + 1)) (sym c.in_ok-push_part.ensures.ok) (one_more c).holds

pub returns-clause-ok : Rattle.iso_format.proofs.record_buffer.RecordBuffer.push_part.Goals.returns-clause-ok
returns-clause-ok c =
    let run : Run = record { block = c.args.block; off = c.args.off; bytes = c.args.bytes.now } in
    ap (spelled c.self.inside.start (c.self.inside.count + 1)) c.in_ok-push_part.ensures.ok ∙ (one_more c).is
    ∙ ap (λ (s : Spelled). record { records = s.records; parts = s.parts ++ run ∷ [] }) c.self.view_is
