-- The spans of extents that do not touch are the maximal runs.
use Rattle.byte_marks.proofs.{Words.{arith, ◌≡◌, ◌∙◌, ap, subst, sym, List, map, Span, span_of, AreRuns}, Apart.{runs_of, has_of_spans}}

pub returns-clause-set : Rattle.byte_marks.proofs.marks.Marks.spans.Goals.returns-clause-set
returns-clause-set c p = grind (arith, has_of_spans)

pub returns-clause-runs : Rattle.byte_marks.proofs.marks.Marks.spans.Goals.returns-clause-runs
returns-clause-runs c =
    let kept : c.of.result ≡ map span_of c.self.inside.extents.items = c.of.ensures ∙ ap (map span_of) c.as_slice.ensures in
    subst (λ (spans : List Span). AreRuns spans) (sym kept) (runs_of 0 c.self.inside.extents.items c.self.invariant)
