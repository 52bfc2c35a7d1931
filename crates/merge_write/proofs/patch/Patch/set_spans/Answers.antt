-- The values are the write's where its spans cover the place.
use Rattle.merge_write.proofs.Words.{rules, span_more, written_is, covered_some, covered_none, ◌≡◌, ◌∙◌, sym, ◌<◌, Some, None, get_or, length, take, arith, refl, take_all}
use Rattle.merge_write.proofs.patch.Patch.set_spans.Goals as goal

pub set_range-requires-in-loop-span-clause-bytes : goal.set_range-requires-in-loop-span-clause-bytes
set_range-requires-in-loop-span-clause-bytes c = c.requires.bytes ∙ sym c.loop-span.invariant.len

pub set_range-requires-in-loop-span-clause-range : goal.set_range-requires-in-loop-span-clause-range
set_range-requires-in-loop-span-clause-range c = search (rules, arith)

pub loop-span-preserved : goal.loop-span-preserved
loop-span-preserved c = record {
  len = c.set_range-in-loop-span.ensures.len ∙ c.loop-span.invariant.len;
  values = λ k below.
      let inside : k < length c.loop-span.self = omega (arith, c.set_range-in-loop-span.ensures.len) in
      let more = c.set_range-in-loop-span.ensures.values k inside in
      let there : c.loop-span.span-index < length c.args.spans.now = omega arith in
      span_more k c.loop-span.span-index c.args.spans.now (record { off = 0; len = 0 }) (Some (get_or c.args.bytes.now k 0)) (get_or c.args.self.now k None) (get_or c.loop-span.self k None) (get_or c.set_range-in-loop-span.new.self k None) there (c.loop-span.invariant.values k inside) more;
}

pub returns-then-is_empty-clause-values : goal.returns-then-is_empty-clause-values
returns-then-is_empty-clause-values c = search (rules, arith, written_is, covered_none)

pub returns-clause-values : goal.returns-clause-values
returns-clause-values c = search (rules, arith, written_is, take_all, covered_some)

pub returns-in-len1-clause-values : goal.returns-in-len1-clause-values
returns-in-len1-clause-values c =
    let spans = c.args.spans.now in
    written_is spans c.set_range-in-len1.new.self c.args.self.now c.args.bytes.now c.requires.bytes c.set_range-in-len1.ensures.len
    (λ k below.
    let whole : take 1 spans ≡ spans = take_all 1 spans (omega arith) in
    let value = Some (get_or c.args.bytes.now k 0) in
    let old = get_or c.args.self.now k None in
    rw (covered_some spans k (omega arith))
    (rw whole at (span_more k 0 spans (record { off = 0; len = 0 }) value old old (get_or c.set_range-in-len1.new.self k None) (omega arith) refl (c.set_range-in-len1.ensures.values k below))))
