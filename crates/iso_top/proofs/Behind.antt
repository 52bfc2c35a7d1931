-- A text, and a line after it.
use Rattle.iso_top.proofs.Words.{inl, inr, ◌+◌, ℕ, List, ◌++◌, length, take, length-append, sym, ◌∙◌, ap, subst, arith, take-append-add, append_known, Rose, SinkState, CountsStand, Wrote, append_known-append, Printed, SinkFailed}

wrote_both : (a b c : SinkState) (xs ys : List ℕ) → Wrote a b xs → Wrote b c ys → Wrote a c (xs ++ ys)
wrote_both a b c xs ys first second = second ∙ ap (λ known. append_known known ys) first ∙ append_known-append a.written xs ys

failed_since : (a b c : SinkState) → CountsStand a b → SinkFailed b c → SinkFailed a c
failed_since a b c stand (inl rose) = inl (subst (λ (n : ℕ). Rose n c.faults) stand.faults rose)
failed_since a b c stand (inr rose) = inr (subst (λ (n : ℕ). Rose n c.refusals) stand.refusals rose)

-- the text was put whole
pub behind_whole : (a b c : SinkState) (text line : List ℕ) → Wrote a b text → CountsStand a b → Printed b c line → Printed a c (text ++ line)
behind_whole a b c text line wrote stand (inl whole) = inl (record {
  wrote = wrote_both a b c text line wrote whole.wrote;
  counts = record { faults = whole.counts.faults ∙ stand.faults; refusals = whole.counts.refusals ∙ stand.refusals };
})
behind_whole a b c text line wrote stand (inr cut) =
    let short = cut.front.short in
    inr (record {
      failed = failed_since a b c stand cut.failed;
      front = record {
        count = length text + cut.front.count;
        short = omega (arith, length-append text line);
        wrote = subst (Wrote a c) (sym (take-append-add text line cut.front.count)) (wrote_both a b c text (take cut.front.count line) wrote cut.front.wrote);
      };
    })
