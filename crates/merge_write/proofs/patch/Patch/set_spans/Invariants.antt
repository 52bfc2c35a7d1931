use Rattle.merge_write.proofs.Words.{◌≡◌, ℕ, ◌<◌, cond, take, Some, None, get_or, length, list_any, in_span}

-- the values are the new bytes where the spans so far cover the place
abbrev pub invariant-loop-span : Rattle.merge_write.proofs.patch.Patch.set_spans.Given.invariant-loop-span
invariant-loop-span l = record {
  len : length l.self ≡ length l.initial.self;
  values : (k : ℕ) → k < length l.self → get_or l.self k None ≡ cond (list_any (in_span k) (take l.span-index l.spans)) (Some (get_or l.bytes k 0)) (get_or l.initial.self k None);
}
