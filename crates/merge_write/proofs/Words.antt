-- What the words of the contracts say, place by place.
pub use Rattle.std.{proofs.Common.{Bool, IsTrue, List, None, Option, Some, ap, arith, bit_and, bit_or, cond, drop, eqb, false, get_or, get_or-set_other, get_or-set_same, inl, inr, length, map, max, nat_le, nat_lt, ne_eqb, not, refl, replicate, rules, set, slice_index, subst, suc, sym, take, true, unwrap_or, w64, w8, zero, ℕ, [], ◌%◌, ◌&&◌, ◌*◌, ◌++◌, ◌+◌, ◌-◌, ◌/◌, ◌<◌, ◌==◌, ◌^◌, ◌||◌, ◌∙◌, ◌∷◌, ◌≡◌, ◌≢◌, ◌≤◌}, proofs.Math.Bool.{and-false, or-false, or_assoc}, proofs.Math.Nat.{div-one, pow-suc}, proofs.Math.Pow.pow_mono, proofs.lemmas.Bool.{cases_eq, cases_lt}, proofs.lemmas.Bool.Decides.nat_tests, proofs.lemmas.Grind.common_steps, proofs.lemmas.List.{drop-drop, drop_all, drop_more, ext_get_or, get_or_past, length-drop, length-set, length-take-le, take_all, take_more, with_items_is}, proofs.lemmas.List.Folds.list_any-append, proofs.lemmas.List.FromFn.get_or-map-range_with_len, proofs.lemmas.Nat.{div-add-mod', pow_below, pow_pos, shr-shr, shr_le}, proofs.lemmas.Nat.Bits.{and_pow, bit_at-lt, bit_at-trailing_zeros, bit_at-zero, bit_at_above, bit_at_cat_low, bit_at_mask_above, bit_at_mask_below, bit_at_mask_inside, bit_at_not, bit_at_ones, bit_at_or}, proofs.lemmas.Simd.{get_or-chunk, get_or-put_chunk_above, get_or-put_chunk_at, get_or-put_chunk_below, get_or-sel_l, get_or-zip2, length-chunk, length-sel_l, length-zip2, tops_compared}, specs.Int.{bit_at, to_le_bytes, trailing_zeros}, specs.List.{AllByRecursion, list_any, range_with_len}, specs.Vec.with_items}
pub use Rattle.iso_model.{proofs.Bytes.{length-block_own, own_at}, proofs.Lookups.{effects_at, length-effects, or_else_assoc, or_else_none}, specs.Array.{Array, covered, in_span, merged}, specs.Effect.{covers, effect_at, effects_from, is_write, joined, or_else, own, runs_from, same_kind}, specs.Premises.{HasBytes, block_at}, specs.declared.access.Access.Access, specs.declared.access.Kind.TheVariants.Write, specs.declared.access.Run.Run, specs.declared.access.Span.Span}
pub use lib.Lanes.{chunk, put_chunk, sel_l, zip2}
pub use Rattle.merge_write.specs.{Copies.IsLaid, Patch.{followed, is_set, laid, piece, run_of, values_from, written}}

length-written : (spans : List Span) (p : ℕ) (values : List (Option ℕ)) (bytes : List ℕ) → length (written spans p values bytes) ≡ length values
length-written spans p [] bytes = refl
length-written spans p (v ∷ values) [] = refl
length-written spans p (v ∷ values) (x ∷ bytes) = ap suc (length-written spans (p + 1) values bytes)

written_at : (spans : List Span) (p k : ℕ) (values : List (Option ℕ)) (bytes : List ℕ) → k < length values → length bytes ≡ length values
    → get_or (written spans p values bytes) k None ≡ cond (covered spans (p + k)) (Some (get_or bytes k 0)) (get_or values k None)
written_at spans p k [] bytes inside same = absurd (omega arith)
written_at spans p k (v ∷ values) [] inside same = absurd (omega arith)
written_at spans p zero (v ∷ values) (x ∷ bytes) inside same = let e : p + 0 ≡ p = omega arith in rw e refl
written_at spans p (suc k) (v ∷ values) (x ∷ bytes) inside same =
    let e : p + suc k ≡ p + 1 + k = omega arith in
    rw e (written_at spans (p + 1) k values bytes (omega arith) (omega arith))

-- the values that are the write's where it covers the place, and the old ones elsewhere
pub written_is : (spans : List Span) (new values : List (Option ℕ)) (bytes : List ℕ) → length bytes ≡ length values → length new ≡ length values
    → ((k : ℕ) → k < length values → get_or new k None ≡ cond (covered spans k) (Some (get_or bytes k 0)) (get_or values k None))
    → new ≡ written spans 0 values bytes
written_is spans new values bytes same kept each = ext_get_or None new (written spans 0 values bytes) (kept ∙ sym (length-written spans 0 values bytes))
    (λ k below.
    let inside : k < length values = omega arith in
    let e : 0 + k ≡ k = omega arith in
    each k inside ∙ sym (rw e at (written_at spans 0 k values bytes inside same)))

length-laid : (values : List (Option ℕ)) (old : List ℕ) → length values ≡ length old → length (laid values old) ≡ length old
length-laid [] old same = refl
length-laid (v ∷ values) [] same = refl
length-laid (v ∷ values) (x ∷ old) same = ap suc (length-laid values old (omega arith))

pub laid_at : (values : List (Option ℕ)) (old : List ℕ) (k : ℕ) → length values ≡ length old → k < length old
    → get_or (laid values old) k 0 ≡ unwrap_or (get_or values k None) (get_or old k 0)
laid_at [] old k same inside = absurd (omega arith)
laid_at (v ∷ values) [] k same inside = absurd (omega arith)
laid_at (v ∷ values) (x ∷ old) zero same inside = refl
laid_at (v ∷ values) (x ∷ old) (suc k) same inside = laid_at values old k (omega arith) (omega arith)

-- the bytes that have each value that is set, and are the old ones elsewhere
pub laid_is : (values : List (Option ℕ)) (old new : List ℕ) → length values ≡ length old → length new ≡ length old
    → ((k : ℕ) → k < length old → get_or new k 0 ≡ unwrap_or (get_or values k None) (get_or old k 0)) → new ≡ laid values old
laid_is values old new same kept each = ext_get_or 0 new (laid values old) (kept ∙ sym (length-laid values old same))
    (λ k below. let inside : k < length old = omega arith in each k inside ∙ sym (laid_at values old k same inside))

length-followed : (values later : List (Option ℕ)) → length (followed values later) ≡ length values
length-followed [] later = refl
length-followed (v ∷ values) [] = refl
length-followed (v ∷ values) (w ∷ later) = ap suc (length-followed values later)

followed_at : (values later : List (Option ℕ)) (k : ℕ) → length later ≡ length values → k < length values
    → get_or (followed values later) k None ≡ or_else (get_or later k None) (get_or values k None)
followed_at [] later k same inside = absurd (omega arith)
followed_at (v ∷ values) [] k same inside = absurd (omega arith)
followed_at (v ∷ values) (w ∷ later) zero same inside = refl
followed_at (v ∷ values) (w ∷ later) (suc k) same inside = followed_at values later k (omega arith) (omega arith)

-- the values that are the later ones where there is one, and else the first ones
pub followed_is : (values later new : List (Option ℕ)) → length later ≡ length values → length new ≡ length values
    → ((k : ℕ) → k < length values → get_or new k None ≡ or_else (get_or later k None) (get_or values k None)) → new ≡ followed values later
followed_is values later new same kept each = ext_get_or None new (followed values later) (kept ∙ sym (length-followed values later))
    (λ k below. let inside : k < length values = omega arith in each k inside ∙ sym (followed_at values later k same inside))

pub unwrap_cond : (test : Bool) (y x : ℕ) → unwrap_or (cond test (Some y) None) x ≡ cond test y x
unwrap_cond test y x = grind arith

-- a write on a blank patch, laid over a block
pub laid_written : (spans : List Span) (p n : ℕ) (old new : List ℕ) → length old ≡ n → length new ≡ n
    → laid (written spans p (replicate n None) new) old ≡ merged spans p old new
laid_written spans p zero [] new same other = refl
laid_written spans p zero (x ∷ old) new same other = absurd (omega arith)
laid_written spans p (suc n) [] new same other = absurd (omega arith)
laid_written spans p (suc n) (x ∷ old) [] same other = absurd (omega arith)
laid_written spans p (suc n) (x ∷ old) (y ∷ new) same other =
    rw (unwrap_cond (covered spans p) y x, laid_written spans (p + 1) n old new (omega arith) (omega arith)) refl

-- a value of a range that was gone through
pub ranged : (from to k : ℕ) (new old value : Option ℕ) → (from ≤ k → k < to → new ≡ value) → (k < from → new ≡ old) → (to ≤ k → new ≡ old)
    → new ≡ cond (nat_le from k && nat_lt k to) value old
ranged from to k new old value inside below above = search (rules, arith, and-false)

either : (a b : Bool) (x v w new : Option ℕ) → w ≡ cond a x v → new ≡ cond b x w → new ≡ cond (a || b) x v
either true true x v w new old more = more
either true false x v w new old more = more ∙ old
either false true x v w new old more = more
either false false x v w new old more = more ∙ old

-- a value of the spans so far, and of one more
pub span_more : (k i : ℕ) (spans : List Span) (d : Span) (x v w new : Option ℕ) → i < length spans → w ≡ cond (list_any (in_span k) (take i spans)) x v
    → new ≡ cond (in_span k (get_or spans i d)) x w → new ≡ cond (list_any (in_span k) (take (i + 1) spans)) x v
span_more k i spans d x v w new inside old more =
    let both : list_any (in_span k) (take (i + 1) spans) ≡ (list_any (in_span k) (take i spans) || in_span k (get_or spans i d)) =
    ap (list_any (in_span k)) (take_more spans i d inside) ∙ list_any-append (in_span k) (take i spans) (get_or spans i d ∷ [])
    ∙ ap (λ b. list_any (in_span k) (take i spans) || b) (or-false (in_span k (get_or spans i d))) in
    rw both (either (list_any (in_span k) (take i spans)) (in_span k (get_or spans i d)) x v w new old more)

-- spans of which there is at least one cover what one of them has
pub covered_some : (spans : List Span) (k : ℕ) → 0 < length spans → covered spans k ≡ list_any (in_span k) spans
covered_some [] k some = absurd (omega arith)
covered_some (span ∷ spans) k some = refl

pub covered_none : (spans : List Span) (k : ℕ) → length spans ≡ 0 → covered spans k ≡ true
covered_none [] k none = refl
covered_none (span ∷ spans) k none = absurd (omega arith)
