-- Setting the writes of a block in order gives what they write there, and its runs.
use Rattle.merge_write.proofs.Words.{◌≡◌, ◌∙◌, sym, refl, ap, ℕ, zero, suc, ◌+◌, ◌<◌, Bool, true, ◌==◌, cond, List, [], ◌∷◌, ◌++◌, length, get_or, drop, map, replicate, Option, Some, None, arith, drop_more, Access, Write, Run, Span, covered, same_kind, covers, or_else, effect_at, effects_from, joined, runs_from, written, piece}

or_none : (v : Option ℕ) → or_else v None ≡ v
or_none v = grind arith

or_assoc : (u v w : Option ℕ) → or_else (or_else u v) w ≡ or_else u (or_else v w)
or_assoc u v w = grind arith

effect_more : (accesses : List Access) (a : Access) (b p : ℕ)
    → effect_at (accesses ++ a ∷ []) b p ≡ or_else (cond (covers Write b p a) (Some (get_or a.bytes p 0)) None) (effect_at accesses b p)
effect_more [] a b p = sym (or_none (cond (covers Write b p a) (Some (get_or a.bytes p 0)) None))
effect_more (x ∷ accesses) a b p =
    ap (λ (v : Option ℕ). or_else v (cond (covers Write b p x) (Some (get_or x.bytes p 0)) None)) (effect_more accesses a b p)
    ∙ or_assoc (cond (covers Write b p a) (Some (get_or a.bytes p 0)) None) (effect_at accesses b p) (cond (covers Write b p x) (Some (get_or x.bytes p 0)) None)

or_cond : (test : Bool) (y : ℕ) (v : Option ℕ) → or_else (cond test (Some y) None) v ≡ cond test (Some y) v
or_cond test y v = grind arith

pub written_effects : (accesses : List Access) (a : Access) (b p n : ℕ) → p + n ≡ length a.bytes → same_kind Write a.kind ≡ true → (a.block == b) ≡ true
    → written a.spans p (effects_from accesses b p n) (drop p a.bytes) ≡ effects_from (accesses ++ a ∷ []) b p n
written_effects accesses a b p zero long write here = refl
written_effects accesses a b p (suc n) long write here =
    let inside : p < length a.bytes = omega arith in
    let all : covers Write b p a ≡ covered a.spans p = rw (write, here) refl in
    let value : effect_at (accesses ++ a ∷ []) b p ≡ cond (covered a.spans p) (Some (get_or a.bytes p 0)) (effect_at accesses b p) =
    effect_more accesses a b p
    ∙ ap (λ (t : Bool). or_else (cond t (Some (get_or a.bytes p 0)) None) (effect_at accesses b p)) all
    ∙ or_cond (covered a.spans p) (get_or a.bytes p 0) (effect_at accesses b p) in
    rw (drop_more a.bytes p 0 inside, value, written_effects accesses a b (p + 1) n (omega arith) write here) refl

pub no_effects : (b p n : ℕ) → effects_from [] b p n ≡ replicate n None
no_effects b p zero = refl
no_effects b p (suc n) = ap (λ (values : List (Option ℕ)). None ∷ values) (no_effects b (p + 1) n)

-- the pieces with one more byte directly before them, or apart
joined_pieces : (p value : ℕ) → List (Span × List ℕ) → List (Span × List ℕ)
joined_pieces p value [] = (record { off = p; len = 1 }, value ∷ []) ∷ []
joined_pieces p value (x ∷ xs) =
    cond (x.0.off == p + 1) ((record { off = p; len = length (value ∷ x.1) }, value ∷ x.1) ∷ xs) ((record { off = p; len = 1 }, value ∷ []) ∷ x ∷ xs)

joined_is : (b p value : ℕ) (runs : List Run) → map piece (joined b p value runs) ≡ joined_pieces p value (map piece runs)
unfolding joined_pieces
joined_is b p value runs = grind arith

-- the pieces are the same in each block
pub pieces_of_any_block : (b c p : ℕ) (values : List (Option ℕ)) → map piece (runs_from b p values) ≡ map piece (runs_from c p values)
pieces_of_any_block b c p [] = refl
pieces_of_any_block b c p (None ∷ values) = pieces_of_any_block b c (p + 1) values
pieces_of_any_block b c p (Some value ∷ values) =
    joined_is b p value (runs_from b (p + 1) values)
    ∙ ap (joined_pieces p value) (pieces_of_any_block b c (p + 1) values)
    ∙ sym (joined_is c p value (runs_from c (p + 1) values))
