-- What one access more, or a list more, makes of the effect; and pieces as runs.
use Rattle.merge_write.proofs.Words.{rules, laid_is, ◌≡◌, ◌≢◌, ◌∙◌, sym, refl, ap, ℕ, zero, suc, ◌+◌, Bool, true, false, ◌==◌, cond, List, [], ◌∷◌, ◌++◌, length, get_or, map, Option, Some, None, arith, IsTrue, ne_eqb, AllByRecursion, Access, Write, Run, Array, is_write, covers, or_else, effect_at, effects_from, joined, runs_from, own, block_at, HasBytes, own_at, length-block_own, length-effects, effects_at, or_else_none, or_else_assoc, laid, followed, piece, run_of}

-- an access that is no write of the block
misses : (b p : ℕ) (a : Access) (t : Bool) → is_write a ≡ t → (IsTrue t → a.block ≢ b) → covers Write b p a ≡ false
misses b p a true write other = let apart : (a.block == b) ≡ false = ne_eqb a.block b (other refl) in rw (write, apart) refl
misses b p a false read other = rw read refl

effect_kept : (accesses : List Access) (a : Access) (b p : ℕ) → covers Write b p a ≡ false → effect_at (accesses ++ a ∷ []) b p ≡ effect_at accesses b p
effect_kept [] a b p none = rw none refl
effect_kept (x ∷ accesses) a b p none =
    ap (λ (v : Option ℕ). or_else v (cond (covers Write b p x) (Some (get_or x.bytes p 0)) None)) (effect_kept accesses a b p none)

pub effects_kept : (accesses : List Access) (a : Access) (b p n : ℕ) → (IsTrue (is_write a) → a.block ≢ b)
    → effects_from (accesses ++ a ∷ []) b p n ≡ effects_from accesses b p n
effects_kept accesses a b p zero other = refl
effects_kept accesses a b p (suc n) other = search (rules, arith, effect_kept, misses)

effect_append : (xs ys : List Access) (b p : ℕ) → effect_at (xs ++ ys) b p ≡ or_else (effect_at ys b p) (effect_at xs b p)
effect_append [] ys b p = sym (or_else_none (effect_at ys b p))
effect_append (x ∷ xs) ys b p =
    ap (λ (v : Option ℕ). or_else v (cond (covers Write b p x) (Some (get_or x.bytes p 0)) None)) (effect_append xs ys b p)
    ∙ or_else_assoc (effect_at ys b p) (effect_at xs b p) (cond (covers Write b p x) (Some (get_or x.bytes p 0)) None)

pub effects_followed : (xs ys : List Access) (b p n : ℕ) → followed (effects_from xs b p n) (effects_from ys b p n) ≡ effects_from (xs ++ ys) b p n
effects_followed xs ys b p zero = refl
effects_followed xs ys b p (suc n) = rw (effect_append xs ys b p, effects_followed xs ys b (p + 1) n) refl

pub effects_shown : (A : Array) (accesses : List Access) (b size : ℕ) → AllByRecursion (HasBytes size) accesses → length (block_at A b) ≡ size
    → laid (effects_from accesses b 0 size) (block_at A b) ≡ block_at (own A accesses) b
effects_shown A accesses b size whole long = search (rules, arith, length-effects, laid_is, length-block_own, effects_at, own_at)

-- the runs of a block are its pieces
joined_back : (b p value : ℕ) (runs : List Run) → map (run_of b) (map piece runs) ≡ runs → map (run_of b) (map piece (joined b p value runs)) ≡ joined b p value runs
joined_back b p value [] same = refl
joined_back b p value (run ∷ runs) same = search (rules, arith)

pub runs_back : (b p : ℕ) (values : List (Option ℕ)) → map (run_of b) (map piece (runs_from b p values)) ≡ runs_from b p values
runs_back b p [] = refl
runs_back b p (None ∷ values) = runs_back b (p + 1) values
runs_back b p (Some value ∷ values) = joined_back b p value (runs_from b (p + 1) values) (runs_back b (p + 1) values)
