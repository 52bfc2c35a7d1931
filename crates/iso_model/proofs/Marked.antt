-- A mark changes the last access alone.
use Rattle.iso_model.proofs.Words.{arith, ◌≡◌, refl, ap, ℕ, Bool, true, false, ◌&&◌, ◌||◌, cond, List, [], ◌∷◌, ◌++◌, Option, Some, None, slice_index, list_any-append, Access, Span, covered, in_span, Write, covers, effect_at, or_else, marked, write_access}

pub marked_last : (span : Span) (accesses : List Access) (a : Access) → marked span (accesses ++ a ∷ []) ≡ accesses ++ record a { spans = a.spans ++ span ∷ [] } ∷ []
marked_last span [] a = refl
marked_last span (b ∷ []) a = refl
marked_last span (b ∷ c ∷ accesses) a = ap (λ xs. b ∷ xs) (marked_last span (c ∷ accesses) a)

or_false : (b : Bool) → (b || false) ≡ b
or_false b = grind arith

-- the first mark is in the place of the whole block
pub first_covers : (span : Span) (p : ℕ) → covered (span ∷ []) p ≡ in_span p span
first_covers span p = or_false (in_span p span)

-- a further one adds its bytes
pub more_covers : (first : Span) (spans : List Span) (span : Span) (p : ℕ)
    → covered ((first ∷ spans) ++ span ∷ []) p ≡ (covered (first ∷ spans) p || in_span p span)
more_covers first spans span p = grind (arith, list_any-append, or_false)

effect_last : (accesses : List Access) (a : Access) (b p : ℕ) → covers Write b p a ≡ false → effect_at (accesses ++ a ∷ []) b p ≡ effect_at accesses b p
effect_last [] a b p off = rw off refl
effect_last (c ∷ accesses) a b p off = ap (λ (o : Option ℕ). or_else o (cond (covers Write b p c) (Some (slice_index c.bytes p)) None)) (effect_last accesses a b p off)

and_false : (x y : Bool) → y ≡ false → (x && y) ≡ false
and_false true y off = off
and_false false y off = refl

-- what a write is marked beside, it does not write
pub unwritten : (span : Span) (accesses : List Access) (block : ℕ) (bytes : List ℕ) (p : ℕ) → in_span p span ≡ false
    → effect_at (marked span (accesses ++ write_access block bytes ∷ [])) block p ≡ effect_at accesses block p
unwritten span accesses block bytes p off = grind (arith, marked_last, effect_last, and_false, first_covers)
