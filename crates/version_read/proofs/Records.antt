-- The versions that the records of a log make show what the records tell.
use Rattle.version_read.proofs.{Words.{◌≡◌, ◌∙◌, sym, refl, ap, ℕ, ◌+◌, ◌-◌, ◌<◌, ◌==◌, Bool, true, false, ◌&&◌, cond, List, [], ◌∷◌, ◌++◌, Option, Some, None, length, flat_map, get_or, unwrap_or, arith, subst, AllByRecursion, to_be_bytes, w16, w32, Geometry, Run, Array, byte_at, in_span, effect_at, or_else, own, record_length, all_own, AreRuns, IsRecord, Written, body_length, commits_of, kind_of, part, records, spell, recorded, HasBytes, value_in, own_at, length-part, length-spell, HasSize, effect_recorded, length-recorded, own_size, placed, version_of, versions_of, byte_in, byte_of, has, byte_in-append, or_else_none}, Stands.{StandsAt, stands_first, stands_rest}}
use Rattle.std.specs.Int.{w64}

pub or_unwrap : (x y : Option ℕ) (z : ℕ) → unwrap_or (or_else x y) z ≡ unwrap_or x (unwrap_or y z)
or_unwrap x y z = grind arith

-- the bytes of a part's run stand after its head
run_stands : (image : List ℕ) (at : ℕ) (run : Run) → StandsAt image at (part run) → StandsAt image (at + 8) run.bytes
run_stands image at run whole =
    stands_rest image at (to_be_bytes w32 run.block ++ to_be_bytes w16 run.off ++ to_be_bytes w16 (length run.bytes)) run.bytes whole

-- a byte of a part's version
byte_placed : (image : List ℕ) (n at p : ℕ) (run : Run) → StandsAt image (at + 8) run.bytes → (here : Bool) → has p (version_of n at run) ≡ here
    → cond here (Some (get_or image (at + 8 + (p - run.off)) 0)) None ≡ cond here (Some (get_or run.bytes (p - run.off) 0)) None
byte_placed image n at p run whole true same = grind arith
byte_placed image n at p run whole false same = refl

-- a part and those after it
placed_step : (image : List ℕ) (b n at p : ℕ) (run : Run) (parts : List Run)
    → byte_of image (version_of n at run) p ≡ cond (in_span p (record { off = run.off; len = length run.bytes })) (Some (get_or run.bytes (p - run.off) 0)) None
    → byte_in image (placed b n (at + (8 + length run.bytes)) parts) p ≡ value_in parts b p
    → (same : Bool) → (run.block == b) ≡ same
    → byte_in image (cond same (version_of n at run ∷ placed b n (at + (8 + length run.bytes)) parts) (placed b n (at + (8 + length run.bytes)) parts)) p
    ≡ or_else (value_in parts b p) (cond (same && in_span p (record { off = run.off; len = length run.bytes })) (Some (get_or run.bytes (p - run.off) 0)) None)
placed_step image b n at p run parts here rest true same = λ i. or_else (rest i) (here i)
placed_step image b n at p run parts here rest false same = rest ∙ sym (or_else_none (value_in parts b p))

-- the parts of a record
placed_shows : (image : List ℕ) (b n at p : ℕ) (parts : List Run) → StandsAt image at (flat_map part parts) → byte_in image (placed b n at parts) p ≡ value_in parts b p
placed_shows image b n at p [] whole = refl
placed_shows image b n at p (run ∷ parts) whole = placed_step image b n at p run parts
    (byte_placed image n at p run (run_stands image at run (stands_first image at (part run) (flat_map part parts) whole)) (has p (version_of n at run)) refl)
    (placed_shows image b n (at + (8 + length run.bytes)) p parts (subst (λ (k : ℕ). StandsAt image (at + k) (flat_map part parts)) (length-part run) (stands_rest image at (part run) (flat_map part parts) whole)))
    (run.block == b) refl

-- a record's parts, after its head
parts_stand : (image : List ℕ) (at gate kind n : ℕ) (parts : List Run) → StandsAt image at (spell gate kind n parts) → StandsAt image (at + 20) (flat_map part parts)
unfolding spell
parts_stand image at gate kind n parts whole =
    stands_rest image at (gate ∷ kind ∷ 0 ∷ 0 ∷ [] ++ to_be_bytes w32 (length parts) ++ to_be_bytes w32 (body_length parts) ++ to_be_bytes w64 n) (flat_map part parts) whole

recorded_bytes : (g : Geometry) (list : List Run) → AreRuns g list → AllByRecursion (HasBytes g.block) (recorded g list)
recorded_bytes g [] all = tt
recorded_bytes g (x ∷ []) all = (λ write. length-recorded g.block x all.fits, tt)
recorded_bytes g (x ∷ y ∷ more) all = (λ write. length-recorded g.block x all.0.fits, recorded_bytes g (y ∷ more) all.2)

-- Over the array before the records they show the array after the commits that the records tell.
pub records_show : (image : List ℕ) (g : Geometry) (A : Array) (n at : ℕ) (told : List Written) (b p : ℕ)
    → HasSize g A → AllByRecursion (IsRecord g) told → b < g.blocks → p < g.block → StandsAt image at (records g n told)
    → byte_at (all_own A (commits_of g n told)) b p ≡ unwrap_or (byte_in image (versions_of b n at told) p) (byte_at A b p)
records_show image g A n at [] b p size all block inside whole = refl
records_show image g A n at (w ∷ told) b p size all block inside whole =
    let first : StandsAt image at (spell 1 (kind_of g w.mode) n w.parts) = stands_first image at (spell 1 (kind_of g w.mode) n w.parts) (records g (n + 1) told) whole in
    let rest : StandsAt image (at + record_length w.parts) (records g (n + 1) told) =
    subst (λ (k : ℕ). StandsAt image (at + k) (records g (n + 1) told)) (length-spell 1 (kind_of g w.mode) n w.parts) (stands_rest image at (spell 1 (kind_of g w.mode) n w.parts) (records g (n + 1) told) whole) in
    let here : byte_in image (placed b n (at + 20) w.parts) p ≡ effect_at (recorded g w.parts) b p =
    placed_shows image b n (at + 20) p w.parts (parts_stand image at 1 (kind_of g w.mode) n w.parts first) ∙ sym (effect_recorded g w.parts b p) in
    records_show image g (own A (recorded g w.parts)) (n + 1) (at + record_length w.parts) told b p (own_size g A (recorded g w.parts) size) all.1 block inside rest
    ∙ ap (unwrap_or (byte_in image (versions_of b (n + 1) (at + record_length w.parts) told) p))
    (own_at A (recorded g w.parts) b p g.block (recorded_bytes g w.parts all.0.runs) (size.bytes b block) inside ∙ ap (λ (o : Option ℕ). unwrap_or o (byte_at A b p)) (sym here))
    ∙ sym (or_unwrap (byte_in image (versions_of b (n + 1) (at + record_length w.parts) told) p) (byte_in image (placed b n (at + 20) w.parts) p) (byte_at A b p))
    ∙ ap (λ (o : Option ℕ). unwrap_or o (byte_at A b p)) (sym (byte_in-append image (placed b n (at + 20) w.parts) (versions_of b (n + 1) (at + record_length w.parts) told) p))
