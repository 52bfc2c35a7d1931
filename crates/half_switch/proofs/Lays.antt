-- Runs laid over the bytes of a base are the writes of their commits.
use Rattle.half_switch.proofs.Words.{head_is, tail_are, ◌≡◌, ◌≢◌, ◌⊎◌, inl, inr, ◌<◌, ◌≤◌, ◌+◌, ◌-◌, ◌*◌, ◌==◌, ◌&&◌, ℕ, zero, suc, List, [], ◌∷◌, length, take, drop, get_or, Bool, true, false, cond, nat_le, nat_lt, Option, Some, None, unwrap_or, refl, sym, ◌∙◌, ap, arith, eq-eqb, ne_eqb, mul-le-mul_right, length-drop, AllByRecursion, and_parts, cases_eq, leb-true, le-leb, ltb-true, lt-ltb, get_or-take, get_or-drop, length-take-le, Commit, Geometry, Run, Array, byte_at, in_span, or_else, own, all_own, AreRuns, IsRecord, IsRun, Written, blocks_of, commit_of, commits_of, recorded, HasBytes, block_at, value_in, value_of, own_at, HasSize, effect_recorded, length-recorded, own_size, same_arrays, spliced, get_or-spliced, get_or-torn, length-spliced, spliced_torn, all_laid, laid, one_laid, run_place}

-- the byte at p of block b, among the bytes of the blocks
pub byte_of : (size n : ℕ) (c : List ℕ) (b p : ℕ) → b < n → p < size → byte_at (blocks_of size n c) b p ≡ get_or c (b * size + p) 0
byte_of size zero c b p below inside = absurd (omega arith)
byte_of size (suc n) c zero p below inside = let none : p ≡ 0 * size + p = omega arith in get_or-take size c p 0 inside ∙ ap (λ (k : ℕ). get_or c k 0) none
byte_of size (suc n) c (suc b) p below inside =
    let sum : size + (b * size + p) ≡ suc b * size + p = omega arith in
    byte_of size n (drop size c) b p (omega arith) inside ∙ get_or-drop size c (b * size + p) 0 ∙ ap (λ (k : ℕ). get_or c k 0) sum

length-blocks : (size n : ℕ) (bytes : List ℕ) → length (blocks_of size n bytes) ≡ n
length-blocks size zero bytes = refl
length-blocks size (suc n) bytes = ap suc (length-blocks size n (drop size bytes))

length-block : (size n : ℕ) (bytes : List ℕ) (b : ℕ) → n * size ≤ length bytes → b < n → length (block_at (blocks_of size n bytes) b) ≡ size
length-block size zero bytes b enough below = absurd (omega arith)
length-block size (suc n) bytes zero enough below = length-take-le size bytes (omega arith)
length-block size (suc n) bytes (suc b) enough below = length-block size n (drop size bytes) b (omega (arith, length-drop size bytes)) (omega arith)

size_of_blocks : (g : Geometry) (c : List ℕ) → length c ≡ g.blocks * g.block → HasSize g (blocks_of g.block g.blocks c)
size_of_blocks g c long = record { blocks = length-blocks g.block g.blocks c; bytes = λ b below. length-block g.block g.blocks c b (omega arith) below }

writes_have_bytes : (g : Geometry) (parts : List Run) → AreRuns g parts → AllByRecursion (HasBytes g.block) (recorded g parts)
writes_have_bytes g [] all = tt
writes_have_bytes g (x ∷ []) all = (λ write. length-recorded g.block x all.fits, tt)
writes_have_bytes g (x ∷ y ∷ more) all = (λ write. length-recorded g.block x all.0.fits, writes_have_bytes g (y ∷ more) all.2)

-- a run is inside its block
run_fits : (g : Geometry) (run : Run) → IsRun g run → run_place g.block run + length run.bytes ≤ g.blocks * g.block
run_fits g run is = grind arith

fits_test : (size : ℕ) (run : Run) (c : List ℕ) → run_place size run + length run.bytes ≤ length c → one_laid size run c ≡ spliced c (run_place size run) run.bytes
fits_test size run c fits = ap (λ (t : Bool). cond t (spliced c (run_place size run) run.bytes) c) (le-leb _ _ fits)

-- a byte of another block lies outside
other_block : (size b r off len p : ℕ) → off + len ≤ size → p < size → r ≢ b → (b * size + p < r * size + off) ⊎ (r * size + off + len ≤ b * size + p)
other_block size b r off len p fits inside not = elim (cases_lt_eq b r) [
  | inl below ↦ let rows : suc b * size ≤ r * size = mul-le-mul_right size (omega arith) in inl (omega (arith, rows))
  | inr rest ↦ let rows : suc r * size ≤ b * size = mul-le-mul_right size (omega (arith, rest, not)) in inr (omega (arith, rows))
]
  where
    cases_lt_eq : (x y : ℕ) → (x < y) ⊎ (y ≤ x)
    cases_lt_eq zero zero = inr (omega arith)
    cases_lt_eq zero (suc y) = inl (omega arith)
    cases_lt_eq (suc x) zero = inr (omega arith)
    cases_lt_eq (suc x) (suc y) = elim (cases_lt_eq x y) [ inl l ↦ inl (omega (arith, l)) | inr l ↦ inr (omega (arith, l)) ]

-- where a run has the byte
span_bounds : (p off len : ℕ) → (nat_le off p && nat_lt p (off + len)) ≡ true → (off ≤ p) × (p < off + len)
span_bounds p off len within = let both = and_parts (nat_le off p) (nat_lt p (off + len)) within in (leb-true _ _ both.0, ltb-true _ _ both.1)

span_outside : (p off len : ℕ) → (nat_le off p && nat_lt p (off + len)) ≡ false → (p < off) ⊎ (off + len ≤ p)
span_outside p off len out = elim (order p off) [
  | inl below ↦ inl below
  | inr from ↦ elim (order p (off + len)) [
    | inl inside ↦ absurd (cc (le-leb off p from, lt-ltb p (off + len) inside, out))
    | inr behind ↦ inr behind
  ]
]
  where
    order : (x y : ℕ) → (x < y) ⊎ (y ≤ x)
    order zero zero = inr (omega arith)
    order zero (suc y) = inl (omega arith)
    order (suc x) zero = inr (omega arith)
    order (suc x) (suc y) = elim (order x y) [ inl l ↦ inl (omega (arith, l)) | inr l ↦ inr (omega (arith, l)) ]

-- one byte after one run
one_byte : (size : ℕ) (run : Run) (c : List ℕ) (b p : ℕ) → run.off + length run.bytes ≤ size → run_place size run + length run.bytes ≤ length c → p < size
    → get_or (spliced c (run_place size run) run.bytes) (b * size + p) 0 ≡ unwrap_or (value_of run b p) (get_or c (b * size + p) 0)
one_byte size run c b p short fits inside = elim (cases_eq run.block b) [
  | inl same ↦
      let t : (run.block == b) ≡ true = eq-eqb run.block b same in
      let place : run_place size run ≡ b * size + run.off = ap (λ (n : ℕ). n * size + run.off) same in
      go (nat_le run.off p && nat_lt p (run.off + length run.bytes)) refl t place
  | inr not ↦
      let t : (run.block == b) ≡ false = ne_eqb run.block b not in
      get_or-torn (spliced_torn c (run_place size run) run.bytes fits) (b * size + p) 0 (other_block size b run.block run.off (length run.bytes) p short inside not)
      ∙ ap (λ (x : Bool). unwrap_or (cond (x && in_span p (record { off = run.off; len = length run.bytes })) (Some (get_or run.bytes (p - run.off) 0)) None) (get_or c (b * size + p) 0)) (sym t)
]
  where
    go : (test : Bool) → (nat_le run.off p && nat_lt p (run.off + length run.bytes)) ≡ test → (run.block == b) ≡ true → run_place size run ≡ b * size + run.off
        → get_or (spliced c (run_place size run) run.bytes) (b * size + p) 0 ≡ unwrap_or (value_of run b p) (get_or c (b * size + p) 0)
    go true is t place =
        let bounds = span_bounds p run.off (length run.bytes) is in
        let sum : run_place size run + (p - run.off) ≡ b * size + p = omega (arith, place, bounds.0) in
        ap (λ (k : ℕ). get_or (spliced c (run_place size run) run.bytes) k 0) (sym sum)
        ∙ get_or-spliced c (run_place size run) run.bytes fits (p - run.off) 0 (omega (arith, bounds.0, bounds.1))
        ∙ (λ i. unwrap_or (cond (sym t i && sym is i) (Some (get_or run.bytes (p - run.off) 0)) None) (get_or c (b * size + p) 0))
    go false is t place =
        get_or-torn (spliced_torn c (run_place size run) run.bytes fits) (b * size + p) 0
        (elim (span_outside p run.off (length run.bytes) is) [ inl below ↦ inl (omega (arith, place, below)) | inr behind ↦ inr (omega (arith, place, behind)) ])
        ∙ (λ i. unwrap_or (cond (sym t i && sym is i) (Some (get_or run.bytes (p - run.off) 0)) None) (get_or c (b * size + p) 0))

or_value : (o : Option ℕ) (first : Option ℕ) (d : ℕ) → unwrap_or o (unwrap_or first d) ≡ unwrap_or (or_else o first) d
or_value o first d = grind arith

pub length-laid : (size : ℕ) (runs : List Run) (c : List ℕ) → length (laid size runs c) ≡ length c
length-laid size [] c = refl
length-laid size (run ∷ runs) c = length-laid size runs (one_laid size run c) ∙ go (nat_le (run_place size run + length run.bytes) (length c)) refl
  where
    go : (t : Bool) → nat_le (run_place size run + length run.bytes) (length c) ≡ t → length (cond t (spliced c (run_place size run) run.bytes) c) ≡ length c
    go true is = length-spliced c (run_place size run) run.bytes (leb-true _ _ is)
    go false is = refl

-- a byte after all the runs
laid_byte : (g : Geometry) (runs : List Run) (c : List ℕ) (b p : ℕ) → AreRuns g runs → length c ≡ g.blocks * g.block → p < g.block
    → get_or (laid g.block runs c) (b * g.block + p) 0 ≡ unwrap_or (value_in runs b p) (get_or c (b * g.block + p) 0)
laid_byte g [] c b p all long inside = refl
laid_byte g (run ∷ runs) c b p all long inside =
    let is = head_is g run runs all in
    let fits : run_place g.block run + length run.bytes ≤ length c = omega (arith, run_fits g run is, long) in
    ap (λ (d : List ℕ). get_or (laid g.block runs d) (b * g.block + p) 0) (fits_test g.block run c fits)
    ∙ laid_byte g runs (spliced c (run_place g.block run) run.bytes) b p (tail_are g run runs all) (length-spliced c (run_place g.block run) run.bytes fits ∙ long) inside
    ∙ ap (unwrap_or (value_in runs b p)) (one_byte g.block run c b p is.fits fits inside)
    ∙ or_value (value_in runs b p) (value_of run b p) (get_or c (b * g.block + p) 0)

-- The blocks after the runs of a record are those after its writes.
laid_blocks : (g : Geometry) (n : ℕ) (w : Written) (c : List ℕ) → AreRuns g w.parts → length c ≡ g.blocks * g.block
    → blocks_of g.block g.blocks (laid g.block w.parts c) ≡ own (blocks_of g.block g.blocks c) (commit_of g n w).accesses
laid_blocks g n w c all long =
    let long_too : length (laid g.block w.parts c) ≡ g.blocks * g.block = length-laid g.block w.parts c ∙ long in
    let size = size_of_blocks g c long in
    same_arrays g _ _ (size_of_blocks g (laid g.block w.parts c) long_too) (own_size g (blocks_of g.block g.blocks c) (recorded g w.parts) size) (λ b p block inside.
    byte_of g.block g.blocks (laid g.block w.parts c) b p block inside
    ∙ laid_byte g w.parts c b p all long inside
    ∙ ap (unwrap_or (value_in w.parts b p)) (sym (byte_of g.block g.blocks c b p block inside))
    ∙ ap (λ (o : Option ℕ). unwrap_or o (byte_at (blocks_of g.block g.blocks c) b p)) (sym (effect_recorded g w.parts b p))
    ∙ sym (own_at (blocks_of g.block g.blocks c) (recorded g w.parts) b p g.block (writes_have_bytes g w.parts all) (size.bytes b block) inside))

-- The blocks after all the records are those after their commits.
pub all_laid_blocks : (g : Geometry) (n : ℕ) (told : List Written) (c : List ℕ) → AllByRecursion (IsRecord g) told → length c ≡ g.blocks * g.block
    → blocks_of g.block g.blocks (all_laid g.block told c) ≡ all_own (blocks_of g.block g.blocks c) (commits_of g n told)
all_laid_blocks g n [] c each long = refl
all_laid_blocks g n (w ∷ told) c each long =
    all_laid_blocks g (n + 1) told (laid g.block w.parts c) each.1 (length-laid g.block w.parts c ∙ long)
    ∙ ap (λ (A : Array). all_own A (commits_of g (n + 1) told)) (laid_blocks g n w c each.0.runs long)

pub length-all_laid : (size : ℕ) (told : List Written) (c : List ℕ) → length (all_laid size told c) ≡ length c
length-all_laid size [] c = refl
length-all_laid size (w ∷ told) c = length-all_laid size told (laid size w.parts c) ∙ length-laid size w.parts c

pub take_commits : (g : Geometry) (n k : ℕ) (told : List Written) → commits_of g n (take k told) ≡ take k (commits_of g n told)
take_commits g n zero told = refl
take_commits g n (suc k) [] = refl
take_commits g n (suc k) (w ∷ told) = ap (λ (l : List Commit). commit_of g n w ∷ l) (take_commits g (n + 1) k told)
