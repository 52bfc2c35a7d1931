-- A list has a write exactly where it has runs.
use Rattle.iso_model.proofs.{Words.{◌≡◌, ◌∙◌, sym, refl, ap, ℕ, ◌-◌, ◌<◌, true, cond, List, [], ◌∷◌, length, get_or, Option, Some, None, is_some, arith, inl, inr, eq-eqb, AllByRecursion, list_any, or_cases, or_left, or_right, and_from, and_parts, nat_tests, Access, Geometry, Run, Span, Write, covered, in_span, is_write, has_write, covers, touches, or_else, runs, IsRun, AreRuns, IsSpan, AreAccesses, in_run, value_in}, Bytes.touches_where_effect, Lookups.value_runs, Maximal.are_runs}

-- a byte of the array that the list writes
record IsWritten (g : Geometry) (accesses : List Access) : Type 0 where
  block : ℕ
  byte : ℕ
  in_array : block < g.blocks
  in_block : byte < g.block
  touched : touches Write accesses block byte ≡ true

has_first : (span : Span) → 0 < span.len → in_span span.off span ≡ true
has_first span some = grind (arith, nat_tests)

-- spans in a block cover some byte of it
covers_some : (size : ℕ) (spans : List Span) → 0 < size → AllByRecursion (IsSpan size) spans → (p : ℕ) × (p < size) × (covered spans p ≡ true)
covers_some size [] some all = (0, some, refl)
covers_some size (span ∷ spans) some all =
    (span.off, omega (arith, all.0.some, all.0.fits), or_left (in_span span.off span) (list_any (in_span span.off) spans) (has_first span all.0.some))

pub covers_where : (b p : ℕ) (a : Access) → is_write a ≡ true → a.block ≡ b → covered a.spans p ≡ true → covers Write b p a ≡ true
covers_where b p a write same has = and_from _ _ (and_from _ _ write (eq-eqb a.block b same)) has

writes_some : (g : Geometry) (accesses : List Access) → 0 < g.block → AreAccesses g accesses → has_write accesses ≡ true → IsWritten g accesses
writes_some g [] some all write = cc
writes_some g (a ∷ accesses) some all write = elim (or_cases (is_write a) (has_write accesses) write) [
  | inl here ↦
      (let (p, inside, has) = covers_some g.block a.spans some all.0.spans in
      record { block = a.block; byte = p; in_array = all.0.block; in_block = inside; touched = or_left _ _ (covers_where a.block p a here refl has) })
  | inr later ↦
      (let rest = writes_some g accesses some all.1 later in
      record { block = rest.block; byte = rest.byte; in_array = rest.in_array; in_block = rest.in_block; touched = or_right _ _ rest.touched })
]

write_from_touch : (accesses : List Access) (b p : ℕ) → touches Write accesses b p ≡ true → has_write accesses ≡ true
write_from_touch [] b p touched = touched
write_from_touch (a ∷ accesses) b p touched = elim (or_cases (covers Write b p a) (touches Write accesses b p) touched) [
  | inl here ↦ or_left (is_write a) (has_write accesses) (and_parts _ _ (and_parts _ _ here).0).0
  | inr later ↦ or_right (is_write a) (has_write accesses) (write_from_touch accesses b p later)
]

-- a byte of the array that one of the runs has
record HasByte (g : Geometry) (list : List Run) : Type 0 where
  block : ℕ
  byte : ℕ
  in_array : block < g.blocks
  in_block : byte < g.block
  some : is_some (value_in list block byte) ≡ true

some_or_else : (x : Option ℕ) (y : ℕ) → is_some (or_else x (Some y)) ≡ true
some_or_else x y = grind arith

first_byte_in : (run : Run) → 0 < length run.bytes → in_run run.block run.off run ≡ true
first_byte_in run some = and_from _ _ (eq-eqb run.block run.block refl) (has_first (record { off = run.off; len = length run.bytes }) some)

some_byte : (g : Geometry) (run : Run) (more : List Run) → IsRun g run → HasByte g (run ∷ more)
some_byte g run more is = record {
  block = run.block;
  byte = run.off;
  in_array = is.block;
  in_block = omega (arith, is.some, is.fits);
  some = ap (λ t. is_some (or_else (value_in more run.block run.off) (cond t (Some (get_or run.bytes (run.off - run.off) 0)) None))) (first_byte_in run is.some)
      ∙ some_or_else (value_in more run.block run.off) (get_or run.bytes (run.off - run.off) 0);
}

runs_have_bytes : (g : Geometry) (list : List Run) → AreRuns g list → 0 < length list → HasByte g list
runs_have_bytes g [] all some = absurd (omega arith)
runs_have_bytes g (x ∷ []) all some = some_byte g x [] all
runs_have_bytes g (x ∷ y ∷ more) all some = some_byte g x (y ∷ more) all.0

runs_from_byte : (list : List Run) (b p : ℕ) → is_some (value_in list b p) ≡ true → 0 < length list
runs_from_byte [] b p some = cc
runs_from_byte (run ∷ more) b p some = omega arith

-- a list with runs has a write
pub write_where_runs : (g : Geometry) (accesses : List Access) → 0 < length (runs g accesses) → has_write accesses ≡ true
write_where_runs g accesses some =
    let byte = runs_have_bytes g (runs g accesses) (are_runs g accesses) some in
    write_from_touch accesses byte.block byte.byte
    (touches_where_effect accesses byte.block byte.byte
    ∙ sym (ap is_some (value_runs g accesses byte.block byte.byte byte.in_array byte.in_block))
    ∙ byte.some)

-- a list with a write has runs
pub runs_where_write : (g : Geometry) (accesses : List Access) → 0 < g.block → AreAccesses g accesses → has_write accesses ≡ true → 0 < length (runs g accesses)
runs_where_write g accesses size all write = grind (arith, writes_some, runs_from_byte, value_runs, touches_where_effect)
