-- The pieces of a patch, as parts of a record, and the record of a commit.
use Rattle.iso_core.proofs.{Words.{◌≡◌, ◌∙◌, sym, refl, ap, ℕ, ◌+◌, ◌<◌, ◌≤◌, List, [], ◌∷◌, ◌++◌, length, map, arith, subst, append-nil, AllByRecursion, LieInAnImage, Geometry, Mode, Run, Span, LAST, piece, runs, last, kind_of, spell, World, Live, IsWorld, limits, are_runs, commit_is_record, commit_from, runs_where_write, Doing, AreNextRecords, MayCommit, written_of}, Leaves.has_begun}

-- a piece has as many bytes as its span says
abbrev pub IsWhole : Span × List ℕ → Type 0
IsWhole x = x.0.len ≡ length x.1

pub pieces_whole : (runs : List Run) → AllByRecursion IsWhole (map piece runs)
pieces_whole [] = tt
pieces_whole (run ∷ runs) = (refl, pieces_whole runs)

-- a record that is spelled for a commit of a world
module _ (U : World) (tx : ℕ) (t : Live) (work : Doing) (is : IsWorld U) (may : MayCommit U tx t work) where
  pub same_runs : runs U.geometry work.accesses ≡ runs U.geometry t.accesses
  same_runs = ap (runs U.geometry) may.settled.is_work.accesses

  pub some_runs : 0 < length (runs U.geometry work.accesses)
  some_runs =
      let size : 64 ≤ U.geometry.block = (limits U.geometry is.valid).least_block in
      subst (λ (l : List Run). 0 < length l) (sym same_runs) (runs_where_write U.geometry t.accesses (omega arith) may.settled.accesses may.write)

  pub runs_lie : LieInAnImage (runs U.geometry work.accesses)
  runs_lie = (U.geometry, is.valid, are_runs U.geometry work.accesses)

  pub spelled_so : (g : Geometry) (number kind : ℕ) (mode : Mode) (bytes : List ℕ) → g ≡ U.geometry → number ≡ last U.history + 1 → last U.history < LAST → mode ≡ work.mode → kind ≡ kind_of g mode
      → bytes ≡ [] ++ spell 1 kind number (runs U.geometry work.accesses) → AreNextRecords U (written_of U t ∷ []) bytes
  spelled_so g number kind mode bytes same number_is fresh mode_is kind_is bytes_is =
      let kinds : kind ≡ kind_of U.geometry t.mode = kind_is ∙ (λ i. kind_of (same i) ((mode_is ∙ may.settled.is_work.mode) i)) in
      let begun = has_begun U tx t is may.here in
      record {
        some = omega arith;
        each = (commit_is_record U.geometry (commit_from t) (omega (arith, (limits U.geometry is.valid).least_block)) may.settled.accesses may.write begun.mode, tt);
        numbers = omega (arith, fresh);
        bytes_are = bytes_is ∙ (λ i. spell 1 (kinds i) (number_is i) (same_runs i)) ∙ sym (append-nil (spell 1 (kind_of U.geometry t.mode) (last U.history + 1) (runs U.geometry t.accesses)));
      }
