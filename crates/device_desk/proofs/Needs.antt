-- The bytes of runs.
use Rattle.std.proofs.{Common.{◌≡◌, ◌∙◌, refl, ap, ℕ, ◌+◌, List, [], ◌∷◌, length, map, arith, Option}, lemmas.List.Sums.{sum_by-cons}}
use Rattle.std.specs.List.{sum_by}
use Rattle.iso_model.specs.{declared.access.Run.Run, declared.access.Span.Span, Effect.runs_from}
use Rattle.merge_write.{specs.Patch.piece, proofs.Effects.pieces_of_any_block}

-- the bytes that pieces take in a record, and that runs do
abbrev pub bytes_of_pieces : List (Span × List ℕ) → ℕ
bytes_of_pieces pieces = sum_by (λ x. 8 + length x.1) pieces

abbrev pub bytes_of_runs : List Run → ℕ
bytes_of_runs runs = sum_by (λ run. 8 + length run.bytes) runs

pieces_take : (runs : List Run) → bytes_of_pieces (map piece runs) ≡ bytes_of_runs runs
pieces_take [] = refl
pieces_take (run ∷ runs) =
    let a = sum_by-cons (λ (x : Span × List ℕ). 8 + length x.1) (piece run) (map piece runs) in
    let b = sum_by-cons (λ (r : Run). 8 + length r.bytes) run runs in
    let c = pieces_take runs in
    omega (arith, a, b, c)

-- the pieces of a patch take as many bytes as its runs in any block
pub taken_by : (b : ℕ) (values : List (Option ℕ)) → bytes_of_pieces (map piece (runs_from 0 0 values)) ≡ bytes_of_runs (runs_from b 0 values)
taken_by b values = ap bytes_of_pieces (pieces_of_any_block 0 b 0 values) ∙ pieces_take (runs_from b 0 values)
