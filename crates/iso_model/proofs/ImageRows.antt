-- Worked examples of the bytes of an image, by computation.
use Rattle.iso_model.proofs.{Words.{Commit, Geometry, Mode, Serial, Snapshot, Write, base_place, blocks_of, commits_of, current_half, half_header, header_place, kind_of, log_place, put, records, runs, spell, Run, Written}, Rows.{commit_put, history, small}}
use Rattle.iso_model.specs.Image.{held}
use Rattle.std.specs.Prelude.{◌≡◌, ℕ, List, [], ◌∷◌, ◌++◌, None, Some, Option, map, refl, replicate}

-- A header with a closed gate, of form 2, of generation 258 over the base number 772.
pub a_header_by_its_fields :
    half_header 0 2 258 772 ≡ 0 ∷ 2 ∷ replicate 6 0 ++ replicate 6 0 ++ 1 ∷ 2 ∷ replicate 6 0 ++ 3 ∷ 4 ∷ replicate 8 0
unfolding half_header
a_header_by_its_fields = refl

-- Where the headers, the bases and the logs of the two halves begin.
pub places_of_halves :
    map (header_place small) (0 ∷ 1 ∷ []) ++ map (base_place small) (0 ∷ 1 ∷ []) ++ map (log_place small) (0 ∷ 1 ∷ []) ≡ 64 ∷ 608 ∷ 96 ∷ 640 ∷ 352 ∷ 896 ∷ []
places_of_halves = refl

abbrev first_run : Run
first_run = record { block = 2; off = 5; bytes = 171 ∷ 205 ∷ [] }

abbrev second_run : Run
second_run = record { block = 3; off = 256; bytes = 7 ∷ [] }

-- A record with a closed gate, of kind 2, with two parts: their number, the 19 bytes of their body, and its own number, each in its
-- place.
pub a_record_by_its_fields :
    spell 0 2 258 (first_run ∷ second_run ∷ [])
    ≡ 0 ∷ 2 ∷ 0 ∷ 0 ∷ 0 ∷ 0 ∷ 0 ∷ 2 ∷ 0 ∷ 0 ∷ 0 ∷ 19 ∷ 0 ∷ 0 ∷ 0 ∷ 0 ∷ 0 ∷ 0 ∷ 1 ∷ 2
    ∷ 0 ∷ 0 ∷ 0 ∷ 2 ∷ 0 ∷ 5 ∷ 0 ∷ 2 ∷ 171 ∷ 205 ∷ 0 ∷ 0 ∷ 0 ∷ 3 ∷ 1 ∷ 0 ∷ 0 ∷ 1 ∷ 7 ∷ []
unfolding spell
a_record_by_its_fields = refl

-- Kind 1 is the image's own mode, and kind 2 the other one.
pub kinds_of_modes :
    map (kind_of small) (Serial ∷ Snapshot ∷ []) ++ map (kind_of (record small { mode = Snapshot })) (Serial ∷ Snapshot ∷ []) ≡ 1 ∷ 2 ∷ 2 ∷ 1 ∷ []
kinds_of_modes = refl

-- what two records tell, the second of a transaction of the other mode
abbrev told : List Written
told = record { mode = Serial; parts = first_run ∷ [] } ∷ record { mode = Snapshot; parts = record { block = 3; off = 0; bytes = 7 ∷ [] } ∷ [] } ∷ []

-- Records have open gates and the numbers from the first one on.
pub two_records :
    records small 5 told
    ≡ 1 ∷ 1 ∷ 0 ∷ 0 ∷ 0 ∷ 0 ∷ 0 ∷ 1 ∷ 0 ∷ 0 ∷ 0 ∷ 10 ∷ 0 ∷ 0 ∷ 0 ∷ 0 ∷ 0 ∷ 0 ∷ 0 ∷ 5 ∷ 0 ∷ 0 ∷ 0 ∷ 2 ∷ 0 ∷ 5 ∷ 0 ∷ 2 ∷ 171 ∷ 205
    ∷ 1 ∷ 2 ∷ 0 ∷ 0 ∷ 0 ∷ 0 ∷ 0 ∷ 1 ∷ 0 ∷ 0 ∷ 0 ∷ 9 ∷ 0 ∷ 0 ∷ 0 ∷ 0 ∷ 0 ∷ 0 ∷ 0 ∷ 6 ∷ 0 ∷ 0 ∷ 0 ∷ 3 ∷ 0 ∷ 0 ∷ 0 ∷ 1 ∷ 7 ∷ []
unfolding spell
two_records = refl

-- A commit as its record tells it has begun directly before it, in its own mode, and has one write for each part.
pub commits_of_two_records :
    commits_of small 5 told
    ≡ record { begin = 4; mode = Serial; accesses = record { kind = Write; block = 2; spans = record { off = 5; len = 2 } ∷ []; bytes = replicate 5 0 ++ 171 ∷ 205 ∷ replicate 57 0 } ∷ [] }
    ∷ record { begin = 5; mode = Snapshot; accesses = record { kind = Write; block = 3; spans = record { off = 0; len = 1 } ∷ []; bytes = 7 ∷ replicate 63 0 } ∷ [] } ∷ []
commits_of_two_records = refl

-- The history over the array after commit 1: this array, and commit 2 as its record tells it.
pub held_over_a_commit :
    held small 1 (history (commit_put 0 0 0 (170 ∷ []) ∷ commit_put 0 0 1 (187 ∷ []) ∷ []))
    ≡ record { first = 2; base = (170 ∷ replicate 63 0) ∷ replicate 64 0 ∷ replicate 64 0 ∷ replicate 64 0 ∷ []; commits = commit_put 1 0 1 (187 ∷ []) ∷ [] }
unfolding put runs
held_over_a_commit = refl

pub blocks_from_the_front : blocks_of 2 3 (1 ∷ 2 ∷ 3 ∷ 4 ∷ 5 ∷ 6 ∷ 7 ∷ []) ≡ (1 ∷ 2 ∷ []) ∷ (3 ∷ 4 ∷ []) ∷ (5 ∷ 6 ∷ []) ∷ []
blocks_from_the_front = refl

-- the bytes of a small image up to its second header: the two gates and generations, over the base numbers 9 and 2
abbrev with_headers : (first one second two : ℕ) → List ℕ
with_headers first one second two = replicate 64 1 ++ half_header first 1 one 9 ++ replicate 512 1 ++ half_header second 1 two 2

-- The current half is the one whose gate is 1, with the larger generation; every other gate is closed.
pub current_halves :
    map (current_half small) (with_headers 1 3 1 4 ∷ with_headers 1 256 1 255 ∷ with_headers 1 3 1 3 ∷ with_headers 0 9 1 3 ∷ with_headers 2 9 1 3 ∷ with_headers 1 3 0 9 ∷ with_headers 0 9 2 9 ∷ [])
    ≡ Some 1 ∷ Some 0 ∷ Some 0 ∷ Some 1 ∷ Some 1 ∷ Some 0 ∷ None ∷ []
unfolding half_header
current_halves = refl
