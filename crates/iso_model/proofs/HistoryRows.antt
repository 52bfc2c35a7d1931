-- Worked examples of histories, of what accesses write and of clashes, by computation.
use Rattle.iso_model.proofs.{Words.{slice_index, slice_index_or, Access, Clash, Commit, History, Read, Run, Serial, Snapshot, Write, array_at, clash, effect_at, get_access, has_write, last, own, put, put_access, read_access, record_length, runs, shown, write_access, zeros}, Rows.{commit_put, history, small}}
use Rattle.std.specs.Prelude.{◌≡◌, ℕ, List, [], ◌∷◌, ◌++◌, None, Some, Option, Bool, true, false, map, refl, replicate, take}

-- the first byte of block 0
abbrev first_byte_of : List (List ℕ) → ℕ
first_byte_of A = slice_index (slice_index_or A 0 []) 0

-- two commits that write one byte
abbrev twice : List Commit
twice = commit_put 0 0 0 (170 ∷ []) ∷ commit_put 1 0 0 (187 ∷ []) ∷ []

-- The array at each commit has the writes of those up to it, the later ones on top, from whatever number the history begins.
pub arrays_of_a_history :
    map (λ n. first_byte_of (array_at (history twice) n)) (0 ∷ 1 ∷ 2 ∷ []) ++ map (λ n. first_byte_of (array_at (record (history twice) { first = 5 }) n)) (4 ∷ 5 ∷ 6 ∷ [])
    ≡ 0 ∷ 170 ∷ 187 ∷ 0 ∷ 170 ∷ 187 ∷ []
unfolding put
arrays_of_a_history = refl

pub last_numbers : last (history twice) ∷ last (record (history twice) { first = 5 }) ∷ last (history []) ∷ [] ≡ 2 ∷ 6 ∷ 0 ∷ []
last_numbers = refl

-- An access shows the block as it was at the begin, with the earlier writes of its own list on top.
pub shown_by_each_access :
    map (λ i. take 3 (shown (history twice) 1 (read_access 0 ∷ put_access 64 0 1 (9 ∷ []) ∷ read_access 0 ∷ put_access 64 0 2 (8 ∷ []) ∷ []) i)) (0 ∷ 1 ∷ 2 ∷ 3 ∷ [])
    ≡ (170 ∷ 0 ∷ 0 ∷ []) ∷ (170 ∷ 0 ∷ 0 ∷ []) ∷ (170 ∷ 9 ∷ 0 ∷ []) ∷ (170 ∷ 9 ∷ 0 ∷ []) ∷ []
unfolding put
shown_by_each_access = refl

-- writes of bytes that join, and of some that stand apart, and a read
abbrev several : List Access
several = put_access 64 1 2 (5 ∷ []) ∷ put_access 64 0 1 (2 ∷ 3 ∷ []) ∷ put_access 64 0 0 (1 ∷ []) ∷ put_access 64 0 5 (7 ∷ []) ∷ read_access 3 ∷ put_access 64 0 2 (9 ∷ []) ∷ []

-- Of two writes of one byte the later one is; the runs are as long as they can be, by block and then by place.
pub runs_of_several_writes :
    runs small several
    ≡ record { block = 0; off = 0; bytes = 1 ∷ 2 ∷ 9 ∷ [] } ∷ record { block = 0; off = 5; bytes = 7 ∷ [] } ∷ record { block = 1; off = 2; bytes = 5 ∷ [] } ∷ []
unfolding runs
runs_of_several_writes = refl

-- A record has 20 bytes, and 8 for each run beside its own.
pub length_of_their_record : record_length (runs small several) ∷ record_length [] ∷ [] ≡ 49 ∷ 20 ∷ []
unfolding runs
length_of_their_record = refl

pub bytes_after_several_writes :
    map (λ block. take 7 block) (own (zeros 64 4) several) ≡ (1 ∷ 2 ∷ 9 ∷ 0 ∷ 0 ∷ 7 ∷ 0 ∷ []) ∷ (0 ∷ 0 ∷ 5 ∷ 0 ∷ 0 ∷ 0 ∷ 0 ∷ []) ∷ replicate 7 0 ∷ replicate 7 0 ∷ []
unfolding put
bytes_after_several_writes = refl

-- Under two marks a write has its bytes, and what is between and after them is kept.
pub bytes_under_two_marks :
    map (λ block. take 6 block) (own (zeros 64 1) (record { kind = Write; block = 0; spans = record { off = 0; len = 1 } ∷ record { off = 3; len = 2 } ∷ []; bytes = 1 ∷ 2 ∷ 3 ∷ 4 ∷ 5 ∷ 6 ∷ replicate 58 7 } ∷ []))
    ≡ (1 ∷ 0 ∷ 0 ∷ 4 ∷ 5 ∷ 0 ∷ []) ∷ []
unfolding put
bytes_under_two_marks = refl

-- A write without a mark covers its block, and a read writes nothing.
pub a_whole_block_is_one_run : runs small (write_access 2 (replicate 64 3) ∷ read_access 0 ∷ []) ≡ record { block = 2; off = 0; bytes = replicate 64 3 } ∷ []
unfolding runs
a_whole_block_is_one_run = refl

pub lists_with_a_write : map has_write ([] ∷ (read_access 0 ∷ []) ∷ several ∷ []) ≡ false ∷ false ∷ true ∷ []
lists_with_a_write = refl

-- a commit that writes bytes 5 to 8 of block 2
abbrev four_bytes : History
four_bytes = history (commit_put 0 2 5 (1 ∷ 1 ∷ 1 ∷ 1 ∷ []) ∷ [])

-- The byte of a clash is the least that is in both; whoever began at the commit has seen it, and whoever writes nothing ends read-only.
pub least_byte_of_both :
    clash small four_bytes Serial 0 (get_access 2 7 40 ∷ put_access 64 0 0 (1 ∷ []) ∷ []) ∷ clash small four_bytes Serial 0 (get_access 2 0 6 ∷ put_access 64 0 0 (1 ∷ []) ∷ [])
    ∷ clash small four_bytes Serial 0 (get_access 2 9 40 ∷ put_access 64 0 0 (1 ∷ []) ∷ []) ∷ clash small four_bytes Serial 0 (get_access 1 7 40 ∷ put_access 64 0 0 (1 ∷ []) ∷ [])
    ∷ clash small four_bytes Serial 1 (get_access 2 7 40 ∷ put_access 64 0 0 (1 ∷ []) ∷ []) ∷ clash small four_bytes Serial 0 (get_access 2 7 40 ∷ []) ∷ []
    ≡ Some (record { commit = 1; block = 2; at = 7 }) ∷ Some (record { commit = 1; block = 2; at = 5 }) ∷ None ∷ None ∷ None ∷ None ∷ []
unfolding clash
least_byte_of_both = refl

-- A clash has the number of its commit, and those up to the begin are none.
pub number_of_a_clash :
    map (λ begin. clash small (history (commit_put 0 1 0 (1 ∷ []) ∷ commit_put 1 2 0 (1 ∷ []) ∷ commit_put 2 2 3 (1 ∷ []) ∷ [])) Serial begin (read_access 2 ∷ put_access 64 0 0 (1 ∷ []) ∷ [])) (0 ∷ 1 ∷ 2 ∷ 3 ∷ [])
    ≡ Some (record { commit = 2; block = 2; at = 0 }) ∷ Some (record { commit = 2; block = 2; at = 0 }) ∷ Some (record { commit = 3; block = 2; at = 3 }) ∷ None ∷ []
unfolding clash
number_of_a_clash = refl

-- In snapshot mode the write counts and not the read.
pub a_read_in_snapshot_mode :
    clash small four_bytes Snapshot 0 (read_access 2 ∷ put_access 64 2 4 (1 ∷ []) ∷ []) ∷ clash small four_bytes Snapshot 0 (read_access 2 ∷ put_access 64 2 4 (1 ∷ 1 ∷ []) ∷ []) ∷ []
    ≡ None ∷ Some (record { commit = 1; block = 2; at = 5 }) ∷ []
unfolding clash
a_read_in_snapshot_mode = refl

-- The value of a byte is that of the last write that covers it, and none where no write does.
pub values_of_bytes :
    effect_at several 0 2 ∷ effect_at several 0 1 ∷ effect_at several 0 3 ∷ effect_at several 1 2 ∷ effect_at several 2 2 ∷ effect_at several 3 0 ∷ []
    ≡ Some 9 ∷ Some 2 ∷ None ∷ Some 5 ∷ None ∷ None ∷ []
values_of_bytes = refl
