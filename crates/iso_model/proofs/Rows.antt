-- Worked examples of the definitions on a small image, by computation.
use Rattle.iso_model.proofs.Words.{codes, slice_index_or, Access, Commit, Geometry, Mode, Serial, Snapshot, Read, Clash, LAST, put, zeros, image_size, log_place, is_block_size, is_valid, History, array_at, clash, runs, superblock, half_header, spell, chosen_half, put_access, read_access, is_label, World, Live, Place, client, label, unattached, attached, floor, fresh}
use Rattle.std.specs.Prelude.{◌≡◌, ℕ, ◌-◌, ◌^◌, List, [], ◌∷◌, ◌++◌, None, Some, refl, map, take, replicate, Option, true, false, filter, option_map}

-- blocks of 64 bytes, 4 of them, and a log of 256
abbrev pub small : Geometry
small = record { block = 64; blocks = 4; log = 256; mode = Serial; hash = 0; tree = 0; form = 1 }

-- a put in a transaction that began at a commit
abbrev pub commit_put : (begin block off : ℕ) → List ℕ → Commit
commit_put begin block off bytes = record { begin = begin; mode = Serial; accesses = put_access 64 block off bytes ∷ [] }

-- a history of these commits on the small image
abbrev pub history : List Commit → History
history commits = record { first = 1; base = zeros 64 4; commits = commits }

-- two answers as a pair
abbrev pair_of : Option Clash → List ℕ → Option Clash × List ℕ
pair_of c bytes = (c, bytes)

-- a read of one byte of a block
abbrev get_access : (block off : ℕ) → Access
get_access block off = record { kind = Read; block = block; spans = record { off = off; len = 1 } ∷ []; bytes = [] }

-- The superblock of the small image.
pub blank_superblock :
    superblock 1 small
    ≡ codes "ISOTOPE1" ++ 0 ∷ 0 ∷ 0 ∷ 1 ∷ 0 ∷ 0 ∷ 0 ∷ 64 ∷ 0 ∷ 0 ∷ 0 ∷ 4 ∷ 0 ∷ 0 ∷ 1 ∷ 0 ∷ 0 ∷ 0 ∷ 0 ∷ 0 ∷ 0 ∷ 0 ∷ 0 ∷ 0 ∷ 0 ∷ 0 ∷ 0 ∷ 0 ∷ [] ++ replicate 27 0 ++ 1 ∷ []
unfolding superblock
blank_superblock = refl

-- The header of its first half, made anew.
pub blank_header :
    half_header 1 1 1 0
    ≡ 1 ∷ 1 ∷ 0 ∷ 0 ∷ 0 ∷ 0 ∷ 0 ∷ 0 ∷ 0 ∷ 0 ∷ 0 ∷ 0 ∷ 0 ∷ 0 ∷ 0 ∷ 1 ∷ replicate 16 0
unfolding half_header
blank_header = refl

-- Its size, and that of the default image.
pub blank_size :
    image_size small ∷ image_size (record { block = 4096; blocks = 1024; log = 4194304; mode = Serial; hash = 0; tree = 0; form = 1 }) ∷ []
    ≡ 1152 ∷ 16777344 ∷ []
unfolding is_valid
blank_size = refl

-- The record of that commit, and where the log begins.
pub one_put_record :
    spell 1 1 1 (runs small (put_access 64 2 5 (171 ∷ 205 ∷ []) ∷ [])) ++ log_place small 0 ∷ []
    ≡ 1 ∷ 1 ∷ 0 ∷ 0 ∷ 0 ∷ 0 ∷ 0 ∷ 1 ∷ 0 ∷ 0 ∷ 0 ∷ 10 ∷ 0 ∷ 0 ∷ 0 ∷ 0 ∷ 0 ∷ 0 ∷ 0 ∷ 1 ∷ 0 ∷ 0 ∷ 0 ∷ 2 ∷ 0 ∷ 5 ∷ 0 ∷ 2 ∷ 171 ∷ 205 ∷ 352 ∷ []
unfolding spell runs
one_put_record = refl

-- Two writes of one block that do not meet: no clash, and both stand.
pub merge_on_one_block :
    pair_of (clash small (history (commit_put 0 0 0 (170 ∷ []) ∷ [])) Serial 0 (put_access 64 0 1 (187 ∷ []) ∷ []))
    (take 3 (slice_index_or (array_at (history (commit_put 0 0 0 (170 ∷ []) ∷ commit_put 0 0 1 (187 ∷ []) ∷ [])) 2) 0 []))
    ≡ pair_of None (170 ∷ 187 ∷ 0 ∷ [])
unfolding clash put
merge_on_one_block = refl

-- A read of the whole block meets the first byte that was written.
pub read_of_a_written_block :
    clash small (history (commit_put 0 0 0 (170 ∷ []) ∷ [])) Serial 0 (read_access 0 ∷ put_access 64 0 1 (187 ∷ []) ∷ [])
    ≡ Some (record { commit = 1; block = 0; at = 0 })
unfolding clash
read_of_a_written_block = refl

-- A read that is marked on another byte does not.
pub marked_read_of_another_byte :
    clash small (history (commit_put 0 0 0 (170 ∷ []) ∷ [])) Serial 0 (get_access 0 1 ∷ put_access 64 0 1 (187 ∷ []) ∷ [])
    ≡ None
unfolding clash
marked_read_of_another_byte = refl

-- Two writes of one byte meet in snapshot mode alone.
pub two_writes_of_one_byte :
    clash small (history (commit_put 0 0 0 (170 ∷ []) ∷ [])) Snapshot 0 (put_access 64 0 0 (187 ∷ []) ∷ [])
    ≡ Some (record { commit = 1; block = 0; at = 0 })
unfolding clash
two_writes_of_one_byte = refl

-- In serial mode they do not, and the later bytes stand.
pub two_writes_in_serial_mode :
    clash small (history (commit_put 0 0 0 (170 ∷ []) ∷ [])) Serial 0 (put_access 64 0 0 (187 ∷ []) ∷ [])
    ≡ None
unfolding clash
two_writes_in_serial_mode = refl

-- a live transaction without accesses
abbrev live_from : (number begin : ℕ) → Place → Live
live_from number begin place = record { number = number; begin = begin; mode = Serial; accesses = []; place = place }

-- the small image after three commits, with these live transactions
abbrev world_with : List Live → World
world_with live = record (fresh small 1 (history (commit_put 0 0 0 (170 ∷ []) ∷ commit_put 1 0 1 (187 ∷ []) ∷ commit_put 2 1 0 (1 ∷ []) ∷ []))) { live = live }

-- The floor is the least begin of the live transactions, released ones too, and the last commit where none is live.
pub floors :
    map (λ live. floor (world_with live))
    ([] ∷ (live_from 1 2 (client 1) ∷ []) ∷ (live_from 1 2 (client 1) ∷ live_from 2 1 (label (codes "a")) ∷ live_from 3 3 unattached ∷ []) ∷ [])
    ≡ 3 ∷ 2 ∷ 1 ∷ []
floors = refl

-- A client has the transaction that is attached to it, and not one under a label.
pub attached_ones :
    map (λ c. option_map (λ t. t.number) (attached (world_with (live_from 1 2 (label (codes "a")) ∷ live_from 2 1 unattached ∷ live_from 3 3 (client 7) ∷ [])) c)) (1 ∷ 7 ∷ [])
    ≡ None ∷ Some 3 ∷ []
attached_ones = refl

-- Labels are 1 to 16 lower case letters and digits.
pub labels :
    map (λ text. is_label (codes text)) ("a" ∷ "0" ∷ "abcdefghijklmnop" ∷ "z9" ∷ "" ∷ "abcdefghijklmnopq" ∷ "A" ∷ "a b" ∷ "a-b" ∷ [])
    ≡ true ∷ true ∷ true ∷ true ∷ false ∷ false ∷ false ∷ false ∷ false ∷ []
labels = refl

-- The greatest number.
pub the_last_number : LAST ≡ 2 ^ 63 - 1
the_last_number = refl

-- The block sizes.
pub block_sizes :
    filter is_block_size (0 ∷ 1 ∷ 32 ∷ 63 ∷ 64 ∷ 96 ∷ 128 ∷ 256 ∷ 384 ∷ 512 ∷ 1000 ∷ 1024 ∷ 2048 ∷ 4095 ∷ 4096 ∷ 8192 ∷ [])
    ≡ 64 ∷ 128 ∷ 256 ∷ 512 ∷ 1024 ∷ 2048 ∷ 4096 ∷ []
block_sizes = refl

-- a geometry with regions for stores
abbrev with_regions : (block blocks hash tree : ℕ) → Mode → Geometry
with_regions block blocks hash tree mode = record { block = block; blocks = blocks; log = 64; mode = mode; hash = hash; tree = tree; form = 1 }

-- A hash region has 3 blocks at least and a tree region 2, if they are there, each at most 8 for each byte of a block but 64;
-- they want blocks of 256 bytes and a serial image, and together no more blocks than there are.
pub region_sizes :
    map is_valid (with_regions 256 16 0 0 Serial ∷ with_regions 256 16 3 0 Serial ∷ with_regions 256 16 0 2 Serial ∷ with_regions 256 16 8 8 Serial
    ∷ with_regions 256 4000 1536 1536 Serial ∷ [])
    ≡ true ∷ true ∷ true ∷ true ∷ true ∷ []
unfolding is_valid
region_sizes = refl

pub wrong_region_sizes :
    map is_valid (with_regions 256 16 2 0 Serial ∷ with_regions 256 16 0 1 Serial ∷ with_regions 256 16 8 9 Serial ∷ with_regions 256 4000 1537 0 Serial
    ∷ with_regions 256 4000 0 1537 Serial ∷ with_regions 128 16 3 0 Serial ∷ with_regions 256 16 0 2 Snapshot ∷ [])
    ≡ false ∷ false ∷ false ∷ false ∷ false ∷ false ∷ false ∷ []
unfolding is_valid
wrong_region_sizes = refl

-- The other limits of a geometry.
pub geometry_limits :
    map is_valid (record small { blocks = 0 } ∷ record small { blocks = 1 } ∷ record small { blocks = 16384 } ∷ record small { blocks = 16385 } ∷ record small { log = 63 }
    ∷ record small { log = 64 } ∷ record small { log = 67108864 } ∷ record small { log = 67108865 } ∷ record small { form = 0 } ∷ record small { form = 2 } ∷ record small { form = 3 } ∷ [])
    ≡ false ∷ true ∷ true ∷ false ∷ false ∷ true ∷ true ∷ false ∷ false ∷ true ∷ false ∷ []
unfolding is_valid
geometry_limits = refl

-- The superblock of a snapshot image with regions.
pub snapshot_superblock :
    superblock 0 (record { block = 4096; blocks = 16384; log = 4194304; mode = Snapshot; hash = 5; tree = 258; form = 2 })
    ≡ codes "ISOTOPE1" ++ 0 ∷ 0 ∷ 0 ∷ 1 ∷ 0 ∷ 0 ∷ 16 ∷ 0 ∷ 0 ∷ 0 ∷ 64 ∷ 0 ∷ 0 ∷ 64 ∷ 0 ∷ 0 ∷ 1 ∷ 0 ∷ 0 ∷ 0 ∷ 0 ∷ 0 ∷ 0 ∷ 5 ∷ 0 ∷ 0 ∷ 1 ∷ 2 ∷ [] ++ replicate 28 0
unfolding superblock
snapshot_superblock = refl

-- A clash is with a commit of its own number, also where the begin lies before the base; least by commit, then by block.
pub clash_below_the_base :
    clash small (record (history (commit_put 4 0 0 (170 ∷ []) ∷ [])) { first = 5 }) Serial 0 (read_access 0 ∷ put_access 64 0 1 (187 ∷ []) ∷ [])
    ≡ Some (record { commit = 5; block = 0; at = 0 })
unfolding clash
clash_below_the_base = refl

pub least_block_first :
    clash small (history (commit_put 0 3 0 (1 ∷ []) ∷ commit_put 1 0 9 (1 ∷ []) ∷ [])) Serial 0 (read_access 0 ∷ read_access 3 ∷ put_access 64 0 1 (187 ∷ []) ∷ [])
    ≡ Some (record { commit = 1; block = 3; at = 0 })
unfolding clash
least_block_first = refl

-- The half with the larger generation, the first on a tie, of those that are open.
pub chosen_halves :
    chosen_half true 3 true 3 ∷ chosen_half true 3 true 4 ∷ chosen_half true 4 true 3 ∷ chosen_half false 9 true 3 ∷ chosen_half true 3 false 9 ∷ chosen_half false 9 false 9 ∷ []
    ≡ Some 0 ∷ Some 1 ∷ Some 0 ∷ Some 1 ∷ Some 0 ∷ None ∷ []
chosen_halves = refl
