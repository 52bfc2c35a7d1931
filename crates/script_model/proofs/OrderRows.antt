-- Worked examples of the order of refusals, and of what a switch of halves keeps.
use Rattle.script_model.proofs.{Words.{◌≡◌, ◌-◌, [], ◌∷◌, ◌++◌, refl, replicate, codes, None, Some, digits, Serial, Snapshot, LAST, Compact, Upgrade, Committed, Conflict, ModeFixed, TooManyTx, Worn, BadBlock, BadRange, TooManyAccesses, put, clash, runs, operation_of, other_operation, step, put_step, get_step, write_step, numbers, put_access, read_access, begin_step, commit_step, end_step, switch_step, words_of, number_of, hex_of, reply_text, versions, World, Live, label, unattached}, Small.{small, made, text, answers}}
use Rattle.std.specs.Prelude.{ℕ, ◌+◌, List}

-- the small image after n commits, which its base holds
abbrev ended : ℕ → World
ended n = record (made small) { history = record { first = n + 1; base = (made small).history.base; commits = [] }; base = n; trim = n }

-- a transaction that wrote one byte, and one that wrote too much for the log
abbrev writer : List ℕ → Live
writer bytes = record { number = 1; begin = 0; mode = Serial; accesses = put_access 64 0 0 bytes ∷ []; place = unattached }

-- The last number is given to a commit, and then none is; this is tested before the log, and a clash before it.
pub the_last_commit :
    (commit_step (ended (LAST - 1)) (writer (1 ∷ [])) None).0 ∷ (commit_step (ended LAST) (writer (1 ∷ [])) None).0
    ∷ (commit_step (record (ended LAST) { geometry = record small { log = 64 } }) (writer (replicate 64 1)) None).0
    ∷ (commit_step (ended LAST) (writer (1 ∷ [])) (Some (record { commit = 1; block = 0; at = 0 }))).0 ∷ []
    ≡ Committed LAST ∷ Worn ∷ Worn ∷ Conflict (record { commit = 1; block = 0; at = 0 }) ∷ []
unfolding commit_step runs
the_last_commit = refl

-- An end that finds no number left, or no room, leaves the transaction as it was; one that conflicts takes it out.
abbrev at_its_end : World → World
at_its_end world = record world { live = writer (1 ∷ []) ∷ [] }

pub what_an_end_leaves :
    (commit_step (at_its_end (ended LAST)) (writer (1 ∷ [])) None).1
    ∷ (commit_step (at_its_end (record (ended 0) { geometry = record small { log = 8 } })) (writer (1 ∷ [])) None).1
    ∷ (commit_step (at_its_end (ended 1)) (writer (1 ∷ [])) (Some (record { commit = 1; block = 0; at = 0 }))).1 ∷ []
    ≡ at_its_end (ended LAST) ∷ at_its_end (record (ended 0) { geometry = record small { log = 8 } }) ∷ ended 1 ∷ []
unfolding commit_step runs
what_an_end_leaves = refl

abbrev released : Live
released = record { number = 1; begin = 0; mode = Serial; accesses = []; place = label (97 ∷ []) }

-- A begin is refused for its mode, then for the live transactions, then for its number.
pub refusals_of_a_begin :
    (begin_step (record (made small) { live = replicate 1024 released; next = LAST + 1 }) unattached Snapshot).0
    ∷ (begin_step (record (made small) { live = replicate 1024 released; next = LAST + 1 }) unattached Serial).0 ∷ []
    ≡ ModeFixed ∷ TooManyTx ∷ []
unfolding begin_step
refusals_of_a_begin = refl

-- An access is refused for its block, then for its range, then for the number of accesses.
abbrev busy : Live
busy = record released { accesses = replicate 4096 (read_access 0) }

pub refusals_of_an_access :
    (put_step (made small) busy 4 64 (1 ∷ [])).0 ∷ (put_step (made small) busy 3 64 (1 ∷ [])).0 ∷ (put_step (made small) busy 3 63 (1 ∷ [])).0 ∷ []
    ≡ BadBlock ∷ BadRange ∷ TooManyAccesses ∷ []
unfolding put_step
refusals_of_an_access = refl

-- Bytes inside a block are read, whole blocks are written.
pub bytes_inside_a_block :
    answers (made (record small { blocks = 2 })) (codes "1 begin" ∷ (codes "1 write 1 " ++ replicate 124 48 ++ codes "aAbB") ∷ codes "1 get 1 62 2" ∷ codes "1 get 1 61 2" ∷ codes "1 end" ∷ codes "2 begin" ∷ codes "2 get 1 62 2" ∷ [])
    ≡ text (codes "1 ok begin 0" ∷ codes "1 ok" ∷ codes "1 ok aabb" ∷ codes "1 ok 00aa" ∷ codes "1 ok commit 1" ∷ codes "2 ok begin 1" ∷ codes "2 ok aabb" ∷ [])
unfolding put clash runs operation_of other_operation step begin_step get_step write_step commit_step end_step words_of number_of hex_of reply_text digits
bytes_inside_a_block = refl

-- A read of bytes inside a block guards these alone.
pub a_get_guards_its_bytes :
    answers (made small) (codes "1 begin" ∷ codes "1 get 0 8 2" ∷ codes "1 put 1 0 01" ∷ codes "2 begin" ∷ codes "2 put 0 0 01" ∷ codes "2 end" ∷ codes "1 end" ∷ codes "1 begin" ∷ codes "1 get 0 8 2" ∷ codes "1 put 1 0 01" ∷ codes "2 begin" ∷ codes "2 put 0 9 01" ∷ codes "2 end" ∷ codes "1 end" ∷ codes "1 end" ∷ [])
    ≡ text (codes "1 ok begin 0" ∷ codes "1 ok 0000" ∷ codes "1 ok" ∷ codes "2 ok begin 0" ∷ codes "2 ok" ∷ codes "2 ok commit 1" ∷ codes "1 ok commit 2" ∷ codes "1 ok begin 2" ∷ codes "1 ok 0000" ∷ codes "1 ok" ∷ codes "2 ok begin 2" ∷ codes "2 ok" ∷ codes "2 ok commit 3" ∷ codes "1 conflict with 3 block 0 at 9" ∷ codes "1 not-in-tx" ∷ [])
unfolding put clash runs operation_of other_operation step begin_step put_step get_step commit_step end_step words_of number_of hex_of reply_text digits
a_get_guards_its_bytes = refl

-- A switch of halves raises the generation by one; a compaction keeps the form, and an upgrade makes it 2.
pub what_a_switch_makes :
    (step (made small) 1 Compact).1.generation ∷ (step (made small) 1 Compact).1.geometry.form ∷ (step (made (record small { form = 2 })) 1 Compact).1.geometry.form
    ∷ (step (made small) 1 Upgrade).1.generation ∷ (step (made small) 1 Upgrade).1.geometry.form ∷ []
    ≡ 2 ∷ 1 ∷ 2 ∷ 2 ∷ 2 ∷ []
unfolding step switch_step
what_a_switch_makes = refl

-- What a commit above the trim number writes over is kept: a live begin is shown it.
pub a_version_below_a_live_begin_is_kept :
    answers (made small) (codes "1 begin" ∷ codes "1 put 0 0 01" ∷ codes "1 end" ∷ codes "2 begin" ∷ codes "1 begin" ∷ codes "1 put 0 0 02" ∷ codes "1 end" ∷ codes "1 trim" ∷ codes "1 stat" ∷ codes "2 abort" ∷ codes "1 trim" ∷ codes "1 stat" ∷ [])
    ≡ text (codes "1 ok begin 0" ∷ codes "1 ok" ∷ codes "1 ok commit 1" ∷ codes "2 ok begin 1" ∷ codes "1 ok begin 1" ∷ codes "1 ok" ∷ codes "1 ok commit 2" ∷ codes "1 ok trim 1" ∷ codes "1 ok last 2 base 0 trim 1 live 1 used 58 versions 2" ∷ codes "2 ok" ∷ codes "1 ok trim 2" ∷ codes "1 ok last 2 base 0 trim 2 live 0 used 58 versions 1" ∷ [])
unfolding put clash runs operation_of other_operation step begin_step put_step commit_step end_step numbers versions words_of number_of hex_of reply_text digits
a_version_below_a_live_begin_is_kept = refl
