-- Worked examples of limits that are too large to reach one by one.
use Rattle.script_model.proofs.{Words.{◌≡◌, ◌-◌, [], ◌∷◌, refl, replicate, Serial, LAST, Began, Compacted, TooManyTx, Worn, Done, TooManyAccesses, read_access, begin_step, switch_step, put_step, read_step, World, Live, label, unattached}, Small.{small, made}}
use Rattle.std.specs.Prelude.{ℕ, ◌+◌}

-- a transaction under a label
abbrev released : Live
released = record { number = 1; begin = 0; mode = Serial; accesses = []; place = label (97 ∷ []) }

-- the small image with n of them
abbrev crowded : ℕ → World
crowded n = record (made small) { live = replicate n released }

-- Released transactions count: the 1,025th that would be live is refused, the 1,024th is not.
pub the_last_place_is_taken : (begin_step (crowded 1023) unattached Serial).0 ∷ (begin_step (crowded 1024) unattached Serial).0 ∷ [] ≡ Began 0 ∷ TooManyTx ∷ []
unfolding begin_step
the_last_place_is_taken = refl

-- a transaction of n accesses
abbrev busy : ℕ → Live
busy n = record released { accesses = replicate n (read_access 0) }

-- The 4,097th access is refused, after what its arguments are refused for.
pub the_last_access_is_made :
    (put_step (made small) (busy 4095) 0 0 (1 ∷ [])).0 ∷ (put_step (made small) (busy 4096) 0 0 (1 ∷ [])).0 ∷ (read_step (made small) (busy 4096) 0).0 ∷ []
    ≡ Done ∷ TooManyAccesses ∷ TooManyAccesses ∷ []
unfolding put_step read_step
the_last_access_is_made = refl

-- the small image whose numbers have come to their ends
abbrev spent : World
spent = record (made small) { next = LAST + 1; generation = LAST }

-- No transaction begins, and no half is made, once the number that has to rise is the last one.
pub numbers_that_are_spent :
    (begin_step spent unattached Serial).0 ∷ (switch_step spent 1 (Compacted 0)).0 ∷ (begin_step (record spent { next = LAST }) unattached Serial).0
    ∷ (switch_step (record spent { generation = LAST - 1 }) 1 (Compacted 0)).0 ∷ []
    ≡ Worn ∷ Worn ∷ Began 0 ∷ Compacted 0 ∷ []
unfolding begin_step switch_step
numbers_that_are_spent = refl
