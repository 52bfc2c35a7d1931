-- What the replies to the script of a bench are, by the numbers that are drawn.
use Rattle.std.specs.Prelude.{◌≡◌, ℕ, zero, suc, ◌+◌, ◌*◌, Bool, ◌==◌, if◌then◌else◌, List, [], ◌∷◌}
use Rattle.script_model.specs.{declared.script.Reply.Reply, declared.script.Reply.TheVariants.{Began, Committed, Conflict, Done, Shown}, Bench.{after_draws, nth_drawn}}

-- both places of the round that is drawn from this state are one
abbrev pub is_one_place : (x : ℕ) → Bool
is_one_place x = nth_drawn x 3 16 == nth_drawn x 4 16

-- What the second client's end is answered, after a first commit after this last one: it has read four bytes of the block that the
-- first client wrote, and the byte that this one wrote is among them exactly where both places are one.
abbrev pub second_end : (x last : ℕ) → Reply
second_end x last =
    if is_one_place x then Conflict (record { commit = last + 1; block = nth_drawn x 2 64; at = 4 * nth_drawn x 4 16 })
    else Committed (last + 1 + 1)

-- the last commit after the round, by the last one before it
abbrev pub last_after : (x last : ℕ) → ℕ
last_after x last = if is_one_place x then last + 1 else last + 1 + 1

-- the replies to `count` rounds, drawn from this state, after this last commit: only the bytes that are shown are left open
abbrev pub AreRoundReplies : (count x last : ℕ) → List Reply → Type 0
AreRoundReplies zero x last replies = replies ≡ []
AreRoundReplies (suc count) x last replies =
    (first second : List ℕ) × (more : List Reply)
    × (replies ≡ Began last ∷ Began last ∷ Shown first ∷ Done ∷ Shown second ∷ Done ∷ Committed (last + 1) ∷ second_end x last ∷ more)
    × AreRoundReplies count (after_draws 6 x) (last_after x last) more

-- in how many of the rounds that are drawn from this state both places are one
abbrev pub one_places : (count x : ℕ) → ℕ
one_places zero x = 0
one_places (suc count) x = (if is_one_place x then 1 else 0) + one_places count (after_draws 6 x)
