-- The commits that the reply to a group tells are among those of the world after it.
use Rattle.script_runner.proofs.Words.{◌≡◌, ◌⊎◌, sym, refl, subst, ℕ, ◌+◌, ◌<◌, ◌≤◌, List, [], ◌∷◌, length, Option, Some, None, inl, inr, arith, length-append, same_Some, GroupReply, Follow, ahead, decided, found_ones, group, group_is, group_step, label_replies, leave_all, looks, looks_history, made_by, member_reply, numbers_told, consecutive, History, last, after_leaving, end_step, World, Live, IsAmongGrouped}
use Rattle.iso_model.specs.declared.access.GroupReply.TheVariants as member

-- one of the numbers
abbrev IsOneOf : ℕ → List ℕ → Type 0
IsOneOf n [] = ⊥
IsOneOf n (m ∷ numbers) = (m ≡ n) ⊎ IsOneOf n numbers

-- a number of those that follow m without a gap
within : (n m : ℕ) (numbers : List ℕ) → Follow m numbers → IsOneOf n numbers → n ≤ m + length numbers
within n m [] follow one = absurd one
within n m (k ∷ numbers) follow (inl same) = omega (arith, same, follow.0)
within n m (k ∷ numbers) follow (inr later) = let rest = within n k numbers follow.1 later in omega (arith, rest, follow.0)

-- as many commits are made as are told
made_count : (t : Live) (answer : GroupReply) (replies : List GroupReply) → length (numbers_told (answer ∷ replies)) ≡ length (made_by t answer) + length (numbers_told replies)
made_count t answer replies = grind arith

decided_count : (W : World) (members : List Live) → 0 < W.history.first → last (decided W members).1.history ≡ last W.history + length (numbers_told (decided W members).0)
decided_count W [] first = omega arith
decided_count W (t ∷ members) first =
    let answer : GroupReply = member_reply (end_step W t).0 in
    let rest = decided_count (ahead W (made_by t answer)) members first in
    let count = made_count t answer (decided (ahead W (made_by t answer)) members).0 in
    let longer = length-append W.history.commits (made_by t answer) in
    omega (arith, first, rest, count, longer)

left_history : (members : List Live) (W : World) → (leave_all members W).history ≡ W.history
left_history [] W = refl
left_history (t ∷ members) W = left_history members (after_leaving W t)

group_count : (W : World) (members : List Live) → 0 < W.history.first → last (group W members).1.history ≡ last W.history + length (numbers_told (group W members).0)
group_count W members first = grind (arith, group_is, left_history, decided_count)

-- the numbers that labels are told are numbers of the group
told_first : (n : ℕ) (answer : GroupReply) (replies : List GroupReply) → answer ≡ member.Committed n → IsOneOf n (numbers_told (answer ∷ replies))
told_first n answer replies is = subst (λ (a : GroupReply). IsOneOf n (numbers_told (a ∷ replies))) (sym is) (inl refl)

told_later : (n : ℕ) (answer : GroupReply) (replies : List GroupReply) → IsOneOf n (numbers_told replies) → IsOneOf n (numbers_told (answer ∷ replies))
told_later n (member.Committed number) replies one = inr one
told_later n x replies one = one

told_to_labels : (n : ℕ) (found : List (Option Live)) (replies : List GroupReply) → IsAmongGrouped n (label_replies found replies) → IsOneOf n (numbers_told replies)
told_to_labels n [] replies told = absurd told
told_to_labels n (None ∷ found) replies (inl none) = cc
told_to_labels n (None ∷ found) replies (inr later) = told_to_labels n found replies later
told_to_labels n (Some t ∷ found) [] (inl none) = cc
told_to_labels n (Some t ∷ found) [] (inr later) = told_to_labels n found [] later
told_to_labels n (Some t ∷ found) (answer ∷ replies) (inl is) = told_first n answer replies (same_Some answer (member.Committed n) is)
told_to_labels n (Some t ∷ found) (answer ∷ replies) (inr later) = told_later n answer replies (told_to_labels n found replies later)

pub group_kept : (W : World) (texts : List (List ℕ)) (n : ℕ) → 0 < W.history.first → IsAmongGrouped n (group_step W texts).0 → n ≤ last (group_step W texts).1.history
unfolding group_step
group_kept W texts n first told =
    let U : World = (looks W texts).1 in
    let members : List Live = found_ones (looks W texts).0 in
    let begins : 0 < U.history.first = subst (λ (H : History). 0 < H.first) (sym (looks_history texts W)) first in
    let below = within n (last U.history) (numbers_told (group U members).0) (consecutive U members begins) (told_to_labels n (looks W texts).0 (group U members).0 told) in
    omega (arith, below, group_count U members begins)
