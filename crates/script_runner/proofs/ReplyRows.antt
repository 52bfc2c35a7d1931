-- What no run puts of the script of the tests, whatever its disk tells.
use Rattle.script_runner.proofs.{Words.{◌≡◌, ◌∙◌, ℕ, false, List, [], ◌∷◌, ◌++◌, Some, None, ap, subst, get_or, arith, codes, digits, DiskState, SinkState, World, Line, End, Reply, reply_text, Done, rehearsed, AreRepliesTo, text_of, Answered, SameButShown}, Rehearsals.second_end}
use Rattle.script_model.specs.declared.script.Reply.TheVariants as reply

-- the line that makes the first commit
abbrev ending : List (ℕ × Line)
ending = (5, record { client = 1; op = End }) ∷ []

-- a reply that is a commit's but for the bytes shown is that commit's
same_commit : (r : Reply) (n : ℕ) → SameButShown r (reply.Committed n) → r ≡ reply.Committed n
same_commit (reply.Shown bytes) n same = same
same_commit r n same = same

is_first : (r : Reply) (V : World) → AreRepliesTo (rehearsed 4) ending (r ∷ []) V → r ≡ reply.Committed 1
is_first r V are = same_commit r 1 (subst (SameButShown r) (ap (λ x. x.0) second_end) (are.1.plain tt).0)

abbrev told_text : List ℕ → SinkState
told_text text = record { written = Some text; faults = 0; refusals = 0; is_broken = false }

abbrev other_text : List ℕ
other_text = codes "1 ok commit 2" ++ 10 ∷ []

other_is_not : other_text ≡ text_of ending (reply.Committed 1 ∷ []) → ⊥
unfolding reply_text digits
other_is_not same = let byte : 50 ≡ 49 = ap (λ (text : List ℕ). get_or text 12 0) same in absurd (omega (arith, byte))

not_given : (given : List Reply) (V : World) → AreRepliesTo (rehearsed 4) ending given V → other_text ≡ text_of ending given → ⊥
not_given [] V are same = are
not_given (r ∷ []) V are same = other_is_not (same ∙ ap (λ (x : Reply). text_of ending (x ∷ [])) (is_first r V are))
not_given (r ∷ s ∷ rest) V are same = are.2

-- the first commit is told as commit 1, and as no other, also where the disk tells nothing
not_commit_two : (stands : World → Type 0) (d e : DiskState) → d.contents ≡ None → Answered stands d e (told_text []) (told_text other_text) (rehearsed 4) Done ending [] → ⊥
not_commit_two stands d e untold a = grind (arith, not_given)
