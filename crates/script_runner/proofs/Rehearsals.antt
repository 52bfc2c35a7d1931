-- What the small image answers to the script of the tests.
use Rattle.script_runner.proofs.Words.{◌≡◌, ℕ, ◌+◌, List, [], ◌∷◌, Option, Some, None, false, length, get_or, refl, arith, is_some, Mode, begin_step, commit_step, end_step, Op, Begin, End, Put, Reply, put, clash, runs, put_step, step, World, rehearsed}
use Rattle.script_model.specs.declared.script.Reply.TheVariants as reply

abbrev Answers : (n : ℕ) → (client : ℕ) → Op → Reply → Type 0
Answers n client op r = let both : Reply × World = (r, rehearsed (n + 1)) in step (rehearsed n) client op ≡ both

-- at the values that the code found
pub answers_at : (n done client : ℕ) (op asked : Op) (r : Reply) → done ≡ n → client ≡ 1 → asked ≡ op → Answers n 1 op r → Answers done client asked r
answers_at n done client op asked r at one same answers = grind arith

pub first_begin : Answers 0 1 (Begin None) (reply.Began 0)
unfolding step begin_step
first_begin = refl

pub first_end : Answers 1 1 End reply.ReadOnly
unfolding step begin_step end_step
first_end = refl

pub second_begin : Answers 2 1 (Begin None) (reply.Began 0)
unfolding step begin_step end_step
second_begin = refl

pub one_put : Answers 3 1 (Put 2 5 (171 ∷ 205 ∷ [])) reply.Done
unfolding step begin_step end_step put_step
one_put = refl

pub second_end : Answers 4 1 End (reply.Committed 1)
unfolding put clash runs step begin_step end_step put_step commit_step
second_end = refl

-- two bytes, one by one
pub two_bytes : (xs : List ℕ) (x y : ℕ) → length xs ≡ 2 → get_or xs 0 0 ≡ x → get_or xs 1 0 ≡ y → xs ≡ x ∷ y ∷ []
two_bytes [] x y e first second = absurd (omega arith)
two_bytes (a ∷ []) x y e first second = absurd (omega arith)
two_bytes (a ∷ b ∷ []) x y e first second = λ i. first i ∷ second i ∷ []
two_bytes (a ∷ b ∷ c ∷ xs) x y e first second = absurd (omega arith)

-- no mode
pub no_mode : (mode : Option Mode) → is_some mode ≡ false → mode ≡ None
no_mode None none = refl
no_mode (Some mode) none = cc
