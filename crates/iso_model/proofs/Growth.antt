-- An empty history is one of its image, and so is one with a commit more.
use Rattle.iso_model.proofs.{Words.{ap, ◌∙◌, inl, inr, ℕ, List, [], ◌∷◌, ◌++◌, length, arith, replicate, AllByRecursion, cases_lt, length-replicate, get_or-replicate, get_or_past, Commit, Geometry, History, empty_history, block_at, AreAccesses, AreBytes, IsHistory, appended}, ByteLists.replicate_bytes}

-- a block of zeros has bytes, and so has none
zero_bytes : (n size b : ℕ) → AreBytes (block_at (replicate n (replicate {A = ℕ} size 0)) b)
zero_bytes n size b = elim (cases_lt b n) [
  | inl below ↦ rw (get_or-replicate n b (replicate {A = ℕ} size 0) [] below) (replicate_bytes size 0 (omega arith))
  | inr past ↦ rw (get_or_past (replicate n (replicate {A = ℕ} size 0)) b [] (omega (arith, length-replicate n (replicate {A = ℕ} size 0)))) (λ i. omega arith)
]

pub empty_is : (g : Geometry) → IsHistory g (empty_history g)
empty_is g = record {
  first = omega arith;
  base = record {
    blocks = length-replicate g.blocks (replicate g.block 0);
    bytes = λ b below. ap length (get_or-replicate g.blocks b (replicate g.block 0) [] below) ∙ length-replicate g.block 0;
    values = λ b. zero_bytes g.blocks g.block b;
  };
  commits = tt;
}

pub all_push : {X : Type 0} (P : X → Type 0) (xs : List X) (y : X) → AllByRecursion P xs → P y → AllByRecursion P (xs ++ y ∷ [])
all_push P [] y all is = (is, tt)
all_push P (x ∷ xs) y all is = (all.0, all_push P xs y all.1 is)

pub all_weaker : {X : Type 0} (P Q : X → Type 0) → ((x : X) → P x → Q x) → (xs : List X) → AllByRecursion P xs → AllByRecursion Q xs
all_weaker P Q weaker [] all = tt
all_weaker P Q weaker (x ∷ xs) all = (weaker x all.0, all_weaker P Q weaker xs all.1)

pub both_of : {X : Type 0} (P Q R : X → Type 0) → ((x : X) → P x → Q x → R x) → (xs : List X) → AllByRecursion P xs → AllByRecursion Q xs → AllByRecursion R xs
both_of P Q R both [] first second = tt
both_of P Q R both (x ∷ xs) first second = (both x first.0 second.0, both_of P Q R both xs first.1 second.1)

pub appended_is : (g : Geometry) (H : History) (c : Commit) → IsHistory g H → AreAccesses g c.accesses → IsHistory g (appended H c)
appended_is g H c is all = grind (arith, all_push)
