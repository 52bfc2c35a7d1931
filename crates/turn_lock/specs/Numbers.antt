-- Which numbers are out in a list of entries, and which of them a pass holds.
use Rattle.std.specs.{Prelude.{◌≡◌, ℕ, ◌<◌, ◌==◌, Bool, true, false, not, cond, List, [], ◌∷◌, ◌++◌, Option, filter, option_to_list}, List.{AllByRecursion, list_any}}
use Rattle.turn_lock.specs.Lists.{times}

-- whether n is one of these numbers
abbrev pub is_among : ℕ → List ℕ → Bool
is_among n ms = list_any (λ m. m == n) ms

module _ {E : Type 0} (hands : E → Option ℕ) (takes : E → List ℕ) where
  -- whether n is out after an entry
  abbrev pub out_next : ℕ → Bool → E → Bool
  out_next n before e = cond (is_among n (option_to_list (hands e))) true (cond (is_among n (takes e)) false before)

  -- the same after a list of entries
  abbrev pub out_from : ℕ → Bool → List E → Bool
  out_from n before [] = before
  out_from n before (e ∷ es) = out_from n (out_next n before e) es

  abbrev pub is_out : ℕ → List E → Bool
  is_out n es = out_from n false es

  -- n was handed out, and was not taken back since
  abbrev pub IsOut : ℕ → List E → Type 0
  IsOut n es = is_out n es ≡ true

  -- each of these numbers is out
  abbrev pub AreOut : List ℕ → List E → Type 0
  AreOut ms es = AllByRecursion (λ m. IsOut m es) ms

  -- none of these numbers is out
  abbrev pub AreFree : List ℕ → List E → Type 0
  AreFree ms es = AllByRecursion (λ m. is_out m es ≡ false) ms

-- each of these numbers is in the list
abbrev pub AreHeld : List ℕ → List ℕ → Type 0
AreHeld ms ns = AllByRecursion (λ m. 0 < times m ns) ms

-- the list without these numbers
abbrev pub without : List ℕ → List ℕ → List ℕ
without [] ns = ns
without (m ∷ ms) ns = filter (λ n. not (n == m)) (without ms ns)

-- what a pass holds after an entry of its own
abbrev pub held_after : {E : Type 0} → (hands : E → Option ℕ) (takes : E → List ℕ) → E → List ℕ → List ℕ
held_after hands takes e ns = option_to_list (hands e) ++ without (takes e) ns
