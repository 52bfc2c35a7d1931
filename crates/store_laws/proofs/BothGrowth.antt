-- A transaction grows by calls of two stores and by other accesses.
use Rattle.store_laws.proofs.{Words.{arith, ◌≡◌, ◌⊎◌, ◌∙◌, sym, refl, ap, subst, List, [], ◌∷◌, ◌++◌, append_assoc, append-nil, Some, Access, Commit, Serial, Array, own, History, array_at, added_is, own_append, HasRead, IsLocalCall, Tx, added, with_accesses, AreMixed, First, IsOfBoth, Mixed, MixedParts, Neither, Second, firsts, seconds, IsMadeOfBoth, accesses_in, calls_in, MapStore, SpareRegion}, Growth.reads_spare}

module _ (s t : MapStore) where
  abbrev pub accesses_of_all : MixedParts s t → List Access
  accesses_of_all parts = accesses_in (firsts parts)

  -- the accesses of parts, and of parts after them
  pub mixed_append : (parts more : MixedParts s t) → accesses_of_all (parts ++ more) ≡ accesses_of_all parts ++ accesses_of_all more
  mixed_append [] more = refl
  mixed_append (First call accesses answer ∷ parts) more =
      ap (λ (rest : List Access). accesses ++ rest) (mixed_append parts more) ∙ sym (append_assoc accesses (accesses_of_all parts) (accesses_of_all more))
  mixed_append (Second call accesses answer ∷ parts) more =
      ap (λ (rest : List Access). accesses ++ rest) (mixed_append parts more) ∙ sym (append_assoc accesses (accesses_of_all parts) (accesses_of_all more))
  mixed_append (Neither accesses ∷ parts) more =
      ap (λ (rest : List Access). accesses ++ rest) (mixed_append parts more) ∙ sym (append_assoc accesses (accesses_of_all parts) (accesses_of_all more))

  further : (A : Array) (accesses : List Access) (parts more : MixedParts s t) → AreMixed s t (own A (accesses ++ accesses_of_all parts)) more → AreMixed s t (own (own A accesses) (accesses_of_all parts)) more
  further A accesses parts more then = subst (λ (B : Array). AreMixed s t B more) (own_append A accesses (accesses_of_all parts)) then

  pub made_append : (A : Array) (parts more : MixedParts s t) → AreMixed s t A parts → AreMixed s t (own A (accesses_of_all parts)) more → AreMixed s t A (parts ++ more)
  made_append A [] more made then = then
  made_append A (First call accesses answer ∷ parts) more made then = (made.0, made.1, made_append (own A accesses) parts more made.2 (further A accesses parts more then))
  made_append A (Second call accesses answer ∷ parts) more made then = (made.0, made.1, made_append (own A accesses) parts more made.2 (further A accesses parts more then))
  made_append A (Neither accesses ∷ parts) more made then = (made.0, made.1, made_append (own A accesses) parts more made.2 (further A accesses parts more then))

  pub both_begun : (A : Array) (x : Tx) → x.base ≡ Some A → x.accesses ≡ [] → IsMadeOfBoth s t A x []
  both_begun A x base none = record { base = base; are = sym none; made = tt }

  grown : (A : Array) (x y : Tx) (parts : MixedParts s t) (part : Mixed s.Call s.Answer t.Call t.Answer) (done : List Access) → IsMadeOfBoth s t A x parts → y ≡ with_accesses x done
      → accesses_of_all (part ∷ []) ≡ done → AreMixed s t (own A x.accesses) (part ∷ []) → IsMadeOfBoth s t A y (parts ++ part ∷ [])
  grown A x y parts part done is more has made = grind (arith, mixed_append, made_append) steps 100000

  pub first_called : (A : Array) (x y : Tx) (parts : MixedParts s t) (call : s.Call) (answer : s.Answer) (done : List Access) → IsMadeOfBoth s t A x parts → y ≡ with_accesses x done
      → IsLocalCall s.IsWellFormed s.map_of (s.act call) x y answer → SpareRegion t (added x y) → IsMadeOfBoth s t A y (parts ++ First call (added x y) answer ∷ [])
  first_called A x y parts call answer done is more local spare =
      grown A x y parts (First call (added x y) answer) done is more (append-nil (added x y) ∙ added_is x y done more) (local A is.base, spare, tt)

  pub second_called : (A : Array) (x y : Tx) (parts : MixedParts s t) (call : t.Call) (answer : t.Answer) (done : List Access) → IsMadeOfBoth s t A x parts → y ≡ with_accesses x done
      → IsLocalCall t.IsWellFormed t.map_of (t.act call) x y answer → SpareRegion s (added x y) → IsMadeOfBoth s t A y (parts ++ Second call (added x y) answer ∷ [])
  second_called A x y parts call answer done is more local spare =
      grown A x y parts (Second call (added x y) answer) done is more (append-nil (added x y) ∙ added_is x y done more) (local A is.base, spare, tt)

  pub both_other : (A : Array) (x y : Tx) (parts : MixedParts s t) (done : List Access) → IsMadeOfBoth s t A x parts → y ≡ with_accesses x done → SpareRegion s done → SpareRegion t done
      → IsMadeOfBoth s t A y (parts ++ Neither done ∷ [])
  both_other A x y parts done is more one two = grown A x y parts (Neither done) done is more (append-nil done) (one, two, tt)

  pub both_refused : (A : Array) (x y : Tx) (parts : MixedParts s t) → IsMadeOfBoth s t A x parts → (read : HasRead x y) → IsMadeOfBoth s t A y (parts ++ Neither read.done ∷ [])
  both_refused A x y parts is read = both_other A x y parts read.done is read.is (reads_spare s read.done read.reads) (reads_spare t read.done read.reads)

  pub both_committed : (H : History) (c : Commit) (x : Tx) (parts : MixedParts s t) → IsMadeOfBoth s t (array_at H c.begin) x parts → x.accesses ≡ c.accesses
      → ((calls_in (firsts parts) ≡ []) × (calls_in (seconds parts) ≡ [])) ⊎ (c.mode ≡ Serial) → IsOfBoth s t H c
  both_committed H c x parts is same mode = record { parts = parts; are = is.are ∙ same; made = is.made; mode = mode }
