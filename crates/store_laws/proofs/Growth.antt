-- A transaction grows by calls of a store and by other accesses.
use Rattle.store_laws.proofs.Words.{arith, ◌≡◌, ◌∙◌, sym, refl, ap, subst, List, [], ◌∷◌, ◌++◌, append_assoc, append-nil, Some, both_ways, Access, Array, is_write, own, AreReads, HasRead, IsLocalCall, Tx, added, with_accesses, IsMadeOf, AreMade, Called, Other, Part, accesses_in, SpareRegion, MapStore, added_is, own_append}

-- the accesses of parts, and of parts after them
pub accesses_append : (s : MapStore) (parts more : List (Part s.Call s.Answer)) → accesses_in (parts ++ more) ≡ accesses_in parts ++ accesses_in more
accesses_append s [] more = refl
accesses_append s (Called call accesses answer ∷ parts) more =
    ap (λ (rest : List Access). accesses ++ rest) (accesses_append s parts more) ∙ sym (append_assoc accesses (accesses_in parts) (accesses_in more))
accesses_append s (Other accesses ∷ parts) more =
    ap (λ (rest : List Access). accesses ++ rest) (accesses_append s parts more) ∙ sym (append_assoc accesses (accesses_in parts) (accesses_in more))

pub made_append : (s : MapStore) (A : Array) (parts more : List (Part s.Call s.Answer)) → AreMade s A parts → AreMade s (own A (accesses_in parts)) more → AreMade s A (parts ++ more)
made_append s A [] more made then = then
made_append s A (Called call accesses answer ∷ parts) more made then =
    (made.0, made_append s (own A accesses) parts more made.1 (subst (λ (B : Array). AreMade s B more) (own_append A accesses (accesses_in parts)) then))
made_append s A (Other accesses ∷ parts) more made then =
    (made.0, made_append s (own A accesses) parts more made.1 (subst (λ (B : Array). AreMade s B more) (own_append A accesses (accesses_in parts)) then))

pub begun : (s : MapStore) (A : Array) (t : Tx) → t.base ≡ Some A → t.accesses ≡ [] → IsMadeOf s A t []
begun s A t base none = record { base = base; are = sym none; made = tt }

grown : (s : MapStore) (A : Array) (t u : Tx) (parts : List (Part s.Call s.Answer)) (part : Part s.Call s.Answer) (done : List Access) → IsMadeOf s A t parts → u ≡ with_accesses t done
    → accesses_in (part ∷ []) ≡ done → AreMade s (own A t.accesses) (part ∷ []) → IsMadeOf s A u (parts ++ part ∷ [])
grown s A t u parts part done is further has made = grind (arith, accesses_append, made_append) steps 100000

pub called : (s : MapStore) (A : Array) (t u : Tx) (parts : List (Part s.Call s.Answer)) (call : s.Call) (answer : s.Answer) (done : List Access) → IsMadeOf s A t parts → u ≡ with_accesses t done
    → IsLocalCall s.IsWellFormed s.map_of (s.act call) t u answer → IsMadeOf s A u (parts ++ Called call (added t u) answer ∷ [])
called s A t u parts call answer done is further local =
    grown s A t u parts (Called call (added t u) answer) done is further (append-nil (added t u) ∙ added_is t u done further) (local A is.base, tt)

pub other : (s : MapStore) (A : Array) (t u : Tx) (parts : List (Part s.Call s.Answer)) (done : List Access) → IsMadeOf s A t parts → u ≡ with_accesses t done
    → SpareRegion s done → IsMadeOf s A u (parts ++ Other done ∷ [])
other s A t u parts done is further spare = grown s A t u parts (Other done) done is further (append-nil done) (spare, tt)

pub reads_spare : (s : MapStore) (accesses : List Access) → AreReads accesses → SpareRegion s accesses
reads_spare s [] reads = tt
reads_spare s (a ∷ accesses) reads = (λ write. absurd (both_ways (is_write a) reads.0 write), reads_spare s accesses reads.1)

pub refused : (s : MapStore) (A : Array) (t u : Tx) (parts : List (Part s.Call s.Answer)) → IsMadeOf s A t parts → (read : HasRead t u) → IsMadeOf s A u (parts ++ Other read.done ∷ [])
refused s A t u parts is read = other s A t u parts read.done is read.is (reads_spare s read.done read.reads)
