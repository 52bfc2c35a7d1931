-- What is asked of a store beside the hash store, so that the lines of a script tell its calls.
use Rattle.store_scripts.proofs.Words.{IsPlain, ◌≡◌, ℕ, IsTrue, None, option_map, List, Access, Geometry, Op, HashPut, HashGet, HashDelete, Reply, Array, is_valid, IsLocal, Del, MapStore, SpareRegion, IsOfItsBlocks, ShareNoBlock, CallsStore, Answered, OfHash, OfSecond, answered, SecondStore, del_answer, get_answer, image_hash, put_answer, second_store, GetKey, PutKey}
use Rattle.script_model.specs.declared.script.Reply.TheVariants as reply

-- It depends on its blocks alone, which are none of the hash store; its calls and those of the hash store are all that is told of
-- operations.
pub record IsSecond (S : SecondStore) : Type 0 where
  pub blocks : (g : Geometry) → IsTrue (is_valid g) → IsOfItsBlocks (second_store S g)
  pub apart : (g : Geometry) → IsTrue (is_valid g) → ShareNoBlock (image_hash g) (second_store S g)
  pub quiet : (op : Op) → IsPlain op → (r : Reply) → S.answered op r ≡ None
  pub refused : (op : Op) → CallsStore op → (r : Reply) → answered op r ≡ None → S.answered op r ≡ None
  pub outside : (op : Op) → S.answered op reply.NotInTx ≡ None
  pub hash_put : (key value : List ℕ) (r : Reply) → S.answered (HashPut key value) r ≡ option_map (OfHash (PutKey key value)) (put_answer r)
  pub hash_get : (key : List ℕ) (r : Reply) → S.answered (HashGet key) r ≡ option_map (OfHash (GetKey key)) (get_answer r)
  pub hash_delete : (key : List ℕ) (r : Reply) → S.answered (HashDelete key) r ≡ option_map (OfHash (Del key)) (del_answer r)

-- A call of the store s that answered Ok: local for it with this answer, and it writes no block of the store t.
pub record IsCallOf (s t : MapStore) (call : s.Call) (B : Array) (done : List Access) (answer : s.Answer) : Type 0 where
  pub local : IsLocal s.IsWellFormed s.map_of (s.act call) B done answer
  pub spare : SpareRegion t done

-- it is one of the hash store, or of the second one
abbrev pub IsCall : (S : SecondStore) (g : Geometry) → Answered S.Call S.Answer → (B : Array) (done : List Access) → Type 0
IsCall S g (OfHash call answer) B done = IsCallOf (image_hash g) (second_store S g) call B done answer
IsCall S g (OfSecond call answer) B done = IsCallOf (second_store S g) (image_hash g) call B done answer

-- the refusals of a call are told as such
pub record AreRefusals (S : SecondStore) (E : Type 0) (op : Op) (refusal : E → Reply) : Type 0 where
  pub store : S.answered op reply.NoStore ≡ None
  pub mode : S.answered op reply.StoreMode ≡ None
  pub full : S.answered op reply.TooManyAccesses ≡ None
  pub error : (e : E) → S.answered op (refusal e) ≡ None
