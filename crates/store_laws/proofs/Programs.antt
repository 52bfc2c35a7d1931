-- A program writes in the blocks of a store.
use Rattle.store_laws.proofs.Words.{◌≡◌, refl, subst, false, List, [], ◌∷◌, Some, Result, Ok, both_ways, Access, StoreError, Array, put, is_write, own, block_at, AreReads, Done, Look, LookWhole, Program, Reserve, Store, accesses_of, bytes_in, further_bytes, store_access, whole_run, HasEnded, Tx, added, StoresIn, MapStore, SpareRegion, ShareNoBlock, WriteWithin}

pub writes_within : {R : Type 0} (s : MapStore) (p : Program R) (A : Array) → StoresIn s.has_block p → WriteWithin s (accesses_of p A)
writes_within s (Done r) A stores = tt
writes_within s (Look block mark further next) A stores =
    let x = bytes_in mark (block_at A block) in
    let y = further_bytes (further x) (block_at A block) in
    (λ write. absurd (both_ways false refl write), writes_within s (next x y) A (stores x y))
writes_within s (LookWhole block next) A stores = (λ write. absurd (both_ways false refl write), writes_within s (next (block_at A block)) A (stores (block_at A block)))
writes_within s (Reserve count next) A stores = writes_within s next A stores
writes_within s (Store block spans bytes next) A stores = (λ write. stores.0, writes_within s next (put A (store_access block spans bytes)) stores.1)

-- what a call that answered Ok wrote, by its program
ended_as : {X : Type 0} (s : MapStore) (p : Program (Result X StoreError)) (A : Array) (t u : Tx) (r : X) → ((B : Array) → WriteWithin s (accesses_of p B)) → t.base ≡ Some A → HasEnded p t u (Ok r)
    → WriteWithin s (added t u)
ended_as s p A t u r within base ended =
    subst (λ (accesses : List Access). WriteWithin s accesses) (whole_run p t u (Ok r) ended A base).accesses_are (within (own A t.accesses))

pub ended_within : {X : Type 0} (s : MapStore) (p : Program (Result X StoreError)) (A : Array) (t u : Tx) (r : X) → StoresIn s.has_block p → t.base ≡ Some A → HasEnded p t u (Ok r)
    → WriteWithin s (added t u)
ended_within s p A t u r stores = ended_as s p A t u r (λ B. writes_within s p B stores)

pub reads_within : (s : MapStore) (accesses : List Access) → AreReads accesses → WriteWithin s accesses
reads_within s [] reads = tt
reads_within s (a ∷ accesses) reads = (λ write. absurd (both_ways (is_write a) reads.0 write), reads_within s accesses reads.1)

-- a call that reads alone writes no block outside of the store
pub read_within : {X : Type 0} (s : MapStore) (p : Program (Result X StoreError)) (A : Array) (t u : Tx) (r : X) → ((B : Array) → AreReads (accesses_of p B)) → t.base ≡ Some A → HasEnded p t u (Ok r)
    → WriteWithin s (added t u)
read_within s p A t u r reads = ended_as s p A t u r (λ B. reads_within s (accesses_of p B) (reads B))

-- what is written in one region is not written in the other
pub spare_where_apart : (s t : MapStore) (accesses : List Access) → ShareNoBlock s t → WriteWithin s accesses → SpareRegion t accesses
spare_where_apart s t [] apart within = tt
spare_where_apart s t (a ∷ accesses) apart within = (λ write. apart a.block (within.0 write), spare_where_apart s t accesses apart within.1)
