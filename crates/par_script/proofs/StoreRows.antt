-- Lines that call the hash store: one that may be, and ones that are refused.
use Rattle.par_script.proofs.Words.{Entry, ◌≡◌, ℕ, true, List, [], ◌∷◌, ◌++◌, Option, Some, None, ap, length, length-append, map, replicate, refl, sym, ◌∙◌, arith, AllByRecursion, length-map, Ok, Err, Access, Geometry, Serial, Snapshot, Reply, Array, zeros, keys_mark, get_program, got, walk, walk_of, bucket_of, is_linked, block_at, create_program, file_move_step, file_new_step, file_read_step, hash_area, hash_get_step, step, store_step, Done, look_access, then_do, Cause, CallsStore, Does, Fetched, Own, StopsBy, answer, blocks_read, fetches, own_after, refused_fetch}
use Rattle.script_model.specs.declared.script.Op.TheVariants as op
use Rattle.script_model.specs.declared.script.Reply.TheVariants as reply
use Rattle.iso_shared.specs.declared.entry.Call.TheVariants as call
use Rattle.iso_shared.specs.declared.entry.Cause.TheVariants as cause
use Rattle.iso_shared.specs.declared.entry.Entry.TheVariants as entry
use Rattle.script_model.specs.declared.stop.Stop.TheVariants as stop

-- eight blocks, of which the first three are a hash store with one bucket
abbrev stores : Geometry
stores = record { block = 256; blocks = 8; log = 4096; mode = Serial; hash = 3; tree = 0; form = 1 }

abbrev key : List ℕ
key = 97 ∷ []

abbrev before : Own
before = record { number = 1; begin = 0; mode = Serial; accesses = [] }

-- the read of the bucket's block
abbrev look : Access
look = look_access 1 (keys_mark 256 ∷ [])

abbrev after : Own
after = record before { accesses = look ∷ [] }

abbrev empty : List ℕ
empty = replicate 256 0

bucket_is : (text : List ℕ) → bucket_of (hash_area stores) text ≡ 0
unfolding bucket_of
bucket_is text = omega arith

program_is : get_program (hash_area stores) key ≡ then_do (walk_of (hash_area stores) key 0 true) (λ w. Done (got (hash_area stores) w))
unfolding get_program walk
program_is = ap (λ (b : ℕ). then_do (walk_of (hash_area stores) key b true) (λ w. Done (got (hash_area stores) w))) (bucket_is key)

-- over an empty block of the bucket there is no such key
missing : (B : Array) → block_at B 1 ≡ empty → answer stores B (Some before) (op.HashGet key) ≡ reply.Missing
unfolding step hash_get_step store_step is_linked
missing B has = rw program_is (rw has refl)

reads_once : (B : Array) → block_at B 1 ≡ empty → own_after stores B (Some before) (op.HashGet key) ≡ Some after
unfolding step hash_get_step store_step is_linked
reads_once B has = rw program_is (rw has refl)

gets : CallsStore stores true before (op.HashGet key) (entry.Fetch 1 1 empty ∷ []) (Ok reply.Missing) (Some after)
gets = record {
  fetched = (1, empty) ∷ [];
  refused = None;
  done = look ∷ [];
  are = refl;
  stops = tt;
  reads = refl;
  left = refl;
  told = λ tells. record {
    array = zeros 256 8;
    has = (refl, tt);
    reply = sym (missing (zeros 256 8) refl);
    leaves = sym (reads_once (zeros 256 8) refl);
  };
}

-- a client of a store makes one line of it
gets_so : Does stores true (Some before) (op.HashGet key) (entry.Fetch 1 1 empty ∷ []) (Ok reply.Missing) (Some after)
gets_so = gets

-- a fault stops the client, and the accesses so far stay
stops : Does stores true (Some before) (op.HashGet key) (entry.Refused (call.Fetch 1 1) (cause.Disk 0 1) ∷ []) (Err stop.Disk) (Some before)
stops = record {
  fetched = [];
  refused = Some (1, cause.Disk 0 1);
  done = [];
  are = refl;
  stops = refl;
  reads = refl;
  left = refl;
  told = λ tells. tt;
}

-- a transaction that is not serial, and an image without a store, are answered without an entry
not_serial : Does stores true (Some (record before { mode = Snapshot })) (op.HashGet key) [] (Ok reply.StoreMode) (Some (record before { mode = Snapshot }))
unfolding step hash_get_step
not_serial = (refl, refl, refl)

no_store : Does (record stores { hash = 0 }) true (Some before) (op.HashGet key) [] (Ok reply.NoStore) (Some before)
unfolding step hash_get_step
no_store = (refl, refl, refl)

-- sixteen blocks: a tree store for the names of files, and the files after it
abbrev files : Geometry
files = record stores { blocks = 16; hash = 0; tree = 4 }

-- a name needs a byte: that is known before anything is read
no_name : Does files true (Some before) (op.FileNew []) [] (Ok reply.BadName) (Some before)
unfolding step file_new_step store_step create_program
no_name = record {
  fetched = [];
  refused = None;
  done = [];
  are = refl;
  stops = tt;
  reads = refl;
  left = refl;
  told = λ tells. record { array = []; has = tt; reply = refl; leaves = refl };
}

no_files : Does (record files { tree = 0 }) true (Some before) (op.FileRead key 0 1) [] (Ok reply.NoStore) (Some before)
unfolding step file_read_step
no_files = (refl, refl, refl)

not_serial_files : Does files true (Some (record before { mode = Snapshot })) (op.FileMove key key) [] (Ok reply.StoreMode) (Some (record before { mode = Snapshot }))
unfolding step file_move_step
not_serial_files = (refl, refl, refl)

-- What is refused: a value where there is none, a fetch too many, and one that is missing.
answered_by : (refused : Option (ℕ × Cause)) (said : Reply) → StopsBy refused (Ok said) → refused ≡ None
answered_by None said stops = refl
answered_by (Some (b, cause.Down)) said stops = absurd (cc stops)
answered_by (Some (b, cause.Disk earlier now)) said stops = absurd (cc stops)
answered_by (Some (b, why)) said stops = absurd stops

abbrev accesses_in : Option Own → List Access
accesses_in None = []
accesses_in (Some o) = o.accesses

-- an array with the bytes of this one fetch has the empty block
one_fetch : (B : Array) (fetched : Fetched) → entry.Fetch 1 1 empty ∷ [] ≡ fetches 1 fetched ++ [] → AllByRecursion (λ f. block_at B f.0 ≡ f.1) fetched → block_at B 1 ≡ empty
one_fetch B [] are has = absurd (cc are)
one_fetch B (f ∷ fetched) are has =
    let block : 1 ≡ f.0 = cc are in
    let bytes : empty ≡ f.1 = cc are in
    ap (block_at B) block ∙ has.0 ∙ sym bytes

found_nothing : (value : List ℕ) → CallsStore stores true before (op.HashGet key) (entry.Fetch 1 1 empty ∷ []) (Ok (reply.Found value)) (Some after) → ⊥
found_nothing value calls =
    let told = calls.told refl in
    let none = answered_by calls.refused (reply.Found value) calls.stops in
    let has = one_fetch told.array calls.fetched (calls.are ∙ ap (λ r. fetches 1 calls.fetched ++ refused_fetch 1 r) none) told.has in
    absurd (cc (told.reply ∙ missing told.array has))

-- as many entries as fetches, of which there is one
counts : (n : ℕ) (fetched : Fetched) → 1 ≡ length (map (λ f. f.0) fetched) → n ≡ length (fetches 1 fetched ++ []) → n ≡ 1
counts n fetched one all =
    let a : length (fetches 1 fetched) ≡ length fetched = length-map fetched (λ f. entry.Fetch 1 f.0 f.1) in
    let b : length (map (λ f. f.0) fetched) ≡ length fetched = length-map fetched (λ f. f.0) in
    omega (arith, a, b, one, all, length-append (fetches 1 fetched) [])

-- the call read one block, and so it made one fetch
fetched_once : (es : List Entry) → CallsStore stores true before (op.HashGet key) es (Ok reply.Missing) (Some after) → length es ≡ 1
fetched_once es calls =
    let none = answered_by calls.refused reply.Missing calls.stops in
    let all = ap length (calls.are ∙ ap (λ r. fetches 1 calls.fetched ++ refused_fetch 1 r) none) in
    let done : look ∷ [] ≡ calls.done = ap (λ (o : Option Own). accesses_in o) calls.left in
    let count : 1 ≡ length (map (λ f. f.0) calls.fetched) = ap (λ l. length (blocks_read l)) done ∙ ap length calls.reads in
    counts (length es) calls.fetched count all

-- a fetch that no read made
twice : CallsStore stores true before (op.HashGet key) (entry.Fetch 1 1 empty ∷ entry.Fetch 1 1 empty ∷ []) (Ok reply.Missing) (Some after) → ⊥
twice calls = let wrong : 2 ≡ 1 = fetched_once _ calls in absurd (omega (arith, wrong))

-- a read that no fetch made
never : CallsStore stores true before (op.HashGet key) [] (Ok reply.Missing) (Some after) → ⊥
never calls = let wrong : 0 ≡ 1 = fetched_once _ calls in absurd (omega (arith, wrong))

-- a fault of the disk stops a client at a fetch that was refused so, and nowhere else
no_fault_unfetched : StopsBy None (Err stop.Disk) → ⊥
no_fault_unfetched by = by
