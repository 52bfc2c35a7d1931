-- The parts of a call: what follows another name of a program, a call of the tree store, a read or a write.
use Rattle.iso_fs.proofs.{Words.{◌≡◌, ◌≢◌, ◌∙◌, refl, ap, ℕ, ◌≤◌, Bool, true, List, [], ◌∷◌, None, Result, Ok, Err, arith, IfErr, Access, Span, Area, StoreError, TxError, FsError, FileAreas, map_mark, Done, LookWhole, Program, AreReads, Store, bytes_in, look_access, store_access, Tx, Device, IsLater, IsTx, with_accesses, AreBytesOf, Ran, IsCause, IsStoreCause, HasEnded, HasRead, Passed, HasAccess, at_look, at_look_whole, at_start, at_store, ran_at, ran_done, cut_at_look, cut_at_store, cut_at_whole, read_more, read_none, read_same, later_same, store_cause, Call, in_tree, look_map, refuse, AreFileAreas, HasAnswered, HasArea, HasRun, IsFsCause, IsPart, may_follow}, Ended.{behaves_after, behaves_behind, done_so, refused_access, refused_so, refused_store, run_from, tree_done, tree_refused, unwritten_tree}}
use Rattle.store_model.specs.declared.stores.StoreError.TheVariants as store
use Rattle.store_model.specs.declared.files.FsError.TheVariants as fs
use Rattle.tx_blocks.specs.Runs as runs

-- THE BLOCKS STAY
pub tree_area : {t : Tx} {a : FileAreas} → AreFileAreas a → HasArea t a.files → HasArea t a.tree
tree_area areas has =
    let size = areas.size in
    let follows = areas.follows in
    let least = has.least in
    let most = has.most in
    let fits = has.fits in
    record { least = omega arith; most = omega arith; size = has.size ∙ size; fits = omega arith }

-- READS
pub read_kept : {t u : Tx} → u ≡ t → HasRead t u
read_kept {t} {u} same = read_same t t u (read_none t) same

pub read_one : {t u : Tx} (a : Access) → u ≡ with_accesses t (a ∷ []) → AreReads (a ∷ []) → HasRead t u
read_one {t} {u} a is read = read_more t t u a (read_none t) is read.0

-- THE SAME PROGRAM BY ANOTHER NAME, AND ITS END
pub part_as : {X : Type 0} {late : Bool} {writes : ℕ} {p q : Call X} {t u : Tx} {before now : Device} {result : Result X FsError} → q ≡ p → IsPart late writes p t u before now result → IsPart late writes q t u before now result
part_as e part = rw e part

pub part_done : {X : Type 0} {late : Bool} {writes : ℕ} {t : Tx} {d : Device} {x : X} → IsPart late writes (Done (Ok x)) t t d d (Ok x)
part_done {writes = writes} {t = t} {d = d} {x = x} = record { run = ran_done (Ok x) t; behaves = done_so t t writes d d x (later_same d d refl) refl }

plain : {X : Type 0} (p : Call X) (t u : Tx) (writes : ℕ) (before now : Device) (e : FsError) → HasAnswered {X = X} (Err e) → Ran p t u (Err e) → Passed before now → HasRun p t u (Err e) × IsFsCause u writes before now e
plain p t u writes before now fs.BadName answered ran passed = (ran, passed)
plain p t u writes before now fs.BadRange answered ran passed = (ran, passed)
plain p t u writes before now fs.Exists answered ran passed = (ran, passed)
plain p t u writes before now (fs.Store store.BadKey) answered ran passed = (ran, passed)
plain p t u writes before now (fs.Store store.BadValue) answered ran passed = (ran, passed)
plain p t u writes before now (fs.Store (store.NoBlocks need free)) answered ran passed = (ran, passed)
plain p t u writes before now (fs.Store (store.Broken block)) answered ran passed = (ran, passed)
plain p t u writes before now (fs.Store (store.Tx e)) answered ran passed = absurd answered
plain p t u writes before now (fs.Store store.Memory) answered ran passed = absurd answered

-- a refusal that is the program's own
pub part_refused : {X : Type 0} {late : Bool} {writes : ℕ} {t : Tx} {d : Device} (e : FsError) → e ≢ fs.BadName → HasAnswered {X = X} (Err e) → IsPart {X = X} late writes (refuse e) t t d d (Err e)
part_refused {writes = writes} {t = t} {d = d} e known answered =
    let own = plain (refuse e) t t writes d d e answered (ran_at (refuse e) t t (Err e) (at_start (refuse e) t)) refl in
    record { run = own.0; behaves = refused_so t t writes d d e (read_none t) own.1 known (later_same d d refl) }

-- AFTER A CALL OF THE TREE STORE
runs_on : {X Y : Type 0} (p : Program (Result X StoreError)) (next : X → Call Y) (t u v : Tx) (x : X) (result : Result Y FsError) → Ran p t u (Ok x) → HasRun (next x) u v result → HasRun (in_tree p next) t v result
runs_on p next t u v x result ran run = run_from (in_tree p next) (next x) t u v result (tree_done (in_tree p next) p next t t u (at_start (in_tree p next) t) x ran) run

-- that only read
pub tree_read : {X Y : Type 0} {late : Bool} {writes : ℕ} {t u v : Tx} {before mid now : Device} {x : X} {result : Result Y FsError} (p : Program (Result X StoreError)) (next : X → Call Y)
    → Ran p t u (Ok x) → HasRead t u → IsLater before mid → Passed before mid → IsPart late writes (next x) u v mid now result → IsPart late writes (in_tree p next) t v before now result
tree_read {writes = writes} {t = t} {u = u} {v = v} {before = before} {mid = mid} {now = now} {x = x} {result = result} p next ran read later passed part =
    record { run = runs_on p next t u v x result ran part.run; behaves = behaves_after t u v writes before mid now result read later passed part.behaves }

-- that wrote
pub tree_wrote : {X Y : Type 0} {late : Bool} {writes : ℕ} {t u v : Tx} {before mid now : Device} {x : X} {result : Result Y FsError} (p : Program (Result X StoreError)) (next : X → Call Y)
    → Ran p t u (Ok x) → IsLater before mid → Passed before mid → IfErr result (λ e. may_follow late e ≡ true) → IsPart late writes (next x) u v mid now result → IsPart late writes (in_tree p next) t v before now result
tree_wrote {writes = writes} {t = t} {u = u} {v = v} {before = before} {mid = mid} {now = now} {x = x} {result = result} p next ran later passed follows part =
    record { run = runs_on p next t u v x result ran part.run; behaves = behaves_behind t u v writes before mid now result follows later passed part.behaves }

-- that was refused, and had written nothing
pub tree_stops : {X Y : Type 0} {late : Bool} {writes : ℕ} {t u : Tx} {before now : Device} {e : StoreError} (p : Program (Result X StoreError)) (next : X → Call Y)
    → HasAccess p → HasEnded p t u (Err e) → HasRead t u → 1 ≤ writes → IsStoreCause u 1 before now e → IsLater before now → IsPart late writes (in_tree p next) t u before now (Err (fs.Store e))
tree_stops {writes = writes} {t = t} {u = u} {before = before} {now = now} {e = e} p next has ended read le cause later = record {
  run = tree_refused (in_tree p next) p next t t u (at_start (in_tree p next) t) e (λ memory. has) ended;
  behaves = refused_so t u writes before now (fs.Store e) read (store_cause u 1 writes before now e le cause) (λ x. cc) later;
}

-- a put that was refused
pub put_stops : {X Y : Type 0} {late : Bool} {t u : Tx} {before now : Device} {e : StoreError} (p : Program (Result X StoreError)) (next : X → Call Y)
    → (e ≡ store.Memory → HasAccess p) → HasEnded p t u (Err e) → runs.IsUnwritten t u 66 e → IsStoreCause u 66 before now e → IsLater before now → IsPart late 66 (in_tree p next) t u before now (Err (fs.Store e))
put_stops {late = late} {t = t} {u = u} {e = e} p next has ended unwritten cause later = record {
  run = tree_refused (in_tree p next) p next t t u (at_start (in_tree p next) t) e has ended;
  behaves = record { leaves = record { cause = cause; unwritten = unwritten_tree late t u e unwritten; later = later; passed = tt }; known = λ x. cc };
}

-- AFTER A READ
pub map_stops : {Y : Type 0} {late : Bool} {writes : ℕ} {t v : Tx} {before now : Device} {e : TxError} (a : Area) (next : List ℕ → Call Y)
    → v ≡ t → 1 ≤ writes → IsCause v 1 before now e → IsLater before now → IsPart late writes (look_map a next) t v before now (Err (fs.Store (store.Tx e)))
map_stops {writes = writes} {t = t} {v = v} {before = before} {now = now} {e = e} a next same le cause later = record {
  run = cut_at_look (look_map a next) a.start (map_mark a.blocks) (λ first. None) (λ first none. next first) t t v before now e (at_start (look_map a next) t) same cause;
  behaves = refused_access t v writes before now e le cause later;
}

pub map_read : {Y : Type 0} {late : Bool} {writes : ℕ} {t u v : Tx} {before mid now : Device} {result : Result Y FsError} (a : Area) (next : List ℕ → Call Y) (bytes : List ℕ) {span : Span}
    → span ≡ map_mark a.blocks → AreBytesOf t a.start bytes → IsTx u → u ≡ with_accesses t (look_access a.start (span ∷ []) ∷ []) → IsLater before mid → Passed before mid
    → IsPart late writes (next (bytes_in (map_mark a.blocks) bytes)) u v mid now result → IsPart late writes (look_map a next) t v before now result
map_read {writes = writes} {t = t} {u = u} {v = v} {before = before} {mid = mid} {now = now} {result = result} a next bytes span_is told tx is later passed part =
    let read : u ≡ with_accesses t (look_access a.start (map_mark a.blocks ∷ []) ∷ []) = is ∙ ap (λ (s : Span). with_accesses t (look_access a.start (s ∷ []) ∷ [])) span_is in
    record {
      run = run_from (look_map a next) (next (bytes_in (map_mark a.blocks) bytes)) t u v result
          (at_look (look_map a next) a.start (map_mark a.blocks) (λ first. None) (λ first none. next first) t t u bytes (at_start (look_map a next) t) told tx.count read) part.run;
      behaves = behaves_after t u v writes before mid now result (read_one _ is (refl, tt)) later passed part.behaves;
    }

pub whole_stops : {Y : Type 0} {late : Bool} {t v : Tx} {before now : Device} {e : TxError} {b : ℕ} {next : List ℕ → Call Y}
    → v ≡ t → IsCause v 1 before now e → IsLater before now → IsPart late 1 (LookWhole b next) t v before now (Err (fs.Store (store.Tx e)))
whole_stops {t = t} {v = v} {before = before} {now = now} {e = e} {b = b} {next = next} same cause later = record {
  run = cut_at_whole (LookWhole b next) b next t t v before now e (at_start (LookWhole b next) t) same cause;
  behaves = refused_access t v 1 before now e (omega arith) cause later;
}

pub whole_read : {Y : Type 0} {late : Bool} {writes : ℕ} {t u v : Tx} {before mid now : Device} {result : Result Y FsError} {b : ℕ} {next : List ℕ → Call Y} (bytes : List ℕ)
    → AreBytesOf t b bytes → IsTx u → u ≡ with_accesses t (look_access b [] ∷ []) → IsLater before mid → Passed before mid → IsPart late writes (next bytes) u v mid now result → IsPart late writes (LookWhole b next) t v before now result
whole_read {writes = writes} {t = t} {u = u} {v = v} {before = before} {mid = mid} {now = now} {result = result} {b = b} {next = next} bytes told tx is later passed part = record {
  run = run_from (LookWhole b next) (next bytes) t u v result (at_look_whole (LookWhole b next) b next t t u bytes (at_start (LookWhole b next) t) told tx.count is) part.run;
  behaves = behaves_after t u v writes before mid now result (read_one _ is (refl, tt)) later passed part.behaves;
}

-- AFTER A WRITE
pub store_stops : {Y : Type 0} {late : Bool} {writes : ℕ} {t v : Tx} {before now : Device} {e : TxError} {b : ℕ} {spans : List Span} {bytes : List ℕ} {next : Call Y}
    → v ≡ t → 1 ≤ writes → IsCause v 1 before now e → now ≡ before → IsPart late writes (Store b spans bytes next) t v before now (Err (fs.Store (store.Tx e)))
store_stops {writes = writes} {t = t} {v = v} {before = before} {now = now} {e = e} {b = b} {spans = spans} {bytes = bytes} {next = next} same le cause device = record {
  run = cut_at_store (Store b spans bytes next) b spans bytes next t t v before now e (at_start (Store b spans bytes next) t) same cause;
  behaves = refused_store t v writes before now e le cause device;
}

pub store_done : {Y : Type 0} {late : Bool} {writes : ℕ} {t u v : Tx} {before mid now : Device} {result : Result Y FsError} {b : ℕ} {spans : List Span} {bytes : List ℕ} {next : Call Y}
    → IsTx u → u ≡ with_accesses t (store_access b spans bytes ∷ []) → mid ≡ before → IfErr result (λ e. may_follow late e ≡ true) → IsPart late writes next u v mid now result → IsPart late writes (Store b spans bytes next) t v before now result
store_done {writes = writes} {t = t} {u = u} {v = v} {before = before} {mid = mid} {now = now} {result = result} {b = b} {spans = spans} {bytes = bytes} {next = next} tx is device follows part = record {
  run = run_from (Store b spans bytes next) next t u v result (at_store (Store b spans bytes next) b spans bytes next t t u (at_start (Store b spans bytes next) t) tx.count is) part.run;
  behaves = behaves_behind t u v writes before mid now result follows (later_same before mid device) (ap (λ (d : Device). d.faults) device) part.behaves;
}
