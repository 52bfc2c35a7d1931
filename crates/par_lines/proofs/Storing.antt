-- Lines that call a store: what the session did, and what the rules answer over the bytes that were fetched.
use Rattle.par_lines.proofs.{Words.{◌≡◌, ◌≢◌, ℕ, ◌+◌, ◌-◌, ◌<◌, ◌≤◌, ◌==◌, ◌&&◌, Bool, true, false, cond, not, nat_lt, List, [], ◌∷◌, ◌++◌, Option, Some, None, length, map, ap, eq-eqb, inl, refl, sym, subst, ◌∙◌, arith, IfOk, IsTrue, Result, Ok, Err, AllByRecursion, nat_tests, ne_eqb, append_cancel_left, append-nil, accesses_of, tx_on, Moves, Failed, IsVisit, Seen, Visited, base_in, base_of, begin_array, seen_by, blocks_append, Access, Geometry, Mode, Serial, Snapshot, Op, Reply, FileAreas, FsRegion, Array, block_at, Entry, Cause, is_serial, is_valid, store_areas_are, store_areas_fit, all_own, array_at, array_of, file_delete_step, file_move_step, file_new_step, file_read_step, file_write_step, hash_delete_step, hash_get_step, hash_put_step, in_store, step, store_step, tree_delete_step, tree_get_step, tree_put_step, tree_scan_step, World, Live, Start, state_at, Stop, ForSome, Tx, room_of, with_accesses, areas_of, HasCalled, AreStoreAreas, Stops, is_empty_scan, placed, store_areas, store_blocks, store_ended, AnswersOn, CallsStore, Did, Does, InStore, Own, Says, StopsBy, Where, alone, answer, blocks_read, live_of, own_after, own_among, Answered, IsOnStore, settled, SessionState}, Answering.by_none, Fetching.no_take}
use Rattle.std.proofs.Common.{option_map}
use Rattle.handle_pass.specs.Visits as visits
use Rattle.script_model.specs.declared.script.Op.TheVariants as op
use Rattle.script_model.specs.declared.script.Reply.TheVariants as reply
use Rattle.iso_model.specs.Effect.{own}
use Rattle.iso_shared.specs.declared.entry.Cause.TheVariants as cause
use Rattle.iso_model.specs.Step as rules
use Rattle.script_model.specs.declared.stop.Stop.TheVariants as stop

blocks_same : (xs : List Access) → visits.blocks_read xs ≡ blocks_read xs
blocks_same [] = refl
blocks_same (a ∷ xs) = refl

settled_ok : (failures : ℕ) (is_down : Bool) (r : Result Reply Stop) (said : Reply) → settled failures is_down r ≡ Ok said → r ≡ Ok said
settled_ok failures is_down r said = by (nat_lt 0 failures) is_down
  where
    by : (a b : Bool) → cond a (Err stop.Disk) (cond b (Err stop.Down) r) ≡ Ok said → r ≡ Ok said
    by true b is = absurd (cc is)
    by false true is = absurd (cc is)
    by false false is = is

-- the client stops at a fault, and nowhere else
module _ (r : Result Reply Stop) (failures : ℕ) (is_down : Bool) (stops : Stops (record { faults = 0; is_down = false }) (record { faults = failures; is_down = is_down }) r) where
  stops_none : (failures ≡ 0) × (is_down ≡ false) → StopsBy None (settled failures is_down r)
  stops_none none =
      let whole : settled failures is_down r ≡ r = λ i. cond (nat_lt 0 (none.0 i)) (Err stop.Disk) (cond (none.1 i) (Err stop.Down) r) in
      subst (StopsBy None) (sym whole) (by r refl)
    where
      by : (q : Result Reply Stop) → r ≡ q → StopsBy None q
      by (Ok said) is = tt
      by (Err stop.Memory) is = tt
      by (Err stop.Down) is = absurd (cc (sym none.1 ∙ stops.down is))
      by (Err stop.Disk) is = let rose = stops.disk is in absurd (omega (arith, none.0, rose))

  stops_down : (failures ≡ 0) × (is_down ≡ true) → settled failures is_down r ≡ Err stop.Down
  stops_down is = λ i. cond (nat_lt 0 (is.0 i)) (Err stop.Disk) (cond (is.1 i) (Err stop.Down) r)

  stops_disk : 0 < failures → settled failures is_down r ≡ Err stop.Disk
  stops_disk some = let rose : nat_lt 0 failures ≡ true = grind (arith, nat_tests) in ap (λ b. cond b (Err stop.Disk) (cond is_down (Err stop.Down) r)) rose

  pub stops_by : (refused : Option (ℕ × Cause)) → Failed refused failures is_down → StopsBy refused (settled failures is_down r)
  stops_by None failed = stops_none failed
  stops_by (Some (b, cause.Down)) failed = stops_down failed
  stops_by (Some (b, cause.Disk before now)) failed = stops_disk failed.0
  stops_by (Some (b, why)) failed = failed

flipped : (B : Array) (fetched : List (ℕ × List ℕ)) → AllByRecursion (λ f. f.1 ≡ block_at B f.0) fetched → AllByRecursion (λ f. block_at B f.0 ≡ f.1) fetched
flipped B [] all = tt
flipped B (f ∷ fetched) all = (sym all.0, flipped B fetched all.1)

-- how the rules answer the operation in a transaction, on each array
pub record IsServed (g : Geometry) (o : Own) (x : Op) (ended : (room : ℕ) → Array → List Access × Reply) : Type 0 where
  pub answers : (B : Array) → answer g B (Some o) x ≡ (ended (4096 - length o.accesses) (own B o.accesses)).1
  pub leaves : (B : Array) → own_after g B (Some o) x ≡ Some (record o { accesses = o.accesses ++ (ended (4096 - length o.accesses) (own B o.accesses)).0 })

module _ (A : Start) (s t : SessionState) (o : Own) (was : s.own ≡ Some o) where
  -- what the transaction is after the call
  module _ (done : List Access) (is : tx_on A t (base_in A s) ≡ with_accesses (tx_on A s (base_in A s)) done) (refused : Option (ℕ × Cause)) (v : Visited A s t refused) where
    accesses_are : accesses_of t.own ≡ accesses_of s.own ++ done
    accesses_are = ap (λ (w : Tx). w.accesses) is

    left_is : t.own ≡ Some (record o { accesses = o.accesses ++ done })
    left_is = v.keeps ∙ ap (option_map (λ (p : Own). record p { accesses = accesses_of t.own })) was
        ∙ ap (λ l. Some (record o { accesses = l })) (accesses_are ∙ ap (λ w. accesses_of w ++ done) was)

    reads_are : blocks_read done ≡ map (λ f. f.0) v.fetched
    reads_are = sym (blocks_same done)
        ∙ append_cancel_left (visits.blocks_read (accesses_of s.own)) (visits.blocks_read done) (map (λ f. f.0) v.fetched)
        (sym (blocks_append (accesses_of s.own) done) ∙ sym (ap visits.blocks_read accesses_are) ∙ v.reads)

  -- a call of a store made the line's entries
  pub called : (x : Op) (ended : (room : ℕ) → Array → List Access × Reply) (r : Result Reply Stop) (failures : ℕ) (is_down : Bool) → IsServed A.world.geometry o x ended
      → HasCalled ended (tx_on A s (base_in A s)) (tx_on A t (base_in A s)) r → Stops (record { faults = 0; is_down = false }) (record { faults = failures; is_down = is_down }) r
      → (refused : Option (ℕ × Cause)) (v : Visited A s t refused) → Failed refused failures is_down
      → CallsStore A.world.geometry A.tells o x (visits.fetches o.number v.fetched ++ visits.refusals o.number refused) (settled failures is_down r) t.own
  called x ended r failures is_down served has stops refused v failed = record {
    fetched = v.fetched;
    refused = refused;
    done = has.done;
    are = refl;
    stops = stops_by r failures is_down stops refused failed;
    reads = reads_are has.done has.is refused v;
    left = left_is has.done has.is refused v;
    told = λ tells. told (settled failures is_down r) refl tells;
  }
    where
      base : Array
      base = visits.shaped A.world.geometry (array_at (state_at A s.seen).world.history o.begin)

      base_is : A.tells ≡ true → base_in A s ≡ Some base
      base_is tells = ap (λ b. cond b (begin_array A s) None) tells
          ∙ ap (option_map (λ (p : Own). visits.shaped A.world.geometry (array_at (state_at A s.seen).world.history p.begin))) was

      told : (q : Result Reply Stop) → settled failures is_down r ≡ q → A.tells ≡ true → IfOk q (λ said. AnswersOn A.world.geometry o x v.fetched said t.own)
      told (Err e) is tells = tt
      told (Ok said) is tells =
          let r_is : r ≡ Ok said = settled_ok failures is_down r said is in
          let so = subst (λ (q : Result Reply Stop). IfOk q (λ y. ForSome (base_in A s) (λ B. ended (room_of (tx_on A s (base_in A s))) (own B (accesses_of s.own)) ≡ (has.done, y)))) r_is has.told in
          let ends : ended (4096 - length o.accesses) (own base o.accesses) ≡ (has.done, said) =
          sym (ap (λ w. ended (4096 - length (accesses_of w)) (own base (accesses_of w))) was) ∙ so base (base_is tells) in
          record {
            array = base;
            has = flipped base v.fetched (v.told base (base_is tells));
            reply = sym (served.answers base ∙ ap (λ (e : List Access × Reply). e.1) ends);
            leaves = left_is has.done has.is refused v ∙ sym (served.leaves base ∙ ap (λ (e : List Access × Reply). Some (record o { accesses = o.accesses ++ e.0 })) ends);
          }

-- a call of a store that is there, and the answers where it is not
there_is : (W : World) (t : Live) (blocks : ℕ) (result : Reply × World) → blocks ≢ 0 → t.mode ≡ Serial → in_store W t blocks result ≡ result
there_is W t blocks result some mode = let there : (blocks == 0) ≡ false = ne_eqb blocks 0 some in rw (there, mode) refl

no_store : (W : World) (t : Live) (blocks : ℕ) (result : Reply × World) → blocks ≡ 0 → in_store W t blocks result ≡ (reply.NoStore, W)
no_store W t blocks result e = let none : (blocks == 0) ≡ true = eq-eqb blocks 0 e in rw none refl

no_serial : (W : World) (t : Live) (blocks : ℕ) (result : Reply × World) → blocks ≢ 0 → t.mode ≡ Snapshot → in_store W t blocks result ≡ (reply.StoreMode, W)
no_serial W t blocks result some mode = let there : (blocks == 0) ≡ false = ne_eqb blocks 0 some in rw (there, mode) refl

-- what a call ends with where the client is alone
abbrev ended : Geometry → Array → Own → Op → List Access × Reply
ended g B o x = store_ended (store_areas g x) x (4096 - length o.accesses) (array_of (alone g B (Some o)) (live_of o))

-- the rules' step, where the store is there
abbrev act : Geometry → Array → Own → Op → Reply × World
act g B o x = ((ended g B o x).1, rules.with_accesses (alone g B (Some o)) (live_of o) (o.accesses ++ (ended g B o x).0))

-- what each operation on a store is for the rules, and for a line
record IsStoreLine (g : Geometry) (x : Op) : Type 0 where
  stepped : (B : Array) (o : Own) → step (alone g B (Some o)) 1 x ≡ in_store (alone g B (Some o)) (live_of o) (store_blocks g x) (cond (is_empty_scan x) (reply.BadRange, alone g B (Some o)) (act g B o x))
  does_in : (tells : Bool) (o : Own) (es : List Entry) (r : Result Reply Stop) (own' : Option Own) → InStore (store_blocks g x) o (CallsStore g tells o x es r own') (Says g (Some o) x es r own') → Does g tells (Some o) x es r own'
  no_tx : (tells : Bool) → Does g tells None x [] (Ok reply.NotInTx) None

store_line : (g : Geometry) (x : Op) → IsOnStore x → IsStoreLine g x
unfolding step hash_put_step hash_get_step hash_delete_step tree_put_step tree_get_step tree_delete_step tree_scan_step file_new_step file_write_step file_read_step file_move_step file_delete_step store_step
store_line g (op.HashPut key value) is = record { stepped = λ B o. refl; does_in = λ tells o es r own' does. does; no_tx = λ tells. (refl, refl, refl) }
store_line g (op.HashGet key) is = record { stepped = λ B o. refl; does_in = λ tells o es r own' does. does; no_tx = λ tells. (refl, refl, refl) }
store_line g (op.HashDelete key) is = record { stepped = λ B o. refl; does_in = λ tells o es r own' does. does; no_tx = λ tells. (refl, refl, refl) }
store_line g (op.TreePut key value) is = record { stepped = λ B o. refl; does_in = λ tells o es r own' does. does; no_tx = λ tells. (refl, refl, refl) }
store_line g (op.TreeGet key) is = record { stepped = λ B o. refl; does_in = λ tells o es r own' does. does; no_tx = λ tells. (refl, refl, refl) }
store_line g (op.TreeDelete key) is = record { stepped = λ B o. refl; does_in = λ tells o es r own' does. does; no_tx = λ tells. (refl, refl, refl) }
store_line g (op.TreeScan from to most) is = record { stepped = λ B o. refl; does_in = λ tells o es r own' does. does; no_tx = λ tells. (refl, refl, refl) }
store_line g (op.FileNew name) is = record { stepped = λ B o. refl; does_in = λ tells o es r own' does. does; no_tx = λ tells. (refl, refl, refl) }
store_line g (op.FileWrite name off bytes) is = record { stepped = λ B o. refl; does_in = λ tells o es r own' does. does; no_tx = λ tells. (refl, refl, refl) }
store_line g (op.FileRead name off len) is = record { stepped = λ B o. refl; does_in = λ tells o es r own' does. does; no_tx = λ tells. (refl, refl, refl) }
store_line g (op.FileMove from to) is = record { stepped = λ B o. refl; does_in = λ tells o es r own' does. does; no_tx = λ tells. (refl, refl, refl) }
store_line g (op.FileDelete name) is = record { stepped = λ B o. refl; does_in = λ tells o es r own' does. does; no_tx = λ tells. (refl, refl, refl) }
store_line g other is = absurd is

array_is : (g : Geometry) (B : Array) (o : Own) → array_of (alone g B (Some o)) (live_of o) ≡ own B o.accesses
array_is g B o = ap (λ c. own (all_own B c) o.accesses) (no_take (o.begin + 1 - 1))

own_with : (g : Geometry) (B : Array) (o : Own) (l : List Access) → own_among (rules.with_accesses (alone g B (Some o)) (live_of o) l).live ≡ Some (record o { accesses = l })
own_with g B o l = ap (λ b. own_among (cond b (record (live_of o) { accesses = l }) (live_of o) ∷ [])) (eq-eqb o.number o.number refl)

module _ (g : Geometry) (o : Own) (x : Op) (is : IsOnStore x) where
  served : (store_blocks g x) ≢ 0 → o.mode ≡ Serial → is_empty_scan x ≡ false → IsServed g o x (store_ended (store_areas g x) x)
  served some mode full =
      let whole : (B : Array) → step (alone g B (Some o)) 1 x ≡ act g B o x =
      λ B. (store_line g x is).stepped B o ∙ there_is (alone g B (Some o)) (live_of o) (store_blocks g x) _ some mode ∙ ap (λ b. cond b (reply.BadRange, alone g B (Some o)) (act g B o x)) full in
      record {
        answers = λ B. ap (λ (w : Reply × World). w.0) (whole B) ∙ ap (λ C. (store_ended (store_areas g x) x (4096 - length o.accesses) C).1) (array_is g B o);
        leaves = λ B. ap (λ (w : Reply × World). own_among w.1.live) (whole B) ∙ own_with g B o (o.accesses ++ (ended g B o x).0)
            ∙ ap (λ C. Some (record o { accesses = o.accesses ++ (store_ended (store_areas g x) x (4096 - length o.accesses) C).0 })) (array_is g B o);
      }

-- which of the two a line is
in_store_so : (P Q : Type 0) (blocks : ℕ) (o : Own) → blocks ≢ 0 → o.mode ≡ Serial → P → InStore blocks o P Q
in_store_so P Q blocks o some mode p =
    let there : (blocks == 0) ≡ false = ne_eqb blocks 0 some in
    subst (λ b. Where (not b && is_serial o.mode) P Q) (sym there) (subst (λ m. Where (is_serial m) P Q) (sym mode) p)

not_in_store : (P Q : Type 0) (blocks : ℕ) (o : Own) → blocks ≡ 0 → Q → InStore blocks o P Q
not_in_store P Q blocks o none q =
    let gone : (blocks == 0) ≡ true = eq-eqb blocks 0 none in
    subst (λ b. Where (not b && is_serial o.mode) P Q) (sym gone) q

not_so_in_store : (P Q : Type 0) (blocks : ℕ) (o : Own) → blocks ≢ 0 → o.mode ≡ Snapshot → Q → InStore blocks o P Q
not_so_in_store P Q blocks o some mode q =
    let there : (blocks == 0) ≡ false = ne_eqb blocks 0 some in
    subst (λ b. Where (not b && is_serial o.mode) P Q) (sym there) (subst (λ m. Where (is_serial m) P Q) (sym mode) q)

says_by : (g : Geometry) (o : Own) (x : Op) (r : Reply) → step (alone g [] (Some o)) 1 x ≡ (r, alone g [] (Some o)) → Says g (Some o) x [] (Ok r) (Some o)
says_by g o x r e = (refl, ap (λ (w : Reply × World). Ok w.0) (sym e), ap (λ (w : Reply × World). own_among w.1.live) (sym e))

-- the transaction of a session whose mode is known
pub has_own : (x : Option Own) (m : Mode) → option_map (λ (o : Own). o.mode) x ≡ Some m → (o : Own) × (x ≡ Some o) × (o.mode ≡ m)
has_own None m e = absurd (cc e)
has_own (Some o) m e = (o, refl, cc e)

module _ (A : Start) (s : SessionState) (x : Op) (is : IsOnStore x) where
  pub without_tx : s.own ≡ None → Answered A s x (Ok reply.NotInTx) s
  without_tx none = by_none A s s x (Ok reply.NotInTx) None none refl ((store_line A.world.geometry x is).no_tx A.tells)

  pub without_store : (o : Own) → s.own ≡ Some o → (store_blocks A.world.geometry x) ≡ 0 → Answered A s x (Ok reply.NoStore) s
  without_store o was none =
      by_none A s s x (Ok reply.NoStore) (Some o) was refl
      ((store_line A.world.geometry x is).does_in A.tells o [] (Ok reply.NoStore) (Some o)
      (not_in_store (CallsStore A.world.geometry A.tells o x [] (Ok reply.NoStore) (Some o)) (Says A.world.geometry (Some o) x [] (Ok reply.NoStore) (Some o)) (store_blocks A.world.geometry x) o none
      (says_by A.world.geometry o x reply.NoStore ((store_line A.world.geometry x is).stepped [] o ∙ no_store (alone A.world.geometry [] (Some o)) (live_of o) (store_blocks A.world.geometry x) _ none))))

  pub without_mode : (o : Own) → s.own ≡ Some o → (store_blocks A.world.geometry x) ≢ 0 → o.mode ≡ Snapshot → Answered A s x (Ok reply.StoreMode) s
  without_mode o was some mode =
      by_none A s s x (Ok reply.StoreMode) (Some o) was refl
      ((store_line A.world.geometry x is).does_in A.tells o [] (Ok reply.StoreMode) (Some o)
      (not_so_in_store (CallsStore A.world.geometry A.tells o x [] (Ok reply.StoreMode) (Some o)) (Says A.world.geometry (Some o) x [] (Ok reply.StoreMode) (Some o)) (store_blocks A.world.geometry x) o some mode
      (says_by A.world.geometry o x reply.StoreMode ((store_line A.world.geometry x is).stepped [] o ∙ no_serial (alone A.world.geometry [] (Some o)) (live_of o) (store_blocks A.world.geometry x) _ some mode))))

  -- a scan that is to find no pair reads nothing
  pub without_pairs : (o : Own) → s.own ≡ Some o → (store_blocks A.world.geometry x) ≢ 0 → o.mode ≡ Serial → is_empty_scan x ≡ true → Answered A s x (Ok reply.BadRange) s
  without_pairs o was some mode empty =
      let g : Geometry = A.world.geometry in
      let whole : step (alone g [] (Some o)) 1 x ≡ (reply.BadRange, alone g [] (Some o)) =
      (store_line g x is).stepped [] o ∙ there_is (alone g [] (Some o)) (live_of o) (store_blocks g x) _ some mode ∙ ap (λ b. cond b (reply.BadRange, alone g [] (Some o)) (act g [] o x)) empty in
      by_none A s s x (Ok reply.BadRange) (Some o) was refl
      ((store_line g x is).does_in A.tells o [] (Ok reply.BadRange) (Some o)
      (in_store_so (CallsStore g A.tells o x [] (Ok reply.BadRange) (Some o)) (Says g (Some o) x [] (Ok reply.BadRange) (Some o)) (store_blocks g x) o some mode (record {
        fetched = [];
        refused = None;
        done = [];
        are = refl;
        stops = tt;
        reads = refl;
        left = ap (λ l. Some (record o { accesses = l })) (sym (append-nil o.accesses));
        told = λ tells. record {
          array = [];
          has = tt;
          reply = ap (λ (w : Reply × World). w.0) (sym whole);
          leaves = ap (λ (w : Reply × World). own_among w.1.live) (sym whole);
        };
      })))

  -- the store was called
  pub visited : (t : SessionState) (before : Option SessionState) (o : Own) (region : FsRegion) (failures : ℕ) (is_down : Bool) (r q : Result Reply Stop) (v w : Seen) → before ≡ Some s → s.own ≡ Some o → o.mode ≡ Serial
      → placed A.world.geometry.block region ≡ store_areas A.world.geometry x → 0 < region.files.size → is_empty_scan x ≡ false
      → v ≡ seen_by A before s 0 false → w ≡ seen_by A before t failures is_down → HasCalled (store_ended (areas_of v.tx region) x) v.tx w.tx r → Stops v.device w.device r → IsVisit A before t failures is_down
      → q ≡ settled failures is_down r → Answered A s x q t
  visited t before o region failures is_down r q v w begun was mode area some full first last has stops visit ends =
      let g : Geometry = A.world.geometry in
      let there : (store_blocks g x) ≢ 0 = λ none. (let size : region.files.size ≡ (store_blocks g x) = ap (λ (a : FileAreas). a.files.blocks) area in absurd (omega (arith, none, size, some))) in
      let base : base_of A before ≡ base_in A s = ap (base_of A) begun in
      let same : visit.was ≡ s = same_session visit.was s (sym visit.is ∙ begun) in
      let made : Visited A s t visit.refused = subst (λ u. Visited A u t visit.refused) same visit.made in
      let n : visits.number_in s.own ≡ o.number = ap visits.number_in was in
      let calls = called A s t o was x (store_ended (store_areas g x) x) r failures is_down (served g o x is there mode full)
      (subst (λ (b : Option Array). HasCalled (store_ended (store_areas g x) x) (tx_on A s b) (tx_on A t b) r) base
      (subst (λ (a : FileAreas). HasCalled (store_ended a x) (tx_on A s (base_of A before)) (tx_on A t (base_of A before)) r) area
      (subst (λ (y : Seen). HasCalled (store_ended (areas_of (tx_on A s (base_of A before)) region) x) (tx_on A s (base_of A before)) y.tx r) last
      (subst (λ (y : Seen). HasCalled (store_ended (areas_of y.tx region) x) y.tx w.tx r) first has))))
      (subst (λ (y : Seen). Stops (record { faults = 0; is_down = false }) y.device r) last (subst (λ (y : Seen). Stops y.device w.device r) first stops))
      visit.refused made visit.failed in
      record {
        entries = visits.fetches o.number made.fetched ++ visits.refusals o.number visit.refused;
        moves = subst (λ (k : ℕ). Moves s t (visits.fetches k made.fetched ++ visits.refusals k visit.refused)) n made.moves;
        did = subst (λ y. Did g A.tells y x (visits.fetches o.number made.fetched ++ visits.refusals o.number visit.refused) q t.own) (sym was)
            (inl (subst (λ y. Does g A.tells (Some o) x (visits.fetches o.number made.fetched ++ visits.refusals o.number visit.refused) y t.own) (sym ends)
            ((store_line g x is).does_in A.tells o (visits.fetches o.number made.fetched ++ visits.refusals o.number visit.refused) (settled failures is_down r) t.own (in_store_so (CallsStore g A.tells o x (visits.fetches o.number made.fetched ++ visits.refusals o.number visit.refused) (settled failures is_down r) t.own) (Says g (Some o) x (visits.fetches o.number made.fetched ++ visits.refusals o.number visit.refused) (settled failures is_down r) t.own) (store_blocks g x) o there mode calls))));
        of = made.of;
      }
    where
      same_session : (a b : SessionState) → Some a ≡ Some b → a ≡ b
      same_session a b e = cc e

pub no_own : (x : Option Own) → option_map (λ (o : Own). o.mode) x ≡ None → x ≡ None
no_own None e = refl
no_own (Some o) e = absurd (cc e)

-- the regions of the image's store, by the numbers that the image had at the start
pub regions_at : (h g : Geometry) (region : FsRegion) (x : Op) → h ≡ g → placed h.block region ≡ store_areas h x → placed g.block region ≡ store_areas g x
regions_at h g region x is area = subst (λ (k : Geometry). placed k.block region ≡ store_areas k x) is area

pub blocks_at : (g : Geometry) (region : FsRegion) (x : Op) → placed g.block region ≡ store_areas g x → region.files.size ≡ store_blocks g x
blocks_at g region x area = ap (λ (a : FileAreas). a.files.blocks) area

pub some_blocks : (g : Geometry) (region : FsRegion) (x : Op) → placed g.block region ≡ store_areas g x → 0 < region.files.size → store_blocks g x ≢ 0
some_blocks g region x area some none = let size = blocks_at g region x area in absurd (omega (arith, none, size, some))

-- a call of a store may be made there
pub may_call : (A : Start) (before : Option SessionState) (s : SessionState) (region : FsRegion) (x : Op) (v : Seen) → v ≡ seen_by A before s 0 false
    → placed A.world.geometry.block region ≡ store_areas A.world.geometry x → 0 < region.files.size → IsTrue (is_valid A.world.geometry)
    → AreStoreAreas x (areas_of v.tx region) × (region.files.start + region.files.size ≤ v.tx.blocks)
may_call A before s region x v is area some valid =
    let g : Geometry = A.world.geometry in
    let at : areas_of v.tx region ≡ store_areas g x = ap (λ (y : Seen). areas_of y.tx region) is ∙ area in
    let start : region.files.start ≡ (store_areas g x).files.start = ap (λ (a : FileAreas). a.files.start) area in
    let size : region.files.size ≡ store_blocks g x = blocks_at g region x area in
    let blocks : v.tx.blocks ≡ g.blocks = ap (λ (y : Seen). y.tx.blocks) is in
    (subst (AreStoreAreas x) (sym at) (store_areas_are g x valid (some_blocks g region x area some)), omega (arith, start, size, blocks, store_areas_fit g x valid))
