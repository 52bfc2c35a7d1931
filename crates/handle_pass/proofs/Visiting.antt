-- What a session's own calls make of a visit: its fetches, its transaction, and what a store sees.
use Rattle.handle_pass.proofs.{Words.{◌≡◌, ℕ, ◌<◌, Bool, true, false, cond, List, [], ◌∷◌, ◌++◌, Option, Some, None, option_map, length, map, refl, sym, ap, ◌∙◌, subst, append_assoc, arith, ForSome, map-append, append-nil, Access, Span, Array, is_write, array_at, marked, block_at, Cause, Entry, Start, state_at, accesses_of, Shows, AreNext, Moves, Own, count, Made, Rested, Failed, KeepsOwn, Visited, base_in, begin_array, blocks_read, with_list, fetches, number_in, refusals, shaped, prefix_self, prefix_trans, SessionState, HasBegin, HasItsBegin, IfSome}, Logs.{moves_made, moves_none, moves_on, moves_rested, next_made, next_on, next_rested}, Begun.{array_kept, tells_at}, Shapes.{all_snoc, block_shaped, length_laid}}
use Rattle.iso_shared.specs.declared.entry.Call.TheVariants as call
use Rattle.iso_shared.specs.declared.entry.Cause.TheVariants as cause
use Rattle.iso_shared.specs.declared.entry.Entry.TheVariants as entry

-- the transaction, but for its accesses
kept_twice : (x : Option Own) (k l : List Access) → option_map (with_list l) (option_map (with_list k) x) ≡ option_map (with_list l) x
kept_twice None k l = refl
kept_twice (Some o) k l = refl

kept_on : (x y z : Option Own) → KeepsOwn x y → KeepsOwn y z → KeepsOwn x z
kept_on x y z first second = second ∙ ap (option_map (with_list (accesses_of z))) first ∙ kept_twice x (accesses_of y) (accesses_of z)

kept_with : (y z : Option Own) (o : Own) (l : List Access) → y ≡ Some o → z ≡ Some (record o { accesses = l }) → KeepsOwn y z
kept_with y z o l was is =
    let now : l ≡ accesses_of z = sym (ap accesses_of is) in
    is ∙ ap (λ k. Some (record o { accesses = k })) now ∙ sym (ap (option_map (with_list (accesses_of z))) was)

kept_itself : (x : Option Own) → KeepsOwn x x
kept_itself None = refl
kept_itself (Some o) = refl

number_map : (x : Option Own) (l : List Access) → number_in (option_map (with_list l) x) ≡ number_in x
number_map None l = refl
number_map (Some o) l = refl

number_kept : (x y : Option Own) → KeepsOwn x y → number_in y ≡ number_in x
number_kept x y keeps = ap number_in keeps ∙ number_map x (accesses_of y)

-- the blocks of the reads
read_by : (b : Bool) (block : ℕ) (xs ys : List ℕ) → cond b (xs ++ ys) (block ∷ (xs ++ ys)) ≡ cond b xs (block ∷ xs) ++ ys
read_by true block xs ys = refl
read_by false block xs ys = refl

pub blocks_append : (xs ys : List Access) → blocks_read (xs ++ ys) ≡ blocks_read xs ++ blocks_read ys
blocks_append [] ys = refl
blocks_append (a ∷ xs) ys = ap (λ l. cond (is_write a) l (a.block ∷ l)) (blocks_append xs ys) ∙ read_by (is_write a) a.block (blocks_read xs) (blocks_read ys)

pub blocks_marked : (span : Span) (xs : List Access) → blocks_read (marked span xs) ≡ blocks_read xs
blocks_marked span [] = refl
blocks_marked span (a ∷ []) = refl
blocks_marked span (a ∷ b ∷ xs) = ap (λ l. cond (is_write a) l (a.block ∷ l)) (blocks_marked span (b ∷ xs))

abbrev begin_in : Option Own → ℕ
begin_in None = 0
begin_in (Some o) = o.begin

begin_kept : (x y : Option Own) → KeepsOwn x y → begin_in y ≡ begin_in x
begin_kept x y keeps = ap begin_in keeps ∙ by x
  where
    by : (w : Option Own) → begin_in (option_map (with_list (accesses_of y)) w) ≡ begin_in w
    by None = refl
    by (Some o) = refl

-- where the base is told, the disk tells its bytes and there is a transaction
pub told_base : (b : Bool) (x : Option Array) (B : Array) → cond b x None ≡ Some B → (b ≡ true) × (x ≡ Some B)
told_base true x B is = (refl, is)
told_base false x B is = absurd (cc is)

pub begun_base : (x : Option Own) (f : Own → Array) (B : Array) → option_map f x ≡ Some B → (p : Own) × (x ≡ Some p) × (f p ≡ B)
begun_base None f B is = absurd (cc is)
begun_base (Some p) f B is = (p, refl, cc is)

-- no fetch was refused
pub none_refused : (refused : Option (ℕ × Cause)) → Failed refused 0 false → refused ≡ None
none_refused None failed = refl
none_refused (Some (b, cause.Down)) failed = absurd (cc failed.1)
none_refused (Some (b, cause.Disk before now)) failed = absurd (omega (arith, failed.0))
none_refused (Some (b, why)) failed = absurd failed

module _ (A : Start) where
  -- nothing was done yet
  pub visit_none : (s : SessionState) → Visited A s s None
  visit_none s = record {
    fetched = [];
    moves = moves_none s;
    next = (prefix_self s.seen, λ p. refl);
    keeps = kept_itself s.own;
    reads = sym (append-nil (blocks_read (accesses_of s.own)));
    told = λ B is. tt;
    of = refl;
  }

  -- the transaction changed, and no entry was made
  pub visit_rested : (s t u : SessionState) (refused : Option (ℕ × Cause)) (v : Visited A s t refused) (o : Own) (l : List Access) → t.own ≡ Some o → u.own ≡ Some (record o { accesses = l }) → blocks_read l ≡ blocks_read o.accesses → Rested t u → Visited A s u refused
  visit_rested s t u refused v o l was is same rested =
      let n : ℕ = number_in s.own in
      let es : List Entry = fetches n v.fetched ++ refusals n refused in
      record {
        fetched = v.fetched;
        moves = subst (Moves s u) (append-nil es) (moves_on s t u es [] v.moves (moves_rested t u rested));
        next = subst (λ (xs : List Entry). AreNext A s.seen (count s) xs u.seen (count u)) (append-nil es)
            (next_on A s.seen t.seen u.seen (count s) (count t) (count u) es [] v.next (next_rested A t u rested));
        keeps = kept_on s.own t.own u.own v.keeps (kept_with t.own u.own o l was is);
        reads = ap (λ w. blocks_read (accesses_of w)) is ∙ same ∙ sym (ap (λ w. blocks_read (accesses_of w)) was) ∙ v.reads;
        told = v.told;
        of = rested.of ∙ v.of;
      }

  -- one fetch more
  pub visit_fetched : (s t u : SessionState) (v : Visited A s t None) (o : Own) (a : Access) (bytes : List ℕ) → t.own ≡ Some o → u.own ≡ Some (record o { accesses = o.accesses ++ a ∷ [] }) → is_write a ≡ false
      → Made A t u (entry.Fetch o.number a.block bytes) → ForSome (base_in A s) (λ B. bytes ≡ block_at B a.block) → Visited A s u None
  visit_fetched s t u v o a bytes was is read made told =
      let n : ℕ = number_in s.own in
      let e : Entry = entry.Fetch n a.block bytes in
      let es : List Entry = fetches n v.fetched ++ [] in
      let number : o.number ≡ n = sym (ap number_in was) ∙ number_kept s.own t.own v.keeps in
      let made' : Made A t u e = subst (λ (k : ℕ). Made A t u (entry.Fetch k a.block bytes)) number made in
      let all : es ++ e ∷ [] ≡ fetches n (v.fetched ++ (a.block, bytes) ∷ []) ++ [] =
      ap (λ l. l ++ e ∷ []) (append-nil (fetches n v.fetched))
      ∙ sym (map-append (λ (f : ℕ × List ℕ). entry.Fetch n f.0 f.1) v.fetched ((a.block, bytes) ∷ []))
      ∙ sym (append-nil (fetches n (v.fetched ++ (a.block, bytes) ∷ []))) in
      let last : blocks_read (o.accesses ++ a ∷ []) ≡ blocks_read o.accesses ++ a.block ∷ [] =
      blocks_append o.accesses (a ∷ []) ∙ ap (λ b. blocks_read o.accesses ++ cond b [] (a.block ∷ [])) read in
      record {
        fetched = v.fetched ++ (a.block, bytes) ∷ [];
        moves = subst (Moves s u) all (moves_on s t u es (e ∷ []) v.moves (moves_made A t u e made'));
        next = subst (λ (xs : List Entry). AreNext A s.seen (count s) xs u.seen (count u)) all
            (next_on A s.seen t.seen u.seen (count s) (count t) (count u) es (e ∷ []) v.next (next_made A t u e made'));
        keeps = kept_on s.own t.own u.own v.keeps (kept_with t.own u.own o (o.accesses ++ a ∷ []) was is);
        reads = ap (λ w. blocks_read (accesses_of w)) is
            ∙ last
            ∙ ap (λ l. l ++ a.block ∷ []) (sym (ap (λ w. blocks_read (accesses_of w)) was) ∙ v.reads)
            ∙ append_assoc (blocks_read (accesses_of s.own)) (map (λ f. f.0) v.fetched) (a.block ∷ [])
            ∙ ap (λ l. blocks_read (accesses_of s.own) ++ l) (sym (map-append (λ (f : ℕ × List ℕ). f.0) v.fetched ((a.block, bytes) ∷ [])));
        told = λ B base. all_snoc (λ (f : ℕ × List ℕ). f.1 ≡ block_at B f.0) v.fetched (a.block, bytes) (v.told B base) (told B base);
        of = made.of ∙ v.of;
      }

  -- a fetch was refused
  pub visit_refused : (s t u : SessionState) (v : Visited A s t None) (o : Own) (block : ℕ) (why : Cause) → t.own ≡ Some o → u.own ≡ Some o
      → Made A t u (entry.Refused (call.Fetch o.number block) why) → Visited A s u (Some (block, why))
  visit_refused s t u v o block why was is made =
      let n : ℕ = number_in s.own in
      let e : Entry = entry.Refused (call.Fetch n block) why in
      let es : List Entry = fetches n v.fetched ++ [] in
      let number : o.number ≡ n = sym (ap number_in was) ∙ number_kept s.own t.own v.keeps in
      let made' : Made A t u e = subst (λ (k : ℕ). Made A t u (entry.Refused (call.Fetch k block) why)) number made in
      let all : es ++ e ∷ [] ≡ fetches n v.fetched ++ e ∷ [] =
      ap (λ l. l ++ e ∷ []) (append-nil (fetches n v.fetched)) in
      record {
        fetched = v.fetched;
        moves = subst (Moves s u) all (moves_on s t u es (e ∷ []) v.moves (moves_made A t u e made'));
        next = subst (λ (xs : List Entry). AreNext A s.seen (count s) xs u.seen (count u)) all
            (next_on A s.seen t.seen u.seen (count s) (count t) (count u) es (e ∷ []) v.next (next_made A t u e made'));
        keeps = kept_on s.own t.own u.own v.keeps (kept_with t.own u.own o o.accesses was is);
        reads = ap (λ w. blocks_read (accesses_of w)) (is ∙ sym was) ∙ v.reads;
        told = v.told;
        of = made.of ∙ v.of;
      }

  -- the bytes of a fetch are those of the array at the begin
  pub told_by : (s t u : SessionState) (refused : Option (ℕ × Cause)) (v : Visited A s t refused) (o : Own) (block : ℕ) (bytes into : List ℕ) → HasItsBegin A s → t.own ≡ Some o → Shows A o block t u bytes into → block < A.world.geometry.blocks
      → length into ≡ A.world.geometry.block → ForSome (base_in A s) (λ B. bytes ≡ block_at B block)
  told_by s t u refused v o block bytes into first was shows below size B is =
      let tells = told_base A.tells (begin_array A s) B is in
      let begun = begun_base s.own (λ (p : Own). shaped A.world.geometry (array_at (state_at A s.seen).world.history p.begin)) B tells.1 in
      let begin : begun.0.begin ≡ o.begin = sym (ap begin_in begun.1) ∙ sym (begin_kept s.own t.own v.keeps) ∙ ap begin_in was in
      let before : List Entry = shows.made.entered.before in
      let X : Array = array_at (state_at A s.seen).world.history o.begin in
      let has : HasBegin A s.seen o.begin = subst (HasBegin A s.seen) begin (subst (λ (x : Option Own). IfSome x (λ (p : Own). HasBegin A s.seen p.begin)) begun.1 first) in
      let later : array_at (state_at A before).world.history o.begin ≡ X = array_kept A s.seen before o.begin has (prefix_trans s.seen t.seen before v.moves.known shows.made.entered.told) in
      let at : bytes ≡ block_at X block = shows.base (tells_at A before ∙ tells.0) ∙ ap (λ (Y : Array). block_at Y block) later in
      let whole : length (block_at X block) ≡ A.world.geometry.block = sym (ap length at) ∙ length_laid block bytes into o.accesses shows.laid ∙ size in
      at ∙ sym (block_shaped A.world.geometry X block below whole)
      ∙ ap (λ (k : ℕ). block_at (shaped A.world.geometry (array_at (state_at A s.seen).world.history k)) block) (sym begin)
      ∙ ap (λ (Y : Array). block_at Y block) begun.2
