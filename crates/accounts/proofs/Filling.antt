-- Calls on accounts fill the transaction that a session has begun.
use Rattle.accounts.proofs.{Words.{◌≡◌, ◌∙◌, sym, refl, ap, subst, ℕ, ◌+◌, ◌<◌, ◌≤◌, true, cond, List, [], ◌∷◌, ◌++◌, Option, Some, None, Ok, arith, length, Accounts, Array, Geometry, firsts, KeyCall, StoreAnswer, IsOfAccounts, IsMadeOfBoth, answers_in, calls_in, hash_area, image_hash, image_tree, IsHashArea, Area, Region, area_of, Tx, Does, DoesIn, IsPut, IsTakenFor, more_first_answers, more_first_calls, the_tree, IsPrefix, option_map, ext_get_or, block_shaped, length-shaped, accesses_of, tx_on, HasBegun, Own, Visited, base_in, begin_array, shaped, with_list, array_shape, Mode, Serial, array_at, last, block_at, IsWorld, began_last, follows_all, follows_prefix, legal_last, Entry, IsLegal, Start, opened, world_at, hash_area_is, array_extends, prefix_trans, sound_at, to_be_bytes, w64, Cause, area_in, HashPuts, HasCalled, HasStore, IsFilled, HoldsCalls, OfCalls, OwnFilled, SessionState}, Adding.{completed, does_put, put_adds, transfers}}
use Rattle.iso_shared.specs.declared.entry.Entry.TheVariants as entry

-- an array that has the image's shape is not cut
shaped_is : (g : Geometry) (X : Array) → length X ≡ g.blocks → ((b : ℕ) → b < g.blocks → length (block_at X b) ≡ g.block) → shaped g X ≡ X
shaped_is g X blocks bytes =
    ext_get_or [] (shaped g X) X (length-shaped g X ∙ sym blocks)
    (λ b below. let low : b < g.blocks = omega (arith, below, length-shaped g X) in block_shaped g X b low (bytes b low))

-- the array at the begin of a transaction, where the list has gone on since
module _ (A : Start) (before : List Entry) (n at : ℕ) (mode : Mode) (E : List Entry) (sound : IsWorld A.world)
    (legal : IsLegal A (before ++ entry.Begin n at mode ∷ [])) (known : IsPrefix (before ++ entry.Begin n at mode ∷ []) E) where
  abbrev X : Array
  X = array_at (world_at A before).history at

  front : IsLegal A before × (at ≡ last (world_at A before).history)
  front = let l = legal_last (opened A) before (entry.Begin n at mode) legal in (l.0, began_last (world_at A before) mode at l.1.answers.2)

  same_array : array_at (world_at A E).history at ≡ X
  same_array =
      let f = follows_prefix A before E (prefix_trans before (before ++ entry.Begin n at mode ∷ []) E (entry.Begin n at mode ∷ [], refl) known) in
      array_extends (world_at A before).history (world_at A E).history at (sound_at A before sound front.0).history.first f.history (let is = front.1 in omega (arith, is))

  begin_shaped : shaped A.world.geometry (array_at (world_at A E).history at) ≡ X
  begin_shaped =
      let shape = array_shape (world_at A before).geometry (world_at A before).history at (sound_at A before sound front.0).history in
      let f = follows_all (opened A) before in
      let cut : shaped A.world.geometry X ≡ X =
      shaped_is A.world.geometry X (shape.blocks ∙ f.blocks) (λ b below. shape.bytes b (let k = f.blocks in omega (arith, k)) ∙ f.block) in
      ap (shaped A.world.geometry) same_array ∙ cut

-- nothing was called
abbrev NoCalls : OfCalls
NoCalls calls answers = (calls ≡ []) × (answers ≡ [])

some_is : (p q : Own) → Some p ≡ Some q → p ≡ q
some_is p q e = cc e

area_is : (A : Start) (region : Region) → HasStore A region → ◌≡◌ {A = Area} (hash_area A.world.geometry) (record { size = A.world.geometry.block; start = region.start; blocks = region.size })
area_is A region store =
    let start : 0 ≡ region.start = sym store.start in
    let size : A.world.geometry.hash ≡ region.size = sym store.size in
    λ i. record { size = A.world.geometry.block; start = start i; blocks = size i }

-- the store may be put to there
pub may_put : (A : Start) (region : Region) → HasStore A region → IsHashArea (area_in A.world.geometry region) × (region.start + region.size ≤ A.world.geometry.blocks)
may_put A region store =
    let start = store.start in
    let size = store.size in
    let regions = (Rattle.iso_model.proofs.Bounds.limits A.world.geometry store.ready.sound.valid).regions in
    (subst IsHashArea (area_is A region store) (hash_area_is A.world.geometry store.ready.sound.valid store.some), omega arith)

module _ (accounts : Accounts) (A : Start) (region : Region) (store : HasStore A region) where
  -- the store may be called there
  pub may_call : (s : SessionState) → let t = tx_on A s (base_in A s) in IsHashArea (area_of t region) × (region.start + region.size ≤ t.blocks)
  may_call s = may_put A region store

  base_is : (s : SessionState) (o : Own) → s.own ≡ Some o → A.tells ≡ true → base_in A s ≡ Some (shaped A.world.geometry (array_at (world_at A s.seen).history o.begin))
  base_is s o was tells =
      ap (λ b. cond b (begin_array A s) None) tells
      ∙ ap (option_map (λ (p : Own). shaped A.world.geometry (array_at (world_at A s.seen).history p.begin))) was

  -- calls come to a transaction of such calls, and are such ones with them
  pub continues : (s t : SessionState) (Is Then Both : OfCalls) → ((c d : List KeyCall) (x y : List StoreAnswer) → Is c x → Then d y → Both (c ++ d) (x ++ y)) → (o : Own) → s.own ≡ Some o
      → (refused : Option (ℕ × Cause)) → Visited A s t refused → (let x = tx_on A s (base_in A s) in Does (area_of x region) x (tx_on A t (base_in A s)) Then) → (A.tells ≡ true → IsFilled Is A s.seen o) → OwnFilled Both A t.seen t.own
  continues s t Is Then Both both o was refused visited does filled tells q is_q =
      let f = filled tells in
      let p : Own = with_list (accesses_of t.own) o in
      let is : t.own ≡ Some p = visited.keeps ∙ ap (option_map (with_list (accesses_of t.own))) was in
      let Y : Array = array_at (world_at A f.before).history o.begin in
      let base : base_in A s ≡ Some Y = base_is s o was tells ∙ ap Some (begin_shaped A f.before o.number o.begin o.mode s.seen store.ready.sound f.legal f.known) in
      let x : Tx = tx_on A s (base_in A s) in
      let has : accesses_of s.own ≡ o.accesses = ap accesses_of was in
      let made : IsMadeOfBoth (image_hash A.world.geometry) (image_tree A.world.geometry) Y x f.parts = record { base = base; are = f.are ∙ sym has; made = f.made } in
      let further = does.adds A.world.geometry store.some (area_is A region store) Y f.parts made in
      let cs = more_first_calls the_tree f.parts further.more (calls_in (firsts f.parts)) refl ∙ ap (λ (xs : List KeyCall). calls_in (firsts f.parts) ++ xs) further.calls_are in
      let xs = more_first_answers the_tree f.parts further.more (answers_in (firsts f.parts)) refl ∙ ap (λ (ys : List StoreAnswer). answers_in (firsts f.parts) ++ ys) further.answers_are in
      subst (IsFilled Both A t.seen) (some_is p q (sym is ∙ is_q))
      (record {
        before = f.before;
        known = prefix_trans (f.before ++ entry.Begin o.number o.begin o.mode ∷ []) s.seen t.seen f.known visited.moves.known;
        legal = f.legal;
        serial = f.serial;
        parts = f.parts ++ further.more;
        are = further.made.are;
        made = further.made.made;
        is = subst (λ (ks : List KeyCall). Both ks (answers_in (firsts (f.parts ++ further.more)))) (sym cs)
            (subst (λ (ys : List StoreAnswer). Both (calls_in (firsts f.parts) ++ does.calls) ys) (sym xs)
            (both (calls_in (firsts f.parts)) does.calls (answers_in (firsts f.parts)) does.answers f.is does.is));
      })

  -- a transaction that has just begun is of no calls
  begun_filled : (r s : SessionState) (at : ℕ) (did : HasBegun A r (Some Serial) (Ok at) s) → IsFilled NoCalls A s.seen (record { number = did.1; begin = at; mode = did.2; accesses = [] })
  begun_filled r s at did = record {
    before = did.3.entered.before;
    known = did.3.entered.known;
    legal = did.3.entered.legal;
    serial = did.4;
    parts = [];
    are = refl;
    made = tt;
    is = (refl, refl);
  }

  pub fills : (r s t : SessionState) (at : ℕ) (Then : OfCalls) → HasBegun A r (Some Serial) (Ok at) s → HasCalled A s t (λ x y before now. DoesIn region x y Then) → OwnFilled Then A t.seen t.own
  fills r s t at Then begun did =
      continues s t NoCalls Then Then (λ c d x y none then. subst (λ (ks : List KeyCall). Then (ks ++ d) (x ++ y)) (sym none.0) (subst (λ (ys : List StoreAnswer). Then d (ys ++ y)) (sym none.1) then))
      (record { number = begun.1; begin = at; mode = begun.2; accesses = [] }) begun.5 did.refused did.visited did.says.does (λ tells. begun_filled r s at begun)

  -- the second half of a transfer comes to the first one
  pub completes : (s t : SessionState) (to : List ℕ) (more : ℕ) (o : Own) → s.own ≡ Some o → HasCalled A s t (λ x y before now. HashPuts (area_of x region) to (to_be_bytes w64 more) (Ok tt) x y before now)
      → HoldsCalls accounts (IsTakenFor to more) A s → OwnFilled (IsOfAccounts accounts) A t.seen t.own
  completes s t to more o was did held =
      let x : Tx = tx_on A s (base_in A s) in
      let value = to_be_bytes w64 more in
      continues s t (IsTakenFor to more) (IsPut to value) (IsOfAccounts accounts) (λ c d x y half put. transfers accounts half.0 to half.1 (c ++ d) (x ++ y) (completed half.0 to half.1 more c d x y half.2 put)) o was did.refused did.visited
      (does_put (area_of x region) x (tx_on A t (base_in A s)) to value (put_adds (area_of x region) to value x (tx_on A t (base_in A s)) tt (may_call s).0 did.says.ended did.says.answers.local))
      (λ tells. held.filled tells o was)
