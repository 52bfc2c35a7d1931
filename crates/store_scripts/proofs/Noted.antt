-- What is told of the live transactions of a world is true, and how it stays so.
use Rattle.store_scripts.proofs.{Words.{◌≡◌, ◌≢◌, ◌∙◌, sym, refl, ap, subst, ℕ, ◌≤◌, ◌==◌, ◌&&◌, ◌||◌, not, Bool, true, false, cond, IsTrue, List, [], ◌∷◌, ◌++◌, length, drop, Option, Some, None, arith, inl, inr, eq-eqb, ne_eqb, AllByRecursion, list_all, and_parts, cases_eq, Access, Geometry, Mode, Op, Reply, Array, has_write, is_write, History, array_at, last, hash_area, with_accesses, Live, World, attached, with, IsWorld, all_weaker, IsByBoth, in_area, SpareRegion, IsToldOf, ToldByMap, image_hash, Answered, Notes, Told, accesses_or_none, nothing_told, spares_calls, spares_stores, told_by, told_more, SecondStore, second_store}, Finding.attached_with, Growing.{other_told, same_told}, Reading.front_reads}

pub drop_past : (xs ys : List Access) → drop (length xs) (xs ++ ys) ≡ ys
drop_past [] ys = refl
drop_past (x ∷ xs) ys = drop_past xs ys

either_true : (x y : Bool) → (not x || y) ≡ true → x ≡ true → y ≡ true
either_true true y is pass = is
either_true false y is pass = cc

not_true : (x : Bool) → not x ≡ true → x ≡ false
not_true true is = cc
not_true false is = refl

with_each : (P : Live → Type 0) (t : Live) (live : List Live) → P t → AllByRecursion (λ u. u.number ≢ t.number → P u) live → AllByRecursion P (with t live)
with_each P t [] is all = tt
with_each P t (u ∷ live) is all = (
  elim (cases_eq u.number t.number) [
    | inl owner ↦ subst P (sym (ap (λ (b : Bool). cond b t u) (eq-eqb u.number t.number owner))) is
    | inr other ↦ subst P (sym (ap (λ (b : Bool). cond b t u) (ne_eqb u.number t.number other))) (all.0 other)
  ],
  with_each P t live is all.1,
)

module _ (S : SecondStore) where
  -- What is told of a transaction that began at n or later: it is true where the transaction keeps to the stores; and on the premise Q,
  -- where it wrote nothing, each call answered by the map at its begin.
  pub record Holds (Q : Type 0) (n : ℕ) (g : Geometry) (A : Array) (begin : ℕ) (accesses : List Access) (mode : Mode) (told : Told S) : Type 0 where
    pub since : n ≤ begin
    pub made : IsTrue told.kept → IsToldOf S g A accesses mode told
    pub by_map : Q → has_write accesses ≡ false → ToldByMap S g told A

  abbrev pub IsKept : (Q : Type 0) → (n : ℕ) → Geometry → History → Notes S → Live → Type 0
  IsKept Q n g H notes t = Holds Q n g (array_at H t.begin) t.begin t.accesses t.mode (notes t.number)

  -- the same calls, where no more transactions count as keeping to the stores
  pub holds_same : (Q : Type 0) (n : ℕ) (g : Geometry) (A : Array) (begin : ℕ) (accesses : List Access) (mode : Mode) (told : Told S) (kept : Bool) → Holds Q n g A begin accesses mode told
      → (IsTrue kept → IsTrue told.kept) → Holds Q n g A begin accesses mode (record told { kept = kept })
  holds_same Q n g A begin accesses mode told kept holds back = record {
    since = holds.since;
    made = λ more. same_told S g A accesses mode told (holds.made (back more)) kept;
    by_map = λ q none. let was = holds.by_map q none in record { hash = was.hash; second = was.second };
  }

  -- A sound world: what is told of its live transactions is true, and nothing of later ones. Its commits after n are by calls, on the
  -- premise Q, by which those that commit keep to the stores.
  pub record IsNoted (Q : Type 0) (n : ℕ) (W : World) (notes : Notes S) : Type 0 where
    pub world : IsWorld W
    pub each : AllByRecursion (IsKept Q n W.geometry W.history notes) W.live
    pub low : n ≤ last W.history
    pub by : Q → IsByBoth (image_hash W.geometry) (second_store S W.geometry) W.geometry W.history n
    pub fresh : (number : ℕ) → W.next ≤ number → notes number ≡ nothing_told S

  -- the notes after a line that is answered so, by who is attached to its client
  abbrev pub notes_by : World → Notes S → (c : ℕ) → Op → Option Live → Reply × World → Notes S
  notes_by W notes c op o x = λ number. told_by S W.geometry c number op o x (notes number)

  -- where a line that is answered so leads
  pub record Goes (Q : Type 0) (n : ℕ) (W : World) (notes : Notes S) (c : ℕ) (op : Op) (o : Option Live) (x : Reply × World) : Type 0 where
    pub next : W.next ≤ x.1.next
    pub each : AllByRecursion (IsKept Q n x.1.geometry x.1.history (notes_by W notes c op o x)) x.1.live
    pub low : n ≤ last x.1.history
    pub by : Q → IsByBoth (image_hash x.1.geometry) (second_store S x.1.geometry) x.1.geometry x.1.history n

  pub choose : (Q : Type 0) (n : ℕ) (W : World) (notes : Notes S) (c : ℕ) (op : Op) (o : Option Live) (test : Bool) (x y : Reply × World) → Goes Q n W notes c op o x → (test ≡ false → Goes Q n W notes c op o y)
      → Goes Q n W notes c op o (cond test x y)
  choose Q n W notes c op o true x y one two = one
  choose Q n W notes c op o false x y one two = two refl

  -- accesses that pass the test write neither region
  spared : (g : Geometry) (accesses : List Access) → list_all (spares_stores S g) accesses ≡ true → SpareRegion (image_hash g) accesses × SpareRegion (second_store S g) accesses
  spared g [] all = (tt, tt)
  spared g (a ∷ accesses) all =
      let here = and_parts (spares_stores S g a) (list_all (spares_stores S g) accesses) all in
      let rest = spared g accesses here.1 in
      let neither = λ (write : is_write a ≡ true). and_parts (not (in_area (hash_area g) a.block)) (not ((second_store S g).has_block a.block)) (either_true (is_write a) _ here.0 write) in
      ((λ write. not_true _ (neither write).0, rest.0), (λ write. not_true _ (neither write).1, rest.1))

  module _ (Q : Type 0) (n : ℕ) (W : World) (notes : Notes S) (is : IsNoted Q n W notes) (c : ℕ) (op : Op) where
    -- a line of another transaction tells nothing of it
    pub other_is : (t : Live) (number : ℕ) (x : Reply × World) (told : Told S) → t.number ≢ number → told_by S W.geometry c number op (Some t) x told ≡ told
    other_is t number x told other = grind arith

    owner_is : (t : Live) (x : Reply × World) (told : Told S)
        → told_by S W.geometry c t.number op (Some t) x told ≡ told_more S W.geometry op x.0 t.accesses (accesses_or_none (attached x.1 c)) told (S.answered op x.0)
    owner_is t x told = grind arith

    other_kept : (H : History) (t u : Live) (x : Reply × World) → u.number ≢ t.number → IsKept Q n W.geometry H notes u → IsKept Q n W.geometry H (notes_by W notes c op (Some t) x) u
    other_kept H t u x other kept = grind (arith, other_is)

    -- a line that made no call which was answered Ok leaves what is told of calls
    quiet_more : (g : Geometry) (A : Array) (u : Live) (before after : List Access) (r : Reply) (a : Option (Answered S.Call S.Answer)) (told : Told S) → a ≡ None → Holds Q n g A u.begin u.accesses u.mode told
        → Holds Q n g A u.begin u.accesses u.mode (told_more S W.geometry op r before after told a)
    quiet_more g A u before after r None told none kept = grind (arith, holds_same)
    quiet_more g A u before after r (Some call) told none kept = absurd (cc none)

    pub quiet : (g : Geometry) (H : History) (o : Option Live) (x : Reply × World) (u : Live) → S.answered op x.0 ≡ None → IsKept Q n g H notes u → IsKept Q n g H (notes_by W notes c op o x) u
    quiet g H None x u none kept = kept
    quiet g H (Some t) x u none kept =
        elim (t.number == u.number) as (λ (b : Bool).
        Holds Q n g (array_at H u.begin) u.begin u.accesses u.mode (cond b (told_more S W.geometry op x.0 t.accesses (accesses_or_none (attached x.1 c)) (notes u.number) (S.answered op x.0)) (notes u.number))) [
          | true ↦ quiet_more g (array_at H u.begin) u t.accesses (accesses_or_none (attached x.1 c)) x.0 (S.answered op x.0) (notes u.number) none kept
          | false ↦ kept
        ]

    -- a line that changes nothing
    pub stays : (o : Option Live) (r : Reply) → S.answered op r ≡ None → Goes Q n W notes c op o (r, W)
    stays o r none = record {
      next = omega arith;
      each = all_weaker (IsKept Q n W.geometry W.history notes) (IsKept Q n W.geometry W.history (notes_by W notes c op o (r, W))) (λ u. quiet W.geometry W.history o (r, W) u none) W.live is.each;
      low = is.low;
      by = is.by;
    }

    -- the transaction of a client gets other accesses
    pub changes : (t : Live) (r : Reply) (accesses : List Access) → attached W c ≡ Some t
        → Holds Q n W.geometry (array_at W.history t.begin) t.begin accesses t.mode (told_more S W.geometry op r t.accesses accesses (notes t.number) (S.answered op r))
        → Goes Q n W notes c op (Some t) (r, with_accesses W t accesses)
    changes t r accesses found told =
        let new : Live = record t { accesses = accesses } in
        let x : Reply × World = (r, with_accesses W t accesses) in
        let after_is : accesses_or_none (attached (with_accesses W t accesses) c) ≡ accesses = ap accesses_or_none (attached_with W c t accesses is.world found) in
        let told_is : told_more S W.geometry op r t.accesses accesses (notes t.number) (S.answered op r) ≡ told_by S W.geometry c t.number op (Some t) x (notes t.number) =
        sym (owner_is t x (notes t.number) ∙ ap (λ (after : List Access). told_more S W.geometry op r t.accesses after (notes t.number) (S.answered op r)) after_is) in
        record {
          next = omega arith;
          each = with_each (IsKept Q n W.geometry W.history (notes_by W notes c op (Some t) x)) new W.live
              (subst (λ (m : Told S). Holds Q n W.geometry (array_at W.history t.begin) t.begin accesses t.mode m) told_is told)
              (all_weaker (IsKept Q n W.geometry W.history notes) (λ (u : Live). u.number ≢ t.number → IsKept Q n W.geometry W.history (notes_by W notes c op (Some t) x) u)
              (λ u kept other. other_kept W.history t u x other kept) W.live is.each);
          low = is.low;
          by = is.by;
        }

    -- with accesses of a line that made no call which was answered Ok
    more_told : (t : Live) (r : Reply) (done : List Access) (a : Option (Answered S.Call S.Answer)) → a ≡ None → IsKept Q n W.geometry W.history notes t
        → Holds Q n W.geometry (array_at W.history t.begin) t.begin (t.accesses ++ done) t.mode (told_more S W.geometry op r t.accesses (t.accesses ++ done) (notes t.number) a)
    more_told t r done None none kept = record {
      since = kept.since;
      made = λ more.
          let told = notes t.number in
          let after = t.accesses ++ done in
          let both = and_parts (told.kept && list_all (spares_stores S W.geometry) (drop (length t.accesses) after)) (spares_calls op r told.over (length t.accesses)) more in
          let parts = and_parts told.kept (list_all (spares_stores S W.geometry) (drop (length t.accesses) after)) both.0 in
          let spare = spared W.geometry done (sym (ap (list_all (spares_stores S W.geometry)) (drop_past t.accesses done)) ∙ parts.1) in
          other_told S W.geometry (array_at W.history t.begin) t.accesses t.mode told (kept.made parts.0) done (told_more S W.geometry op r t.accesses after told None).kept spare.0 spare.1;
      by_map = λ q reads. let was = kept.by_map q (front_reads t.accesses done reads) in record { hash = was.hash; second = was.second };
    }
    more_told t r done (Some call) none kept = absurd (cc none)

    pub adds : (t : Live) (r : Reply) (done : List Access) → attached W c ≡ Some t → IsKept Q n W.geometry W.history notes t → S.answered op r ≡ None
        → Goes Q n W notes c op (Some t) (r, with_accesses W t (t.accesses ++ done))
    adds t r done found kept none = changes t r (t.accesses ++ done) found (more_told t r done (S.answered op r) none kept)
