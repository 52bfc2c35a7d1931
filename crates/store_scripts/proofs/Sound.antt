-- A transaction alone in a sound world: what is told of it stays true by a line that gives it further accesses.
use Rattle.store_scripts.proofs.ThreadWords.{◌≡◌, sym, refl, subst, ℕ, zero, suc, ◌<◌, ◌≤◌, ◌==◌, cond, IsTrue, List, [], ◌∷◌, length, None, Some, arith, AllByRecursion, Access, Geometry, MAX_ACCESSES, Array, is_valid, and_from, and_parts, le-leb, AreAccesses, HasShape, IsAccess, IsSpan, HasBytes, with_accesses, World, fresh, IsWorld, limits, with_lives, all_weaker, fresh_is, Op, Reply, IsOp, step, Own, alone, live_of, IsToldOf, SecondStore, Notes, Told, nothing_told, told_more, SecondGoes, in_form, noted_step, IsNoted, IsSecond, told_by}

-- the geometry of an image in which each transaction may have either mode
abbrev pub second_form : Geometry → Geometry
second_form g = record g { form = 2 }

-- the transaction as the first one of an image without commits
abbrev pub as_first : Own → Own
as_first o = record o { number = 0; begin = 0 }

abbrev pub sound : Geometry → Array → Own → World
sound g B o = alone (second_form g) B (Some (as_first o))

valid_second : (g : Geometry) → IsTrue (is_valid g) → IsTrue (is_valid (second_form g))
unfolding is_valid
valid_second g valid =
    let last_is = and_parts _ _ valid in
    let first_is = and_parts _ _ last_is.0 in
    and_from _ _ (and_from _ _ first_is.0 (le-leb 1 2 (omega arith))) (le-leb 2 2 (omega arith))

-- the form of an image says nothing of accesses
pub same_shape_accesses : (g h : Geometry) → h.blocks ≡ g.blocks → h.block ≡ g.block → (accesses : List Access) → AreAccesses g accesses → AreAccesses h accesses
same_shape_accesses g h blocks size accesses all =
    all_weaker (IsAccess g) (IsAccess h) (λ a is. record {
      block = subst (λ n. a.block < n) (sym blocks) is.block;
      spans = subst (λ n. AllByRecursion (IsSpan n) a.spans) (sym size) is.spans;
      few = is.few;
      bytes = subst (λ n. HasBytes n a) (sym size) is.bytes;
      none = is.none;
      values = is.values;
    }) accesses all

pub sound_is : (g : Geometry) (B : Array) (o : Own) → IsTrue (is_valid g) → HasShape g B → AreAccesses g o.accesses → length o.accesses ≤ MAX_ACCESSES → IsWorld (sound g B o)
sound_is g B o valid shape accesses few =
    let h : Geometry = second_form g in
    let log : 64 ≤ g.log = (limits g valid).least_log in
    let w : IsWorld (fresh h 1 (record { first = 1; base = B; commits = [] })) =
    fresh_is h 1 (record { first = 1; base = B; commits = [] }) (valid_second g valid)
    (record { first = omega arith; base = record { blocks = shape.blocks; bytes = shape.bytes; values = shape.values }; commits = tt }) (λ k from to. tt) tt (omega arith) (omega arith) (omega arith) in
    with_lives (alone h B None) (live_of (as_first o) ∷ []) 1 w (
      record {
        accesses = same_shape_accesses g h refl refl o.accesses accesses;
        count = few;
        since = omega arith;
        begin = omega arith;
        mode = λ one. absurd (cc one);
        number = omega arith;
        place = tt;
      },
      tt,
    ) (tt, tt) (omega arith) (omega arith)

module _ (S : SecondStore) where
  -- what is told of a transaction that began with this array, whose accesses are ones that it may have made, is true if it is kept
  pub record IsGood (g : Geometry) (B : Array) (o : Own) (told : Told S) : Type 0 where
    pub accesses : AreAccesses g o.accesses
    pub count : length o.accesses ≤ MAX_ACCESSES
    pub made : IsTrue told.kept → IsToldOf S g B o.accesses o.mode told

  -- what is told of the first transaction alone
  abbrev only : Told S → Notes S
  only told zero = told
  only told (suc n) = nothing_told S

  only_fresh : (told : Told S) (n : ℕ) → 1 ≤ n → only told n ≡ nothing_told S
  only_fresh told zero past = absurd (omega arith)
  only_fresh told (suc n) past = refl

  module _ (lawful : IsSecond S) (second : SecondGoes S) (g : Geometry) (B : Array) (o : Own) (told : Told S) (valid : IsTrue (is_valid g)) (shape : HasShape g B) (good : IsGood g B o told) where
    noted_is : IsNoted S ⊥ 0 (sound g B o) (only told)
    noted_is = record {
      world = sound_is g B o valid shape good.accesses good.count;
      each = (record { since = omega arith; made = λ kept. in_form S g B o.accesses o.mode told (good.made kept) 2; by_map = λ q. absurd q }, tt);
      low = omega arith;
      by = λ q. absurd q;
      fresh = only_fresh told;
    }

    -- a line that gives it these accesses
    pub line_good : (op : Op) (r : Reply) (l : List Access) → IsOp op → step (sound g B o) 1 op ≡ (r, with_accesses (sound g B o) (live_of (as_first o)) l)
        → IsGood g B (record o { accesses = l }) (told_more S g op r o.accesses l told (S.answered op r))
    line_good op r l isop is =
        let W : World = sound g B o in
        let h : Geometry = second_form g in
        let next = noted_step S lawful second ⊥ 0 W (only told) noted_is 1 op isop (λ q. absurd q) in
        let V : World = with_accesses W (live_of (as_first o)) l in
        let at : IsNoted S ⊥ 0 V (λ number. cond (0 == number) (told_more S h op r o.accesses l (only told number) (S.answered op r)) (only told number)) =
        subst (λ (x : Reply × World). IsNoted S ⊥ 0 x.1 (λ number. told_by S h 1 number op (Some (live_of (as_first o))) x (only told number))) is next in
        record {
          accesses = same_shape_accesses h g refl refl l at.world.live.0.accesses;
          count = at.world.live.0.count;
          made = λ kept. in_form S h B l o.mode (told_more S g op r o.accesses l told (S.answered op r)) (at.each.0.made kept) g.form;
        }
