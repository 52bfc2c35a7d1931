-- What own writes make of a range of a block hangs on that range alone.
use Rattle.iso_machine.proofs.Words.{◌≡◌, ◌∙◌, inl, inr, sym, refl, ap, subst, ℕ, zero, suc, ◌+◌, ◌-◌, ◌<◌, ◌≤◌, Bool, true, false, IsSome, cond, List, [], ◌∷◌, length, take, drop, get_or, replicate, arith, Option, Some, None, ForSome, cases_eq, get_or-replicate, Access, Span, Array, byte_at, covered, merged, put, is_write, own, array_at, block_at, shown_to, World, Live, IsWorld, at_range, same_range, array_shape, length-block_access, length-block_own, other_block, written_block}

merged_byte : (spans : List Span) (p k : ℕ) (xs ys new : List ℕ) → k < length xs → k < length ys → get_or xs k 0 ≡ get_or ys k 0 → get_or (merged spans p xs new) k 0 ≡ get_or (merged spans p ys new) k 0
merged_byte spans p k [] ys new below inside same = absurd (omega (arith, below))
merged_byte spans p k (x ∷ xs) [] new below inside same = absurd (omega (arith, inside))
merged_byte spans p k (x ∷ xs) (y ∷ ys) [] below inside same = same
merged_byte spans p zero (x ∷ xs) (y ∷ ys) (n ∷ new) below inside same = ap (λ (z : ℕ). cond (covered spans p) n z) same
merged_byte spans p (suc k) (x ∷ xs) (y ∷ ys) (n ∷ new) below inside same = merged_byte spans (p + 1) k xs ys new (omega (arith, below)) (omega (arith, inside)) same

-- the arrays have the byte, and it is the same
record HaveByte (A B : Array) (b k : ℕ) : Type 0 where
  pub below : k < length (block_at A b)
  pub inside : k < length (block_at B b)
  pub same : byte_at A b k ≡ byte_at B b k

put_byte : (A B : Array) (w : Access) (b k : ℕ) → HaveByte A B b k → byte_at (put A w) b k ≡ byte_at (put B w) b k
put_byte A B w b k have = elim (cases_eq b w.block) [
  | inl e ↦ subst (λ (c : ℕ). HaveByte A B c k → byte_at (put A w) c k ≡ byte_at (put B w) c k) (sym e) written have
  | inr other ↦ ap (λ (l : List ℕ). get_or l k 0) (other_block A w b other) ∙ have.same ∙ sym (ap (λ (l : List ℕ). get_or l k 0) (other_block B w b other))
]
  where
    written : HaveByte A B w.block k → byte_at (put A w) w.block k ≡ byte_at (put B w) w.block k
    written has =
        ap (λ (l : List ℕ). get_or l k 0) (written_block A w) ∙ merged_byte w.spans 0 k (block_at A w.block) (block_at B w.block) w.bytes has.below has.inside has.same
        ∙ sym (ap (λ (l : List ℕ). get_or l k 0) (written_block B w))

access_byte : (test : Bool) (A B : Array) (a : Access) (b k : ℕ) → HaveByte A B b k → byte_at (cond test (put A a) A) b k ≡ byte_at (cond test (put B a) B) b k
access_byte true A B a b k have = put_byte A B a b k have
access_byte false A B a b k have = have.same

own_byte : (A B : Array) (accesses : List Access) (b k : ℕ) → HaveByte A B b k → byte_at (own A accesses) b k ≡ byte_at (own B accesses) b k
own_byte A B [] b k have = have.same
own_byte A B (a ∷ accesses) b k have =
    own_byte (cond (is_write a) (put A a) A) (cond (is_write a) (put B a) B) accesses b k (record {
      below = omega (arith, have.below, length-block_access (is_write a) A a b);
      inside = omega (arith, have.inside, length-block_access (is_write a) B a b);
      same = access_byte (is_write a) A B a b k have;
    })

own_range : (A B : Array) (accesses : List Access) (b off len : ℕ) → off + len ≤ length (block_at A b) → off + len ≤ length (block_at B b) → take len (drop off (block_at A b)) ≡ take len (drop off (block_at B b))
    → take len (drop off (block_at (own A accesses) b)) ≡ take len (drop off (block_at (own B accesses) b))
own_range A B accesses b off len fits within same =
    same_range off len (block_at (own A accesses) b) (block_at (own B accesses) b) (omega (arith, fits, length-block_own A accesses b)) (omega (arith, within, length-block_own B accesses b)) (λ p from to.
    own_byte A B accesses b p (record {
      below = omega (arith, to, fits);
      inside = omega (arith, to, within);
      same = sym (at_range off len (block_at A b) p from to) ∙ ap (λ (l : List ℕ). get_or l (p - off) 0) same ∙ at_range off len (block_at B b) p from to;
    }))

module _ (W : World) (of : IsWorld W) (t : Live) (block : ℕ) (below : block < W.geometry.blocks) where
  pub length-shown : length (shown_to W t block) ≡ W.geometry.block
  length-shown = length-block_own (array_at W.history t.begin) t.accesses block ∙ (array_shape W.geometry W.history t.begin of.history).bytes block below

  -- a block of which a range is right, under the own writes
  pub shown_range : (off len : ℕ) (read laid : List ℕ) → off + len ≤ length read → length read ≡ W.geometry.block → take len (drop off read) ≡ take len (drop off (block_at (array_at W.history t.begin) block))
      → ((A : Array) → block_at A block ≡ read → laid ≡ block_at (own A t.accesses) block) → take len (drop off laid) ≡ take len (drop off (shown_to W t block))
  shown_range off len read laid fits long same is =
      let A : Array = replicate (block + 1) read in
      let B : Array = array_at W.history t.begin in
      let there : block_at A block ≡ read = get_or-replicate (block + 1) block read [] (omega arith) in
      let shape = (array_shape W.geometry W.history t.begin of.history).bytes block below in
      ap (λ (l : List ℕ). take len (drop off l)) (is A there)
      ∙ own_range A B t.accesses block off len (omega (arith, fits, ap (λ (l : List ℕ). length l) there)) (omega (arith, fits, long, shape)) (ap (λ (l : List ℕ). take len (drop off l)) there ∙ same)

-- what is known of bytes that the disk tells is known where it tells them
pub when_told : {P : Type 0} (o : Option (List ℕ)) → ForSome o (λ _. P) → IsSome o → P
when_told None each some = absurd (cc some)
when_told (Some c) each some = each c refl
