-- One step of the walk along a bucket's chain of blocks, for the answers of `walk`.
use Rattle.iso_hash.proofs.{Words.{◌≡◌, ◌∙◌, sym, refl, ap, subst, ℕ, suc, ◌+◌, ◌-◌, ◌*◌, ◌<◌, ◌≤◌, ◌==◌, Bool, true, false, cond, List, [], ◌∷◌, length, take, Option, Some, None, IfSome, arith, eq-eqb, ne_eqb, ForSome, Span, Area, Spot, own, or_else, block_at, Program, Done, bytes_in, further_bytes, with_further, look_access, cell_count, keys_end, keys_mark, value_mark, cell_with, unused_cell, are_key_parts, Walked, AtCell, AtEnd, AtBroken, walk, walk_from, walk_further, walk_next, spare_in, spot_in, is_linked, next_of, last_position, bucket_of, Tx, Device, with_accesses, Ran, IsCut, IsCause, TxError, IsAt, at_start, at_look, ran_at, cut_at_look, IsSpot, at_as}, Chains.{next_in, head_of}}

pub walk_begins : (a : Area) (key : List ℕ) (with_value : Bool) (bucket n : ℕ) (t : Tx) → bucket ≡ bucket_of a key → n ≡ last_position a
    → IsAt (walk a key with_value) (walk_from a key bucket with_value (n + 1 - 0) 0 0 (1 + bucket) None) t t
unfolding walk
walk_begins a key with_value bucket n t is last = grind (arith, at_start)

no_further_unlinked : (a : Area) (key : List ℕ) (bucket : ℕ) (with_value : Bool) (position : ℕ) (x : List ℕ) → is_linked a bucket position x ≡ false
    → walk_further a key bucket with_value position x ≡ None
no_further_unlinked a key bucket with_value position x not = grind arith

no_further_missing : (a : Area) (key : List ℕ) (bucket : ℕ) (with_value : Bool) (position : ℕ) (x : List ℕ) → cell_with a.size key x ≡ None
    → walk_further a key bucket with_value position x ≡ None
no_further_missing a key bucket with_value position x none = grind arith

wanted_in : (a : Area) (key : List ℕ) (bucket : ℕ) (position : ℕ) (x : List ℕ) (i : ℕ) (with_value : Bool) → is_linked a bucket position x ≡ true → cell_with a.size key x ≡ Some i
    → walk_further a key bucket with_value position x ≡ cond with_value (Some (value_mark a.size i)) None
wanted_in a key bucket position x i true linked some = rw (linked, some) refl
wanted_in a key bucket position x i false linked some = refl

marks : (with_value : Bool) (mark : Span) → cond with_value (mark ∷ []) [] ≡ with_further (cond with_value (Some mark) None)
marks with_value mark = grind arith

bytes_of : (with_value : Bool) (mark : Span) (bytes : List ℕ) → further_bytes (cond with_value (Some mark) None) bytes ≡ cond with_value (bytes_in mark bytes) []
bytes_of with_value mark bytes = grind arith

-- The walk is at this block, which has these bytes: after the read it ends broken, ends at the last block, ends at the key, or goes on.
pub record IsReading (whole : Program Walked) (a : Area) (key : List ℕ) (bucket : ℕ) (with_value : Bool) (end position before block : ℕ) (spare : Option Spot) (t u : Tx) (bytes : List ℕ) : Type 0 where
  pub here : IsAt whole (walk_from a key bucket with_value (end - position) position before block spare) t u
  pub below : position < end
  pub bytes_are : ForSome u.base (λ A. bytes ≡ block_at (own A u.accesses) (a.start + block))

module _ (whole : Program Walked) (a : Area) (key : List ℕ) (bucket : ℕ) (with_value : Bool) (end position before block : ℕ) (spare : Option Spot) (t u : Tx) (bytes : List ℕ)
    (now : IsReading whole a key bucket with_value end position before block spare t u bytes) where
  x : List ℕ
  x = take (keys_end a.size) bytes

  walk_on : ℕ → Option Spot → Program Walked
  walk_on next free = walk_from a key bucket with_value (end - (position + 1)) (position + 1) block next free

  -- after the read
  read : (v : Tx) → length v.accesses ≤ 4096 → v ≡ with_accesses u (look_access (a.start + block) (keys_mark a.size ∷ with_further (walk_further a key bucket with_value position x)) ∷ [])
      → IsAt whole (walk_next a key bucket position before block spare walk_on x (further_bytes (walk_further a key bucket with_value position x) bytes)) t v
  unfolding walk_on x
  read v fits is =
      let left : end - position ≡ suc (end - (position + 1)) = omega (arith, now.below) in
      at_look whole (a.start + block) (keys_mark a.size) (walk_further a key bucket with_value position) (walk_next a key bucket position before block spare walk_on) t u v bytes
      (subst (λ (m : ℕ). IsAt whole (walk_from a key bucket with_value m position before block spare) t u) left now.here) now.bytes_are fits is

  -- after a read under the first mark alone
  plain : (v : Tx) (n : ℕ) → length v.accesses ≤ 4096 → n ≡ cell_count a.size → v ≡ with_accesses u (look_access (a.start + block) (record { off = 0; len = 64 + 31 * n } ∷ []) ∷ [])
      → walk_further a key bucket with_value position x ≡ None → IsAt whole (walk_next a key bucket position before block spare walk_on x []) t v
  plain v n fits count is none =
      let made = read v fits (is ∙ ap (λ (m : ℕ). with_accesses u (look_access (a.start + block) (record { off = 0; len = 64 + 31 * m } ∷ []) ∷ [])) count
      ∙ ap (λ (f : Option Span). with_accesses u (look_access (a.start + block) (keys_mark a.size ∷ with_further f) ∷ [])) (sym none)) in
      subst (λ (f : Option Span). IsAt whole (walk_next a key bucket position before block spare walk_on x (further_bytes f bytes)) t v) none made

module _ (whole : Program Walked) (a : Area) (key : List ℕ) (bucket : ℕ) (with_value : Bool) (end position before block : ℕ) (spare : Option Spot) (t u : Tx) (bytes : List ℕ)
    (now : IsReading whole a key bucket with_value end position before block spare t u bytes) (v : Tx) (n : ℕ) (fits : length v.accesses ≤ 4096) (count : n ≡ cell_count a.size) where
  pub ends_broken : v ≡ with_accesses u (look_access (a.start + block) (record { off = 0; len = 64 + 31 * n } ∷ []) ∷ []) → is_linked a bucket position (take (64 + 31 * n) bytes) ≡ false → Ran whole t v (AtBroken (a.start + block))
  unfolding x walk_on
  ends_broken is not =
      let bad : is_linked a bucket position (take (keys_end a.size) bytes) ≡ false = subst (λ (m : ℕ). is_linked a bucket position (take (64 + 31 * m) bytes) ≡ false) count not in
      let next : walk_next a key bucket position before block spare (walk_on whole a key bucket with_value end position before block spare t u bytes now) (take (keys_end a.size) bytes) [] ≡ Done (AtBroken (a.start + block)) = rw bad refl in
      ran_at whole t v (AtBroken (a.start + block)) (at_as whole _ _ t v next (plain whole a key bucket with_value end position before block spare t u bytes now v n fits count is (no_further_unlinked a key bucket with_value position (take (keys_end a.size) bytes) bad)))

  pub ends_past : v ≡ with_accesses u (look_access (a.start + block) (record { off = 0; len = 64 + 31 * n } ∷ []) ∷ []) → is_linked a bucket position (take (64 + 31 * n) bytes) ≡ true → cell_with a.size key (take (64 + 31 * n) bytes) ≡ None
      → next_of (take (64 + 31 * n) bytes) ≡ 0 → Ran whole t v (AtEnd (spare_in a spare block (take (64 + 31 * n) bytes)) block position)
  unfolding x walk_on
  ends_past is = subst (λ (m : ℕ). is_linked a bucket position (take (64 + 31 * m) bytes) ≡ true → cell_with a.size key (take (64 + 31 * m) bytes) ≡ None
      → next_of (take (64 + 31 * m) bytes) ≡ 0 → Ran whole t v (AtEnd (spare_in a spare block (take (64 + 31 * m) bytes)) block position)) (sym count) (λ linked none last.
      let y = take (keys_end a.size) bytes in
      let end_test : (next_of y == 0) ≡ true = eq-eqb (next_of y) 0 last in
      let next : walk_next a key bucket position before block spare (walk_on whole a key bucket with_value end position before block spare t u bytes now) y [] ≡ Done (AtEnd (spare_in a spare block y) block position) = rw (linked, none, end_test) refl in
      ran_at whole t v (AtEnd (spare_in a spare block y) block position) (at_as whole _ _ t v next (plain whole a key bucket with_value end position before block spare t u bytes now v n fits count is (no_further_missing a key bucket with_value position y none))))

  pub goes_on : v ≡ with_accesses u (look_access (a.start + block) (record { off = 0; len = 64 + 31 * n } ∷ []) ∷ []) → is_linked a bucket position (take (64 + 31 * n) bytes) ≡ true → cell_with a.size key (take (64 + 31 * n) bytes) ≡ None
      → (next_of (take (64 + 31 * n) bytes) ≡ 0 → ⊥) → IsAt whole (walk_from a key bucket with_value (end - (position + 1)) (position + 1) block (next_of (take (64 + 31 * n) bytes)) (spare_in a spare block (take (64 + 31 * n) bytes))) t v
  unfolding x walk_on
  goes_on is = subst (λ (m : ℕ). is_linked a bucket position (take (64 + 31 * m) bytes) ≡ true → cell_with a.size key (take (64 + 31 * m) bytes) ≡ None
      → (next_of (take (64 + 31 * m) bytes) ≡ 0 → ⊥) → IsAt whole (walk_from a key bucket with_value (end - (position + 1)) (position + 1) block (next_of (take (64 + 31 * m) bytes)) (spare_in a spare block (take (64 + 31 * m) bytes))) t v) (sym count) (λ linked none more.
      let y = take (keys_end a.size) bytes in
      let not_last : (next_of y == 0) ≡ false = ne_eqb (next_of y) 0 more in
      let next : walk_next a key bucket position before block spare (walk_on whole a key bucket with_value end position before block spare t u bytes now) y [] ≡ walk_on whole a key bucket with_value end position before block spare t u bytes now (next_of y) (spare_in a spare block y) = rw (linked, none, not_last) refl in
      at_as whole _ _ t v next (plain whole a key bucket with_value end position before block spare t u bytes now v n fits count is (no_further_missing a key bucket with_value position y none)))

  -- at the key, whose value part is read where it is wanted
  pub ends_at_cell : (i : ℕ) → is_linked a bucket position (take (64 + 31 * n) bytes) ≡ true → cell_with a.size key (take (64 + 31 * n) bytes) ≡ Some i
      → v ≡ with_accesses u (look_access (a.start + block) (keys_mark a.size ∷ cond with_value (value_mark a.size i ∷ []) []) ∷ [])
      → Ran whole t v (AtCell (record { block = block; cell = i }) before (take (keys_end a.size) bytes) (cond with_value (bytes_in (value_mark a.size i) bytes) []))
  unfolding x walk_on
  ends_at_cell i = subst (λ (m : ℕ). is_linked a bucket position (take (64 + 31 * m) bytes) ≡ true → cell_with a.size key (take (64 + 31 * m) bytes) ≡ Some i
      → v ≡ with_accesses u (look_access (a.start + block) (keys_mark a.size ∷ cond with_value (value_mark a.size i ∷ []) []) ∷ [])
      → Ran whole t v (AtCell (record { block = block; cell = i }) before (take (keys_end a.size) bytes) (cond with_value (bytes_in (value_mark a.size i) bytes) []))) (sym count) (λ linked some is.
      let y = take (keys_end a.size) bytes in
      let further : walk_further a key bucket with_value position y ≡ cond with_value (Some (value_mark a.size i)) None = wanted_in a key bucket position y i with_value linked some in
      let made = read whole a key bucket with_value end position before block spare t u bytes now v fits
      (is ∙ ap (λ (m : List Span). with_accesses u (look_access (a.start + block) (keys_mark a.size ∷ m) ∷ [])) (marks with_value (value_mark a.size i) ∙ ap with_further (sym further))) in
      let value : further_bytes (walk_further a key bucket with_value position y) bytes ≡ cond with_value (bytes_in (value_mark a.size i) bytes) [] =
      ap (λ (f : Option Span). further_bytes f bytes) further ∙ bytes_of with_value (value_mark a.size i) bytes in
      let next : walk_next a key bucket position before block spare (walk_on whole a key bucket with_value end position before block spare t u bytes now) y (further_bytes (walk_further a key bucket with_value position y) bytes)
      ≡ Done (AtCell (record { block = block; cell = i }) before y (cond with_value (bytes_in (value_mark a.size i) bytes) [])) = rw (value, linked, some) refl in
      ran_at whole t v _ (at_as whole _ _ t v next made))

-- where the read is refused
pub read_refused : (whole : Program Walked) (a : Area) (key : List ℕ) (bucket : ℕ) (with_value : Bool) (end position before block : ℕ) (spare : Option Spot) (t u v : Tx) (d n : Device) (e : TxError)
    → IsAt whole (walk_from a key bucket with_value (end - position) position before block spare) t u → position < end → v ≡ u → IsCause v 1 d n e → IsCut whole t v e
read_refused whole a key bucket with_value end position before block spare t u v d n e here below same cause =
    let left : end - position ≡ suc (end - (position + 1)) = omega arith in
    cut_at_look whole (a.start + block) (keys_mark a.size) (walk_further a key bucket with_value position)
    (walk_next a key bucket position before block spare (λ next free. walk_from a key bucket with_value (end - (position + 1)) (position + 1) block next free)) t u v d n e
    (subst (λ (m : ℕ). IsAt whole (walk_from a key bucket with_value m position before block spare) t u) left here) same cause

-- where the next block may stand
pub next_inside : (a : Area) (bucket position : ℕ) (x : List ℕ) → is_linked a bucket position x ≡ true → (next_of x ≡ 0 → ⊥) → next_of x < a.blocks
next_inside a bucket position x linked more = (next_in a position (next_of x) (head_of a bucket position x linked).next_is more).inside

pub linked_parts : (a : Area) (bucket position : ℕ) (x : List ℕ) → is_linked a bucket position x ≡ true → are_key_parts a.size x ≡ true
linked_parts a bucket position x linked = (head_of a bucket position x linked).parts

pub spare_is : (a : Area) (spare : Option Spot) (block : ℕ) (x : List ℕ) (unused : Option ℕ) (r : Option Spot) → r ≡ or_else spare (spot_in block unused) → unused ≡ unused_cell a.size x → r ≡ spare_in a spare block x
spare_is a spare block x unused r is unused_is = is ∙ ap (λ (o : Option ℕ). or_else spare (spot_in block o)) unused_is

-- a look-up that was not Some
pub missing : (o r : Option ℕ) → r ≡ o → ((i : ℕ) → r ≡ Some i → ⊥) → o ≡ None
missing None r is other = refl
missing (Some i) r is other = absurd (other i is)

pub with_value_mark : (a : Area) (u w : Tx) (b n i : ℕ) (with_value : Bool) → with_value ≡ true → n ≡ cell_count a.size
    → w ≡ with_accesses u (look_access b (record { off = 0; len = 64 + 31 * n } ∷ record { off = 64 + 31 * n + 33 * i; len = 33 } ∷ []) ∷ [])
    → w ≡ with_accesses u (look_access b (keys_mark a.size ∷ cond with_value (value_mark a.size i ∷ []) []) ∷ [])
with_value_mark a u w b n i with_value wanted count is = grind arith

pub without_value_mark : (a : Area) (u w : Tx) (b n i : ℕ) (with_value : Bool) → with_value ≡ false → n ≡ cell_count a.size
    → w ≡ with_accesses u (look_access b (record { off = 0; len = 64 + 31 * n } ∷ []) ∷ [])
    → w ≡ with_accesses u (look_access b (keys_mark a.size ∷ cond with_value (value_mark a.size i ∷ []) []) ∷ [])
without_value_mark a u w b n i with_value unwanted count is = grind arith

pub spare_inside : (a : Area) (spare : Option Spot) (block : ℕ) (unused : Option ℕ) (r : Option Spot) → r ≡ or_else spare (spot_in block unused)
    → IfSome spare (IsSpot a) → block < a.blocks → IfSome unused (λ cell. cell < cell_count a.size) → IfSome r (IsSpot a)
spare_inside a (Some spot) block unused r is old inside below = subst (λ (o : Option Spot). IfSome o (IsSpot a)) (sym is) old
spare_inside a None block (Some i) r is old inside below = subst (λ (o : Option Spot). IfSome o (IsSpot a)) (sym is) (record { block = inside; cell = below })
spare_inside a None block None r is old inside below = subst (λ (o : Option Spot). IfSome o (IsSpot a)) (sym is) tt
