-- One row more in the patches.
use Rattle.tx_table.proofs.Words.{◌≡◌, ◌∙◌, refl, sym, ap, ℕ, zero, suc, ◌+◌, ◌<◌, Bool, true, false, ◌==◌, ◌&&◌, nat_lt, cond, inl, inr, List, [], ◌∷◌, ◌++◌, length, get_or, map, take, arith, ne_eqb, Option, IsTrue, AllByRecursion, cases_eq, common_steps, Access, Kind, Extent, touches, AreTouched, Array, is_write, own, block_at, HasBytes, laid, written, written_effects, effects_kept, effects_shown, Row, AreEffects, has_patch, patch_at, HasTheSame, HavePatches, Held, access_of, IsRow}

-- the accesses of one row more
pub rows_more : (i : ℕ) (rows : List Row) (d : Row) → i < length rows → take (i + 1) (map access_of rows) ≡ take i (map access_of rows) ++ access_of (get_or rows i d) ∷ []
rows_more i [] d lt = absurd (omega arith)
rows_more zero (x ∷ rows) d lt = refl
rows_more (suc i) (x ∷ rows) d lt =
    let e : suc i + 1 ≡ suc (i + 1) = omega arith in
    rw e (ap (λ (l : List Access). access_of x ∷ l) (rows_more i rows d (omega arith)))

pub patch_of_row : (i : ℕ) (rows : List Row) (d : Row) (entries : List (ℕ × List (Option ℕ))) → HavePatches (map access_of rows) entries → i < length rows
    → IsTrue (is_write (access_of (get_or rows i d))) → has_patch (get_or rows i d).block entries ≡ true
patch_of_row i [] d entries all lt = absurd (omega arith)
patch_of_row zero (x ∷ rows) d entries all lt = all.0
patch_of_row (suc i) (x ∷ rows) d entries all lt = patch_of_row i rows d entries all.1 (omega arith)

-- two states with the same as one before have it of each other
pub then_same : {a b c : Held} → HasTheSame b c → HasTheSame a b → HasTheSame a c
then_same later earlier = record { size = later.size ∙ earlier.size; spare = later.spare ∙ earlier.spare; kept = λ n. later.kept n ∙ earlier.kept n }

-- a write more
pub write_applied : (size : ℕ) (done : List Access) (a : Access) (old new : List (ℕ × List (Option ℕ))) → is_write a ≡ true → length a.bytes ≡ size
    → AreEffects size done old
    → ((b : ℕ) → patch_at size b new ≡ cond (a.block == b) (written a.spans 0 (patch_at size b old) a.bytes) (patch_at size b old))
    → AreEffects size (done ++ a ∷ []) new
write_applied size done a old new write long before step = record {
  each = λ b. step b ∙ elim (cases_eq a.block b) [
    | inl same ↦
        (let here : (a.block == b) ≡ true = grind (arith, common_steps) in
        rw (here, before.each b) (written_effects done a b 0 size (omega arith) write here))
    | inr other ↦
        (let apart : (a.block == b) ≡ false = ne_eqb a.block b other in
        rw (apart, before.each b) (sym (effects_kept done a b 0 size (λ is. other))))
  ];
}

-- a read more
pub read_applied : (size : ℕ) (done : List Access) (a : Access) (entries : List (ℕ × List (Option ℕ))) → is_write a ≡ false
    → AreEffects size done entries → AreEffects size (done ++ a ∷ []) entries
read_applied size done a entries read before = grind (arith, effects_kept)

pub rows_have_bytes : (size blocks : ℕ) (rows : List Row) → AllByRecursion (λ row. IsRow size row × (row.block < blocks)) rows → AllByRecursion (HasBytes size) (map access_of rows)
rows_have_bytes size blocks [] all = tt
rows_have_bytes size blocks (x ∷ rows) all = (all.0.0.bytes, rows_have_bytes size blocks rows all.1)

-- what is laid over the block as it stood is what the accesses leave of it
pub shown_of : (A : Array) (accesses : List Access) (b size held : ℕ) (entries : List (ℕ × List (Option ℕ))) (into new : List ℕ) → held ≡ size
    → AllByRecursion (HasBytes size) accesses → AreEffects size accesses entries → length into ≡ size → block_at A b ≡ into
    → new ≡ laid (patch_at held b entries) into → new ≡ block_at (own A accesses) b
shown_of A accesses b size held entries into new same whole are long is laid_is = grind (arith, effects_shown)

and_false : (s t : Bool) → false ≡ (s && t && false)
and_false s t = grind arith

pub none_touched : (size blocks : ℕ) (kind : Kind) (bytes : List (ℕ × List Extent)) → ((b p : ℕ) → touches bytes b p ≡ false) → AreTouched size blocks kind [] bytes
none_touched size blocks kind bytes none = record { is = λ b p. none b p ∙ and_false (nat_lt b blocks) (nat_lt p size) }
