-- An access that is entered last, once the writes of all others are in the patches.
use Rattle.tx_table.proofs.{Words.{◌≡◌, ◌∙◌, ap, subst, arith, ℕ, ◌<◌, List, Option, Some, IfSome, length, length-map, map, take, AllByRecursion, Access, Array, own, block_at, laid, Row, AreEffects, HasOneMore, HasTheSame, HavePatches, Held, patch_at, access_of, IsRow}, Applied.{rows_have_bytes, shown_of}, Last.have_kept}

-- the patches hold what all rows write, and each block that they write has one
pub record AreSet (size : ℕ) (rows : List Row) (patches : Held) : Type 0 where
  pub sized : patches.size ≡ size
  pub effects : AreEffects size (map access_of rows) patches.entries
  pub have : HavePatches (map access_of rows) patches.entries

-- as they do when the rows from a place on are set too
pub applied : (size from : ℕ) (rows seen : List Row) (old new : Held) → seen ≡ rows → old.size ≡ size → AreEffects size (take from (map access_of rows)) old.entries → HavePatches (map access_of rows) old.entries
    → HasTheSame old new → (AreEffects old.size (take from (map access_of seen)) old.entries → AreEffects old.size (map access_of seen) new.entries) → AreSet size rows new
applied size from rows seen old new is same before have kept step = record {
  sized = kept.size ∙ same;
  effects = (let h = step in rw (is, same) at h) before;
  have = have_kept (map access_of rows) old.entries new.entries (λ b h. kept.kept b ∙ h) have;
}

-- and when a block has a patch more
pub held_too : (size block : ℕ) (rows : List Row) (old new : Held) → AreSet size rows old → HasOneMore block old new → AreSet size rows new
held_too size block rows old new set more = record {
  sized = more.size ∙ set.sized;
  effects = record { each = λ b. subst (λ (n : ℕ). patch_at n b new.entries ≡ patch_at n b old.entries) set.sized (more.values b) ∙ set.effects.each b };
  have = have_kept (map access_of rows) old.entries new.entries more.kept set.have;
}

-- what is laid over the block as it stood is what the accesses leave of it
pub shown_own : (A : Array) (size blocks block : ℕ) (rows : List Row) (accesses : List Access) (patches : Held) (into new : List ℕ) → AreSet size rows patches
    → AllByRecursion (λ row. IsRow size row × (row.block < blocks)) rows → map access_of rows ≡ accesses → length into ≡ size → block_at A block ≡ into
    → new ≡ laid (patch_at patches.size block patches.entries) into → new ≡ block_at (own A accesses) block
shown_own A size blocks block rows accesses patches into new set all same long is laid_is =
    shown_of A (map access_of rows) block size patches.size patches.entries into new set.sized (rows_have_bytes size blocks rows all) set.effects long is laid_is
    ∙ ap (λ (l : List Access). block_at (own A l) block) same

-- the room that was made for an access to a block
pub room_for : (P : ℕ → Type 0) (ready : Option ℕ) (block : ℕ) → ready ≡ Some block → IfSome ready P → P block
room_for P ready block is room = subst (λ (o : Option ℕ). IfSome o P) is room

pub few_rows : (rows : List Row) (accesses : List Access) → map access_of rows ≡ accesses → length accesses < 4096 → length rows < 4096
few_rows rows accesses same few = omega (arith, few, length-map rows access_of, ap (length {A = Access}) same)
