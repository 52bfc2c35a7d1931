-- An array in the shape of a geometry, and the bytes that a fetch told of one of its blocks.
use Rattle.handle_pass.proofs.Words.{◌≡◌, ℕ, ◌<◌, List, [], ◌∷◌, ◌++◌, length, map, get_or, replicate, sym, ap, ◌∙◌, arith, AllByRecursion, range_with_len, ext_get_or, length-replicate, get_or-map-range_with_len, length-map-range_with_len, get_or-append_seam, Access, Geometry, Array, block_at, length-block_own, shaped}
use Rattle.iso_model.specs.Effect as effect

-- the first `size` bytes of a block
cut : (size : ℕ) → List ℕ → List ℕ
cut size bytes = map (λ p. get_or bytes p 0) (range_with_len 0 size)

length-cut : (size : ℕ) (bytes : List ℕ) → length (cut size bytes) ≡ size
unfolding cut
length-cut size bytes = length-map-range_with_len (λ p. get_or bytes p 0) 0 size

cut_whole : (size : ℕ) (bytes : List ℕ) → length bytes ≡ size → cut size bytes ≡ bytes
unfolding cut
cut_whole size bytes is = ext_get_or 0 (cut size bytes) bytes (length-cut size bytes ∙ sym is)
    (λ p below. get_or-map-range_with_len (λ q. get_or bytes q 0) 0 size p p 0 (omega (arith, below, length-cut size bytes)) (omega arith))

pub length-shaped : (g : Geometry) (A : Array) → length (shaped g A) ≡ g.blocks
length-shaped g A = length-map-range_with_len (λ b. map (λ p. get_or (block_at A b) p 0) (range_with_len 0 g.block)) 0 g.blocks

block_cut : (g : Geometry) (A : Array) (b : ℕ) → b < g.blocks → block_at (shaped g A) b ≡ cut g.block (block_at A b)
unfolding cut
block_cut g A b below = get_or-map-range_with_len (λ k. map (λ p. get_or (block_at A k) p 0) (range_with_len 0 g.block)) 0 g.blocks b b [] below (omega arith)

pub length-block_shaped : (g : Geometry) (A : Array) (b : ℕ) → b < g.blocks → length (block_at (shaped g A) b) ≡ g.block
length-block_shaped g A b below = ap length (block_cut g A b below) ∙ length-cut g.block (block_at A b)

-- a block that has its bytes is the array's own
pub block_shaped : (g : Geometry) (A : Array) (b : ℕ) → b < g.blocks → length (block_at A b) ≡ g.block → block_at (shaped g A) b ≡ block_at A b
block_shaped g A b below is = block_cut g A b below ∙ cut_whole g.block (block_at A b) is

-- what is laid over the bytes of a block has as many
pub length_laid : (block : ℕ) (bytes into : List ℕ) (accesses : List Access) → ((B : Array) → block_at B block ≡ bytes → into ≡ block_at (effect.own B accesses) block) → length bytes ≡ length into
length_laid block bytes into accesses laid =
    let B : Array = replicate block [] ++ bytes ∷ [] in
    let at : block_at B block ≡ bytes =
    ap (λ (k : ℕ). get_or B k []) (sym (length-replicate block [])) ∙ get_or-append_seam (replicate block []) bytes [] [] in
    sym (ap length (laid B at) ∙ length-block_own B accesses block ∙ ap length at)

pub all_snoc : {X : Type 0} (P : X → Type 0) (xs : List X) (x : X) → AllByRecursion P xs → P x → AllByRecursion P (xs ++ x ∷ [])
all_snoc P [] x all here = (here, tt)
all_snoc P (y ∷ xs) x all here = (all.0, all_snoc P xs x all.1 here)
