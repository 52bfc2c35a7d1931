-- Regions of zeros are well-formed regions of the file store, and hold no file.
use Rattle.store_laws.proofs.{Words.{IsBlank, ◌≡◌, ◌∙◌, sym, ap, subst, ℕ, zero, suc, ◌+◌, ◌≤◌, true, false, List, Option, Some, None, length, take, replicate, arith, list_all, empty, get, both_ways, length-replicate, take-replicate, Array, is_zero, map_bit, block_at, zeros, tree_map, nat_list_cmp_total, option_map, nat_cmp, slice_cmp, get-empty, same_map, slice_cmp-IsAntisymmetric, nat_cmp-IsAntisymmetric, FileAreas, number_of, AreFileAreas, AreFileRegions, Uses, content, files, number_at, files_get}, TreeBlank.{blank_map, blank_region}, Zeros.{no_bit_in_zeros, zeros_blank}}

no_value : {X : Type 0} (x : X) → ◌≡◌ {A = Option X} None (Some x) → ⊥
no_value x e = cc

all_zeros : (n : ℕ) → list_all is_zero (replicate n 0) ≡ true
all_zeros zero = Rattle.std.proofs.Common.refl
all_zeros (suc n) = all_zeros n

module _ (a : FileAreas) (A : Array) (areas : AreFileAreas a) (tree : IsBlank a.tree A) (none : IsBlank a.files A) where
  no_name : (name : List ℕ) → get (tree_map a.tree A) name ≡ None
  no_name name = ap (λ m. get m name) (blank_map a.tree A areas.tree tree) ∙ get-empty (slice_cmp nat_cmp) name

  no_number : (name : List ℕ) → number_at a A name ≡ None
  no_number name = ap (option_map number_of) (no_name name)

  first : block_at A a.files.start ≡ replicate a.files.size 0
  first = let e : a.files.start + 0 ≡ a.files.start = omega arith in ap (block_at A) (sym e) ∙ none 0 (let least = areas.least in omega arith)

  no_bit : (k : ℕ) → map_bit (block_at A a.files.start) k ≡ false
  no_bit k = ap (λ (map : List ℕ). map_bit map k) first ∙ no_bit_in_zeros a.files.size k

  unused : (name : List ℕ) (place block : ℕ) → Uses a A name place block → ⊥
  unused name place block uses = no_value uses.number (sym (no_number name) ∙ uses.named)

  pub blank_regions : AreFileRegions a A
  blank_regions = record {
    tree = blank_region a.tree A areas.tree tree;
    shape = λ k below. ap length (none k below) ∙ length-replicate {A = ℕ} a.files.size 0;
    named = λ name value there. absurd (no_value value (sym (no_name name) ∙ there));
    files = λ name number there. absurd (no_value number (sym (no_number name) ∙ there));
    apart = λ x y i j k one two. absurd (unused x i k one);
    bits = λ k below. (λ set. absurd (both_ways (map_bit (block_at A a.files.start) k) (no_bit k) set), λ used. absurd (unused used.name used.place k used.uses));
    head = ap (λ (map : List ℕ). list_all is_zero (take 64 map)) first ∙ ap (list_all is_zero) (take-replicate 64 a.files.size 0 (let s = areas.size in let l = areas.tree.least_size in omega arith)) ∙ all_zeros 64;
  }

  pub blank_files : files a A ≡ empty
  blank_files = same_map nat_list_cmp_total (slice_cmp-IsAntisymmetric nat_cmp-IsAntisymmetric) (files a A) empty (λ name. files_get a A name ∙ ap (option_map (λ v. content a A (number_of v))) (no_name name) ∙ sym (get-empty (slice_cmp nat_cmp) name))

pub made_files : (a : FileAreas) (n : ℕ) → AreFileAreas a → a.files.start + a.files.blocks ≤ n → AreFileRegions a (zeros a.tree.size n) × (files a (zeros a.tree.size n) ≡ empty)
made_files a n areas fits =
    let tree = zeros_blank a.tree n (let f = areas.follows in omega arith) in
    let blank : IsBlank a.files (zeros a.tree.size n) =
    (λ k below. subst (λ (s : ℕ). block_at (zeros s n) (a.files.start + k) ≡ replicate a.files.size 0) areas.size (zeros_blank a.files n fits k below)) in
    (blank_regions a (zeros a.tree.size n) areas tree blank, blank_files a (zeros a.tree.size n) areas tree blank)
