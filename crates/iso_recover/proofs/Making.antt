-- An image in the making: refused, or empty.
use Rattle.iso_recover.proofs.{Words.{◌≡◌, ◌⊎◌, inl, inr, ◌-◌, ◌&&◌, ℕ, List, [], ◌∷◌, ◌++◌, length, take, replicate, get_or, nat_lt, Bool, true, false, cond, Some, Err, IsTrue, refl, sym, ◌∙◌, ap, arith, subst, ne_eqb, get_or-take, Geometry, image_size, is_valid, half_header, superblock, empty_history, DiskState, IsLawful, LeavesOnly, Torn, TornFrom, spliced, length-image, at_end, joined, weakened, IsClosed, IsOpen, super_of, IsHeld, NotIsotope, body_refusal, refusal, HoldsNothing, IsUnmade, IsUnmadeOrEmpty, new_image, staged}, Laid.{block_is, gate_written, opened_is}, Whole.{length-super, new_held, super_open}}
use Rattle.iso_format.specs.declared.superblock.SuperError.TheVariants as super
use Rattle.iso_image.specs.Half.{half_of}

second_fails : {X : Type 0} (a b : Bool) (x y : X) → b ≡ false → cond (a && b) x y ≡ y
second_fails true true x y off = absurd cc
second_fails true false x y off = refl
second_fails false b x y off = refl

either_way : {X : Type 0} (b : Bool) (x : X) → cond b x x ≡ x
either_way true x = refl
either_way false x = refl

closed_super : (c : List ℕ) → IsClosed 63 c → super_of (take 64 c) ≡ Err super.NotIsotope
unfolding super_of
closed_super c closed = second_fails _ _ _ _ (ne_eqb _ 1 (λ one. closed (sym (get_or-take 64 c 63 0 (omega arith)) ∙ one)))

pub unmade : (c : List ℕ) → IsClosed 63 c → IsUnmade c
unfolding refusal
unmade c closed =
    ap (λ r. cond (nat_lt (length c) 64) (Some NotIsotope) (body_refusal c r)) (closed_super c closed)
    ∙ either_way (nat_lt (length c) 64) (Some NotIsotope)

pub unmade_or_empty : (g : Geometry) → IsTrue (is_valid g) → (c : List ℕ) → IsClosed 63 c ⊎ (c ≡ new_image g) → IsUnmadeOrEmpty g c
unmade_or_empty g valid c (inl closed) = inl (unmade c closed)
unmade_or_empty g valid c (inr is) = inr (subst (IsHeld g (half_of g 0 1 0 (empty_history g))) (sym is) (new_held g valid))

-- the parts of a new image that are written
pub record AreParts (g : Geometry) (front header : List ℕ) (size : ℕ) : Type 0 where
  pub valid : IsTrue (is_valid g)
  pub block : List ℕ
  pub block_is : block ≡ superblock 1 g
  pub front_is : front ≡ take 63 block
  pub header_is : header ≡ half_header 1 g.form 1 0
  pub size_is : size ≡ image_size g

-- the gate of one image is written
gate_step : (g : Geometry) (front header : List ℕ) (size : ℕ) → AreParts g front header size → length front ≡ 63
    → (old c : List ℕ) → old ≡ staged front header size → length old ≡ size → Torn 63 1 old c → IsClosed 63 c ⊎ (c ≡ new_image g)
gate_step g front header size parts count old c is long torn =
    let count_all : length parts.block ≡ 64 = ap length parts.block_is ∙ length-super g in
    let one : get_or parts.block 63 0 ≡ 1 = ap (λ (l : List ℕ). get_or l 63 0) parts.block_is ∙ super_open g in
    let whole : front ++ 1 ∷ [] ≡ superblock 1 g = ap (λ (l : List ℕ). l ++ 1 ∷ []) parts.front_is ∙ block_is parts.block count_all one ∙ parts.block_is in
    let size_is : size ≡ image_size g = parts.size_is in
    let header_is : header ≡ half_header 1 g.form 1 0 = parts.header_is in
    elim (gate_written old c (omega (arith, long, size_is)) torn) [
      | inl closed ↦ inl closed
      | inr done ↦ inr (done ∙ ap (λ (l : List ℕ). spliced l 63 (1 ∷ [])) is ∙ opened_is front header size count
          ∙ (λ i. whole i ++ header_is i ++ replicate (size_is i - 96) 0))
    ]

-- from then on each image differs in the gate alone
pub gate_moments : (g : Geometry) (front header : List ℕ) (size : ℕ) (mid new : DiskState) → AreParts g front header size → length front ≡ 63 → IsLawful mid → mid.size ≡ size
    → ((c : List ℕ) → mid.now c → c ≡ staged front header size) → LeavesOnly mid new (TornFrom 63 1 mid.now)
    → LeavesOnly mid new (λ c. IsClosed 63 c ⊎ (c ≡ new_image g))
gate_moments g front header size mid new parts count laws same whole run =
    weakened run (λ c from. gate_step g front header size parts count from.old c (whole from.old from.was) (length-image laws from.old from.was ∙ same) from.torn)

-- all moments
pub all_moments : (g : Geometry) {old mid new : DiskState} → IsTrue (is_valid g) → LeavesOnly old mid (IsClosed 63) → LeavesOnly mid new (λ c. IsClosed 63 c ⊎ (c ≡ new_image g))
    → LeavesOnly old new (IsUnmadeOrEmpty g)
all_moments g valid first second =
    joined (weakened {Q = IsUnmadeOrEmpty g} first (λ c closed. inl (unmade c closed))) (weakened second (unmade_or_empty g valid))

-- once the gate is open
pub made_whole : (g : Geometry) {mid new : DiskState} → IsTrue (is_valid g) → IsLawful new → LeavesOnly mid new (λ c. IsClosed 63 c ⊎ (c ≡ new_image g))
    → ((c : List ℕ) → new.now c → IsOpen 63 c) → (c : List ℕ) → new.now c → HoldsNothing g c
made_whole g valid laws run opens c image = elim (at_end laws run c image) [
  | inl closed ↦ absurd (closed (opens c image))
  | inr is ↦ subst (IsHeld g (half_of g 0 1 0 (empty_history g))) (sym is) (new_held g valid)
]
