-- A superblock is read exactly as it is written.
use Rattle.iso_format.proofs.{Words.{limits, tests_passed, ◌≡◌, ℕ, ◌^◌, ◌<◌, ◌≤◌, Bool, true, false, ◌&&◌, ◌==◌, cond, not, nat_eq, nat_le, List, [], ◌∷◌, ◌++◌, Option, Some, None, Result, Ok, Err, IfOk, length, get_or, take, drop, replicate, IsTrue, codes, refl, ap, ◌∙◌, sym, subst, arith, eqb-true, leb-true, and_parts, and_from, take_all, from_be_bytes-to_be_bytes_4, w32, to_be_bytes, position_from, starts_with, Geometry, Mode, is_valid, is_block_size, superblock, mode_byte, SuperError, NotIsotope, number_at, are_zero, mode_of, geometry_of, has_regions, wrong_field, unless_wrong, super_of, AreBytes}, Pieces.{grow, spelled_32, one_at, zeros_at, same_bytes}}

-- the limits of a valid geometry, as a superblock is tested for them
pub record IsWithin (g : Geometry) : Type 0 where
  pub block : IsTrue (is_block_size g.block)
  pub blocks : IsTrue (nat_le 1 g.blocks && nat_le g.blocks 16384)
  pub log : IsTrue (nat_le 64 g.log && nat_le g.log 67108864)
  pub regions : IsTrue (has_regions g)

pub within : (g : Geometry) → IsTrue (is_valid g) → IsWithin g
within g h =
    let passed = tests_passed g h in
    record {
      block = passed.block;
      blocks = and_from _ _ passed.some_blocks passed.most_blocks;
      log = and_from _ _ passed.least_log passed.largest_log;
      regions = and_from _ _ (and_from _ _ passed.hash passed.tree) passed.regions;
    }

pub is_within : (g : Geometry) → IsWithin g → g.form ≡ 1 → IsTrue (is_valid g)
unfolding is_valid
is_within g w form = grind arith

mode_of-mode_byte : (m : Mode) → mode_of (mode_byte m) ≡ m
mode_of-mode_byte m = grind arith

mode_byte-le : (m : Mode) → IsTrue (nat_le (mode_byte m) 1)
mode_byte-le m = grind arith

mode_byte-mode_of : (b : ℕ) → b ≤ 1 → mode_byte (mode_of b) ≡ b
mode_byte-mode_of b h = grind arith

none_wrong : (a b c d e f h : Bool) → IsTrue a → IsTrue b → IsTrue c → IsTrue d → IsTrue e → IsTrue f → IsTrue h →
    position_from not 1 (a ∷ b ∷ c ∷ d ∷ e ∷ f ∷ h ∷ []) ≡ None
none_wrong a b c d e f h pa pb pc pd pe pf ph = rw (pa, pb, pc, pd, pe, pf, ph) refl

abbrev seven : (a b c d e f h : Bool) → Bool
seven a b c d e f h = a && b && c && d && e && f && h

all_right : (a b c d e f h : Bool) → position_from not 1 (a ∷ b ∷ c ∷ d ∷ e ∷ f ∷ h ∷ []) ≡ None → IsTrue (seven a b c d e f h)
all_right true true true true true true true n = refl
all_right true true true true true true false n = absurd cc
all_right true true true true true false h n = absurd cc
all_right true true true true false f h n = absurd cc
all_right true true true false e f h n = absurd cc
all_right true true false d e f h n = absurd cc
all_right true false c d e f h n = absurd cc
all_right false b c d e f h n = absurd cc

told_again : (g : Geometry) → g.block < 2 ^ 32 → g.blocks < 2 ^ 32 → g.log < 2 ^ 32 → g.hash < 2 ^ 32 → g.tree < 2 ^ 32 →
    geometry_of (superblock 1 g) ≡ record g { form = 1 }
unfolding superblock
told_again g block blocks log hash tree = grind (arith, from_be_bytes-to_be_bytes_4, mode_of-mode_byte)

-- what spells a valid geometry is read, but for its form
pub super_again : (g : Geometry) → IsTrue (is_valid g) → super_of (superblock 1 g) ≡ Ok (record g { form = 1 })
unfolding super_of superblock
super_again g valid =
    let w = within g valid in
    let l = limits g valid in
    let made : Geometry = record g { form = 1 } in
    let told : geometry_of (superblock 1 g) ≡ made = told_again g (omega (arith, l.largest_block)) (omega (arith, l.most_blocks)) (omega (arith, l.largest_log)) (omega (arith, l.regions, l.most_blocks)) (omega (arith, l.regions, l.most_blocks)) in
    let right : wrong_field (superblock 1 g) made ≡ None =
    none_wrong true (is_block_size g.block) (nat_le 1 g.blocks && nat_le g.blocks 16384) (nat_le 64 g.log && nat_le g.log 67108864) (nat_le (mode_byte g.mode) 1) true (has_regions g)
    refl w.block w.blocks w.log (mode_byte-le g.mode) refl w.regions in
    ap (λ (t : Geometry). unless_wrong (wrong_field (superblock 1 g) t) t) told ∙ ap (λ (o : Option ℕ). unless_wrong o made) right

read_ok : (b : Bool) (w : Option ℕ) (t g : Geometry) → cond b (unless_wrong w t) (Err NotIsotope) ≡ Ok g → IsTrue b × (w ≡ None) × (t ≡ g)
read_ok true None t g e = (refl, refl, cc)
read_ok true (Some field) t g e = absurd cc
read_ok false w t g e = absurd cc

-- what is read is spelled so
pub record IsSpelled (bytes : List ℕ) (g : Geometry) : Type 0 where
  pub valid : IsTrue (is_valid g)
  pub form : g.form ≡ 1
  pub spelling : bytes ≡ superblock 1 g

-- the pieces of a superblock
spelling_of : (bytes : List ℕ) → AreBytes bytes → length bytes ≡ 64 → IsTrue (starts_with nat_eq bytes (codes "ISOTOPE1")) → number_at w32 8 bytes ≡ 1 →
    get_or bytes 24 0 ≤ 1 → IsTrue (are_zero 25 3 bytes) → IsTrue (are_zero 36 27 bytes) → get_or bytes 63 0 ≡ 1 → bytes ≡ superblock 1 (geometry_of bytes)
unfolding superblock
spelling_of bytes fits len name version mode z25 z36 gate =
    let t = geometry_of bytes in
    let f8 = codes "ISOTOPE1" in
    let s8 : take 8 bytes ≡ f8 = same_bytes f8 (take 8 bytes) name in
    let n8 : take 4 (drop 8 bytes) ≡ to_be_bytes w32 1 = spelled_32 bytes 8 fits (omega arith) ∙ ap (to_be_bytes w32) version in
    let f12 = f8 ++ to_be_bytes w32 1 in
    let s12 = grow bytes f8 (to_be_bytes w32 1) 8 4 s8 n8 in
    let f16 = f12 ++ to_be_bytes w32 t.block in
    let s16 = grow bytes f12 (to_be_bytes w32 t.block) 12 4 s12 (spelled_32 bytes 12 fits (omega arith)) in
    let f20 = f16 ++ to_be_bytes w32 t.blocks in
    let s20 = grow bytes f16 (to_be_bytes w32 t.blocks) 16 4 s16 (spelled_32 bytes 16 fits (omega arith)) in
    let f24 = f20 ++ to_be_bytes w32 t.log in
    let s24 = grow bytes f20 (to_be_bytes w32 t.log) 20 4 s20 (spelled_32 bytes 20 fits (omega arith)) in
    let f25 = f24 ++ mode_byte t.mode ∷ [] in
    let m24 : take 1 (drop 24 bytes) ≡ mode_byte t.mode ∷ [] = one_at bytes 24 (omega arith) ∙ ap (λ (b : ℕ). b ∷ []) (sym (mode_byte-mode_of (get_or bytes 24 0) mode)) in
    let s25 = grow bytes f24 (mode_byte t.mode ∷ []) 24 1 s24 m24 in
    let f28 = f25 ++ replicate 3 0 in
    let s28 = grow bytes f25 (replicate 3 0) 25 3 s25 (zeros_at bytes 25 3 (omega arith) z25) in
    let f32 = f28 ++ to_be_bytes w32 t.hash in
    let s32 = grow bytes f28 (to_be_bytes w32 t.hash) 28 4 s28 (spelled_32 bytes 28 fits (omega arith)) in
    let f36 = f32 ++ to_be_bytes w32 t.tree in
    let s36 = grow bytes f32 (to_be_bytes w32 t.tree) 32 4 s32 (spelled_32 bytes 32 fits (omega arith)) in
    let f63 = f36 ++ replicate 27 0 in
    let s63 = grow bytes f36 (replicate 27 0) 36 27 s36 (zeros_at bytes 36 27 (omega arith) z36) in
    let g63 : take 1 (drop 63 bytes) ≡ 1 ∷ [] = one_at bytes 63 (omega arith) ∙ ap (λ (b : ℕ). b ∷ []) gate in
    let s64 = grow bytes f63 (1 ∷ []) 63 1 s63 g63 in
    sym (take_all 64 bytes (omega arith)) ∙ s64

pub super_spelled : (bytes : List ℕ) (g : Geometry) → AreBytes bytes → length bytes ≡ 64 → super_of bytes ≡ Ok g → IsSpelled bytes g
unfolding super_of superblock
super_spelled bytes g fits len e =
    let t = geometry_of bytes in
    let version = number_at w32 8 bytes == 1 in
    let blocks = nat_le 1 t.blocks && nat_le t.blocks 16384 in
    let log = nat_le 64 t.log && nat_le t.log 67108864 in
    let mode = nat_le (get_or bytes 24 0) 1 in
    let zeros = are_zero 25 3 bytes && are_zero 36 27 bytes in
    let ok = read_ok (starts_with nat_eq bytes (codes "ISOTOPE1") && (get_or bytes 63 0 == 1)) (wrong_field bytes t) t g e in
    let front = and_parts (starts_with nat_eq bytes (codes "ISOTOPE1")) (get_or bytes 63 0 == 1) ok.0 in
    let p7 = and_parts (version && is_block_size t.block && blocks && log && mode && zeros) (has_regions t) (all_right version (is_block_size t.block) blocks log mode zeros (has_regions t) ok.1) in
    let p6 = and_parts (version && is_block_size t.block && blocks && log && mode) zeros p7.0 in
    let p5 = and_parts (version && is_block_size t.block && blocks && log) mode p6.0 in
    let p4 = and_parts (version && is_block_size t.block && blocks) log p5.0 in
    let p3 = and_parts (version && is_block_size t.block) blocks p4.0 in
    let p2 = and_parts version (is_block_size t.block) p3.0 in
    let zero = and_parts (are_zero 25 3 bytes) (are_zero 36 27 bytes) p6.1 in
    let valid = is_within t (record { block = p2.1; blocks = p3.1; log = p4.1; regions = p7.1 }) refl in
    subst (IsSpelled bytes) ok.2 (record {
      valid = valid;
      form = refl;
      spelling = spelling_of bytes fits len front.0 (eqb-true _ _ p2.0) (leb-true _ _ p5.1) zero.0 zero.1 (eqb-true _ _ front.1);
    })

pub ok_spelled : (bytes : List ℕ) (r : Result Geometry SuperError) → AreBytes bytes → length bytes ≡ 64 → r ≡ super_of bytes →
    IfOk r (λ g. IsTrue (is_valid g) × (g.form ≡ 1) × (bytes ≡ superblock 1 g))
ok_spelled bytes (Ok g) fits len e = let s = super_spelled bytes g fits len (sym e) in (s.valid, s.form, s.spelling)
ok_spelled bytes (Err error) fits len e = tt
