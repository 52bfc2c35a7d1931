-- The bytes of an image by its parts are bytes.
use Rattle.iso_recover.proofs.Words.{◌<◌, ◌+◌, ◌-◌, ◌*◌, ℕ, List, [], ◌∷◌, ◌++◌, length, replicate, codes, arith, AllByRecursion, to_be_bytes, w32, w64, Geometry, Mode, Serial, Snapshot, image_size, Written, half_header, mode_byte, records, superblock, AreBytes, bytes_append, bytes_cons, no_bytes, replicate_bytes, whole_image}

all_small : (bytes : List ℕ) → AllByRecursion (λ b. b < 256) bytes → AreBytes bytes
all_small [] all = no_bytes
all_small (x ∷ bytes) all = bytes_cons x bytes all.0 (all_small bytes all.1)

bytes_32 : (n : ℕ) → AreBytes (to_be_bytes w32 n)
bytes_32 n = all_small (to_be_bytes w32 n) (omega arith, (omega arith, (omega arith, (omega arith, tt))))

bytes_64 : (n : ℕ) → AreBytes (to_be_bytes w64 n)
bytes_64 n = all_small (to_be_bytes w64 n) (omega arith, (omega arith, (omega arith, (omega arith, (omega arith, (omega arith, (omega arith, (omega arith, tt))))))))

name_bytes : AreBytes (codes "ISOTOPE1")
name_bytes = all_small (codes "ISOTOPE1") (omega arith, (omega arith, (omega arith, (omega arith, (omega arith, (omega arith, (omega arith, (omega arith, tt))))))))

mode_small : (mode : Mode) → mode_byte mode < 256
mode_small Serial = omega arith
mode_small Snapshot = omega arith

mode_bytes : (mode : Mode) → AreBytes (mode_byte mode ∷ 0 ∷ 0 ∷ 0 ∷ [])
mode_bytes mode = all_small (mode_byte mode ∷ 0 ∷ 0 ∷ 0 ∷ []) (mode_small mode, (omega arith, (omega arith, (omega arith, tt))))

super_bytes : (g : Geometry) → AreBytes (superblock 1 g)
unfolding superblock
super_bytes g =
    let a1 : AreBytes (codes "ISOTOPE1" ++ to_be_bytes w32 1) = bytes_append (codes "ISOTOPE1") (to_be_bytes w32 1) name_bytes (bytes_32 1) in
    let a2 : AreBytes (codes "ISOTOPE1" ++ to_be_bytes w32 1 ++ to_be_bytes w32 g.block) = bytes_append (codes "ISOTOPE1" ++ to_be_bytes w32 1) (to_be_bytes w32 g.block) a1 (bytes_32 g.block) in
    let a3 : AreBytes (codes "ISOTOPE1" ++ to_be_bytes w32 1 ++ to_be_bytes w32 g.block ++ to_be_bytes w32 g.blocks) = bytes_append (codes "ISOTOPE1" ++ to_be_bytes w32 1 ++ to_be_bytes w32 g.block) (to_be_bytes w32 g.blocks) a2 (bytes_32 g.blocks) in
    let a4 : AreBytes (codes "ISOTOPE1" ++ to_be_bytes w32 1 ++ to_be_bytes w32 g.block ++ to_be_bytes w32 g.blocks ++ to_be_bytes w32 g.log) = bytes_append (codes "ISOTOPE1" ++ to_be_bytes w32 1 ++ to_be_bytes w32 g.block ++ to_be_bytes w32 g.blocks) (to_be_bytes w32 g.log) a3 (bytes_32 g.log) in
    let a5 : AreBytes (codes "ISOTOPE1" ++ to_be_bytes w32 1 ++ to_be_bytes w32 g.block ++ to_be_bytes w32 g.blocks ++ to_be_bytes w32 g.log ++ mode_byte g.mode ∷ 0 ∷ 0 ∷ 0 ∷ []) = bytes_append (codes "ISOTOPE1" ++ to_be_bytes w32 1 ++ to_be_bytes w32 g.block ++ to_be_bytes w32 g.blocks ++ to_be_bytes w32 g.log) (mode_byte g.mode ∷ 0 ∷ 0 ∷ 0 ∷ []) a4 (mode_bytes g.mode) in
    let a6 : AreBytes (codes "ISOTOPE1" ++ to_be_bytes w32 1 ++ to_be_bytes w32 g.block ++ to_be_bytes w32 g.blocks ++ to_be_bytes w32 g.log ++ mode_byte g.mode ∷ 0 ∷ 0 ∷ 0 ∷ [] ++ to_be_bytes w32 g.hash) = bytes_append (codes "ISOTOPE1" ++ to_be_bytes w32 1 ++ to_be_bytes w32 g.block ++ to_be_bytes w32 g.blocks ++ to_be_bytes w32 g.log ++ mode_byte g.mode ∷ 0 ∷ 0 ∷ 0 ∷ []) (to_be_bytes w32 g.hash) a5 (bytes_32 g.hash) in
    let a7 : AreBytes (codes "ISOTOPE1" ++ to_be_bytes w32 1 ++ to_be_bytes w32 g.block ++ to_be_bytes w32 g.blocks ++ to_be_bytes w32 g.log ++ mode_byte g.mode ∷ 0 ∷ 0 ∷ 0 ∷ [] ++ to_be_bytes w32 g.hash ++ to_be_bytes w32 g.tree) = bytes_append (codes "ISOTOPE1" ++ to_be_bytes w32 1 ++ to_be_bytes w32 g.block ++ to_be_bytes w32 g.blocks ++ to_be_bytes w32 g.log ++ mode_byte g.mode ∷ 0 ∷ 0 ∷ 0 ∷ [] ++ to_be_bytes w32 g.hash) (to_be_bytes w32 g.tree) a6 (bytes_32 g.tree) in
    let a8 : AreBytes (codes "ISOTOPE1" ++ to_be_bytes w32 1 ++ to_be_bytes w32 g.block ++ to_be_bytes w32 g.blocks ++ to_be_bytes w32 g.log ++ mode_byte g.mode ∷ 0 ∷ 0 ∷ 0 ∷ [] ++ to_be_bytes w32 g.hash ++ to_be_bytes w32 g.tree ++ replicate 27 0) = bytes_append (codes "ISOTOPE1" ++ to_be_bytes w32 1 ++ to_be_bytes w32 g.block ++ to_be_bytes w32 g.blocks ++ to_be_bytes w32 g.log ++ mode_byte g.mode ∷ 0 ∷ 0 ∷ 0 ∷ [] ++ to_be_bytes w32 g.hash ++ to_be_bytes w32 g.tree) (replicate 27 0) a7 (replicate_bytes 27 0 (omega arith)) in
    let a9 : AreBytes (codes "ISOTOPE1" ++ to_be_bytes w32 1 ++ to_be_bytes w32 g.block ++ to_be_bytes w32 g.blocks ++ to_be_bytes w32 g.log ++ mode_byte g.mode ∷ 0 ∷ 0 ∷ 0 ∷ [] ++ to_be_bytes w32 g.hash ++ to_be_bytes w32 g.tree ++ replicate 27 0 ++ 1 ∷ []) = bytes_append (codes "ISOTOPE1" ++ to_be_bytes w32 1 ++ to_be_bytes w32 g.block ++ to_be_bytes w32 g.blocks ++ to_be_bytes w32 g.log ++ mode_byte g.mode ∷ 0 ∷ 0 ∷ 0 ∷ [] ++ to_be_bytes w32 g.hash ++ to_be_bytes w32 g.tree ++ replicate 27 0) (1 ∷ []) a8 (bytes_cons 1 [] (omega arith) no_bytes) in
    a9

header_bytes : (form generation base : ℕ) → form < 256 → AreBytes (half_header 1 form generation base)
unfolding half_header
header_bytes form generation base small =
    let a1 : AreBytes (1 ∷ form ∷ [] ++ replicate 6 0) = bytes_append (1 ∷ form ∷ []) (replicate 6 0) (bytes_cons 1 (form ∷ []) (omega arith) (bytes_cons form [] small no_bytes)) (replicate_bytes 6 0 (omega arith)) in
    let a2 : AreBytes (1 ∷ form ∷ [] ++ replicate 6 0 ++ to_be_bytes w64 generation) = bytes_append (1 ∷ form ∷ [] ++ replicate 6 0) (to_be_bytes w64 generation) a1 (bytes_64 generation) in
    let a3 : AreBytes (1 ∷ form ∷ [] ++ replicate 6 0 ++ to_be_bytes w64 generation ++ to_be_bytes w64 base) = bytes_append (1 ∷ form ∷ [] ++ replicate 6 0 ++ to_be_bytes w64 generation) (to_be_bytes w64 base) a2 (bytes_64 base) in
    let a4 : AreBytes (1 ∷ form ∷ [] ++ replicate 6 0 ++ to_be_bytes w64 generation ++ to_be_bytes w64 base ++ replicate 8 0) = bytes_append (1 ∷ form ∷ [] ++ replicate 6 0 ++ to_be_bytes w64 generation ++ to_be_bytes w64 base) (replicate 8 0) a3 (replicate_bytes 8 0 (omega arith)) in
    a4

pub whole_bytes : (g : Geometry) (generation base : ℕ) (told : List Written) → g.form < 256 → AreBytes (records g (base + 1) told) → AreBytes (whole_image g generation base told)
whole_bytes g generation base told small values =
    let behind : List ℕ = replicate (image_size g - 96 - g.blocks * g.block - length (records g (base + 1) told)) 0 in
    let zeros = replicate_bytes (image_size g - 96 - g.blocks * g.block - length (records g (base + 1) told)) 0 (omega arith) in
    bytes_append (superblock 1 g) (half_header 1 g.form generation base ++ (replicate (g.blocks * g.block) 0 ++ (records g (base + 1) told ++ behind))) (super_bytes g)
    (bytes_append (half_header 1 g.form generation base) (replicate (g.blocks * g.block) 0 ++ (records g (base + 1) told ++ behind)) (header_bytes g.form generation base small)
    (bytes_append (replicate (g.blocks * g.block) 0) (records g (base + 1) told ++ behind) (replicate_bytes (g.blocks * g.block) 0 (omega arith))
    (bytes_append (records g (base + 1) told) behind values zeros)))
