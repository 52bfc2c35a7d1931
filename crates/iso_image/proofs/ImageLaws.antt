-- Bytes that pass each test are an image of what they open to, and an image passes each test and opens to what it holds.
use Rattle.iso_image.proofs.{RefusalWords.{◌≡◌, ◌∙◌, sym, refl, ap, ℕ, ◌+◌, ◌-◌, ◌<◌, ◌≤◌, ◌==◌, nat_lt, true, List, Option, Some, None, Result, Ok, Err, length, drop, option_map, subst, arith, ltb-false, eqb-true, length-drop, length-take, length-take-le, same_Some, Geometry, or_else, image_size, header_place, base_place, log_place, History, IsImage, blocks_of, commits_of, current_half, half_header, records, AreBytes, limits, HalfHeader, SuperError, half_of, super_of, neither, unless, bytes_drop, bytes_take, IsSpelled, super_again, super_spelled, OpenError, NotIsotope, WrongSize, Opened, body_refusal, first_number, half_refusal, header_at, header_refusal, log_at, log_refusal, opened, opened_half, opened_super, refusal, told_by, unless_refused, with_form}, HeaderLaws.{form_is, gate_again, half_inside, header_again, held, is_current, said_again, super_form, unrefused_header, valid_form}, LogLaws.{log_again, unrefused_log}}
use Rattle.std.proofs.Common.{◌∷◌, ◌++◌, take}
use Rattle.iso_format.specs.declared.superblock.SuperError.TheVariants as super

-- ---- bytes that pass each test

-- the half of a geometry whose superblock passed
unrefused_half : (g : Geometry) (half : ℕ) (bytes : List ℕ) → AreBytes bytes → IsSpelled (take 64 bytes) g → length bytes ≡ image_size g → current_half g bytes ≡ Some half
    → half_refusal g bytes (Some half) ≡ None
    → IsImage bytes (opened_half g half bytes).geometry (opened_half g half bytes).generation (opened_half g half bytes).history
unrefused_half g half bytes fits s size current e =
    let header = header_at g half bytes in
    let h = half_of header in
    let is = is_current g bytes half current in
    let inside = half_inside g bytes half is.least size in
    let parts = neither (header_refusal (header_place g half) header) (log_refusal (with_form g half bytes) (log_place g half) (first_number g half bytes) g.log (log_at g half bytes)) e in
    let header_bytes : AreBytes header = bytes_take 32 (drop (header_place g half) bytes) (bytes_drop (header_place g half) bytes fits) in
    let long : length header ≡ 32 = omega (arith, length-take 32 (drop (header_place g half) bytes), length-drop (header_place g half) bytes, inside) in
    let said = unrefused_header (header_place g half) header header_bytes long (gate_again g bytes half is.gate) parts.0 in
    let valid = valid_form g h.form s.valid said.form in
    let log_bytes : AreBytes (log_at g half bytes) = bytes_take g.log (drop (log_place g half) bytes) (bytes_drop (log_place g half) bytes fits) in
    let log_long : length (log_at g half bytes) ≡ g.log = omega (arith, length-take g.log (drop (log_place g half) bytes), length-drop (log_place g half) bytes, inside) in
    let least : 64 ≤ g.log = (limits g s.valid).least_log in
    let t = unrefused_log (with_form g half bytes) (log_place g half) (h.base + 1) g.log (log_at g half bytes) valid log_bytes (omega arith) (omega arith) parts.1 in
    let number : h.base ≡ h.base + 1 - 1 = omega arith in
    record {
      super = s.spelling ∙ super_form g h.form;
      valid = valid;
      size = size;
      half = half;
      current = current;
      header = said.spelling ∙ ap (half_header 1 h.form h.generation) number;
      first = omega arith;
      generation_bound = said.generation;
      base_bound = omega (arith, said.base);
      base = refl;
      told = told_by (with_form g half bytes) g.log (log_at g half bytes);
      each = t.each;
      last = omega (arith, t.last (omega (arith, said.base)));
      commits = refl;
      log = t.is;
    }

-- an image, and that the bytes open to it
pub record OpensTo (bytes : List ℕ) (found : Option Opened) : Type 0 where
  pub image : Opened
  pub opens : found ≡ Some image
  pub is : IsImage bytes image.geometry image.generation image.history

unrefused_current : (g : Geometry) (half : Option ℕ) (bytes : List ℕ) → AreBytes bytes → IsSpelled (take 64 bytes) g → length bytes ≡ image_size g → current_half g bytes ≡ half
    → half_refusal g bytes half ≡ None → OpensTo bytes (option_map (λ h. opened_half g h bytes) half)
unrefused_current g None bytes fits s size current e = absurd cc
unrefused_current g (Some half) bytes fits s size current e = record { image = opened_half g half bytes; opens = refl; is = unrefused_half g half bytes fits s size current e }

unrefused_super : (bytes : List ℕ) (read : Result Geometry SuperError) → AreBytes bytes → 64 ≤ length bytes → super_of (take 64 bytes) ≡ read
    → body_refusal bytes read ≡ None → OpensTo bytes (opened_super bytes read)
unrefused_super bytes (Err super.NotIsotope) fits long read e = absurd cc
unrefused_super bytes (Err (super.BadGeometry field)) fits long read e = absurd cc
unrefused_super bytes (Ok g) fits long read e =
    let s = super_spelled (take 64 bytes) g (bytes_take 64 bytes fits) (length-take-le 64 bytes long) read in
    let size = held (length bytes == image_size g) (WrongSize (image_size g) (length bytes)) _ e in
    unrefused_current g (current_half g bytes) bytes fits s (eqb-true (length bytes) (image_size g) size.0) refl size.1

-- bytes that are not refused are an image of what they open to
pub unrefused : (bytes : List ℕ) → AreBytes bytes → refusal bytes ≡ None → OpensTo bytes (opened bytes)
unfolding refusal opened
unrefused bytes fits e =
    let each = unless (nat_lt (length bytes) 64) NotIsotope (body_refusal bytes (super_of (take 64 bytes))) e in
    let found = unrefused_super bytes (super_of (take 64 bytes)) fits (ltb-false (length bytes) 64 each.0) refl each.1 in
    let all : unless_refused (refusal bytes) (opened_super bytes (super_of (take 64 bytes))) ≡ opened_super bytes (super_of (take 64 bytes)) =
    ap (λ (o : Option OpenError). unless_refused o (opened_super bytes (super_of (take 64 bytes)))) e in
    record { image = found.image; opens = all ∙ found.opens; is = found.is }

some_unrefused : (o : Option OpenError) (found : Option Opened) (image : Opened) → unless_refused o found ≡ Some image → o ≡ None
some_unrefused None found image e = refl
some_unrefused (Some error) found image e = absurd cc

-- bytes are an image of what they open to
pub opened_image : (bytes : List ℕ) (image : Opened) → AreBytes bytes → opened bytes ≡ Some image → IsImage bytes image.geometry image.generation image.history
unfolding opened
opened_image bytes image fits e =
    let found = unrefused bytes fits (some_unrefused (refusal bytes) (opened_super bytes (super_of (take 64 bytes))) image e) in
    let same : found.image ≡ image = same_Some found.image image (sym found.opens ∙ e) in
    subst (λ (x : Opened). IsImage bytes x.geometry x.generation x.history) same found.is

-- ---- an image

-- no test fails, and it opens to what it holds
pub record IsHeld (bytes : List ℕ) (image : Opened) : Type 0 where
  pub free : refusal bytes ≡ None
  pub opens : opened bytes ≡ Some image

-- what was read of the superblock and the half is what the image tells
join : (bytes : List ℕ) (plain : Geometry) (half : ℕ) (image : Opened) → 64 ≤ length bytes → length bytes ≡ image_size plain → super_of (take 64 bytes) ≡ Ok plain
    → current_half plain bytes ≡ Some half → half_refusal plain bytes (Some half) ≡ None → opened_half plain half bytes ≡ image → IsHeld bytes image
unfolding refusal opened
join bytes plain half image long size read current free is = search (arith)

-- an image passes each test, and opens to what it holds
pub image_opens : (bytes : List ℕ) (g : Geometry) (generation : ℕ) (H : History) → IsImage bytes g generation H
    → IsHeld bytes (record { geometry = g; generation = generation; history = H })
image_opens bytes g generation H is =
    let plain : Geometry = record g { form = 1 } in
    let half = is.half in
    let first : 0 < H.first = is.first in
    let known = form_is g is.valid in
    let said = said_again g.form generation (H.first - 1) is.generation_bound is.base_bound in
    let header : half_of (header_at plain half bytes) ≡ record { gate = 1; form = g.form; generation = generation; base = H.first - 1; clean = true } = ap half_of is.header ∙ said in
    let form : (half_of (header_at plain half bytes)).form ≡ g.form = ap (λ (h : HalfHeader). h.form) header in
    let formed : with_form plain half bytes ≡ g = λ i. record plain { form = form i } in
    let number : H.first - 1 + 1 ≡ H.first = omega arith in
    let begins : first_number plain half bytes ≡ H.first = ap (λ (h : HalfHeader). h.base + 1) header ∙ number in
    let counted : (half_of (header_at plain half bytes)).generation ≡ generation = ap (λ (h : HalfHeader). h.generation) header in
    let (gate, rest, shut, log) = is.log in
    let short : length (records g H.first is.told ++ gate ∷ rest) ≤ g.log = omega (arith, ap length log, length-take g.log (drop (log_place g half) bytes)) in
    let t = log_again g (log_place g half) H.first g.log is.told gate rest is.valid known shut is.each (omega (arith, is.last)) short in
    let free : half_refusal plain bytes (Some half) ≡ None =
    (λ i. or_else (header_refusal (header_place g half) (is.header i)) (log_refusal (formed i) (log_place g half) (begins i) g.log (log i)))
    ∙ (λ i. or_else (header_again (header_place g half) g.form generation (H.first - 1) known is.generation_bound is.base_bound i) (t.free i)) in
    let commits : commits_of (with_form plain half bytes) (first_number plain half bytes) (told_by (with_form plain half bytes) g.log (log_at plain half bytes)) ≡ H.commits =
    (λ i. commits_of (formed i) (begins i) (told_by (formed i) g.log (log i))) ∙ ap (commits_of g H.first) t.tells ∙ sym is.commits in
    let base : blocks_of g.block g.blocks (drop (base_place g half) bytes) ≡ H.base = sym is.base in
    let whole : opened_half plain half bytes ≡ record { geometry = g; generation = generation; history = H } =
    λ i. record { geometry = formed i; generation = counted i; history = record { first = begins i; base = base i; commits = commits i } } in
    let read : super_of (take 64 bytes) ≡ Ok plain = ap super_of is.super ∙ super_again g is.valid in
    let size : length bytes ≡ image_size g = is.size in
    join bytes plain half (record { geometry = g; generation = generation; history = H }) (omega arith) size read is.current free whole
