-- What fails a test is refused with a place, a field, a size or a form that may be told so.
use Rattle.iso_recover.proofs.{Words.{◌≡◌, ◌<◌, ◌≤◌, ◌+◌, ◌==◌, ◌||◌, not, ℕ, zero, suc, Bool, true, false, List, [], ◌∷◌, length, cond, nat_lt, Option, Some, None, Result, Ok, Err, IsErrOf, option_map, refl, sym, ◌∙◌, arith, eq-eqb, subst, position_from, same_Some, none-some, Geometry, LAST, or_else, header_place, image_size, SuperError, geometry_of, half_of, super_of, unclean_place, unless_wrong, wrong_field, LogError, IsTestBefore, OpenError, NotIsotope, BadGeometry, WrongSize, NoHalf, Damaged, UnknownForm, header_refusal, number_refusal, opening, chosen_by, halves_refusal, header_of, super_refusal, IsShaped}, Headers.{chosen_is, unclean_below}}
use Rattle.iso_format.specs.declared.superblock.SuperError.TheVariants as super
use Rattle.iso_log.specs.declared.log_error.LogError.TheVariants as log

-- ---- the superblock

found_within : (from : ℕ) (tests : List Bool) (field : ℕ) → position_from not from tests ≡ Some field → (from ≤ field) × (field < from + length tests)
found_within from [] field is = absurd (none-some field is)
found_within from (true ∷ tests) field is = let later = found_within (from + 1) tests field is in (omega (arith, later.0), omega (arith, later.1))
found_within from (false ∷ tests) field is = let same = same_Some from field is in (omega (arith, same), omega (arith, same))

seven : (a b c d e f g : Bool) (i : ℕ) → position_from not 1 (a ∷ b ∷ c ∷ d ∷ e ∷ f ∷ g ∷ []) ≡ Some i → (1 ≤ i) × (i ≤ 7)
seven a b c d e f g i found = let within = found_within 1 (a ∷ b ∷ c ∷ d ∷ e ∷ f ∷ g ∷ []) i found in (omega (arith, within.0), omega (arith, within.1))

wrong_within : (found : Option ℕ) (g : Geometry) (field : ℕ) → ((i : ℕ) → found ≡ Some i → (1 ≤ i) × (i ≤ 7)) → unless_wrong found g ≡ Err (super.BadGeometry field) → (1 ≤ field) × (field ≤ 7)
wrong_within None g field inside is = absurd (cc is)
wrong_within (Some i) g field inside is =
    let same : i ≡ field = cc is in
    let here = inside i refl in
    (omega (arith, same, here.0), omega (arith, same, here.1))

named : (b : Bool) (x : Result Geometry SuperError) (field : ℕ) → cond b x (Err super.NotIsotope) ≡ Err (super.BadGeometry field) → x ≡ Err (super.BadGeometry field)
named true x field is = is
named false x field is = absurd (cc is)

field_within : (block : List ℕ) (field : ℕ) → super_of block ≡ Err (super.BadGeometry field) → (1 ≤ field) × (field ≤ 7)
unfolding super_of
field_within block field is =
    wrong_within (wrong_field block (geometry_of block)) (geometry_of block) field
    (λ i found. seven _ _ _ _ _ _ _ i found)
    (named _ (unless_wrong (wrong_field block (geometry_of block)) (geometry_of block)) field is)

sized : (g : Geometry) (size : ℕ) (same : Bool) (e : OpenError) → (size == image_size g) ≡ same → cond same None (Some (WrongSize (image_size g) size)) ≡ Some e → IsShaped size e
sized g size true e test is = absurd (none-some e is)
sized g size false e test is =
    subst (IsShaped size) (same_Some (WrongSize (image_size g) size) e is) (refl, λ equal. absurd (cc (sym test ∙ eq-eqb size (image_size g) (sym equal))))

read_shaped : (size : ℕ) (block : List ℕ) (read : Result Geometry SuperError) (e : OpenError) → super_of block ≡ read → super_refusal size read ≡ Some e → IsShaped size e
read_shaped size block (Err super.NotIsotope) e is fails = subst (IsShaped size) (same_Some NotIsotope e fails) tt
read_shaped size block (Err (super.BadGeometry field)) e is fails = subst (IsShaped size) (same_Some (BadGeometry field) e fails) (field_within block field is)
read_shaped size block (Ok g) e is fails = sized g size (size == image_size g) e refl fails

pub super_shaped : (size : ℕ) (block : List ℕ) (e : OpenError) → super_refusal size (super_of block) ≡ Some e → IsShaped size e
super_shaped size block e fails = read_shaped size block (super_of block) e refl fails

-- ---- the header of a half

formed : (size form : ℕ) (one two : Bool) (rest : Option OpenError) (e : OpenError) → (form == 1) ≡ one → (form == 2) ≡ two → (rest ≡ Some e → IsShaped size e)
    → cond (one || two) rest (Some (UnknownForm form)) ≡ Some e → IsShaped size e
formed size form true two rest e first second later is = later is
formed size form false true rest e first second later is = later is
formed size form false false rest e first second later is =
    subst (IsShaped size) (same_Some (UnknownForm form) e is)
    ((λ equal. absurd (cc (sym first ∙ eq-eqb form 1 equal))), λ equal. absurd (cc (sym second ∙ eq-eqb form 2 equal)))

either : (size : ℕ) (x y : Option OpenError) (e : OpenError) → (x ≡ Some e → IsShaped size e) → (y ≡ Some e → IsShaped size e) → or_else x y ≡ Some e → IsShaped size e
either size None y e first second is = second is
either size (Some f) y e first second is = first is

unclean : (size place : ℕ) (found : Option ℕ) (e : OpenError) → ((i : ℕ) → found ≡ Some i → place + i < size) → option_map (λ i. Damaged (place + i) 3) found ≡ Some e → IsShaped size e
unclean size place None e inside is = absurd (none-some e is)
unclean size place (Some i) e inside is = subst (IsShaped size) (same_Some (Damaged (place + i) 3) e is) (record { inside = inside i refl; first = omega arith; last = omega arith })

numbered : (size place : ℕ) (one two : Bool) (e : OpenError) → place + 32 ≤ size → cond one (Some (Damaged (place + 8) 8)) (cond two (Some (Damaged (place + 16) 8)) None) ≡ Some e → IsShaped size e
numbered size place true two e fits is = subst (IsShaped size) (same_Some (Damaged (place + 8) 8) e is) (record { inside = omega (arith, fits); first = omega arith; last = omega arith })
numbered size place false true e fits is = subst (IsShaped size) (same_Some (Damaged (place + 16) 8) e is) (record { inside = omega (arith, fits); first = omega arith; last = omega arith })
numbered size place false false e fits is = absurd (none-some e is)

header_shaped : (size place : ℕ) (header : List ℕ) (e : OpenError) → place + 32 ≤ size → header_refusal place header ≡ Some e → IsShaped size e
header_shaped size place header e fits is =
    let h = half_of header in
    formed size h.form (h.form == 1) (h.form == 2) (or_else (option_map (λ i. Damaged (place + i) 3) (unclean_place header)) (number_refusal place h)) e refl refl
    (either size (option_map (λ i. Damaged (place + i) 3) (unclean_place header)) (number_refusal place h) e
    (unclean size place (unclean_place header) e (λ i found. let below = unclean_below header i found in omega (arith, below, fits)))
    (numbered size place (nat_lt LAST h.generation) (nat_lt LAST h.base) e fits))
    is

header_inside : (g : Geometry) (half : ℕ) → half ≤ 1 → header_place g half + 32 ≤ image_size g
header_inside g zero le = omega arith
header_inside g (suc zero) le = omega arith
header_inside g (suc (suc half)) le = absurd (omega arith)

chosen_shaped : (g : Geometry) (first second : List ℕ) (chosen : Option ℕ) (e : OpenError) → chosen_by first second ≡ chosen → halves_refusal g first second chosen ≡ Some e → IsShaped (image_size g) e
chosen_shaped g first second None e is fails = subst (IsShaped (image_size g)) (same_Some NoHalf e fails) tt
chosen_shaped g first second (Some half) e is fails =
    header_shaped (image_size g) (header_place g half) (header_of half first second) e (header_inside g half (chosen_is first second half is).least) fails

pub halves_shaped : (g : Geometry) (first second : List ℕ) (e : OpenError) → halves_refusal g first second (chosen_by first second) ≡ Some e → IsShaped (image_size g) e
halves_shaped g first second e fails = chosen_shaped g first second (chosen_by first second) e refl fails

-- ---- the log

pub opening_shaped : {T : Type 0} (error : LogError) (size end : ℕ) → end ≤ size → ((at cause : ℕ) → IsErrOf {T = T} {E = LogError} (Err error) (log.Damaged at cause) → IsTestBefore end at cause)
    → IsShaped size (opening error)
opening_shaped log.Memory size end fits test = tt
opening_shaped (log.Damaged at cause) size end fits test =
    let is = test at cause refl in
    record { inside = omega (arith, is.inside, fits); first = is.first; last = is.last }
opening_shaped log.Disk size end fits test = tt
opening_shaped (log.LogFull need free) size end fits test = tt
