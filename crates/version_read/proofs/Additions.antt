-- Parts that are added to an index one by one.
use Rattle.version_read.proofs.{Words.{◌≡◌, ◌≢◌, inl, inr, ◌∙◌, sym, refl, ap, ℕ, ◌+◌, ◌<◌, ◌≤◌, ◌==◌, Bool, cond, List, [], ◌∷◌, ◌++◌, length, map, take, drop, get_or, get_or-drop, arith, subst, append_assoc, AllByRecursion, cases_eq, eq-eqb, ne_eqb, append-nil, drop_more, take_all, take_more, take-append-drop, length-drop, sum_by-append, sum_by-cons, Run, Version, AreAtMost, BlockVersions, IsAdded, block_of, count_of, no_version, room_of, versions_in, all_at, all_of, PartSpan, HasRoom, HasTaken, no_part, part_of, part_versions, parts_in, parts_length}, Lying.{all_append, all_cond}}

abbrev pub size_of : PartSpan → ℕ
size_of part = 8 + part.len

abbrev pub version_at : (n at : ℕ) → PartSpan → Version
version_at n at part = record { number = n; place = at + 8; off = part.off; len = part.len }

cond_append : (b : Bool) (v : Version) (xs ys : List Version) → cond b (v ∷ (xs ++ ys)) (xs ++ ys) ≡ cond b (v ∷ xs) xs ++ ys
cond_append b v xs ys = grind arith

part_versions-append : (b n at : ℕ) (xs ys : List PartSpan) → part_versions b n at (xs ++ ys) ≡ part_versions b n at xs ++ part_versions b n (at + parts_length xs) ys
part_versions-append b n at [] ys = let e : at ≡ at + 0 = omega arith in ap (λ (k : ℕ). part_versions b n k ys) e
part_versions-append b n at (x ∷ xs) ys =
    let e : at + (8 + x.len) + parts_length xs ≡ at + parts_length (x ∷ xs) = omega (arith, sum_by-cons size_of x xs) in
    let rest : part_versions b n (at + (8 + x.len)) (xs ++ ys) ≡ part_versions b n (at + (8 + x.len)) xs ++ part_versions b n (at + parts_length (x ∷ xs)) ys =
    part_versions-append b n (at + (8 + x.len)) xs ys ∙ ap (λ (k : ℕ). part_versions b n (at + (8 + x.len)) xs ++ part_versions b n k ys) e in
    ap (λ (l : List Version). cond (x.block == b) (version_at n at x ∷ l) l) rest
    ∙ cond_append (x.block == b) (version_at n at x) (part_versions b n (at + (8 + x.len)) xs) (part_versions b n (at + parts_length (x ∷ xs)) ys)

-- each has the number
part_numbers : (b n at : ℕ) (parts : List PartSpan) → AllByRecursion (λ v. v.number ≤ n) (part_versions b n at parts)
part_numbers b n at [] = tt
part_numbers b n at (part ∷ parts) = all_cond (λ v. v.number ≤ n) (version_at n at part) (part_versions b n (at + (8 + part.len)) parts) (omega arith) (part_numbers b n (at + (8 + part.len)) parts) (part.block == b)

-- the versions of the parts before i are added
pub record AreAdded (old cur : List BlockVersions) (number place at i : ℕ) (parts : List PartSpan) : Type 0 where
  pub blocks : length cur ≡ length old
  pub each : (b : ℕ) → versions_in cur b ≡ versions_in old b ++ part_versions b number place (take i parts)
  pub room : (b : ℕ) → room_of old b ≤ room_of cur b + parts_in b (take i parts)
  pub count : count_of cur ≡ count_of old + i
  pub at_is : at ≡ place + parts_length (take i parts)

module _ (old cur : List BlockVersions) (number place at i : ℕ) (parts : List PartSpan) (part : PartSpan) (was : AreAdded old cur number place at i parts) (inside : i < length parts) (is : part ≡ get_or parts i no_part) where
  split : parts ≡ take i parts ++ (part ∷ drop (i + 1) parts)
  split = sym (take-append-drop i parts) ∙ ap (λ (l : List PartSpan). take i parts ++ l) (drop_more parts i no_part inside ∙ ap (λ (p : PartSpan). p ∷ drop (i + 1) parts) (sym is))

  next : take (i + 1) parts ≡ take i parts ++ part ∷ []
  next = take_more parts i no_part inside ∙ ap (λ (p : PartSpan). take i parts ++ p ∷ []) (sym is)

  pub place_fits : at + (8 + part.len) ≤ place + parts_length parts
  place_fits =
      let sum = ap parts_length split ∙ sum_by-append size_of (take i parts) (part ∷ drop (i + 1) parts) in
      omega (arith, sum, sum_by-cons size_of part (drop (i + 1) parts), was.at_is)

  more : (b : ℕ) → part_versions b number place (take (i + 1) parts) ≡ part_versions b number place (take i parts) ++ part_versions b number at (part ∷ [])
  more b =
      ap (part_versions b number place) next ∙ part_versions-append b number place (take i parts) (part ∷ [])
      ∙ ap (λ (k : ℕ). part_versions b number place (take i parts) ++ part_versions b number k (part ∷ [])) (sym was.at_is)

  here : part_versions part.block number at (part ∷ []) ≡ version_at number at part ∷ []
  here = ap (λ (t : Bool). cond t (version_at number at part ∷ []) []) (eq-eqb part.block part.block refl)

  away : (b : ℕ) → b ≢ part.block → part_versions b number at (part ∷ []) ≡ []
  away b other = ap (λ (t : Bool). cond t (version_at number at part ∷ []) []) (ne_eqb part.block b (λ same. other (sym same)))

  abbrev one_of : ℕ → PartSpan → ℕ
  one_of b p = cond (p.block == b) 1 0

  one_here : one_of part.block part ≡ 1
  one_here = ap (λ (t : Bool). cond t 1 0) (eq-eqb part.block part.block refl)

  pub room_left : HasRoom parts old → 0 < room_of cur part.block
  room_left room =
      let sum = ap (parts_in part.block) split ∙ sum_by-append (one_of part.block) (take i parts) (part ∷ drop (i + 1) parts) in
      omega (arith, sum, sum_by-cons (one_of part.block) part (drop (i + 1) parts), one_here, was.room part.block, room part.block)

  pub still_rises : ((b : ℕ) → AreAtMost number (versions_in old b)) → AreAtMost number (versions_in cur part.block)
  still_rises rising =
      all_at (λ v. v.number ≤ number) no_version (versions_in cur part.block)
      (subst (AllByRecursion (λ v. v.number ≤ number)) (sym (was.each part.block)) (all_append (λ v. v.number ≤ number) (versions_in old part.block) (part_versions part.block number place (take i parts))
      (all_of (λ v. v.number ≤ number) no_version (versions_in old part.block) (rising part.block)) (part_numbers part.block number place (take i parts))))

  in_more : (b : ℕ) → parts_in b (take (i + 1) parts) ≡ parts_in b (take i parts) + one_of b part
  in_more b = omega (arith, ap (parts_in b) next ∙ sum_by-append (one_of b) (take i parts) (part ∷ []), sum_by-cons (one_of b) part [])

  pub added_more : (now : List BlockVersions) (k : ℕ) → IsAdded part.block (version_at number at part) cur now → k ≡ at + (8 + part.len) → AreAdded old now number place k (i + 1) parts
  added_more now k added k_is = record {
    blocks = added.blocks ∙ was.blocks;
    each = λ b. elim (cases_eq b part.block) [
      | inl same ↦
          ap (versions_in now) same ∙ added.there ∙ ap (λ (l : List Version). l ++ version_at number at part ∷ []) (was.each part.block)
          ∙ append_assoc (versions_in old part.block) (part_versions part.block number place (take i parts)) (version_at number at part ∷ [])
          ∙ ap (λ (l : List Version). versions_in old part.block ++ (part_versions part.block number place (take i parts) ++ l)) (sym here)
          ∙ ap (λ (l : List Version). versions_in old part.block ++ l) (sym (more part.block))
          ∙ ap (λ (c : ℕ). versions_in old c ++ part_versions c number place (take (i + 1) parts)) (sym same)
      | inr other ↦
          ap (λ (r : BlockVersions). r.versions) (added.others b other) ∙ was.each b
          ∙ ap (λ (l : List Version). versions_in old b ++ l) (sym (more b ∙ ap (λ (l : List Version). part_versions b number place (take i parts) ++ l) (away b other) ∙ append-nil (part_versions b number place (take i parts))))
    ];
    room = λ b. elim (cases_eq b part.block) [
      | inl same ↦ subst (λ (c : ℕ). room_of old c ≤ room_of now c + parts_in c (take (i + 1) parts)) (sym same) (omega (arith, in_more part.block, one_here, added.room, was.room part.block))
      | inr other ↦ omega (arith, in_more b, ap (λ (r : BlockVersions). r.room) (added.others b other), was.room b)
    ];
    count = omega (arith, added.count, was.count);
    at_is = k_is ∙ omega (arith, was.at_is, ap parts_length next, sum_by-append size_of (take i parts) (part ∷ []), sum_by-cons size_of part []);
  }

pub added_all : (old cur : List BlockVersions) (number gate at i : ℕ) (parts : List PartSpan) → AreAdded old cur number (gate + 20) at i parts → length parts ≤ i → i ≤ length parts → HasTaken number gate parts old cur
added_all old cur number gate at i parts was end within =
    let all : take i parts ≡ parts = take_all i parts end in
    record {
      blocks = was.blocks;
      each = λ b. was.each b ∙ ap (λ (l : List PartSpan). versions_in old b ++ part_versions b number (gate + 20) l) all;
      count = omega (arith, was.count, end, within);
      room = λ b. omega (arith, was.room b, ap (parts_in b) all);
    }

-- The versions of the parts before these last ones are added.
pub record AreTaken (old cur : List BlockVersions) (number place at : ℕ) (parts rest : List PartSpan) : Type 0 where
  pub count : ℕ
  pub within : count ≤ length parts
  pub rest_is : drop count parts ≡ rest
  pub added : AreAdded old cur number place at count parts

module _ {old cur : List BlockVersions} {number place at : ℕ} {parts : List PartSpan} {it left : List Run} {run : Run} (steps : it ≡ run ∷ left) (was : AreTaken old cur number place at parts (map part_of it)) where
  rest_is : drop was.count parts ≡ part_of run ∷ map part_of left
  rest_is = was.rest_is ∙ ap (map part_of) steps

  first_inside : was.count < length parts
  first_inside = omega (arith, length-drop was.count parts, ap (λ (l : List PartSpan). length l) rest_is)

  first_is : part_of run ≡ get_or parts was.count no_part
  first_is =
      let here : was.count + 0 ≡ was.count = omega arith in
      sym (ap (λ (l : List PartSpan). get_or l 0 no_part) rest_is) ∙ get_or-drop was.count parts 0 no_part ∙ ap (λ (k : ℕ). get_or parts k no_part) here

  pub first_fits : at + (8 + length run.bytes) ≤ place + parts_length parts
  first_fits = place_fits old cur number place at was.count parts (part_of run) was.added first_inside first_is

  pub first_rises : ((b : ℕ) → AreAtMost number (versions_in old b)) → AreAtMost number (versions_in cur run.block)
  first_rises = still_rises old cur number place at was.count parts (part_of run) was.added first_inside first_is

  -- room is made, and the first of them is added
  pub taken_more : (room now : List BlockVersions) (k : ℕ) → length room ≡ length cur → ((b : ℕ) → versions_in room b ≡ versions_in cur b) → count_of room ≡ count_of cur
      → ((b : ℕ) → b ≢ run.block → block_of room b ≡ block_of cur b) → room_of cur run.block ≤ room_of room run.block
      → IsAdded run.block (version_at number at (part_of run)) room now → k ≡ at + (8 + length run.bytes) → AreTaken old now number place k parts (map part_of left)
  taken_more room now k size same count others no_less added k_is =
      let made : AreAdded old room number place at was.count parts = record {
        blocks = size ∙ was.added.blocks;
        each = λ b. same b ∙ was.added.each b;
        room = λ b. elim (cases_eq b run.block) [
          | inl is ↦ subst (λ (c : ℕ). room_of old c ≤ room_of room c + parts_in c (take was.count parts)) (sym is) (omega (arith, no_less, was.added.room run.block))
          | inr other ↦ omega (arith, was.added.room b, ap (λ (r : BlockVersions). r.room) (others b other))
        ];
        count = count ∙ was.added.count;
        at_is = was.added.at_is;
      } in
      record {
        count = was.count + 1;
        within = omega (arith, first_inside);
        rest_is = ap (drop 1) (sym (drop_more parts was.count no_part first_inside) ∙ rest_is);
        added = added_more old room number place at was.count parts (part_of run) made first_inside first_is now k added k_is;
      }

pub taken_all : {old cur : List BlockVersions} {number gate at : ℕ} {parts : List PartSpan} {it : List Run} → it ≡ [] → AreTaken old cur number (gate + 20) at parts (map part_of it) → HasTaken number gate parts old cur
taken_all {old = old} {cur = cur} {number = number} {gate = gate} {at = at} {parts = parts} none was =
    added_all old cur number gate at was.count parts was.added (omega (arith, length-drop was.count parts, ap (λ (l : List PartSpan). length l) (was.rest_is ∙ ap (map part_of) none))) was.within
