-- What a half is filled with, in one image.
use Rattle.half_switch.proofs.{Words.{◌≡◌, ◌≤◌, ◌+◌, ◌-◌, ◌*◌, inl, inr, ℕ, List, [], ◌∷◌, ◌++◌, length, take, drop, get_or, Option, IsTrue, refl, sym, ◌∙◌, ap, arith, subst, length-append, length-drop, append_assoc, AllByRecursion, slice_range, drop-take, length-take-le, take-take, take_at, get_or-take, get_or-drop, get_or_at, Geometry, LAST, Array, image_size, base_place, is_valid, log_place, all_own, array_at, IsRecord, Written, blocks_of, commits_of, half_header, records, spliced, Torn, slice-torn, spliced_torn, take-drop-spliced, HalfPlace, Half, HasLog, IsFilled, IsHeld, history_of, in_form, last_told, told_bytes, held_each, held_last, held_log, blocks_same, held_half, log_inside, records_form, has_log, FillPlan, all_laid, AreHalves, Copies, IsReady, place_of, refilled, HasRecords, IsLaidOut, closed_log, filled_with, header_tail}, Forms.{all_take, each_form, may_switch}, Kept.other_place, Lays.{all_laid_blocks, length-all_laid, take_commits}, Nexts.records_split}

gate_free : (form generation base : ℕ) → header_tail form generation base ≡ take 31 (drop 1 (half_header 1 form generation base))
unfolding half_header
gate_free form generation base = refl

length-front : (form generation base : ℕ) → length (header_tail form generation base) ≡ 31
unfolding half_header
length-front form generation base = refl

-- blocks from bytes that begin with these
blocks_front : (size n : ℕ) (xs ys : List ℕ) → take (n * size) xs ≡ ys → blocks_of size n xs ≡ blocks_of size n ys
blocks_front size n xs ys is = blocks_same size n xs ys (λ i len fits.
    sym (ap (take len) (ap (drop i) (sym is)) ∙ ap (take len) (shorter i len fits) ∙ take-take len (n * size - i) (drop i xs) (omega (arith, fits))))
  where
    shorter : (i len : ℕ) → i + len ≤ n * size → drop i (take (n * size) xs) ≡ take (n * size - i) (drop i xs)
    shorter i len fits = let sum : i + (n * size - i) ≡ n * size = omega (arith, fits) in ap (λ (k : ℕ). drop i (take k xs)) (sym sum) ∙ drop-take i (n * size - i) xs

-- the array of the laid base
laid_array : (g : Geometry) (x : Half) (base : ℕ) (blocks : List ℕ) → x.base ≤ base → length blocks ≡ g.blocks * g.block → x.array ≡ blocks_of g.block g.blocks blocks
    → AllByRecursion (IsRecord g) x.told
    → array_at (history_of g x) base ≡ blocks_of g.block g.blocks (all_laid g.block (take (base - x.base) x.told) blocks)
laid_array g x base blocks up long is each =
    let steps : base + 1 - (x.base + 1) ≡ base - x.base = omega (arith, up) in
    let own : all_own (blocks_of g.block g.blocks blocks) (commits_of g (x.base + 1) (take (base - x.base) x.told)) ≡ blocks_of g.block g.blocks (all_laid g.block (take (base - x.base) x.told) blocks) =
    sym (all_laid_blocks g (x.base + 1) (take (base - x.base) x.told) blocks (all_take g (base - x.base) x.told each) long) in
    (λ i. all_own (is i) (take (steps i) (commits_of g (x.base + 1) x.told)))
    ∙ ap (all_own (blocks_of g.block g.blocks blocks)) (sym (take_commits g (x.base + 1) (base - x.base) x.told))
    ∙ own

-- The three writes leave this after the gate.
module _ (to : HalfPlace) (old base front log : List ℕ) (base_is : to.base ≡ to.header + 32) (log_is : to.log ≡ to.base + length base) (front_is : length front ≡ 31) (fits : to.log + length log ≤ length old) where
  one : Torn to.base (length base) old (spliced old to.base base)
  one = spliced_torn old to.base base (omega arith)

  two : Torn (to.header + 1) (length front) (spliced old to.base base) (spliced (spliced old to.base base) (to.header + 1) front)
  two = spliced_torn (spliced old to.base base) (to.header + 1) front (omega (arith, one.size))

  three : Torn to.log (length log) (spliced (spliced old to.base base) (to.header + 1) front) (filled_with to base front log old)
  three = spliced_torn (spliced (spliced old to.base base) (to.header + 1) front) to.log log (omega (arith, one.size, two.size))

  length-filled : length (filled_with to base front log old) ≡ length old
  length-filled = three.size ∙ two.size ∙ one.size

  has_front : take 31 (drop (to.header + 1) (filled_with to base front log old)) ≡ front
  has_front =
      slice-torn three (to.header + 1) 31 (inl (omega arith))
      ∙ ap (λ (n : ℕ). take n (drop (to.header + 1) (spliced (spliced old to.base base) (to.header + 1) front))) (sym front_is)
      ∙ take-drop-spliced (spliced old to.base base) (to.header + 1) front (omega (arith, one.size))

  has_base : take (length base) (drop to.base (filled_with to base front log old)) ≡ base
  has_base =
      slice-torn three to.base (length base) (inl (omega arith))
      ∙ slice-torn two to.base (length base) (inr (omega arith))
      ∙ take-drop-spliced old to.base base (omega arith)

  has_log_bytes : take (length log) (drop to.log (filled_with to base front log old)) ≡ log
  has_log_bytes = take-drop-spliced (spliced (spliced old to.base base) (to.header + 1) front) to.log log (omega (arith, one.size, two.size))

-- what is read of a log: its records and one gate
log_read : (used room gate : ℕ) (R rest log : List ℕ) → used ≡ length R → room ≤ length log → take room log ≡ R ++ gate ∷ rest → (used + 1 ≤ room) × (take (used + 1) log ≡ R ++ gate ∷ [])
log_read used room gate R rest log used_is long is =
    let count : length (R ++ gate ∷ rest) ≡ room = sym (ap length is) ∙ length-take-le room log long in
    let short : used + 1 ≤ room = omega (arith, count, used_is, length-append R (gate ∷ rest)) in (
      short,
      sym (take-take (used + 1) room log short) ∙ ap (take (used + 1)) (is ∙ sym (append_assoc R (gate ∷ []) rest))
          ∙ take_at (R ++ gate ∷ []) rest (used + 1) (omega (arith, used_is, length-append R (gate ∷ []))),
    )

-- what was written of a log: its records after a closed gate
log_written : (g : Geometry) (place base : ℕ) (told : List Written) (c : List ℕ)
    → take (length (closed_log g (base + 1) told)) (drop place c) ≡ closed_log g (base + 1) told
    → length (records g (base + 1) told) + 1 ≤ g.log → place + g.log ≤ length c → HasLog place g.log g (base + 1) told c
log_written g place base told c here short fits =
    let more : length (closed_log g (base + 1) told) ≡ length (records g (base + 1) told) + 1 = length-append (records g (base + 1) told) (0 ∷ []) in
    let front : take (length (records g (base + 1) told)) (drop place c) ≡ records g (base + 1) told =
    sym (take-take (length (records g (base + 1) told)) (length (closed_log g (base + 1) told)) (drop place c) (omega (arith, more)))
    ∙ ap (take (length (records g (base + 1) told))) here ∙ take_at (records g (base + 1) told) (0 ∷ []) (length (records g (base + 1) told)) refl in
    let gate : get_or c (place + length (records g (base + 1) told)) 0 ≡ 0 =
    sym (get_or-drop place c (length (records g (base + 1) told)) 0)
    ∙ sym (get_or-take (length (closed_log g (base + 1) told)) (drop place c) (length (records g (base + 1) told)) 0 (omega (arith, more)))
    ∙ ap (λ (l : List ℕ). get_or l (length (records g (base + 1) told)) 0) here ∙ get_or_at (records g (base + 1) told) 0 [] 0 (length (records g (base + 1) told)) refl in
    has_log place g.log g (base + 1) told c fits (omega (arith, short)) front (λ is. absurd (omega (arith, gate, is)))

-- what the three writes leave in a half of an image
written_half : (g : Geometry) (form generation base at : ℕ) (A : Array) (told : List Written) (old blocks : List ℕ) → at ≤ 1 → length old ≡ image_size g
    → length blocks ≡ g.blocks * g.block → A ≡ blocks_of g.block g.blocks blocks → length (records (in_form form g) (base + 1) told) + 1 ≤ g.log
    → IsFilled (in_form form g) (record { at = at; generation = generation; base = base; array = A; told = told })
    (filled_with (place_of g at) blocks (header_tail form generation base) (closed_log (in_form form g) (base + 1) told) old)
written_half g form generation base at A told old blocks at_le size long array short =
    let count : length (closed_log (in_form form g) (base + 1) told) ≡ length (records (in_form form g) (base + 1) told) + 1 = length-append (records (in_form form g) (base + 1) told) (0 ∷ []) in
    let inside : log_place g at + g.log ≤ length old = omega (arith, size, log_inside g at at_le) in
    let log_is : log_place g at ≡ base_place g at + length blocks = omega (arith, long) in
    let fits : log_place g at + length (closed_log (in_form form g) (base + 1) told) ≤ length old = omega (arith, count, short, inside) in
    let front : length (header_tail form generation base) ≡ 31 = length-front form generation base in
    let total = length-filled (place_of g at) old blocks (header_tail form generation base) (closed_log (in_form form g) (base + 1) told) refl log_is front fits in
    record {
      header = has_front (place_of g at) old blocks (header_tail form generation base) (closed_log (in_form form g) (base + 1) told) refl log_is front fits ∙ gate_free form generation base;
      array = array ∙ sym (blocks_front g.block g.blocks (drop (base_place g at) (filled_with (place_of g at) blocks (header_tail form generation base) (closed_log (in_form form g) (base + 1) told) old)) blocks
          (ap (λ (n : ℕ). take n (drop (base_place g at) (filled_with (place_of g at) blocks (header_tail form generation base) (closed_log (in_form form g) (base + 1) told) old))) (sym long)
          ∙ has_base (place_of g at) old blocks (header_tail form generation base) (closed_log (in_form form g) (base + 1) told) refl log_is front fits));
      log = log_written (in_form form g) (log_place g at) base told _
          (has_log_bytes (place_of g at) old blocks (header_tail form generation base) (closed_log (in_form form g) (base + 1) told) refl log_is front fits)
          short (omega (arith, inside, total));
    }

-- The half is filled in an image that the three writes leave, where another half was read.
filled_image : (g : Geometry) (form generation base used : ℕ) (x : Half) (to : HalfPlace) (old c blocks log : List ℕ) → IsHeld g x old → to ≡ place_of g (1 - x.at)
    → (form ≡ 1 → g.form ≡ 1) → x.base ≤ base → base ≤ last_told x → used ≡ length (told_bytes g x)
    → blocks ≡ take (g.blocks * g.block) (drop (base_place g x.at) old) → log ≡ take (used + 1) (drop (log_place g x.at) old)
    → ((told : List Written) → AllByRecursion (IsRecord (in_form form g)) told → base - x.base ≤ length told → base ≤ LAST → HasRecords (in_form form g) x.base used told log
    → c ≡ filled_with to (all_laid g.block (take (base - x.base) told) blocks) (header_tail form generation base) (closed_log (in_form form g) (base + 1) (drop (base - x.base) told)) old)
    → IsFilled (in_form form g) (refilled g generation base x) c
filled_image g form generation base used x to old c blocks log has to_is rises up until used_is blocks_is log_is laid_out =
    let le = held_half g x old has in
    let each = held_each g x old has in
    let last = held_last g x old has in
    let enough : base - x.base ≤ length x.told = omega (arith, up, until) in
    let in_half : log_place g x.at + g.log ≤ length old = omega (arith, has.image.size, log_inside g x.at le) in
    let (gate, rest, not, log_here) = held_log g x old has in
    let read = log_read used g.log gate (told_bytes g x) rest (drop (log_place g x.at) old) used_is (omega (arith, in_half, length-drop (log_place g x.at) old)) log_here in
    let formed : records (in_form form g) (x.base + 1) x.told ≡ told_bytes g x = records_form g form (x.base + 1) x.told in
    let are : HasRecords (in_form form g) x.base used x.told log =
    record { gate = gate; is = log_is ∙ read.1 ∙ ap (λ (l : List ℕ). l ++ gate ∷ []) (sym formed); used_is = used_is ∙ ap length (sym formed) } in
    let blocks_long : length blocks ≡ g.blocks * g.block = ap length blocks_is ∙ length-take-le (g.blocks * g.block) (drop (base_place g x.at) old) (omega (arith, in_half, length-drop (base_place g x.at) old)) in
    let base_was : x.array ≡ blocks_of g.block g.blocks (drop (base_place g x.at) old) = subst (λ (h : ℕ). x.array ≡ blocks_of g.block g.blocks (drop (base_place g h) old)) has.at_is has.image.base in
    let array_is : x.array ≡ blocks_of g.block g.blocks blocks = base_was ∙ blocks_front g.block g.blocks (drop (base_place g x.at) old) blocks (sym blocks_is) in
    let number : x.base + 1 + (base - x.base) ≡ base + 1 = omega (arith, up) in
    let split : length (records (in_form form g) (x.base + 1) x.told) ≡ length (records (in_form form g) (x.base + 1) (take (base - x.base) x.told)) + length (records (in_form form g) (base + 1) (drop (base - x.base) x.told)) =
    ap length (records_split (in_form form g) (x.base + 1) (base - x.base) x.told enough ∙ ap (λ (n : ℕ). records (in_form form g) (x.base + 1) (take (base - x.base) x.told) ++ records (in_form form g) n (drop (base - x.base) x.told)) number)
    ∙ length-append (records (in_form form g) (x.base + 1) (take (base - x.base) x.told)) (records (in_form form g) (base + 1) (drop (base - x.base) x.told)) in
    let whole = laid_out x.told (each_form g form x.told rises each) enough (omega (arith, last, until)) are
    ∙ ap (λ (p : HalfPlace). filled_with p (all_laid g.block (take (base - x.base) x.told) blocks) (header_tail form generation base) (closed_log (in_form form g) (base + 1) (drop (base - x.base) x.told)) old) to_is in
    subst (IsFilled (in_form form g) (refilled g generation base x)) (sym whole)
    (written_half g form generation base (1 - x.at) (array_at (history_of g x) base) (drop (base - x.base) x.told) old (all_laid g.block (take (base - x.base) x.told) blocks) (omega arith) has.image.size
    (length-all_laid g.block (take (base - x.base) x.told) blocks ∙ blocks_long)
    (laid_array g x base blocks up blocks_long array_is each)
    (omega (arith, split, read.0, used_is, ap length formed)))

sliced : (x c : List ℕ) (at n here m : ℕ) → x ≡ slice_range c at (at + n) → at ≡ here → n ≡ m → x ≡ take m (drop here c)
sliced x c at n here m is there count = grind arith

-- The same in words of a plan.
pub laid_filled : (g : Geometry) (x : Half) (from to : HalfPlace) (plan : FillPlan) (blocks log d : List ℕ) (contents : Option (List ℕ))
    → Copies g x from plan → AreHalves plan.geometry from to → plan.old_base ≤ plan.base → (laid_out : IsLaidOut to plan blocks log contents d) → IsHeld g x laid_out.old
    → (n : ℕ) → n ≡ plan.geometry.blocks * plan.geometry.block → blocks ≡ slice_range laid_out.old from.base (from.base + n)
    → (m : ℕ) → m ≡ plan.used + 1 → log ≡ slice_range laid_out.old from.log (from.log + m)
    → IsFilled plan.geometry (refilled g plan.generation plan.base x) d
laid_filled g x from to plan blocks log d contents copies halves up laid_out has n n_is blocks_is m m_is log_is =
    let is = copies.is_from.geometry in
    let place = copies.is_from.place in
    let old_base : plan.old_base ≡ x.base = copies.old_base in
    let size : n ≡ g.blocks * g.block = n_is ∙ ap (λ (h : Geometry). h.blocks * h.block) is in
    let there = other_place g x from to plan (held_half g x laid_out.old has) copies.is_from halves in
    subst (λ (h : Geometry). IsFilled h (refilled g plan.generation plan.base x) d) (sym is)
    (filled_image g plan.geometry.form plan.generation plan.base plan.used x to laid_out.old d blocks log has there copies.form (omega (arith, up, old_base)) copies.until copies.used
    (sliced blocks laid_out.old from.base n (base_place g x.at) (g.blocks * g.block) blocks_is (ap (λ (p : HalfPlace). p.base) place) size)
    (sliced log laid_out.old from.log m (log_place g x.at) (plan.used + 1) log_is (ap (λ (p : HalfPlace). p.log) place) m_is)
    (subst (λ (b : ℕ). (told : List Written) → AllByRecursion (IsRecord (in_form plan.geometry.form g)) told → plan.base - b ≤ length told → plan.base ≤ LAST → HasRecords (in_form plan.geometry.form g) b plan.used told log
    → d ≡ filled_with to (all_laid g.block (take (plan.base - b) told) blocks) (header_tail plan.geometry.form plan.generation plan.base)
    (closed_log (in_form plan.geometry.form g) (plan.base + 1) (drop (plan.base - b) told)) laid_out.old) old_base
    (subst (λ (h : Geometry). (told : List Written) → AllByRecursion (IsRecord h) told → plan.base - plan.old_base ≤ length told → plan.base ≤ LAST → HasRecords h plan.old_base plan.used told log
    → d ≡ filled_with to (all_laid h.block (take (plan.base - plan.old_base) told) blocks) (header_tail h.form plan.generation plan.base)
    (closed_log h (plan.base + 1) (drop (plan.base - plan.old_base) told)) laid_out.old) is laid_out.is)))

-- so the image is ready to be switched
pub filled_ready : (g : Geometry) (x : Half) (from : HalfPlace) (plan : FillPlan) (d : List ℕ) → Copies g x from plan → IsTrue (is_valid plan.geometry) → plan.old_base ≤ plan.base → IsHeld g x d
    → IsFilled plan.geometry (refilled g plan.generation plan.base x) d → IsReady g plan.geometry.form x (refilled g plan.generation plan.base x) d
filled_ready g x from plan d copies valid up has filled =
    let is = copies.is_from.geometry in
    let old_base : plan.old_base ≡ x.base = copies.old_base in
    record {
      may = may_switch g plan.geometry.form plan.generation plan.base x d has (subst (λ (h : Geometry). IsTrue (is_valid h)) is valid) copies.form copies.later copies.generation (omega (arith, up, old_base)) copies.until;
      held = has;
      filled = subst (λ (h : Geometry). IsFilled h (refilled g plan.generation plan.base x) d) is filled;
    }
