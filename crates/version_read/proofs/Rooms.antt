-- Room that is made for parts, block by block.
use Rattle.version_read.proofs.Words.{◌≡◌, ◌≢◌, inl, inr, ◌∙◌, sym, ap, ℕ, zero, suc, ◌+◌, ◌-◌, ◌<◌, ◌≤◌, ◌==◌, cond, List, length, take, get_or, arith, subst, cases_eq, cases_lt, eq-eqb, ne_eqb, count_by_more_no, count_by_more_yes, sum_by-take-le, BlockVersions, block_of, count_of, room_of, versions_in, PartSpan, HasRoom, no_part, parts_in}

-- the parts before a place that are of no other block
same_block : (b i n : ℕ) (parts : List PartSpan) → i + n ≤ length parts → ((k : ℕ) → i ≤ k → k < i + n → (get_or parts k no_part).block ≡ b) → parts_in b (take (i + n) parts) ≡ parts_in b (take i parts) + n
same_block b i zero parts fits same = let e : i + 0 ≡ i = omega arith in ap (λ (k : ℕ). parts_in b (take k parts)) e ∙ omega arith
same_block b i (suc n) parts fits same =
    let e : i + suc n ≡ i + n + 1 = omega arith in
    let rest = same_block b i n parts (omega (arith, fits)) (λ k from to. same k from (omega (arith, to))) in
    ap (λ (k : ℕ). parts_in b (take k parts)) e
    ∙ count_by_more_yes (λ part. part.block == b) parts (i + n) no_part (omega (arith, fits)) (eq-eqb (get_or parts (i + n) no_part).block b (same (i + n) (omega arith) (omega arith)))
    ∙ omega (arith, rest)

other_block : (b i n : ℕ) (parts : List PartSpan) → i + n ≤ length parts → ((k : ℕ) → i ≤ k → k < i + n → (get_or parts k no_part).block ≢ b) → parts_in b (take (i + n) parts) ≡ parts_in b (take i parts)
other_block b i zero parts fits other = let e : i + 0 ≡ i = omega arith in ap (λ (k : ℕ). parts_in b (take k parts)) e
other_block b i (suc n) parts fits other =
    let e : i + suc n ≡ i + n + 1 = omega arith in
    ap (λ (k : ℕ). parts_in b (take k parts)) e
    ∙ count_by_more_no (λ part. part.block == b) parts (i + n) no_part (omega (arith, fits)) (ne_eqb (get_or parts (i + n) no_part).block b (other (i + n) (omega arith) (omega arith)))
    ∙ other_block b i n parts (omega (arith, fits)) (λ k from to. other k from (omega (arith, to)))

-- Room is made for the parts before a place, and no block that comes after it was before it.
pub record AreReserved (old cur : List BlockVersions) (parts : List PartSpan) (first : ℕ) : Type 0 where
  pub within : first ≤ length parts
  pub blocks : length cur ≡ length old
  pub same : (b : ℕ) → versions_in cur b ≡ versions_in old b
  pub count : count_of cur ≡ count_of old
  pub no_less : (b : ℕ) → room_of old b ≤ room_of cur b
  pub done : (b : ℕ) → parts_in b (take first parts) ≤ room_of cur b
  pub apart : (i j : ℕ) → i < first → first ≤ j → j < length parts → (get_or parts i no_part).block < (get_or parts j no_part).block

module _ (old cur : List BlockVersions) (parts : List PartSpan) (first stop : ℕ) (was : AreReserved old cur parts first) (more : first < stop) (within : stop ≤ length parts)
    (same : (i : ℕ) → first ≤ i → i < stop → (get_or parts i no_part).block ≡ (get_or parts first no_part).block)
    (later : (i : ℕ) → stop ≤ i → i < length parts → (get_or parts first no_part).block < (get_or parts i no_part).block) where
  stop_is : first + (stop - first) ≡ stop
  stop_is = omega (arith, more)

  none_before : parts_in (get_or parts first no_part).block (take first parts) ≡ 0
  none_before = let e : 0 + first ≡ first = omega arith in ap (λ (k : ℕ). parts_in (get_or parts first no_part).block (take k parts)) (sym e) ∙ other_block (get_or parts first no_part).block 0 first parts (omega (arith, more, within)) (λ k from to is. (let lt = was.apart k first (omega (arith, to)) (omega arith) (omega (arith, more, within)) in omega (arith, is, lt)))

  here : parts_in (get_or parts first no_part).block (take stop parts) ≡ stop - first
  here =
      ap (λ (k : ℕ). parts_in (get_or parts first no_part).block (take k parts)) (sym stop_is)
      ∙ same_block (get_or parts first no_part).block first (stop - first) parts (omega (arith, more, within)) (λ k from to. same k from (omega (arith, to, more)))
      ∙ omega (arith, none_before)

  elsewhere : (b : ℕ) → b ≢ (get_or parts first no_part).block → parts_in b (take stop parts) ≡ parts_in b (take first parts)
  elsewhere b other =
      ap (λ (k : ℕ). parts_in b (take k parts)) (sym stop_is)
      ∙ other_block b first (stop - first) parts (omega (arith, more, within)) (λ k from to is. other (sym is ∙ same k from (omega (arith, to, more))))

  pub reserved_more : (now : List BlockVersions) → length now ≡ length cur → ((b : ℕ) → versions_in now b ≡ versions_in cur b) → count_of now ≡ count_of cur
      → ((b : ℕ) → b ≢ (get_or parts first no_part).block → block_of now b ≡ block_of cur b) → stop - first ≤ room_of now (get_or parts first no_part).block
      → room_of cur (get_or parts first no_part).block ≤ room_of now (get_or parts first no_part).block → AreReserved old now parts stop
  reserved_more now size kept count others room no_less = record {
    within = within;
    blocks = size ∙ was.blocks;
    same = λ b. kept b ∙ was.same b;
    count = count ∙ was.count;
    no_less = λ b. elim (cases_eq b (get_or parts first no_part).block) [
      | inl is ↦ subst (λ (k : ℕ). room_of old k ≤ room_of now k) (sym is) (omega (arith, was.no_less (get_or parts first no_part).block, no_less))
      | inr other ↦ omega (arith, was.no_less b, ap (λ (r : BlockVersions). r.room) (others b other))
    ];
    done = λ b. elim (cases_eq b (get_or parts first no_part).block) [
      | inl is ↦ subst (λ (k : ℕ). parts_in k (take stop parts) ≤ room_of now k) (sym is) (omega (arith, here, room))
      | inr other ↦ omega (arith, was.done b, elsewhere b other, ap (λ (r : BlockVersions). r.room) (others b other))
    ];
    apart = λ i j before from below. elim (cases_lt i first) [
      | inl lt ↦ (let second = later j from below in let one = was.apart i first lt (omega arith) (omega (arith, more, within)) in omega (arith, one, second))
      | inr le ↦ (let second = later j from below in omega (arith, same i le before, second))
    ];
  }

  -- where the room was there, no memory is wanted
  pub room_there : HasRoom parts old → stop - first ≤ room_of cur (get_or parts first no_part).block
  room_there room =
      let whole : parts_in (get_or parts first no_part).block (take stop parts) ≤ parts_in (get_or parts first no_part).block parts =
      sum_by-take-le (λ part. cond (part.block == (get_or parts first no_part).block) 1 0) parts stop in
      omega (arith, here, whole, room (get_or parts first no_part).block, was.no_less (get_or parts first no_part).block)
