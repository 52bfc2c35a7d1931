-- What becomes of a log's records, and of the half that an image holds, as a group of records is appended.
use Rattle.iso_log.proofs.{Words.{◌≡◌, ◌⊎◌, ◌<◌, ◌≤◌, ◌+◌, ◌-◌, ℕ, List, [], ◌∷◌, ◌++◌, length, get_or, sym, ◌∙◌, ap, arith, length-append, append_assoc, subst, Geometry, Written, kind_of, records, spell, DiskState, IsLawful, LeavesOnly, spliced, length-image, inl, started, torn_same, weakened, IsClosed, Appending, Half, HasLog, IsHeld, MayFollow, last_told, told_bytes, with_records, adding, added, log_gate, log_step, log_whole, records-append, Extent, extent_of, next_place, AppendedTo, AppendingFrom, HasTold, IsNext}, Counts.spell_gate}

-- ---- where a log that was opened into its fields goes on

module _ (a log : Extent) (same : a ≡ log) where
  pub gate_is : (n : ℕ) → n ≡ a.used → a.place + n ≡ next_place log
  gate_is n used = omega (arith, used, ap (λ (e : Extent). e.place) same, ap (λ (e : Extent). e.used) same)

  pub short_is : (free need : ℕ) → a.used ≤ a.room → free ≡ a.room - a.used → need ≤ free → log.used + need ≤ log.room
  short_is free need within free_is enough = omega (arith, within, free_is, enough, ap (λ (e : Extent). e.room) same, ap (λ (e : Extent). e.used) same)

  pub grown_is : (n count more : ℕ) → 1 ≤ n → count ≡ more → record log { used = log.used + n - 1; last = log.last + more } ≡ record a { used = a.used + (n - 1); last = a.last + count }
  grown_is n count more some counted = grind arith

-- ---- the bytes of a group

-- the first byte is an open gate
first_open : (g : Geometry) (n : ℕ) (more : List Written) (rest : List ℕ) → 0 < length more → get_or (records g n more ++ rest) 0 0 ≡ 1
first_open g n [] rest some = absurd (omega arith)
first_open g n (w ∷ more) rest some =
    ap (λ (l : List ℕ). get_or l 0 0) (append_assoc (spell 1 (kind_of g w.mode) n w.parts) (records g (n + 1) more) rest)
    ∙ spell_gate 1 (kind_of g w.mode) n w.parts (records g (n + 1) more ++ rest)

pub opens : {log : Extent} {g : Geometry} {more : List Written} {bytes : List ℕ} → IsNext log g more bytes → get_or bytes 0 0 ≡ 1
opens {log = log} {g = g} {more = more} next = ap (λ (l : List ℕ). get_or l 0 0) next.bytes_are ∙ first_open g (log.last + 1) more (0 ∷ []) next.some

pub some_bytes : {log : Extent} {g : Geometry} {more : List Written} {bytes : List ℕ} → IsNext log g more bytes → 1 ≤ length bytes
some_bytes {log = log} {g = g} {more = more} next = omega (arith, ap length next.bytes_are, length-append (records g (log.last + 1) more) (0 ∷ []))

-- ---- the records of a log

-- the next gate is closed
pub closed_next : (log : Extent) (g : Geometry) (first : ℕ) (told : List Written) (images : List ℕ → Type 0) → HasTold log g first told images
    → (c : List ℕ) → images c → IsClosed (next_place log) c
closed_next log g first told images has c image =
    subst (λ (n : ℕ). IsClosed (log.place + n) c) (sym has.used) (log_gate log.place log.room g first told c (has.each c image))

module _ (log : Extent) (g : Geometry) (first : ℕ) (told more : List Written) (bytes : List ℕ) (images : List ℕ → Type 0) (has : HasTold log g first told images) (next : IsNext log g more bytes) where
  spelled : bytes ≡ records g (first + length told) more ++ 0 ∷ []
  spelled = next.bytes_are ∙ ap (λ (n : ℕ). records g n more ++ 0 ∷ []) has.last

  module _ (fits : (c : List ℕ) → images c → log.place + log.room ≤ length c) (short : log.used + length bytes ≤ log.room) where
    -- at a moment of the append the log has its records, or these after them
    pub told_moment : (c : List ℕ) → AppendingFrom (next_place log) bytes images c → HasLog log.place log.room g first told c ⊎ HasLog log.place log.room g first (told ++ more) c
    told_moment c from =
        log_step log.place log.room g first told more bytes from.old c spelled (fits from.old from.was) (omega (arith, has.used)) (has.each from.old from.was)
        (subst (λ (n : ℕ). Appending (log.place + n) bytes from.old c) has.used from.appending)

    -- after it the log has them
    pub told_whole : (c : List ℕ) → AppendedTo (next_place log) bytes images c → HasLog log.place log.room g first (told ++ more) c
    told_whole c to =
        log_whole log.place log.room g first told more bytes to.old c spelled (fits to.old to.was) (omega (arith, has.used)) (has.each to.old to.was)
        (subst (λ (n : ℕ). c ≡ spliced to.old (log.place + n) bytes) has.used to.whole)

    pub all_told : (later : List ℕ → Type 0) → ((c : List ℕ) → later c → AppendedTo (next_place log) bytes images c)
        → HasTold (record log { used = log.used + length bytes - 1; last = log.last + length more }) g first (told ++ more) later
    all_told later whole = record {
      used =
          let count = ap length (records-append g first told more) ∙ length-append (records g first told) (records g (first + length told) more) in
          let size = ap length spelled ∙ length-append (records g (first + length told) more) (0 ∷ []) in
          omega (arith, has.used, count, size);
      last = omega (arith, has.last, length-append told more);
      each = λ c image. told_whole c (whole c image);
    }

-- ---- the half that an image holds

module _ (g : Geometry) (x : Half) (more : List Written) (bytes : List ℕ) (images : List ℕ → Type 0) (next : IsNext (extent_of g x) g more bytes) (short : length (told_bytes g x) + length bytes ≤ g.log) where
  counted : length (told_bytes g (with_records more x)) + 1 ≡ length (told_bytes g x) + length bytes
  counted =
      let number : x.base + 1 + length x.told ≡ last_told x + 1 = omega arith in
      let count = ap length (records-append g (x.base + 1) x.told more) ∙ length-append (told_bytes g x) (records g (x.base + 1 + length x.told) more) in
      let same = ap (λ (n : ℕ). length (records g n more)) number in
      let size = ap length next.bytes_are ∙ length-append (records g (last_told x + 1) more) (0 ∷ []) in
      omega (arith, count, same, size)

  may_follow : MayFollow g x more
  may_follow = record { each = next.each; numbers = next.numbers; room = omega (arith, counted, short) }

  module _ (held : (c : List ℕ) → images c → IsHeld g x c) where
    pub held_moment : (c : List ℕ) → AppendingFrom (next_place (extent_of g x)) bytes images c → IsHeld g x c ⊎ IsHeld g (with_records more x) c
    held_moment c from = adding g x more bytes from.old c may_follow next.bytes_are (held from.old from.was) from.appending

    pub held_whole : (c : List ℕ) → AppendedTo (next_place (extent_of g x)) bytes images c → IsHeld g (with_records more x) c
    held_whole c to = added g x more bytes to.old c may_follow next.bytes_are (held to.old to.was) to.whole

  pub extent_after : record (extent_of g x) { used = length (told_bytes g x) + length bytes - 1; last = last_told x + length more } ≡ extent_of g (with_records more x)
  extent_after =
      let used : length (told_bytes g x) + length bytes - 1 ≡ length (told_bytes g (with_records more x)) = omega (arith, counted) in
      let last : last_told x + length more ≡ last_told (with_records more x) = omega (arith, length-append x.told more) in
      λ i. record (extent_of g x) { used = used i; last = last i }

-- ---- a run of calls that appends

-- before its first call
pub before_append : {d : DiskState} → IsLawful d → (log : Extent) (g : Geometry) (first : ℕ) (told : List Written) → HasTold log g first told d.now → (bytes : List ℕ) → LeavesOnly d d (AppendingFrom (next_place log) bytes d.now)
before_append {d = d} laws log g first told has bytes = started laws (λ c image. record {
  old = c;
  was = image;
  appending = record { torn = torn_same (next_place log) (length bytes) c; state = inl (closed_next log g first told d.now has c image) };
})

module _ {old : DiskState} (laws : IsLawful old) (a log : Extent) (same : a ≡ log) (bytes : List ℕ) (n : ℕ) (n_is : n ≡ a.used) (inside : log.place + log.room ≤ old.size)
    (free : ℕ) (kept : a.used ≤ a.room) (free_is : free ≡ a.room - a.used) (enough : length bytes ≤ free) where
  gate_same : a.place + n ≡ next_place log
  gate_same = gate_is a log same n n_is

  short : log.used + length bytes ≤ log.room
  short = short_is a log same free (length bytes) kept free_is enough

  each_fits : (c : List ℕ) → old.now c → log.place + log.room ≤ length c
  each_fits c image = omega (arith, length-image laws c image, inside)

  module _ {new : DiskState} (run : LeavesOnly old new (AppendingFrom (a.place + n) bytes old.now)) where
    pub here : LeavesOnly old new (AppendingFrom (next_place log) bytes old.now)
    here = subst (λ (n : ℕ). LeavesOnly old new (AppendingFrom n bytes old.now)) gate_same run

    pub told_run : (g : Geometry) (first : ℕ) (told more : List Written) → HasTold log g first told old.now → IsNext log g more bytes
        → LeavesOnly old new (λ c. HasLog log.place log.room g first told c ⊎ HasLog log.place log.room g first (told ++ more) c)
    told_run g first told more has next = weakened here (told_moment log g first told more bytes old.now has next each_fits short)

    pub held_run : (g : Geometry) (x : Half) (more : List Written) → log ≡ extent_of g x → IsNext log g more bytes → ((c : List ℕ) → old.now c → IsHeld g x c)
        → LeavesOnly old new (λ c. IsHeld g x c ⊎ IsHeld g (with_records more x) c)
    held_run g x more is next held =
        weakened here (λ c from. held_moment g x more bytes old.now (subst (λ (e : Extent). IsNext e g more bytes) is next) (subst (λ (e : Extent). e.used + length bytes ≤ e.room) is short) held c
        (subst (λ (e : Extent). AppendingFrom (next_place e) bytes old.now c) is from))

  module _ (new : DiskState) (whole : (c : List ℕ) → new.now c → AppendedTo (a.place + n) bytes old.now c) where
    pub there : (c : List ℕ) → new.now c → AppendedTo (next_place log) bytes old.now c
    there c image = subst (λ (n : ℕ). AppendedTo n bytes old.now c) gate_same (whole c image)

    pub told_end : (g : Geometry) (first : ℕ) (told more : List Written) → HasTold log g first told old.now → IsNext log g more bytes
        → HasTold (record log { used = log.used + length bytes - 1; last = log.last + length more }) g first (told ++ more) new.now
    told_end g first told more has next = all_told log g first told more bytes old.now has next each_fits short new.now there

    pub held_end : (g : Geometry) (x : Half) (more : List Written) → log ≡ extent_of g x → IsNext log g more bytes → ((c : List ℕ) → old.now c → IsHeld g x c)
        → (c : List ℕ) → new.now c → IsHeld g (with_records more x) c
    held_end g x more is next held c image =
        held_whole g x more bytes old.now (subst (λ (e : Extent). IsNext e g more bytes) is next) (subst (λ (e : Extent). e.used + length bytes ≤ e.room) is short) held c
        (subst (λ (e : Extent). AppendedTo (next_place e) bytes old.now c) is (there c image))

  pub held_extent : (g : Geometry) (x : Half) (more : List Written) → log ≡ extent_of g x → IsNext log g more bytes
      → record log { used = log.used + length bytes - 1; last = log.last + length more } ≡ extent_of g (with_records more x)
  held_extent g x more is next =
      ap (λ (e : Extent). record e { used = e.used + length bytes - 1; last = e.last + length more }) is
      ∙ extent_after g x more bytes old.now (subst (λ (e : Extent). IsNext e g more bytes) is next) (subst (λ (e : Extent). e.used + length bytes ≤ e.room) is short)
