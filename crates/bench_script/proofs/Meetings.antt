-- The accesses of a client in a round: where two clients' meet, and what a commit of them takes of the log.
use Rattle.bench_script.proofs.Words.{◌≡◌, ◌∙◌, ap, refl, sym, subst, ℕ, ◌+◌, ◌-◌, ◌*◌, ◌<◌, ◌≤◌, Bool, true, false, cond, nat_le, nat_lt, ◌&&◌, ◌||◌, ◌==◌, List, [], ◌∷◌, ◌++◌, Option, Some, None, length, get_or, slice_index, inr, arith, and_parts, and_from, eq-eqb, eqb-true, le-leb, leb-true, lt-ltb, ltb-true, length-append, slice_get_within, slice_get-get_or, get_or_from_slice_get, get_or-append_seam, Access, Clash, Commit, Read, Run, Serial, Write, Array, bench_geometry, runs, touches, effect_at, or_else, record_length, value_in, get_access, put_access, History, last, IsClash, clash, are_runs, same_runs, value_runs, least_is_clash, some_clash}

-- a read of four bytes of a block, and a write of one byte
abbrev pub reads_and_writes : (read at write place value : ℕ) → List Access
reads_and_writes read at write place value = get_access read at 4 ∷ put_access 64 write place (value ∷ []) ∷ []

or_none : (t : Bool) → (t || false) ≡ t
or_none true = refl
or_none false = refl

-- which bytes they touch
written : (read at write place value b p : ℕ) → touches Write (reads_and_writes read at write place value) b p ≡ (write == b) && (nat_le place p && nat_lt p (place + 1))
written read at write place value b p =
    or_none ((write == b) && ((nat_le place p && nat_lt p (place + 1)) || false))
    ∙ ap (λ (t : Bool). (write == b) && t) (or_none (nat_le place p && nat_lt p (place + 1)))

read_by : (read at write place value b p : ℕ) → touches Read (reads_and_writes read at write place value) b p ≡ (read == b) && (nat_le at p && nat_lt p (at + 4))
read_by read at write place value b p =
    or_none ((read == b) && ((nat_le at p && nat_lt p (at + 4)) || false))
    ∙ ap (λ (t : Bool). (read == b) && t) (or_none (nat_le at p && nat_lt p (at + 4)))

module _ (block from size b p : ℕ) where
  inside : (block == b) && (nat_le from p && nat_lt p (from + size)) ≡ true → (block ≡ b) × (from ≤ p) × (p < from + size)
  inside test =
      let first = and_parts (block == b) (nat_le from p && nat_lt p (from + size)) test in
      let second = and_parts (nat_le from p) (nat_lt p (from + size)) first.1 in
      (eqb-true block b first.0, leb-true from p second.0, ltb-true p (from + size) second.1)

  is_inside : block ≡ b → from ≤ p → p < from + size → (block == b) && (nat_le from p && nat_lt p (from + size)) ≡ true
  is_inside same low high =
      and_from (block == b) (nat_le from p && nat_lt p (from + size)) (eq-eqb block b same)
      (and_from (nat_le from p) (nat_lt p (from + size)) (le-leb from p low) (lt-ltb p (from + size) high))

-- the one run of the byte that is written
abbrev run_of : (write place value : ℕ) → Run
run_of write place value = record { block = write; off = place; bytes = slice_index (put_access 64 write place (value ∷ [])).bytes place ∷ [] }

chosen : (t : Bool) (x y : ℕ) → (t ≡ true → x ≡ y) → or_else (cond t (Some x) None) None ≡ cond t (Some y) None
chosen true x y same = ap Some (same refl)
chosen false x y same = refl

same_values : (read at write place value b p : ℕ) → effect_at (reads_and_writes read at write place value) b p ≡ value_in (run_of write place value ∷ []) b p
same_values read at write place value b p =
    let bytes : List ℕ = (put_access 64 write place (value ∷ [])).bytes in
    let spanned : Bool = nat_le place p && nat_lt p (place + 1) in
    ap (λ (t : Bool). or_else (cond ((write == b) && t) (Some (slice_index bytes p)) None) None) (or_none spanned)
    ∙ chosen ((write == b) && spanned) (slice_index bytes p) (slice_index (slice_index bytes place ∷ []) (p - place))
    (λ test.
    let at = inside write place 1 b p test in
    let same : p ≡ place = omega (arith, at.1, at.2) in
    let none : p - place ≡ 0 = omega (arith, same) in
    ap (slice_index bytes) same ∙ sym (ap (slice_index (slice_index bytes place ∷ [])) none))

pub one_run : (read at write place value : ℕ) → write < 64 → place < 64 → runs bench_geometry (reads_and_writes read at write place value) ≡ run_of write place value ∷ []
one_run read at write place value block fits =
    same_runs bench_geometry (runs bench_geometry (reads_and_writes read at write place value)) (run_of write place value ∷ [])
    (are_runs bench_geometry (reads_and_writes read at write place value))
    (record { block = block; some = omega arith; fits = omega arith })
    (λ b p here small. value_runs bench_geometry (reads_and_writes read at write place value) b p here small ∙ same_values read at write place value b p)

-- a commit takes 29 bytes
pub size_of_one : (read at write place value : ℕ) → write < 64 → place < 64 → record_length (runs bench_geometry (reads_and_writes read at write place value)) ≡ 29
size_of_one read at write place value block fits = ap record_length (one_run read at write place value block fits)

-- the history in which the first client's commit follows these
abbrev pub commit_of : (begin : ℕ) → List Access → Commit
commit_of begin accesses = record { begin = begin; mode = Serial; accesses = accesses }

abbrev pub history_of : Array → List Commit → History
history_of base commits = record { first = 1; base = base; commits = commits }

module _ (base : Array) (commits : List Commit) (first second : List Access) where
  abbrev began : ℕ
  began = last (history_of base commits)

  abbrev grown : History
  grown = history_of base (commits ++ commit_of began first ∷ [])

  -- a clash is with that commit
  with_it : (c : Clash) → IsClash bench_geometry grown Serial began second c → (c.commit ≡ began + 1) × (touches Write first c.block c.at ≡ true)
  with_it c is =
      let after = is.after in
      let within = slice_get_within (commits ++ commit_of began first ∷ []) (c.commit - 1) is.commit is.is in
      let number : c.commit ≡ began + 1 = omega (arith, after, within, length-append commits (commit_of began first ∷ [])) in
      let place : c.commit - 1 ≡ length commits = omega (arith, number) in
      let same : is.commit ≡ commit_of began first =
      sym (get_or_from_slice_get (commits ++ commit_of began first ∷ []) (c.commit - 1) is.commit (commit_of began first) is.is)
      ∙ ap (λ (n : ℕ). get_or (commits ++ commit_of began first ∷ []) n (commit_of began first)) place
      ∙ get_or-append_seam commits (commit_of began first) [] (commit_of began first) in
      (number, subst (λ (d : Commit). touches Write d.accesses c.block c.at ≡ true) same is.written)

-- the second client clashes with the byte that the first one wrote where it has read it, and else not
module _ (base : Array) (commits : List Commit) (p q i j v w : ℕ) (first : p < 64) (second : q < 64) (low : i < 16) (high : j < 16) where
  abbrev ones : List Access
  ones = reads_and_writes p (4 * i) q (4 * j) v

  abbrev twos : List Access
  twos = reads_and_writes q (4 * i) p (4 * i) w

  abbrev before : ℕ
  before = last (history_of base commits)

  abbrev behind : History
  behind = history_of base (commits ++ commit_of before ones ∷ [])

  abbrev there : Clash
  there = record { commit = before + 1; block = q; at = 4 * j }

  only_there : (c : Clash) → IsClash bench_geometry behind Serial before twos c → (c.commit ≡ before + 1) × (c.block ≡ q) × (c.at ≡ 4 * j) × (i ≡ j)
  only_there c is =
      let it = with_it base commits ones twos c is in
      let wrote = inside q (4 * j) 1 c.block c.at (sym (written p (4 * i) q (4 * j) v c.block c.at) ∙ it.1) in
      let read = inside q (4 * i) 4 c.block c.at (sym (read_by q (4 * i) p (4 * i) w c.block c.at) ∙ is.guarded) in
      (it.0, sym wrote.0, omega (arith, wrote.1, wrote.2), omega (arith, wrote.1, wrote.2, read.1, read.2))

  is_there : i ≡ j → IsClash bench_geometry behind Serial before twos there
  is_there same = record {
    after = omega arith;
    since = omega arith;
    block = second;
    byte = omega arith;
    commit = commit_of before ones;
    is = slice_get-get_or (commits ++ commit_of before ones ∷ []) (before + 1 - 1) (commit_of before ones) (omega (arith, length-append commits (commit_of before ones ∷ [])))
        ∙ ap Some (ap (λ (n : ℕ). get_or (commits ++ commit_of before ones ∷ []) n (commit_of before ones)) (omega arith)
        ∙ get_or-append_seam commits (commit_of before ones) [] (commit_of before ones));
    written = written p (4 * i) q (4 * j) v q (4 * j) ∙ is_inside q (4 * j) 1 q (4 * j) refl (omega arith) (omega arith);
    guarded = read_by q (4 * i) p (4 * i) w q (4 * j) ∙ is_inside q (4 * i) 4 q (4 * j) refl (omega (arith, same)) (omega (arith, same));
  }

  pub clash_there : i ≡ j → clash bench_geometry behind Serial before twos ≡ Some there
  clash_there same =
      least_is_clash bench_geometry behind Serial before twos there refl (is_there same)
      (λ c is. let at = only_there c is in inr (sym at.0, inr (sym at.1, omega (arith, at.2))))

  none_by : (o : Option Clash) → clash bench_geometry behind Serial before twos ≡ o → (i ≡ j → ⊥) → o ≡ None
  none_by None is other = refl
  none_by (Some c) is other = absurd (other (only_there c (some_clash bench_geometry behind Serial before twos c is).0).3)

  pub clash_nowhere : (i ≡ j → ⊥) → clash bench_geometry behind Serial before twos ≡ None
  clash_nowhere other = none_by (clash bench_geometry behind Serial before twos) refl other
