-- Whether there is a write, and the clash in two parts: up to a commit and after it.
use Rattle.conflict_rule.proofs.Words.{cond, subst, drop-take, up_to, Geometry, History, Mode, Access, Clash, clash, clash_from, has_write, first_after, ◌≡◌, ◌∙◌, refl, sym, ap, ℕ, zero, suc, ◌+◌, ◌-◌, ◌<◌, ◌≤◌, Bool, true, false, ◌||◌, List, [], ◌∷◌, take, drop, arith, Option, None, option_map, AllByRecursion, both_ways, nat_tests, drop-drop, touches, AreTouched, Commit, Write, Span, covered, in_span, clashes, first_byte, covers, is_write, or_else, AreAccesses, IsSpan, covers_where, Bytes}
use Rattle.iso_model.specs.Effect as model

-- a byte that an access covers
abbrev SomeByte : (size : ℕ) → List Span → Type 0
SomeByte size spans = (p : ℕ) × (p < size) × (covered spans p ≡ true)

in_own_span : (s : Span) → 0 < s.len → in_span s.off s ≡ true
in_own_span s some = grind (arith, nat_tests)

some_byte : (size : ℕ) (spans : List Span) → 0 < size → AllByRecursion (IsSpan size) spans → SomeByte size spans
some_byte size [] some all = (0, some, refl)
some_byte size (s ∷ spans) some all =
    let here = in_own_span s all.0.some in
    (s.off, omega (arith, all.0.some, all.0.fits), rw here refl)

-- a list with a write touches a byte of the image
some_write : (g : Geometry) (accesses : List Access) → 0 < g.block → AreAccesses g accesses → has_write accesses ≡ true
    → (b : ℕ) × (p : ℕ) × (b < g.blocks) × (p < g.block) × (model.touches Write accesses b p ≡ true)
some_write g [] size all some = absurd (cc)
some_write g (a ∷ accesses) size all some = by (is_write a) refl (λ more. some_write g accesses size all.1 more)
  where
    by : (t : Bool) → is_write a ≡ t
        → (has_write accesses ≡ true → (b : ℕ) × (p : ℕ) × (b < g.blocks) × (p < g.block) × (model.touches Write accesses b p ≡ true)) → (b : ℕ) × (p : ℕ) × (b < g.blocks) × (p < g.block) × (model.touches Write (a ∷ accesses) b p ≡ true)
    by true write later =
        let byte = some_byte g.block a.spans size all.0.spans in
        let here = covers_where a.block byte.0 a write refl byte.2 in
        (a.block, byte.0, all.0.block, byte.1, rw here refl)
    by false read later =
        let rest = later (rw read at some) in
        (rest.0, rest.1, rest.2, rest.3, or_right (covers Write rest.0 rest.1 a) (model.touches Write accesses rest.0 rest.1) rest.4)
      where
        or_right : (s t : Bool) → t ≡ true → (s || t) ≡ true
        or_right true t is = refl
        or_right false t is = is

touch_writes : (accesses : List Access) (b p : ℕ) → model.touches Write accesses b p ≡ true → has_write accesses ≡ true
touch_writes [] b p is = absurd (cc)
touch_writes (a ∷ accesses) b p is = by (is_write a) refl (λ more. touch_writes accesses b p more)
  where
    by : (t : Bool) → is_write a ≡ t → (model.touches Write accesses b p ≡ true → has_write accesses ≡ true) → has_write (a ∷ accesses) ≡ true
    by true write later = rw write refl
    by false read later = rw read (later (rw read at is))

pub has_write_where : (g : Geometry) (accesses : List Access) (writes : Bytes) (b p : ℕ) → AreTouched g.block g.blocks Write accesses writes → touches writes b p ≡ true → has_write accesses ≡ true
has_write_where g accesses writes b p are is = grind (arith, touch_writes)

-- where there is a write, a byte is written
pub wrote_where : (g : Geometry) (accesses : List Access) (writes : Bytes) → 0 < g.block → AreAccesses g accesses → AreTouched g.block g.blocks Write accesses writes → has_write accesses ≡ true
    → (b : ℕ) × (p : ℕ) × (touches writes b p ≡ true)
wrote_where g accesses writes size all are is = grind (arith, some_write)

pub no_write_where : (g : Geometry) (accesses : List Access) (writes : Bytes) → 0 < g.block → AreAccesses g accesses → AreTouched g.block g.blocks Write accesses writes
    → ((b p : ℕ) → touches writes b p ≡ false) → has_write accesses ≡ false
no_write_where g accesses writes size all are none = by (has_write accesses) refl
  where
    by : (t : Bool) → has_write accesses ≡ t → has_write accesses ≡ false
    by false is = is
    by true is =
        let (b, p, touched) = wrote_where g accesses writes size all are is in
        absurd (both_ways (touches writes b p) (none b p) touched)

-- and where there is none, no byte is
pub untouched_where : (g : Geometry) (accesses : List Access) (writes : Bytes) → AreTouched g.block g.blocks Write accesses writes → has_write accesses ≡ false → (b p : ℕ) → touches writes b p ≡ false
untouched_where g accesses writes are none b p = by (touches writes b p) refl
  where
    by : (t : Bool) → touches writes b p ≡ t → touches writes b p ≡ false
    by false is = is
    by true is = absurd (both_ways (has_write accesses) none (has_write_where g accesses writes b p are is))

or_assoc : (u v w : Option Clash) → or_else (or_else u v) w ≡ or_else u (or_else v w)
or_assoc u v w = grind arith

split_clash : (g : Geometry) (mode : Mode) (accesses : List Access) (k n : ℕ) (commits : List Commit)
    → clash_from g mode accesses k commits ≡ or_else (clash_from g mode accesses k (take n commits)) (clash_from g mode accesses (k + n) (drop n commits))
split_clash g mode accesses k zero commits = let e : k + 0 ≡ k = omega arith in rw e refl
split_clash g mode accesses k (suc n) [] = refl
split_clash g mode accesses k (suc n) (c ∷ commits) =
    let e : k + suc n ≡ k + 1 + n = omega arith in
    let here = option_map (λ (at : ℕ × ℕ). record { commit = k; block = at.0; at = at.1 }) (first_byte (clashes mode c accesses) g.block 0 g.blocks) in
    rw e (ap (or_else here) (split_clash g mode accesses (k + 1) n commits)
    ∙ sym (or_assoc here (clash_from g mode accesses (k + 1) (take n commits)) (clash_from g mode accesses (k + 1 + n) (drop n commits))))

take_of_drop : {A : Type 0} → (d n : ℕ) (xs : List A) → take n (drop d xs) ≡ drop d (take (d + n) xs)
take_of_drop zero n xs = let e : 0 + n ≡ n = omega arith in rw e refl
take_of_drop (suc d) zero [] = let e : suc d + 0 ≡ suc d = omega arith in rw e refl
take_of_drop (suc d) (suc n) [] = let e : suc d + suc n ≡ suc (d + suc n) = omega arith in rw e refl
take_of_drop (suc d) n (x ∷ xs) = let e : suc d + n ≡ suc (d + n) = omega arith in rw e (take_of_drop d n xs)

pub clash_parts : (g : Geometry) (H : History) (mode : Mode) (begin upto : ℕ) (accesses : List Access) → has_write accesses ≡ true → begin ≤ upto
    → clash g H mode begin accesses ≡ or_else (clash g (up_to H upto) mode begin accesses) (clash_from g mode accesses (first_after H upto) (drop (upto + 1 - H.first) H.commits))
unfolding clash
clash_parts g H mode begin upto accesses some order =
    let d = begin + 1 - H.first in
    let from = first_after H begin in
    let n = (upto + 1 - H.first) - d in
    let m : d + n ≡ upto + 1 - H.first = omega arith in
    let k : from + n ≡ first_after H upto = omega arith in
    let first : take n (drop d H.commits) ≡ drop d (take (upto + 1 - H.first) H.commits) = take_of_drop d n H.commits ∙ ap (λ (i : ℕ). drop d (take i H.commits)) m in
    let second : drop n (drop d H.commits) ≡ drop (upto + 1 - H.first) H.commits = drop-drop n d H.commits ∙ ap (λ (i : ℕ). drop i H.commits) m in
    rw some (split_clash g mode accesses from n (drop d H.commits)
    ∙ ap (λ (l : List Commit). or_else (clash_from g mode accesses from l) (clash_from g mode accesses (from + n) (drop n (drop d H.commits)))) first
    ∙ ap (λ (l : List Commit). or_else (clash_from g mode accesses from (drop d (take (upto + 1 - H.first) H.commits))) (clash_from g mode accesses (from + n) l)) second
    ∙ ap (λ (i : ℕ). or_else (clash_from g mode accesses from (drop d (take (upto + 1 - H.first) H.commits))) (clash_from g mode accesses i (drop (upto + 1 - H.first) H.commits))) k)

-- no commit above the last one clashes
no_more : (test : Bool) (found : Option Clash) → None ≡ found → None ≡ cond test found None
no_more true found is = is
no_more false found is = refl

drop_back : {X : Type 0} (n : ℕ) (list : List X) → drop n (take n list) ≡ []
drop_back n list = subst (λ (k : ℕ). drop n (take k list) ≡ []) (omega arith) (drop-take n 0 list)

pub none_behind : (g : Geometry) (H : History) (mode : Mode) (accesses : List Access) (begin : ℕ) → None ≡ clash g (up_to H begin) mode begin accesses
unfolding clash
none_behind g H mode accesses begin = grind (arith, no_more, drop_back)
