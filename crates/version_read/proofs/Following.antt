-- What becomes of the index of the records of a log.
use Rattle.version_read.proofs.{Words.{◌≡◌, ◌⊎◌, inl, inr, ◌∙◌, sym, refl, ap, ℕ, zero, suc, ◌+◌, ◌-◌, ◌<◌, ◌≤◌, ◌==◌, Bool, true, false, cond, nat_lt, List, [], ◌∷◌, ◌++◌, length, take, drop, map, get_or, sum_by, arith, subst, append_assoc, AllByRecursion, filter, cases_lt, le-leb, lt-leb, append-nil, get_or_past, length-take-le, map-append, take-append-drop, filter-append, sum_by-cons, Geometry, Run, record_length, IsRecord, Written, records, length-records, Version, AreSplit, moved, moved_to, IsIndexOf, placed, version_of, versions_of, BlockVersions, no_version, no_versions, shown_since, still_shows, versions_in, above_stay, shown_again, shown_more, all_at, all_shown, HasTaken, part_of, part_versions}, Lying.{all_append, all_cond, all_first, every_version}}

abbrev length_of : Written → ℕ
length_of w = record_length w.parts

-- the versions of parts are those of their runs
parts_placed : (b n at : ℕ) (runs : List Run) → part_versions b n at (map part_of runs) ≡ placed b n at runs
parts_placed b n at [] = refl
parts_placed b n at (run ∷ runs) = ap (λ (l : List Version). cond (run.block == b) (version_of n at run ∷ l) l) (parts_placed b n (at + (8 + length run.bytes)) runs)

-- the versions of records that follow others
versions_of-append : (b k at : ℕ) (told more : List Written) → versions_of b k at (told ++ more) ≡ versions_of b k at told ++ versions_of b (k + length told) (at + sum_by length_of told) more
versions_of-append b k at [] more = grind arith
versions_of-append b k at (x ∷ told) more =
    let number : k + 1 + length told ≡ k + suc (length told) = omega arith in
    let there : at + record_length x.parts + sum_by length_of told ≡ at + sum_by length_of (x ∷ told) = omega (arith, sum_by-cons length_of x told) in
    ap (λ (l : List Version). placed b k (at + 20) x.parts ++ l) (versions_of-append b (k + 1) (at + record_length x.parts) told more ∙ (λ i. versions_of b (k + 1) (at + record_length x.parts) told ++ versions_of b (number i) (there i) more))
    ∙ sym (append_assoc (placed b k (at + 20) x.parts) (versions_of b (k + 1) (at + record_length x.parts) told) (versions_of b (k + suc (length told)) (at + sum_by length_of (x ∷ told)) more))

placed_above : (b n at t : ℕ) (parts : List Run) → t < n → AllByRecursion (λ v. t < v.number) (placed b n at parts)
placed_above b n at t [] lt = tt
placed_above b n at t (run ∷ parts) lt = all_cond (λ v. t < v.number) (version_of n at run) (placed b n (at + (8 + length run.bytes)) parts) lt (placed_above b n (at + (8 + length run.bytes)) t parts lt) (run.block == b)

versions_above : (b n at t : ℕ) (told : List Written) → t < n → AllByRecursion (λ v. t < v.number) (versions_of b n at told)
versions_above b n at t [] lt = tt
versions_above b n at t (w ∷ told) lt =
    all_append (λ v. t < v.number) (placed b n (at + 20) w.parts) (versions_of b (n + 1) (at + record_length w.parts) told) (placed_above b n (at + 20) t w.parts lt) (versions_above b (n + 1) (at + record_length w.parts) t told (omega (arith, lt)))

-- one record more
pub index_more : (g : Geometry) (first place t : ℕ) (told : List Written) (w : Written) (old new : List BlockVersions) → IsIndexOf g first place t told old → t < first + length told
    → HasTaken (first + length told) (place + length (records g first told)) (map part_of w.parts) old new → IsIndexOf g first place t (told ++ w ∷ []) new
index_more g first place t told w old new has above taken = record {
  blocks = taken.blocks ∙ has.blocks;
  each = λ b below.
      let there : place + length (records g first told) ≡ place + sum_by length_of told = ap (λ (n : ℕ). place + n) (length-records g first told) in
      let fresh : part_versions b (first + length told) (place + length (records g first told) + 20) (map part_of w.parts) ≡ versions_of b (first + length told) (place + sum_by length_of told) (w ∷ []) =
      parts_placed b (first + length told) (place + length (records g first told) + 20) w.parts ∙ ap (λ (k : ℕ). placed b (first + length told) (k + 20) w.parts) there
      ∙ sym (append-nil (placed b (first + length told) (place + sum_by length_of told + 20) w.parts)) in
      taken.each b ∙ (λ i. has.each b below i ++ fresh i)
      ∙ sym (shown_more t (versions_of b first place told) (versions_of b (first + length told) (place + sum_by length_of told) (w ∷ [])) (versions_above b (first + length told) (place + sum_by length_of told) t (w ∷ []) above))
      ∙ ap (shown_since t) (sym (versions_of-append b first place told (w ∷ [])));
}

-- a trim at a later number
pub index_trimmed : (g : Geometry) (first place t later : ℕ) (told : List Written) (old new : List BlockVersions) → IsIndexOf g first place t told old → t ≤ later → length new ≡ length old
    → ((b : ℕ) → versions_in new b ≡ shown_since later (versions_in old b)) → IsIndexOf g first place later told new
index_trimmed g first place t later told old new has le size trimmed = grind (arith, shown_again)

-- the first records left out
abbrev IsBefore : ℕ → Version → Type 0
IsBefore from v = v.place + v.len ≤ from

abbrev IsBehind : ℕ → Version → Type 0
IsBehind from v = from < v.place

none_behind : (from : ℕ) (versions : List Version) → AllByRecursion (IsBefore from) versions → filter (λ v. nat_lt from v.place) versions ≡ []
none_behind from [] all = refl
none_behind from (v ∷ versions) all =
    ap (λ (b : Bool). cond b (v ∷ filter (λ v. nat_lt from v.place) versions) (filter (λ v. nat_lt from v.place) versions)) (lt-leb (suc from) v.place (omega (arith, all.0))) ∙ none_behind from versions all.1

all_behind : (from : ℕ) (versions : List Version) → AllByRecursion (IsBehind from) versions → filter (λ v. nat_lt from v.place) versions ≡ versions
all_behind from [] all = refl
all_behind from (v ∷ versions) all =
    ap (λ (b : Bool). cond b (v ∷ filter (λ v. nat_lt from v.place) versions) (filter (λ v. nat_lt from v.place) versions)) (le-leb (suc from) v.place (omega (arith, all.0)))
    ∙ ap (λ (l : List Version). v ∷ l) (all_behind from versions all.1)

moved_step : (from to at there n : ℕ) (run : Run) (xs ys : List Version) → map (moved from to) xs ≡ ys → to + (at + 8 - from) ≡ there + 8 → (b : Bool)
    → map (moved from to) (cond b (version_of n at run ∷ xs) xs) ≡ cond b (version_of n there run ∷ ys) ys
moved_step from to at there n run xs ys rest e true = λ i. record { number = n; place = e i; off = run.off; len = length run.bytes } ∷ rest i
moved_step from to at there n run xs ys rest e false = rest

placed_moved : (b n from to d : ℕ) (parts : List Run) → map (moved from to) (placed b n (from + d) parts) ≡ placed b n (to + d) parts
placed_moved b n from to d [] = refl
placed_moved b n from to d (run ∷ parts) =
    let one : from + d + (8 + length run.bytes) ≡ from + (d + (8 + length run.bytes)) = omega arith in
    let two : to + (d + (8 + length run.bytes)) ≡ to + d + (8 + length run.bytes) = omega arith in
    moved_step from to (from + d) (to + d) n run (placed b n (from + d + (8 + length run.bytes)) parts) (placed b n (to + d + (8 + length run.bytes)) parts)
    (ap (λ (k : ℕ). map (moved from to) (placed b n k parts)) one ∙ placed_moved b n from to (d + (8 + length run.bytes)) parts ∙ ap (λ (k : ℕ). placed b n k parts) two)
    (omega arith) (run.block == b)

versions_moved : (b n from to d : ℕ) (told : List Written) → map (moved from to) (versions_of b n (from + d) told) ≡ versions_of b n (to + d) told
versions_moved b n from to d [] = refl
versions_moved b n from to d (w ∷ told) =
    let head : from + d + 20 ≡ from + (d + 20) = omega arith in
    let head_to : to + (d + 20) ≡ to + d + 20 = omega arith in
    let one : from + d + record_length w.parts ≡ from + (d + record_length w.parts) = omega arith in
    let two : to + (d + record_length w.parts) ≡ to + d + record_length w.parts = omega arith in
    map-append (moved from to) (placed b n (from + d + 20) w.parts) (versions_of b (n + 1) (from + d + record_length w.parts) told)
    ∙ (λ i. (ap (λ (k : ℕ). map (moved from to) (placed b n k w.parts)) head ∙ placed_moved b n from to (d + 20) w.parts ∙ ap (λ (k : ℕ). placed b n k w.parts) head_to) i
    ++ (ap (λ (k : ℕ). map (moved from to) (versions_of b (n + 1) k told)) one ∙ versions_moved b (n + 1) from to (d + record_length w.parts) told ∙ ap (λ (k : ℕ). versions_of b (n + 1) k told) two) i)

-- each is before the place or after it, and all after one that is after it do
abbrev StandApart : ℕ → List Version → Type 0
StandApart from [] = Unit {0}
StandApart from (v ∷ versions) = (IsBefore from v ⊎ (IsBehind from v × AllByRecursion (IsBehind from) versions)) × StandApart from versions

apart_all : (from : ℕ) (versions : List Version) → AllByRecursion (IsBehind from) versions → StandApart from versions
apart_all from [] all = tt
apart_all from (v ∷ versions) all = (inr all, apart_all from versions all.1)

last_append : (from : ℕ) (xs ys : List Version) → AllByRecursion (IsBefore from) xs → AllByRecursion (IsBehind from) ys → StandApart from (xs ++ ys)
last_append from [] ys first second = apart_all from ys second
last_append from (v ∷ xs) ys first second = (inl first.0, last_append from xs ys first.1 second)

apart_cond : (from : ℕ) (v : Version) (versions : List Version) → IsBefore from v ⊎ (IsBehind from v × AllByRecursion (IsBehind from) versions) → StandApart from versions → (b : Bool) → StandApart from (cond b (v ∷ versions) versions)
apart_cond from v versions one rest true = (one, rest)
apart_cond from v versions one rest false = rest

last_shown : (from t : ℕ) (versions : List Version) → StandApart from versions → StandApart from (shown_since t versions)
last_shown from t [] are = tt
last_shown from t (v ∷ versions) are =
    apart_cond from v (shown_since t versions) (elim are.0 [ inl before ↦ inl before | inr behind ↦ inr (behind.0, all_shown (IsBehind from) t versions behind.1) ]) (last_shown from t versions are.1) (still_shows t v versions)

apart_at : (from : ℕ) (versions : List Version) → StandApart from versions → (i : ℕ) → i < length versions → IsBefore from (get_or versions i no_version) ⊎ IsBehind from (get_or versions i no_version)
apart_at from [] are i below = absurd (omega (arith, below))
apart_at from (v ∷ versions) are zero below = elim are.0 [ inl before ↦ inl before | inr behind ↦ inr behind.0 ]
apart_at from (v ∷ versions) are (suc i) below = apart_at from versions are.1 i (omega (arith, below))

order_at : (from : ℕ) (versions : List Version) → StandApart from versions → (i j : ℕ) → i ≤ j → j < length versions → IsBehind from (get_or versions i no_version) → IsBehind from (get_or versions j no_version)
order_at from [] are i j le below behind = absurd (omega (arith, below))
order_at from (v ∷ versions) are zero zero le below behind = behind
order_at from (v ∷ versions) are zero (suc j) le below behind = grind (arith, all_at)
order_at from (v ∷ versions) are (suc i) zero le below behind = absurd (omega (arith, le))
order_at from (v ∷ versions) are (suc i) (suc j) le below behind = order_at from versions are.1 i j (omega (arith, le)) (omega (arith, below)) behind

split_of : (from : ℕ) (versions : List Version) → StandApart from versions → AreSplit from versions
split_of from versions are = record { apart = apart_at from versions are; order = order_at from versions are }

module _ (g : Geometry) (first place t k : ℕ) (told : List Written) (index : List BlockVersions) (are : AllByRecursion (IsRecord g) told) (has : IsIndexOf g first place t told index) where
  from_is : place + sum_by length_of (take k told) ≡ place + length (records g first (take k told))
  from_is = ap (λ (n : ℕ). place + n) (sym (length-records g first (take k told)))

  parts_of : (b : ℕ) → versions_of b first place told ≡ versions_of b first place (take k told) ++ versions_of b (first + length (take k told)) (place + length (records g first (take k told))) (drop k told)
  parts_of b =
      ap (versions_of b first place) (sym (take-append-drop k told)) ∙ versions_of-append b first place (take k told) (drop k told)
      ∙ ap (λ (n : ℕ). versions_of b first place (take k told) ++ versions_of b (first + length (take k told)) n (drop k told)) from_is

  firsts : (b : ℕ) → AllByRecursion (IsBefore (place + length (records g first (take k told)))) (versions_of b first place (take k told))
  firsts b =
      every_version (IsBefore (place + length (records g first (take k told)))) g b first place (place + length (records g first (take k told))) (take k told) (all_first (IsRecord g) k told are) (omega (arith, from_is))
      (λ n a run low high is behind inside. omega (arith, inside))

  others : (b n : ℕ) → AllByRecursion (IsBehind (place + length (records g first (take k told)))) (versions_of b n (place + length (records g first (take k told))) (drop k told))
  others b n =
      every_version (IsBehind (place + length (records g first (take k told)))) g b n (place + length (records g first (take k told))) (place + length (records g first (take k told)) + sum_by length_of (drop k told)) (drop k told)
      (all_rest k told are) (omega arith) (λ m a run low high is behind inside. omega (arith, behind))
    where
      all_rest : (k : ℕ) (told : List Written) → AllByRecursion (IsRecord g) told → AllByRecursion (IsRecord g) (drop k told)
      all_rest zero told all = all
      all_rest (suc k) [] all = tt
      all_rest (suc k) (w ∷ told) all = all_rest k told all.1

  pub index_moved : (to later : ℕ) (new : List BlockVersions) → k ≤ length told → t < first + k → later < first + k → length new ≡ length index
      → ((b : ℕ) → versions_in new b ≡ moved_to (place + length (records g first (take k told))) to (versions_in index b)) → IsIndexOf g (first + k) to later (drop k told) new
  index_moved to later new inside above below_it size is = record {
    blocks = size ∙ has.blocks;
    each = λ b below.
        let count : first + length (take k told) ≡ first + k = ap (λ (n : ℕ). first + n) (length-take-le k told inside) in
        let start : place + length (records g first (take k told)) ≡ place + length (records g first (take k told)) + 0 = omega arith in
        let back : to + 0 ≡ to = omega arith in
        let all : versions_in index b ≡ shown_since t (versions_of b first place (take k told)) ++ versions_of b (first + k) (place + length (records g first (take k told))) (drop k told) =
        has.each b below ∙ ap (shown_since t) (parts_of b ∙ ap (λ (n : ℕ). versions_of b first place (take k told) ++ versions_of b n (place + length (records g first (take k told))) (drop k told)) count)
        ∙ shown_more t (versions_of b first place (take k told)) (versions_of b (first + k) (place + length (records g first (take k told))) (drop k told))
        (versions_above b (first + k) (place + length (records g first (take k told))) t (drop k told) above) in
        is b ∙ ap (moved_to (place + length (records g first (take k told))) to) all
        ∙ ap (map (moved (place + length (records g first (take k told))) to))
        (filter-append (λ v. nat_lt (place + length (records g first (take k told))) v.place) (shown_since t (versions_of b first place (take k told))) (versions_of b (first + k) (place + length (records g first (take k told))) (drop k told))
        ∙ (λ i. none_behind (place + length (records g first (take k told))) (shown_since t (versions_of b first place (take k told))) (all_shown (IsBefore (place + length (records g first (take k told)))) t (versions_of b first place (take k told)) (firsts b)) i
        ++ all_behind (place + length (records g first (take k told))) (versions_of b (first + k) (place + length (records g first (take k told))) (drop k told)) (others b (first + k)) i))
        ∙ ap (λ (n : ℕ). map (moved (place + length (records g first (take k told))) to) (versions_of b (first + k) n (drop k told))) start
        ∙ versions_moved b (first + k) (place + length (records g first (take k told))) to 0 (drop k told)
        ∙ ap (λ (n : ℕ). versions_of b (first + k) n (drop k told)) back
        ∙ sym (above_stay later (versions_of b (first + k) to (drop k told)) (versions_above b (first + k) to later (drop k told) below_it));
  }

  -- the versions of the first records stand before the others
  pub index_split : (b : ℕ) → AreSplit (place + length (records g first (take k told))) (versions_in index b)
  index_split b = elim (cases_lt b g.blocks) [
    | inl below ↦ subst (AreSplit (place + length (records g first (take k told)))) (sym (has.each b below ∙ ap (shown_since t) (parts_of b))) (split_of (place + length (records g first (take k told)))
        (shown_since t (versions_of b first place (take k told) ++ versions_of b (first + length (take k told)) (place + length (records g first (take k told))) (drop k told)))
        (last_shown (place + length (records g first (take k told))) t (versions_of b first place (take k told) ++ versions_of b (first + length (take k told)) (place + length (records g first (take k told))) (drop k told))
        (last_append (place + length (records g first (take k told))) (versions_of b first place (take k told)) (versions_of b (first + length (take k told)) (place + length (records g first (take k told))) (drop k told)) (firsts b) (others b (first + length (take k told))))))
    | inr past ↦ subst (AreSplit (place + length (records g first (take k told)))) (sym (ap (λ (row : BlockVersions). row.versions) (get_or_past index b no_versions (omega (arith, past, has.blocks)))))
        (record { apart = λ i lt. absurd (omega (arith, lt)); order = λ i j le lt. absurd (omega (arith, lt)) })
  ]
