-- What an image holds, in words of a history and of a world.
use Rattle.iso_image.proofs.Words.{◌≡◌, ◌<◌, ◌≤◌, ◌+◌, ◌-◌, ℕ, List, [], ◌∷◌, ◌++◌, length, take, drop, map, Some, refl, sym, ◌∙◌, ap, arith, subst, drop-drop, drop-map, map-append, take-append-le, drop-append-le, Commit, Geometry, runs, log_place, History, all_own, array_at, last, IsImage, IsLog, Shows, Written, commits_of, half_header, held, kind_of, records, spell, written, recorded, IsHistory, World, Live, fresh, used, after_commit, held_shows, image_tells_one, length-records, sum_by-map, told_again, AreOne, Half, IsHeld, half_of, half_of_world, history_of, in_form, told_bytes, with_records}

commits_form : (g : Geometry) (form n : ℕ) (told : List Written) → commits_of (in_form form g) n told ≡ commits_of g n told
commits_form g form n [] = refl
commits_form g form n (w ∷ told) = let rest = commits_form g form (n + 1) told in λ i. record { begin = n - 1; mode = w.mode; accesses = recorded g w.parts } ∷ rest i

-- An image of it shows the whole history, whatever its form.
pub half_shows : (g : Geometry) (form at generation b : ℕ) (H : History) (bytes : List ℕ) → IsHistory g H → H.first ≤ b + 1 → b ≤ last H
    → IsHeld (in_form form g) (half_of g at generation b H) bytes → Shows bytes g H (last H)
half_shows g form at generation b H bytes is since until has =
    let same : history_of (in_form form g) (half_of g at generation b H) ≡ held g b H =
    ap (λ (commits : List Commit). record { first = b + 1; base = array_at H b; commits = commits }) (commits_form g form (b + 1) (map (written g) (drop (b + 1 - H.first) H.commits))) in
    held_shows g b form generation H bytes is since until (subst (IsImage bytes (in_form form g) generation) same has.image)

same_some : (m n : ℕ) → Some m ≡ Some n → m ≡ n
same_some m n e = cc

pub held_once : (g f : Geometry) (x y : Half) (bytes : List ℕ) → IsHeld g x bytes → IsHeld f y bytes → AreOne g f x y
held_once g f x y bytes has also =
    let one = image_tells_one bytes g f x.generation y.generation (history_of g x) (history_of f y) has.image also.image in
    grind arith

-- An image of a history holds the half of the world that it opens to.
pub opened_half : (bytes : List ℕ) (g : Geometry) (generation : ℕ) (H : History) → (image : IsImage bytes g generation H)
    → IsHeld g (half_of_world (fresh g generation H) image.half) bytes
opened_half bytes g generation H image =
    let some = image.first in
    let first : H.first - 1 + 1 ≡ H.first = omega (arith, some) in
    let before : H.first - 1 + 1 - 1 ≡ H.first - 1 = omega arith in
    let none : H.first - 1 + 1 - H.first ≡ 0 = omega (arith, some) in
    let array : array_at H (H.first - 1) ≡ H.base = ap (λ (k : ℕ). all_own H.base (take k H.commits)) none in
    let told : map (written g) (drop (H.first - 1 + 1 - H.first) H.commits) ≡ image.told =
    ap (λ (k : ℕ). map (written g) (drop k H.commits)) none ∙ ap (map (written g)) image.commits ∙ told_again g H.first image.told image.each in
    let log : IsLog g H.first image.told (take g.log (drop (log_place g image.half) bytes)) = image.log in
    record {
      image = record {
        super = image.super;
        valid = image.valid;
        size = image.size;
        half = image.half;
        current = image.current;
        header = image.header ∙ ap (half_header 1 g.form generation) (sym before);
        first = omega arith;
        generation_bound = image.generation_bound;
        base_bound = omega (arith, image.base_bound);
        base = array ∙ image.base;
        told = image.told;
        each = image.each;
        last = omega (arith, image.last, first);
        commits = ap (commits_of g (H.first - 1 + 1)) told;
        log = subst (λ (n : ℕ). IsLog g n image.told (take g.log (drop (log_place g image.half) bytes))) (sym first) log;
      };
      at_is = refl;
      told_is = sym told;
    }

-- a commit adds its record
pub half_after : (W : World) (t : Live) (at : ℕ) → W.history.first ≤ W.base + 1 → W.base ≤ last W.history → 0 < W.history.first
    → half_of_world (after_commit W t) at ≡ with_records (written W.geometry (record { begin = t.begin; mode = t.mode; accesses = t.accesses }) ∷ []) (half_of_world W at)
half_after W t at since until some =
    let n : W.base + 1 - W.history.first ≤ length W.history.commits = omega arith in
    let more : List Commit = record { begin = t.begin; mode = t.mode; accesses = t.accesses } ∷ [] in
    let array : array_at (after_commit W t).history W.base ≡ array_at W.history W.base =
    ap (all_own W.history.base) (take-append-le (W.base + 1 - W.history.first) W.history.commits more n) in
    let told : map (written W.geometry) (drop (W.base + 1 - W.history.first) (W.history.commits ++ more)) ≡ map (written W.geometry) (drop (W.base + 1 - W.history.first) W.history.commits) ++ map (written W.geometry) more =
    ap (map (written W.geometry)) (drop-append-le (W.base + 1 - W.history.first) W.history.commits more n) ∙ map-append (written W.geometry) (drop (W.base + 1 - W.history.first) W.history.commits) more in
    λ i. record { at = at; generation = W.generation; base = W.base; array = array i; told = told i }

-- the records take as many bytes as the world says
pub world_bytes : (W : World) (at : ℕ) → length (told_bytes W.geometry (half_of_world W at)) ≡ used W
world_bytes W at = grind (arith, length-records, sum_by-map)

-- the records above a later base are the last of those above the first
pub later_records : (g : Geometry) (at generation next b c : ℕ) (H : History) → H.first ≤ b + 1 → b ≤ c
    → (half_of g at next c H).told ≡ drop (c - b) (half_of g at generation b H).told
later_records g at generation next b c H since up =
    let far : b + 1 - H.first + (c - b) ≡ c + 1 - H.first = omega arith in
    ap (λ (k : ℕ). map (written g) (drop k H.commits)) (sym far) ∙ ap (map (written g)) (sym (drop-drop (c - b) (b + 1 - H.first) H.commits))
    ∙ sym (drop-map (written g) (c - b) (drop (b + 1 - H.first) H.commits))

-- records are spelled alike in each form
pub records_form : (g : Geometry) (form n : ℕ) (told : List Written) → records (in_form form g) n told ≡ records g n told
records_form g form n [] = refl
records_form g form n (w ∷ told) = ap (λ (l : List ℕ). spell 1 (kind_of g w.mode) n w.parts ++ l) (records_form g form (n + 1) told)

written_form : (g : Geometry) (form : ℕ) (commits : List Commit) → map (written (in_form form g)) commits ≡ map (written g) commits
unfolding runs
written_form g form [] = refl
written_form g form (c ∷ commits) = ap (λ (told : List Written). written g c ∷ told) (written_form g form commits)

-- a half is the same one in each form
pub half_form : (g : Geometry) (form at generation b : ℕ) (H : History) → half_of (in_form form g) at generation b H ≡ half_of g at generation b H
half_form g form at generation b H = grind (arith, written_form)
