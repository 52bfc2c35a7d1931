-- What an image shows whose base is a later commit, and what it shows of a longer history.
use Rattle.iso_model.{proofs.Words.{◌≡◌, ◌∙◌, sym, ap, ℕ, zero, suc, ◌+◌, ◌-◌, ◌<◌, ◌≤◌, IfSome, List, [], ◌∷◌, ◌++◌, length, take, drop, map, slice_get, arith, subst, Option, Some, None, length-append, length-drop, take_all, take-append-le, Commit, Geometry, History, last, all_own, array_at, IsImage, Shows, SameCommit, written, commits_of, IsHistory, Extends}, specs.Image.held, proofs.Clashes.slice_get-drop, proofs.Isolation.{commits_drop, all_own_append, slice_get_append_left}, proofs.Recorded.{array_shape, size_of, all_own_logged, length-logged, same_commits}}

-- it has the arrays from its base on
pub held_array : (g : Geometry) (b n : ℕ) (H : History) → IsHistory g H → H.first ≤ b + 1 → b ≤ n → array_at (held g b H) n ≡ array_at H n
held_array g b n H is since le =
    let k : ℕ = b + 1 - H.first in
    let m : ℕ = n + 1 - (b + 1) in
    let e : n + 1 - H.first ≡ k + m = omega arith in
    all_own_logged g (array_at H b) (b + 1) m (drop k H.commits) (size_of g (array_at H b) (array_shape g H b is)) (commits_drop g k H.commits is.commits)
    ∙ sym (all_own_append H.base (take k H.commits) (take m (drop k H.commits)))
    ∙ ap (all_own H.base) (pieces k m H.commits)
    ∙ ap (λ j. all_own H.base (take j H.commits)) (sym e)
  where
    pieces : (k m : ℕ) (xs : List Commit) → take k xs ++ take m (drop k xs) ≡ take (k + m) xs
    pieces zero m xs = let on : m ≡ zero + m = omega arith in ap (λ j. take j xs) on
    pieces (suc k) m [] = take_all m [] (omega arith) ∙ sym (take_all (suc k + m) [] (omega arith))
    pieces (suc k) m (x ∷ xs) =
        let on : suc (k + m) ≡ suc k + m = omega arith in
        ap (λ ys. x ∷ ys) (pieces k m xs) ∙ ap (λ j. take j (x ∷ xs)) on

-- an image of it, whatever its form, shows the history
pub held_shows : (g : Geometry) (b form generation : ℕ) (H : History) (bytes : List ℕ) → IsHistory g H → H.first ≤ b + 1 → b ≤ last H
    → IsImage bytes (record g { form = form }) generation (held g b H) → Shows bytes g H (last H)
held_shows g b form generation H bytes is since until image =
    let k : ℕ = b + 1 - H.first in
    let first = is.first in
    record {
      until = omega arith;
      form = form;
      generation = generation;
      held = held g b H;
      image = image;
      last =
          let count = length-logged g (b + 1) (drop k H.commits) in
          let dropped : length (drop k H.commits) ≡ length H.commits - k = length-drop k H.commits in
          omega (arith, count, dropped);
      first = since;
      arrays = λ n from to. held_array g b n H is since (omega (arith, from));
      commits = λ n from to.
          let e : k + (n - (b + 1)) ≡ n - H.first = omega (arith, from, since) in
          subst (λ (o : Option Commit). IfSome (slice_get (commits_of g (b + 1) (map (written g) (drop k H.commits))) (n - (b + 1))) (λ c. IfSome o (SameCommit g c)))
          (slice_get-drop k (n - (b + 1)) H.commits ∙ ap (slice_get H.commits) e)
          (same_commits g (b + 1) (n - (b + 1)) (drop k H.commits));
    }

-- told from its first commit on, it is the whole history with its commits as their records tell them
pub held_whole : (g : Geometry) (b : ℕ) (H : History) → b + 1 ≡ H.first → held g b H ≡ record H { commits = commits_of g H.first (map (written g) H.commits) }
held_whole g b H first = grind arith

-- what shows a history at one of its commits shows each longer one there
pub shows_longer : (bytes : List ℕ) (g : Geometry) (H G : History) (p : ℕ) → 0 < H.first → Extends H G → Shows bytes g H p → Shows bytes g G p
shows_longer bytes g H G p some more is =
    let until : p ≤ last H = is.until in
    let first = more.first in
    let positive = is.image.first in
    let since = is.first in
    let last_is = is.last in
    let count = ap length more.commits ∙ length-append H.commits more.more in
    record {
      until = omega arith;
      form = is.form;
      generation = is.generation;
      held = is.held;
      image = is.image;
      last = is.last;
      first = omega (arith, first, since);
      arrays = λ n from to.
          let short : n + 1 - H.first ≤ length H.commits = omega arith in
          is.arrays n from to
          ∙ sym (ap (all_own H.base) (take-append-le (n + 1 - H.first) H.commits more.more short))
          ∙ ap (λ (xs : List Commit). all_own H.base (take (n + 1 - H.first) xs)) (sym more.commits)
          ∙ (λ i. all_own (sym more.base i) (take (n + 1 - sym more.first i) G.commits));
      commits = λ n from to.
          let inside : n - H.first < length H.commits = omega (arith, from, since) in
          subst (λ (o : Option Commit). IfSome (slice_get is.held.commits (n - is.held.first)) (λ c. IfSome o (SameCommit g c)))
          (sym (slice_get_append_left H.commits more.more (n - H.first) inside)
          ∙ ap (λ (xs : List Commit). slice_get xs (n - H.first)) (sym more.commits)
          ∙ ap (λ (f : ℕ). slice_get G.commits (n - f)) (sym more.first))
          (is.commits n from to);
    }

same_but_form : (g : Geometry) (form : ℕ) (o p : Option Commit) → IfSome o (λ c. IfSome p (SameCommit g c)) → IfSome o (λ c. IfSome p (SameCommit (record g { form = form }) c))
same_but_form g form None p same = tt
same_but_form g form (Some c) None same = tt
same_but_form g form (Some c) (Some d) same = record { mode = same.mode; effect = same.effect }

-- what an image shows does not depend on the form
pub shows_any_form : (bytes : List ℕ) (g : Geometry) (form : ℕ) (H : History) (p : ℕ) → Shows bytes g H p → Shows bytes (record g { form = form }) H p
shows_any_form bytes g form H p shown = grind (arith, same_but_form)
