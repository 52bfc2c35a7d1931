-- Lines that are added one after another.
use Rattle.par_script.proofs.Words.{◌≡◌, ℕ, ◌+◌, ◌<◌, ◌≤◌, List, [], ◌∷◌, ◌++◌, take, drop, length, get_or, map, flat_map, sym, subst, ap, ◌∙◌, arith, Result, Ok, Err, OnErr, concat, get_or-map, take-append_seam, take-append-add, append_assoc, append-nil, length-append, length-map, take-append-drop, take-append-le, take_more, flat_map-append, concat-append, CommitLine, Part, commit_line, told_lines, AreCommits, AreFirst, IsFront, IsOutput}

-- one line more
pub snoc : (old : List ℕ) (lines : List (List ℕ)) (line : List ℕ) → (old ++ concat lines) ++ line ≡ old ++ concat (lines ++ line ∷ [])
snoc old lines line =
    append_assoc old (concat lines) line
    ∙ ap (λ v. old ++ v) (ap (λ v. concat lines ++ v) (sym (append-nil line)) ∙ sym (concat-append lines (line ∷ [])))

pub append : (old : List ℕ) (lines more : List (List ℕ)) → (old ++ concat lines) ++ concat more ≡ old ++ concat (lines ++ more)
append old lines more = append_assoc old (concat lines) (concat more) ∙ ap (λ v. old ++ v) (sym (concat-append lines more))

module _ {X : Type 0} (xs : List X) (i : ℕ) (x : X) (within : i < length xs) (is : x ≡ get_or xs i x) where
  pub taken : take (i + 1) xs ≡ take i xs ++ x ∷ []
  taken = take_more xs i x within ∙ ap (λ v. take i xs ++ v ∷ []) (sym is)

  pub taken_map : (f : X → List ℕ) → take (i + 1) (map f xs) ≡ take i (map f xs) ++ f x ∷ []
  taken_map f =
      take_more (map f xs) i (f x) (subst (λ n. i < n) (sym (length-map xs f)) within)
      ∙ ap (λ v. take i (map f xs) ++ v ∷ []) (get_or-map f xs i x ∙ ap f (sym is))

  -- the line of an item came to the text
  pub one_more : (f : X → List ℕ) (old text new : List ℕ) → text ≡ old ++ concat (take i (map f xs)) → new ≡ text ++ f x → new ≡ old ++ concat (take (i + 1) (map f xs))
  one_more f old text new so added =
      added ∙ ap (λ v. v ++ f x) so ∙ snoc old (take i (map f xs)) (f x) ∙ ap (λ v. old ++ concat v) (sym (taken_map f))

  pub more_of : {Y : Type 0} (f : X → List Y) → flat_map f (take (i + 1) xs) ≡ flat_map f (take i xs) ++ f x
  more_of f = ap (flat_map f) taken ∙ flat_map-append f (take i xs) (x ∷ []) ∙ ap (λ v. flat_map f (take i xs) ++ v) (append-nil (f x))

  -- the lines of an item came to the text
  pub some_more : (f : X → List (List ℕ)) (old text new : List ℕ) → text ≡ old ++ concat (flat_map f (take i xs)) → new ≡ text ++ concat (f x) → new ≡ old ++ concat (flat_map f (take (i + 1) xs))
  some_more f old text new so added =
      added ∙ ap (λ v. v ++ concat (f x)) so ∙ append old (flat_map f (take i xs)) (f x) ∙ ap (λ v. old ++ concat v) (sym (more_of f))

  pub items_more : {Y : Type 0} (f : X → List Y) (old text new : List Y) → text ≡ old ++ flat_map f (take i xs) → new ≡ text ++ f x → new ≡ old ++ flat_map f (take (i + 1) xs)
  items_more f old text new so added =
      added ∙ ap (λ v. v ++ f x) so ∙ append_assoc old (flat_map f (take i xs)) (f x) ∙ ap (λ v. old ++ v) (sym (more_of f))

  whole : {Y : Type 0} (f : X → List Y) → flat_map f xs ≡ flat_map f (take i xs) ++ (f x ++ flat_map f (drop (i + 1) xs))
  whole f =
      ap (flat_map f) (sym (take-append-drop (i + 1) xs)) ∙ flat_map-append f (take (i + 1) xs) (drop (i + 1) xs)
      ∙ ap (λ v. v ++ flat_map f (drop (i + 1) xs)) (more_of f) ∙ append_assoc (flat_map f (take i xs)) (f x) (flat_map f (drop (i + 1) xs))

  -- first lines of an item came to the text
  pub first_more : (f : X → List (List ℕ)) (old text new : List ℕ) → text ≡ old ++ concat (flat_map f (take i xs)) → AreFirst (f x) text new → AreFirst (flat_map f xs) old new
  first_more f old text new so first =
      let before : List (List ℕ) = flat_map f (take i xs) in
      let rest : List (List ℕ) = flat_map f (drop (i + 1) xs) in
      let front : take (length before + first.number) (flat_map f xs) ≡ before ++ take first.number (f x)
      = ap (take (length before + first.number)) (whole f) ∙ take-append-add before (f x ++ rest) first.number ∙ ap (λ v. before ++ v) (take-append-le first.number (f x) rest first.within) in
      let size : length (flat_map f xs) ≡ length before + (length (f x) + length rest)
      = ap length (whole f) ∙ length-append before (f x ++ rest) ∙ ap (λ n. length before + n) (length-append (f x) rest) in
      let few : first.number ≤ length (f x) = first.within in
      record {
        number = length before + first.number;
        within = subst (λ n. length before + first.number ≤ n) (sym size) (omega arith);
        is = first.is ∙ ap (λ v. v ++ concat (take first.number (f x))) so ∙ append old before (take first.number (f x)) ∙ ap (λ v. old ++ concat v) (sym front);
      }

-- no line of an item came to the text, since there was no memory
pub first_now : {X : Type 0} (f : X → List ℕ) (xs : List X) (i : ℕ) (old text new : List ℕ) → i < length xs → text ≡ old ++ concat (take i (map f xs)) → new ≡ text → AreFirst (map f xs) old new
first_now f xs i old text new within so same =
    let inside : i < length (map f xs) = subst (λ n. i < n) (sym (length-map xs f)) within in
    record { number = i; within = omega arith; is = same ∙ so }

module _ (parts : List Part) (text : List ℕ) where
  told_all : List (List ℕ)
  told_all = flat_map told_lines parts

  -- without memory among the replies, between them and the commits, and among the commits
  pub front_of_replies : AreFirst (flat_map told_lines parts) [] text → IsFront parts text
  front_of_replies first =
      record {
        commits = [];
        number = first.number;
        are = λ more. let few : first.number ≤ length (flat_map told_lines parts) = first.within in absurd (omega arith);
        is = first.is ∙ ap concat (sym (take-append-le first.number (flat_map told_lines parts) [] first.within));
      }

  pub front_of_all_replies : (new : List ℕ) → text ≡ [] ++ concat (flat_map told_lines parts) → new ≡ text → IsFront parts new
  front_of_all_replies new all same =
      record {
        commits = [];
        number = length (flat_map told_lines parts);
        are = λ more. absurd (omega arith);
        is = same ∙ all ∙ ap concat (sym (take-append_seam (flat_map told_lines parts) []));
      }

  pub front_with_commits : (new : List ℕ) (commits : List CommitLine) → text ≡ [] ++ concat (flat_map told_lines parts) → AreCommits parts commits → AreFirst (map commit_line commits) text new → IsFront parts new
  front_with_commits new commits all are first =
      record {
        commits = commits;
        number = length (flat_map told_lines parts) + first.number;
        are = λ more. are;
        is = first.is ∙ ap (λ v. v ++ concat (take first.number (map commit_line commits))) all ∙ append [] (flat_map told_lines parts) (take first.number (map commit_line commits))
            ∙ ap concat (sym (take-append-add (flat_map told_lines parts) (map commit_line commits) first.number));
      }

  pub whole_text : (new : List ℕ) (commits : List CommitLine) → text ≡ [] ++ concat (flat_map told_lines parts) → AreCommits parts commits → new ≡ text ++ concat (map commit_line commits) → IsOutput parts new
  whole_text new commits all are added =
      record {
        commits = commits;
        are = are;
        is = added ∙ ap (λ v. v ++ concat (map commit_line commits)) all ∙ append [] (flat_map told_lines parts) (map commit_line commits);
      }

pub any_err : {T E P : Type 0} (r : Result T E) → P → OnErr r P
any_err (Ok t) p = tt
any_err (Err e) p = p
