-- What a look-up among the files finds.
use Rattle.iso_fs.proofs.Words.{◌≡◌, ◌≢◌, ◌∙◌, sym, refl, ap, Bool, true, false, cond, ℕ, List, [], ◌∷◌, map, Option, Some, None, option_map, nat_cmp, eq_by_cmp, slice_cmp, nat_list_cmp_total, entries, get, get-entries, get-from_entries, get-insert, insert, Array, Pairs, tree_map, found_in, ties, not_bytes_eq, bytes_eq-Decides, FileAreas, number_of, content, files}

-- whether two names are one, as maps find them
abbrev pub same_name : List ℕ → List ℕ → Bool
same_name q name = eq_by_cmp (slice_cmp nat_cmp) q name

pub name_is : (q name : List ℕ) → same_name q name ≡ true → q ≡ name
name_is q name e = (bytes_eq-Decides q name).0 (sym (ties q name) ∙ e)

pub name_other : (q name : List ℕ) → q ≢ name → same_name q name ≡ false
name_other q name other = ties q name ∙ not_bytes_eq q name other

pub name_self : (name : List ℕ) → same_name name name ≡ true
name_self name = ties name name ∙ (bytes_eq-Decides name name).1 refl

find_mapped : (q : List ℕ) (f : List ℕ → List ℕ) (es : List (List ℕ × List ℕ)) → found_in q (map (λ pair. (pair.0, f pair.1)) es) ≡ option_map f (found_in q es)
find_mapped q f [] = refl
find_mapped q f (e ∷ es) =
    elim (eq_by_cmp (slice_cmp nat_cmp) q e.0) as (λ t. cond t (Some (f e.1)) (found_in q (map (λ pair. (pair.0, f pair.1)) es)) ≡ option_map f (cond t (Some e.1) (found_in q es))) [
      | true ↦ refl
      | false ↦ find_mapped q f es
    ]

-- A name has the bytes of the file that the tree's value names.
pub files_get : (a : FileAreas) (A : Array) (q : List ℕ) → get (files a A) q ≡ option_map (λ v. content a A (number_of v)) (get (tree_map a.tree A) q)
unfolding files
files_get a A q =
    get-from_entries nat_list_cmp_total (map (λ pair. (pair.0, content a A (number_of pair.1))) (entries (tree_map a.tree A))) q
    ∙ find_mapped q (λ v. content a A (number_of v)) (entries (tree_map a.tree A))
    ∙ ap (option_map (λ v. content a A (number_of v))) (sym (get-entries (tree_map a.tree A) q))

pub insert_get : (m : Pairs) (name value q : List ℕ) → get (insert m name value) q ≡ cond (same_name q name) (Some value) (get m q)
insert_get m name value q = get-insert nat_list_cmp_total m name value q

-- an option that has a number came of a value
pub record NamesBy (o : Option (List ℕ)) (number : ℕ) : Type 0 where
  pub value : List ℕ
  pub is : o ≡ Some value
  pub number_is : number_of value ≡ number

pub no_some : {X : Type 0} (x : X) → ◌≡◌ {A = Option X} None (Some x) → ⊥
no_some x e = cc

pub same_some : (m n : ℕ) → ◌≡◌ {A = Option ℕ} (Some m) (Some n) → m ≡ n
same_some m n e = cc

pub names_by : (o : Option (List ℕ)) (number : ℕ) → option_map number_of o ≡ Some number → NamesBy o number
names_by None number e = absurd (no_some number e)
names_by (Some value) number e = record { value = value; is = refl; number_is = same_some (number_of value) number e }
