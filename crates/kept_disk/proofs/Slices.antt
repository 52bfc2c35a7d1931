-- Slices of lists that are written over, and places of lists that are set.
use Rattle.kept_disk.proofs.Words.{◌≡◌, ◌<◌, ◌≤◌, ◌+◌, ◌-◌, ℕ, zero, suc, min, List, [], ◌∷◌, ◌++◌, Option, Some, None, inl, length, take, drop, set, get_or, replicate, refl, sym, ◌∙◌, ap, arith, length-drop, take-take, drop-drop, drop-take, length-take, length-take-le, take_at, drop_all, drop-append-le, take-append-le, take-add, take-length, put_mid-paste, option_map, same_Some, slice_get, Torn, spliced, drop-torn, length-spliced, slice-torn, spliced_torn, take-spliced, take-drop-spliced, spliced_behind, torn_whole, put_mid}

-- the length of a slice
pub length-slice : (k b : ℕ) (l : List ℕ) → length (take k (drop b l)) ≡ min k (length l - b)
length-slice k b l = length-take k (drop b l) ∙ ap (min k) (length-drop b l)

-- a part of a slice
pub part_of : (from n k b : ℕ) (l : List ℕ) → from + n ≤ k → take n (drop from (take k (drop b l))) ≡ take n (drop (b + from) l)
part_of from n k b l le =
    sym (drop-take from n (take k (drop b l)))
    ∙ ap (drop from) (take-take (from + n) k (drop b l) le)
    ∙ drop-take from n (drop b l)
    ∙ ap (take n) (drop-drop from b l)

-- a part of what is in front
pub slice_before : (k b : ℕ) (xs more : List ℕ) → b + k ≤ length xs → take k (drop b (xs ++ more)) ≡ take k (drop b xs)
slice_before k b xs more le =
    ap (take k) (drop-append-le b xs more (omega (arith, le)))
    ∙ take-append-le k (drop b xs) more (omega (arith, le, length-drop b xs))

-- the end of a slice
end_of : (s m k b : ℕ) (l : List ℕ) → k ≡ s + m → drop s (take k (drop b l)) ≡ take m (drop (b + s) l)
end_of s m k b l is =
    ap (λ (j : ℕ). drop s (take j (drop b l))) is ∙ drop-take s m (drop b l) ∙ ap (take m) (drop-drop s b l)

-- what is torn inside a slice is torn in the slice
torn_inside : (b from n k : ℕ) {old new : List ℕ} → Torn (b + from) n old new → from + n ≤ k → Torn from n (take k (drop b old)) (take k (drop b new))
torn_inside b from n k {old = old} {new = new} torn le =
    let m = k - (from + n) in
    let is : k ≡ (from + n) + m = omega (arith, le) in
    record {
      before = take-take from k (drop b new) (omega (arith, le)) ∙ slice-torn torn b from (inl (omega arith)) ∙ sym (take-take from k (drop b old) (omega (arith, le)));
      after = end_of (from + n) m k b new is ∙ ap (take m) (drop-torn torn (b + (from + n)) (omega arith)) ∙ sym (end_of (from + n) m k b old is);
      size = length-slice k b new ∙ ap (λ (s : ℕ). min k (s - b)) torn.size ∙ sym (length-slice k b old);
    }

-- bytes that are written inside a slice are written in the slice
pub spliced_inside : (c : List ℕ) (b from k : ℕ) (xs : List ℕ) → from + length xs ≤ k → b + from + length xs ≤ length c → take k (drop b (spliced c (b + from) xs)) ≡ spliced (take k (drop b c)) from xs
spliced_inside c b from k xs le fits =
    torn_whole xs (torn_inside b from (length xs) k (spliced_torn c (b + from) xs fits) le)
    (part_of from (length xs) k b (spliced c (b + from) xs) le ∙ take-drop-spliced c (b + from) xs fits)

module _ {X : Type 0} where
  -- the place that was set
  pub get-set_same : (xs : List X) (i : ℕ) (y z : X) → slice_get (set xs i y) i ≡ Some z → y ≡ z
  get-set_same [] i y z is = absurd (cc is)
  get-set_same (x ∷ xs) zero y z is = same_Some y z is
  get-set_same (x ∷ xs) (suc i) y z is = get-set_same xs i y z is

  -- a place that is set twice
  pub set-set : (xs : List X) (i : ℕ) (y z : X) → set (set xs i y) i z ≡ set xs i z
  set-set [] i y z = refl
  set-set (x ∷ xs) zero y z = refl
  set-set (x ∷ xs) (suc i) y z = ap (λ (l : List X). x ∷ l) (set-set xs i y z)

  pub get-set_at : (xs : List X) (i : ℕ) (y : X) → i < length xs → slice_get (set xs i y) i ≡ Some y
  get-set_at [] i y within = absurd (omega (arith, within))
  get-set_at (x ∷ xs) zero y within = refl
  get-set_at (x ∷ xs) (suc i) y within = get-set_at xs i y (omega (arith, within))

  -- the others
  pub get-set_other : (xs : List X) (i j : ℕ) (y : X) → (j ≡ i → ⊥) → slice_get (set xs i y) j ≡ slice_get xs j
  get-set_other [] i j y other = refl
  get-set_other (x ∷ xs) zero zero y other = absurd (other refl)
  get-set_other (x ∷ xs) zero (suc j) y other = refl
  get-set_other (x ∷ xs) (suc i) zero y other = refl
  get-set_other (x ∷ xs) (suc i) (suc j) y other = get-set_other xs i j y (λ same. other (ap suc same))

-- a slice that was lent as a whole
pub lent_whole : {X : Type 0} (len : ℕ) (new old : List X) → len ≡ length old → length new ≡ length old → take len (new ++ drop (length new) old) ≡ new
lent_whole {X = X} len new old is same =
    let none : drop (length new) old ≡ [] = drop_all (length new) old (omega (arith, same)) in
    ap (λ (l : List X). take len (new ++ l)) none ∙ take_at new [] len (omega (arith, is, same))

-- bytes that were read so far, and one part more
pub read_further : (into part c : List ℕ) (at done : ℕ) → done + length part ≤ length into → take done into ≡ take done (drop at c) → part ≡ take (length part) (drop (at + done) c) → take (done + length part) (spliced into done part) ≡ take (done + length part) (drop at c)
read_further into part c at done fits so_far read =
    take-add done (length part) (spliced into done part)
    ∙ (λ i. take-spliced into done part fits done (omega arith) i ++ take-drop-spliced into done part fits i)
    ∙ (λ i. so_far i ++ (read ∙ ap (take (length part)) (sym (drop-drop done at c))) i)
    ∙ sym (take-add done (length part) (drop at c))

-- bytes that were laid so far, and one part more
pub laid_further : (c bytes : List ℕ) (at done count k : ℕ) → k ≡ count → done + count ≤ length bytes → at + length bytes ≤ length c → spliced (spliced c at (take done bytes)) (at + done) (take k (drop done bytes)) ≡ spliced c at (take (done + count) bytes)
laid_further c bytes at done count k same fits lies =
    let first : length (take done bytes) ≡ done = length-take-le done bytes (omega (arith, fits)) in
    let second : length (take count (drop done bytes)) ≡ count = length-take-le count (drop done bytes) (omega (arith, fits, length-drop done bytes)) in
    ap (λ (j : ℕ). spliced (spliced c at (take done bytes)) (at + done) (take j (drop done bytes))) same
    ∙ ap (λ (j : ℕ). spliced (spliced c at (take done bytes)) (at + j) (take count (drop done bytes))) (sym first)
    ∙ spliced_behind c at (take done bytes) (take count (drop done bytes)) (omega (arith, fits, lies, first, second))
    ∙ ap (spliced c at) (sym (take-add done count bytes))

-- a part that was lent and written
pub lent_part : (a k : ℕ) (xs ys : List ℕ) → k ≡ length ys → put_mid a k xs ys ≡ spliced xs a ys
lent_part a k xs ys same =
    put_mid-paste a k xs ys ys (length ys) refl (sym same) refl ∙ ap (λ (l : List ℕ). take a xs ++ l ++ drop (a + length ys) xs) (take-length ys)

-- what a value that is told comes from
pub told_from : {A B : Type 0} (f : A → B) (o : Option A) (y : B) → option_map f o ≡ Some y → (x : A) × (o ≡ Some x) × (f x ≡ y)
told_from f (Some x) y is = (x, refl, same_Some (f x) y is)
told_from f None y is = absurd (cc is)

-- bytes of which a part was lent and written
pub part_written : (from len n : ℕ) (old lent into : List ℕ) → n ≡ length old → lent ≡ old → length into ≡ len → from + len ≤ length old → take n (put_mid from (from + len - from) lent into ++ drop (length (put_mid from (from + len - from) lent into)) old) ≡ spliced old from into
part_written from len n old lent into count same size within =
    let part = lent_part from (from + len - from) lent into (omega (arith, size)) ∙ ap (λ (l : List ℕ). spliced l from into) same in
    let long : length (put_mid from (from + len - from) lent into) ≡ length old = ap length part ∙ length-spliced old from into (omega (arith, size, within)) in
    lent_whole n (put_mid from (from + len - from) lent into) old count long ∙ part

-- bytes after one that equal those one place before are all that one
follow : (x : ℕ) (ys : List ℕ) → ys ≡ take (length ys) (x ∷ ys) → ys ≡ replicate (length ys) x
follow x [] same = refl
follow x (y ∷ zs) same =
    let here : y ≡ x = cc in
    let rest : zs ≡ take (length zs) (y ∷ zs) = cc in
    λ i. here i ∷ (follow y zs rest ∙ ap (replicate (length zs)) here) i

pub all_zeros : (xs : List ℕ) → 0 < length xs → get_or xs 0 0 ≡ 0 → drop 1 xs ≡ take (length xs - 1) xs → xs ≡ replicate (length xs) 0
all_zeros [] some first same = absurd (omega (arith, some))
all_zeros (x ∷ xs) some first same =
    let less : length (x ∷ xs) - 1 ≡ length xs = omega arith in
    λ i. first i ∷ (follow x xs (same ∙ ap (λ (n : ℕ). take n (x ∷ xs)) less) ∙ ap (replicate (length xs)) first) i

-- a place that is told of a list
pub told_inside : {X : Type 0} (xs : List X) (i : ℕ) (x : X) → slice_get xs i ≡ Some x → i < length xs
told_inside [] i x told = absurd (cc told)
told_inside (y ∷ ys) zero x told = omega arith
told_inside (y ∷ ys) (suc i) x told = let rest = told_inside ys i x told in omega (arith, rest)
