-- What bytes and masks stand for, place by place, and what setting one byte makes of it.
use Rattle.merge_write.proofs.Words.{◌≡◌, ◌∙◌, sym, refl, ap, ℕ, zero, suc, ◌+◌, ◌/◌, ◌%◌, ◌<◌, true, false, cond, List, [], ◌∷◌, length, get_or, replicate, Option, Some, None, unwrap_or, Bool, ◌||◌, arith, slice_index, bit_at-zero, or_else, is_set, values_from}

pub length-values_from : (masks : List ℕ) (p : ℕ) (bytes : List ℕ) → length (values_from masks p bytes) ≡ length bytes
length-values_from masks p [] = refl
length-values_from masks p (x ∷ bytes) = ap suc (length-values_from masks (p + 1) bytes)

pub values_at : (masks : List ℕ) (p k : ℕ) (bytes : List ℕ) → k < length bytes
    → get_or (values_from masks p bytes) k None ≡ cond (is_set masks (p + k)) (Some (get_or bytes k 0)) None
values_at masks p k [] inside = absurd (omega arith)
values_at masks p zero (x ∷ bytes) inside = let e : p + 0 ≡ p = omega arith in rw e refl
values_at masks p (suc k) (x ∷ bytes) inside =
    let e : p + suc k ≡ p + 1 + k = omega arith in
    rw e (values_at masks (p + 1) k bytes (omega arith))

pub values_here : (masks : List ℕ) (k : ℕ) (bytes : List ℕ) → k < length bytes
    → get_or (values_from masks 0 bytes) k None ≡ cond (is_set masks k) (Some (get_or bytes k 0)) None
values_here masks k bytes inside = let e : 0 + k ≡ k = omega arith in rw e at (values_at masks 0 k bytes inside)

get_or_zeros : (n k : ℕ) → slice_index (replicate n 0) k ≡ 0
get_or_zeros zero k = refl
get_or_zeros (suc n) zero = refl
get_or_zeros (suc n) (suc k) = get_or_zeros n k

none_set : (n k : ℕ) → is_set (replicate n 0) k ≡ false
none_set n k = rw (get_or_zeros n (k / 64), bit_at-zero (k % 64)) refl

-- no mask bit, no value
pub blank_values : (n size p : ℕ) → values_from (replicate n 0) p (replicate size 0) ≡ replicate size None
blank_values n zero p = refl
blank_values n (suc size) p = rw (none_set n p) (ap (λ (values : List (Option ℕ)). None ∷ values) (blank_values n size (p + 1)))

-- new bytes with their bits set are new values, and elsewhere all stays
pub ranged_values : (masks masks' bytes bytes' : List ℕ) (k new : ℕ) (t : Bool) → k < length bytes → k < length bytes'
    → is_set masks' k ≡ (t || is_set masks k) → get_or bytes' k 0 ≡ cond t new (get_or bytes k 0)
    → get_or (values_from masks' 0 bytes') k None ≡ cond t (Some new) (get_or (values_from masks 0 bytes) k None)
ranged_values masks masks' bytes bytes' k new t inside within bit byte =
    values_here masks' k bytes' within
    ∙ rw (bit, byte) (both t (is_set masks k) new (get_or bytes k 0))
    ∙ ap (λ (v : Option ℕ). cond t (Some new) v) (sym (values_here masks k bytes inside))
  where
    both : (t s : Bool) (x y : ℕ) → cond (t || s) (Some (cond t x y)) None ≡ cond t (Some x) (cond s (Some y) None)
    both true s x y = refl
    both false s x y = refl

-- later bytes laid over the first ones, and the bits of both
pub followed_values : (masks masks' bytes bytes' later : List ℕ) (others : List ℕ) (k : ℕ) → k < length bytes → k < length bytes' → k < length later
    → is_set masks' k ≡ (is_set others k || is_set masks k) → get_or bytes' k 0 ≡ unwrap_or (get_or (values_from others 0 later) k None) (get_or bytes k 0)
    → get_or (values_from masks' 0 bytes') k None ≡ or_else (get_or (values_from others 0 later) k None) (get_or (values_from masks 0 bytes) k None)
followed_values masks masks' bytes bytes' later others k inside within there bit byte =
    let now = values_here others k later there in
    let before = values_here masks k bytes inside in
    let laid : get_or bytes' k 0 ≡ unwrap_or (cond (is_set others k) (Some (get_or later k 0)) None) (get_or bytes k 0) =
    byte ∙ ap (λ (v : Option ℕ). unwrap_or v (get_or bytes k 0)) now in
    values_here masks' k bytes' within
    ∙ rw (bit, laid) (both (is_set others k) (is_set masks k) (get_or later k 0) (get_or bytes k 0))
    ∙ ap (λ (v : Option ℕ). or_else v (cond (is_set masks k) (Some (get_or bytes k 0)) None)) (sym now)
    ∙ ap (λ (v : Option ℕ). or_else (get_or (values_from others 0 later) k None) v) (sym before)
  where
    both : (t s : Bool) (x y : ℕ) → cond (t || s) (Some (unwrap_or (cond t (Some x) None) y)) None ≡ or_else (cond t (Some x) None) (cond s (Some y) None)
    both true s x y = refl
    both false true x y = refl
    both false false x y = refl

-- masks that are all zero set no byte
pub cleared_values : (masks : List ℕ) (p : ℕ) (bytes : List ℕ) → ((k : ℕ) → get_or masks k 0 ≡ 0) → values_from masks p bytes ≡ replicate (length bytes) None
cleared_values masks p [] zeros = refl
cleared_values masks p (x ∷ bytes) zeros =
    let none : is_set masks p ≡ false = rw (zeros (p / 64), bit_at-zero (p % 64)) refl in
    rw none (ap (λ (values : List (Option ℕ)). None ∷ values) (cleared_values masks (p + 1) bytes zeros))
