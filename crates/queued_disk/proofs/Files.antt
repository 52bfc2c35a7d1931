-- A file is known by its name: the bytes that it had, and the calls that were done to it.
use Rattle.std.proofs.{Common.{◌≡◌, ◌∙◌, refl, sym, ap, ℕ, List, [], ◌∷◌, ◌++◌, Option, None, Some, length, map, take, drop}, Math.Seq.{take-append_seam, drop-append_seam}}
use Rattle.iso_memdisk.specs.{declared.record.Call.Call, declared.record.Call.TheVariants.{Write, Sync}}
use Rattle.queued_disk.specs.Queued.{calls_text, file_with, said}

-- two texts in one, where their first parts are as long
front_same : (xs ys us vs : List ℕ) → length xs ≡ length us → xs ++ ys ≡ us ++ vs → xs ≡ us
front_same xs ys us vs len is = sym (take-append_seam xs ys) ∙ ((λ i. take (len i) (is i)) ∙ take-append_seam us vs)

rest_same : (xs ys us vs : List ℕ) → length xs ≡ length us → xs ++ ys ≡ us ++ vs → ys ≡ vs
rest_same xs ys us vs len is = sym (drop-append_seam xs ys) ∙ ((λ i. drop (len i) (is i)) ∙ drop-append_seam us vs)

-- calls that are spelled alike are alike
calls_same : (xs ys : List Call) → calls_text xs ≡ calls_text ys → map said xs ≡ map said ys
calls_same [] [] is = refl
calls_same [] (Sync ∷ ys) is = absurd (cc is)
calls_same [] (Write at put ∷ ys) is = absurd (cc is)
calls_same (Sync ∷ xs) [] is = absurd (cc is)
calls_same (Write at put ∷ xs) [] is = absurd (cc is)
calls_same (Sync ∷ xs) (Sync ∷ ys) is = ap (λ (more : List (Option (ℕ × List ℕ))). None ∷ more) (calls_same xs ys (ap (drop 1) is))
calls_same (Sync ∷ xs) (Write at put ∷ ys) is = absurd (cc is)
calls_same (Write at put ∷ xs) (Sync ∷ ys) is = absurd (cc is)
calls_same (Write at put ∷ xs) (Write there other ∷ ys) is =
    let same_at : at ≡ there = cc is in
    let same_len : length put.items ≡ length other.items = cc is in
    let texts : put.items ++ calls_text xs ≡ other.items ++ calls_text ys = ap (drop 3) is in
    let bytes : put.items ≡ other.items = front_same put.items (calls_text xs) other.items (calls_text ys) same_len texts in
    let more : map said xs ≡ map said ys = calls_same xs ys (rest_same put.items (calls_text xs) other.items (calls_text ys) same_len texts) in
    (λ i. Some (same_at i, bytes i) ∷ more i)

pub files_same : (first second : List ℕ) (xs ys : List Call) → file_with first xs ≡ file_with second ys → (first ≡ second) × (map said xs ≡ map said ys)
files_same first second xs ys is =
    let len : length first ≡ length second = cc is in
    let texts : first ++ calls_text xs ≡ second ++ calls_text ys = ap (drop 1) is in
    (front_same first (calls_text xs) second (calls_text ys) len texts, calls_same xs ys (rest_same first (calls_text xs) second (calls_text ys) len texts))
