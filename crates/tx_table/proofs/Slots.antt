-- Items in slots under an order of keys, as a list of entries.
use Rattle.tx_table.proofs.Words.{◌≡◌, ◌≢◌, ◌∙◌, refl, sym, ap, ℕ, zero, suc, ◌+◌, ◌<◌, ◌≤◌, List, [], ◌∷◌, ◌++◌, length, get_or, set, take, drop, arith, get_or-set_same, get_or-set_other, AllByRecursion, RisesFrom, entries_of, AreSlots}

-- the keys are those of the order
pub rises_entries : {A : Type 0} (d : A) (items : List A) (f : ℕ) (order : List (ℕ × ℕ)) → RisesFrom f order → RisesFrom f (entries_of d items order)
rises_entries d items f [] rises = tt
rises_entries d items f (e ∷ order) rises = (rises.0, rises_entries d items (e.0 + 1) order rises.1)

pub rises_order : {A : Type 0} (d : A) (items : List A) (f : ℕ) (order : List (ℕ × ℕ)) → RisesFrom f (entries_of d items order) → RisesFrom f order
rises_order d items f [] rises = tt
rises_order d items f (e ∷ order) rises = (rises.0, rises_order d items (e.0 + 1) order rises.1)

pub key_at : {A : Type 0} (d : A) (items : List A) (k s : ℕ) (order : List (ℕ × ℕ)) (x : ℕ × A) → (get_or (entries_of d items order) k x).0 ≡ (get_or order k (x.0, s)).0
key_at d items k s [] x = refl
key_at d items zero s (e ∷ order) x = refl
key_at d items (suc k) s (e ∷ order) x = key_at d items k s order x

pub length-entries : {A : Type 0} (d : A) (items : List A) (order : List (ℕ × ℕ)) → length (entries_of d items order) ≡ length order
length-entries d items [] = refl
length-entries d items (e ∷ order) = ap suc (length-entries d items order)

-- the entry of a place
pub entry_is : {A : Type 0} (d : A) (items : List A) (i b s : ℕ) (order : List (ℕ × ℕ)) (x : ℕ × A) → i < length order → get_or order i (b, s) ≡ (b, s)
    → get_or (entries_of d items order) i x ≡ (b, get_or items s d)
entry_is d items i b s [] x lt at = absurd (omega arith)
entry_is d items zero b s (e ∷ order) x lt at = ap (λ (y : ℕ × ℕ). (y.0, get_or items y.1 d)) at
entry_is d items (suc i) b s (e ∷ order) x lt at = entry_is d items i b s order x (omega arith) at

-- a slot below n is that of no other place
pub slot_below : (n i b s : ℕ) (order : List (ℕ × ℕ)) → AreSlots n order → i < length order → get_or order i (b, s) ≡ (b, s) → s < n
slot_below n i b s [] are lt at = absurd (omega arith)
slot_below n zero b s (e ∷ order) are lt at = let same : e.1 ≡ s = ap (λ (y : ℕ × ℕ). y.1) at in omega (arith, same, are.0)
slot_below n (suc i) b s (e ∷ order) are lt at = slot_below n i b s order are.2 (omega arith) at

others_kept : {A : Type 0} (d : A) (items : List A) (s : ℕ) (x : A) (order : List (ℕ × ℕ)) → AllByRecursion (λ f. f.1 ≢ s) order
    → entries_of d (set items s x) order ≡ entries_of d items order
others_kept d items s x [] others = refl
others_kept d items s x (e ∷ order) others =
    ap (λ y. (e.0, y) ∷ entries_of d (set items s x) order) (get_or-set_other items s e.1 x d others.0)
    ∙ ap (λ l. (e.0, get_or items e.1 d) ∷ l) (others_kept d items s x order others.1)

other_slot : (i b s t : ℕ) (order : List (ℕ × ℕ)) → AllByRecursion (λ f. f.1 ≢ t) order → i < length order → get_or order i (b, s) ≡ (b, s) → t ≢ s
other_slot i b s t [] others lt at same = absurd (omega arith)
other_slot zero b s t (e ∷ order) others lt at same = others.0 (ap (λ (y : ℕ × ℕ). y.1) at ∙ sym same)
other_slot (suc i) b s t (e ∷ order) others lt at same = other_slot i b s t order others.1 (omega arith) at same

-- another item in the slot of a place
pub set_entries : {A : Type 0} (d : A) (items : List A) (x : A) (n i b s : ℕ) (order : List (ℕ × ℕ)) → AreSlots n order → n ≤ length items → i < length order
    → get_or order i (b, s) ≡ (b, s) → entries_of d (set items s x) order ≡ set (entries_of d items order) i (b, x)
set_entries d items x n i b s [] are within lt at = absurd (omega arith)
set_entries d items x n zero b s (e ∷ order) are within lt at =
    let slot : e.1 ≡ s = ap (λ (y : ℕ × ℕ). y.1) at in
    let key : e.0 ≡ b = ap (λ (y : ℕ × ℕ). y.0) at in
    let inside : s < length items = omega (arith, slot, are.0) in
    let others : AllByRecursion (λ f. f.1 ≢ s) order = rw slot at are.1 in
    ap (λ (t : ℕ). (e.0, get_or (set items s x) t d) ∷ entries_of d (set items s x) order) slot
    ∙ ap (λ y. (e.0, y) ∷ entries_of d (set items s x) order) (get_or-set_same items s x d inside)
    ∙ ap (λ (k : ℕ). (k, x) ∷ entries_of d (set items s x) order) key
    ∙ ap (λ l. (b, x) ∷ l) (others_kept d items s x order others)
set_entries d items x n (suc i) b s (e ∷ order) are within lt at =
    ap (λ y. (e.0, y) ∷ entries_of d (set items s x) order) (get_or-set_other items s e.1 x d (other_slot i b s e.1 order are.1 (omega arith) at))
    ∙ ap (λ l. (e.0, get_or items e.1 d) ∷ l) (set_entries d items x n i b s order are.2 within (omega arith) at)

-- one more item after the others
more_at : {A : Type 0} (d : A) (items : List A) (x : A) (k : ℕ) → k < length items → get_or (items ++ x ∷ []) k d ≡ get_or items k d
more_at d [] x k lt = absurd (omega arith)
more_at d (y ∷ items) x zero lt = refl
more_at d (y ∷ items) x (suc k) lt = more_at d items x k (omega arith)

pub entries_more : {A : Type 0} (d : A) (items : List A) (x : A) (n : ℕ) (order : List (ℕ × ℕ)) → AreSlots n order → n ≤ length items
    → entries_of d (items ++ x ∷ []) order ≡ entries_of d items order
entries_more d items x n [] are within = refl
entries_more d items x n (e ∷ order) are within =
    ap (λ y. (e.0, y) ∷ entries_of d (items ++ x ∷ []) order) (more_at d items x e.1 (omega (arith, are.0)))
    ∙ ap (λ l. (e.0, get_or items e.1 d) ∷ l) (entries_more d items x n order are.2 within)

-- one more key at its place
pub entries_insert : {A : Type 0} (d : A) (items : List A) (i : ℕ) (order : List (ℕ × ℕ)) (e : ℕ × ℕ)
    → entries_of d items (take i order ++ e ∷ drop i order) ≡ take i (entries_of d items order) ++ (e.0, get_or items e.1 d) ∷ drop i (entries_of d items order)
entries_insert d items zero order e = refl
entries_insert d items (suc i) [] e = refl
entries_insert d items (suc i) (x ∷ order) e = ap (λ l. (x.0, get_or items x.1 d) ∷ l) (entries_insert d items i order e)

slots_more : (n : ℕ) (order : List (ℕ × ℕ)) → AreSlots n order → AreSlots (n + 1) order
slots_more n [] are = tt
slots_more n (e ∷ order) are = (omega (arith, are.0), are.1, slots_more n order are.2)

none_is : (n : ℕ) (order : List (ℕ × ℕ)) → AreSlots n order → AllByRecursion (λ f. f.1 ≢ n) order
none_is n [] are = tt
none_is n (e ∷ order) are = ((λ same. omega (arith, same, are.0)), none_is n order are.2)

others_insert : (t i : ℕ) (order : List (ℕ × ℕ)) (e : ℕ × ℕ) → AllByRecursion (λ f. f.1 ≢ t) order → e.1 ≢ t
    → AllByRecursion (λ f. f.1 ≢ t) (take i order ++ e ∷ drop i order)
others_insert t zero order e others other = (other, others)
others_insert t (suc i) [] e others other = (other, tt)
others_insert t (suc i) (x ∷ order) e others other = (others.0, others_insert t i order e others.1 other)

pub slots_insert : (n i b : ℕ) (order : List (ℕ × ℕ)) → AreSlots n order → AreSlots (n + 1) (take i order ++ (b, n) ∷ drop i order)
slots_insert n zero b order are = (omega arith, none_is n order are, slots_more n order are)
slots_insert n (suc i) b [] are = (omega arith, tt, tt)
slots_insert n (suc i) b (e ∷ order) are =
    (omega (arith, are.0), others_insert e.1 i order (b, n) are.1 (λ same. omega (arith, same, are.0)), slots_insert n i b order are.2)

-- the slots that are cleared, and those after them, set no value
pub blank_at : {A : Type 0} (d z : A) (items : List A) (n : ℕ) (order : List (ℕ × ℕ)) → AreSlots n order → ((k : ℕ) → k < n → get_or items k d ≡ z)
    → (k : ℕ) → (x : ℕ × A) → k < length (entries_of d items order) → (get_or (entries_of d items order) k x).1 ≡ z
blank_at d z items n [] are all k x lt = absurd (omega arith)
blank_at d z items n (e ∷ order) are all zero x lt = all e.1 are.0
blank_at d z items n (e ∷ order) are all (suc k) x lt = blank_at d z items n order are.2 all k x (omega arith)

-- as many entries as before, and one
pub length_insert : (i : ℕ) (order : List (ℕ × ℕ)) (e : ℕ × ℕ) → length (take i order ++ e ∷ drop i order) ≡ length order + 1
length_insert zero order e = omega arith
length_insert (suc i) [] e = refl
length_insert (suc i) (x ∷ order) e = let rest = length_insert i order e in omega (arith, rest)

pub slots_inside : (n m : ℕ) (order : List (ℕ × ℕ)) → AreSlots n order → n ≤ m → AllByRecursion (λ e. e.1 < m) order
slots_inside n m [] are le = tt
slots_inside n m (e ∷ order) are le = (omega (arith, are.0), slots_inside n m order are.2 le)

-- what holds of all holds at each place, and back
pub all_there : {A : Type 0} (P : A → Type 0) (i : ℕ) (xs : List A) (d : A) → AllByRecursion P xs → i < length xs → P (get_or xs i d)
all_there P i [] d all lt = absurd (omega arith)
all_there P zero (x ∷ xs) d all lt = all.0
all_there P (suc i) (x ∷ xs) d all lt = all_there P i xs d all.1 (omega arith)

pub all_from : {A : Type 0} (P : A → Type 0) (xs : List A) (d : A) → ((i : ℕ) → i < length xs → P (get_or xs i d)) → AllByRecursion P xs
all_from P [] d each = tt
all_from P (x ∷ xs) d each = (each 0 (omega arith), all_from P xs d (λ i lt. each (suc i) (omega arith)))
