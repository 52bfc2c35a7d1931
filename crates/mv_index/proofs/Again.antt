-- Versions that are trimmed again, at a later number, and versions that come after.
use Rattle.mv_index.proofs.{Words.{◌≡◌, ◌∙◌, sym, refl, ap, ℕ, zero, suc, ◌+◌, ◌-◌, ◌<◌, ◌≤◌, Bool, true, false, ◌&&◌, ◌||◌, not, cond, nat_le, nat_lt, List, [], ◌∷◌, ◌++◌, length, get_or, arith, AllByRecursion, list_any, range_with_len, and_parts, leb-true, ltb-true, le-leb, lt-leb, list_any_at, list_any-append, length-range_with_len, get_or-range_with_len, Version, has, hides, shown_since, still_shows, or-true, or-false}, Gathers.any_same}

pub or_parts : (a b : Bool) → (a || b) ≡ false → (a ≡ false) × (b ≡ false)
or_parts true b is = cc
or_parts false b is = (refl, is)

not_not : (b : Bool) → (not b ≡ true → ⊥) → b ≡ true
not_not b wrong = grind arith

-- each byte of a hidden version is hidden
pub hidden_at : (t : ℕ) (v : Version) (versions : List Version) (p : ℕ) → list_any (λ p. not (hides t p versions)) (range_with_len v.off v.len) ≡ false → has p v ≡ true → hides t p versions ≡ true
hidden_at t v versions p none is =
    let both = and_parts (nat_le v.off p) (nat_lt p (v.off + v.len)) is in
    let from : v.off ≤ p = leb-true v.off p both.0 in
    let to : p < v.off + v.len = ltb-true p (v.off + v.len) both.1 in
    let there : p - v.off < length (range_with_len v.off v.len) = omega (arith, length-range_with_len v.off v.len) in
    let at : get_or (range_with_len v.off v.len) (p - v.off) 0 ≡ p = get_or-range_with_len v.off v.len (p - v.off) 0 (omega arith) ∙ omega arith in
    not_not (hides t p versions) (λ shown.
    let found = list_any_at (λ (p' : ℕ). not (hides t p' versions)) (range_with_len v.off v.len) (p - v.off) 0 there (ap (λ (p' : ℕ). not (hides t p' versions)) at ∙ shown) in
    let wrong : true ≡ false = sym found ∙ none in
    cc)

-- what is hidden at t is hidden at a later number
hides_step : (t later p : ℕ) (v : Version) (versions : List Version) → t ≤ later → (hides t p versions ≡ true → hides later p versions ≡ true) → (here : Bool) → (nat_le v.number t && has p v) ≡ here → (here || hides t p versions) ≡ true → hides later p (v ∷ versions) ≡ true
hides_step t later p v versions le rest true here_is hidden = grind arith
hides_step t later p v versions le rest false here_is hidden = ap (λ (b : Bool). (nat_le v.number later && has p v) || b) (rest hidden) ∙ or-true (nat_le v.number later && has p v)

pub hides_later : (t later p : ℕ) (versions : List Version) → t ≤ later → hides t p versions ≡ true → hides later p versions ≡ true
hides_later t later p [] le hidden = cc
hides_later t later p (v ∷ versions) le hidden = hides_step t later p v versions le (hides_later t later p versions le) (nat_le v.number t && has p v) refl hidden

-- a hidden version hides nothing more
absorbed : (here rest : Bool) → (here ≡ true → rest ≡ true) → rest ≡ (here || rest)
absorbed here rest hid = grind arith

hides_cond : (t later p : ℕ) (v : Version) (versions : List Version) → t ≤ later → hides later p (shown_since t versions) ≡ hides later p versions → (shows : Bool) → still_shows t v versions ≡ shows
    → hides later p (cond shows (v ∷ shown_since t versions) (shown_since t versions)) ≡ hides later p (v ∷ versions)
hides_cond t later p v versions le same true is = ap (λ (b : Bool). (nat_le v.number later && has p v) || b) same
hides_cond t later p v versions le same false is =
    let parts = or_parts (nat_lt t v.number) (list_any (λ p. not (hides t p versions)) (range_with_len v.off v.len)) is in
    same ∙ absorbed (nat_le v.number later && has p v) (hides later p versions) (λ here.
    hides_later t later p versions le (hidden_at t v versions p parts.1 (and_parts (nat_le v.number later) (has p v) here).1))

-- the same bytes are hidden without the hidden versions
pub hides_shown : (t later p : ℕ) (versions : List Version) → t ≤ later → hides later p (shown_since t versions) ≡ hides later p versions
hides_shown t later p [] le = refl
hides_shown t later p (v ∷ versions) le = hides_cond t later p v versions le (hides_shown t later p versions le) (still_shows t v versions) refl

any_none : (t later : ℕ) (versions : List Version) → t ≤ later → (off len : ℕ) → list_any (λ p. not (hides t p versions)) (range_with_len off len) ≡ false → list_any (λ p. not (hides later p versions)) (range_with_len off len) ≡ false
any_none t later versions le off zero none = refl
any_none t later versions le off (suc len) none =
    let parts = or_parts (not (hides t off versions)) (list_any (λ p. not (hides t p versions)) (range_with_len (off + 1) len)) none in
    let first : hides later off versions ≡ true = hides_later t later off versions le (not_not (hides t off versions) (λ is. let wrong : true ≡ false = sym is ∙ parts.0 in cc)) in
    λ i. not (first i) || any_none t later versions le (off + 1) len parts.1 i

-- what the later trim says of a version
shows_again : (t later : ℕ) (v : Version) (versions : List Version) → t ≤ later → still_shows later v (shown_since t versions) ≡ still_shows later v versions
shows_again t later v versions le = grind (arith, any_same, not, hides_shown)

again_cond : (t later : ℕ) (v : Version) (versions : List Version) → t ≤ later → shown_since later (shown_since t versions) ≡ shown_since later versions → (shows : Bool) → still_shows t v versions ≡ shows
    → shown_since later (cond shows (v ∷ shown_since t versions) (shown_since t versions)) ≡ shown_since later (v ∷ versions)
again_cond t later v versions le same true is = grind (arith, shows_again)
again_cond t later v versions le same false is = grind (arith, or_parts, not, any_none)

-- A trim at t and then at a later number is the later trim.
pub shown_again : (t later : ℕ) (versions : List Version) → t ≤ later → shown_since later (shown_since t versions) ≡ shown_since later versions
shown_again t later [] le = refl
shown_again t later (v ∷ versions) le = again_cond t later v versions le (shown_again t later versions le) (still_shows t v versions) refl

-- versions above t are kept
pub above_stay : (t : ℕ) (more : List Version) → AllByRecursion (λ v. t < v.number) more → shown_since t more ≡ more
above_stay t [] all = refl
above_stay t (v ∷ more) all =
    let over : nat_lt t v.number ≡ true = le-leb (suc t) v.number all.0 in
    ap (λ (b : Bool). cond (b || list_any (λ p. not (hides t p more)) (range_with_len v.off v.len)) (v ∷ shown_since t more) (shown_since t more)) over
    ∙ ap (λ (l : List Version). v ∷ l) (above_stay t more all.1)

above_none : (t p : ℕ) (more : List Version) → AllByRecursion (λ v. t < v.number) more → hides t p more ≡ false
above_none t p [] all = refl
above_none t p (v ∷ more) all =
    let over : nat_le v.number t ≡ false = lt-leb v.number t all.0 in
    λ i. (over i && has p v) || above_none t p more all.1 i

hides_before : (t p : ℕ) (versions more : List Version) → AllByRecursion (λ v. t < v.number) more → hides t p (versions ++ more) ≡ hides t p versions
hides_before t p versions more all = grind (arith, list_any-append, above_none, or-false)

push_cond : (v : Version) (xs more : List Version) (b : Bool) → cond b (v ∷ (xs ++ more)) (xs ++ more) ≡ cond b (v ∷ xs) xs ++ more
push_cond v xs more b = grind arith

-- Versions above t come after those that still show.
pub shown_more : (t : ℕ) (versions more : List Version) → AllByRecursion (λ v. t < v.number) more → shown_since t (versions ++ more) ≡ shown_since t versions ++ more
shown_more t [] more all = above_stay t more all
shown_more t (v ∷ versions) more all =
    let shows : still_shows t v (versions ++ more) ≡ still_shows t v versions =
    ap (λ (b : Bool). nat_lt t v.number || b) (any_same (λ p. not (hides t p (versions ++ more))) (λ p. not (hides t p versions)) v.off v.len (λ p from to. ap not (hides_before t p versions more all))) in
    (λ i. cond (shows i) (v ∷ shown_more t versions more all i) (shown_more t versions more all i)) ∙ push_cond v (shown_since t versions) more (still_shows t v versions)
