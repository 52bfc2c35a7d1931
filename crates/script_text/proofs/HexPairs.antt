-- Pairs of hexadecimal digits, read one after the other.
use Rattle.script_text.proofs.Words.{◌≡◌, ℕ, ◌+◌, ◌*◌, ◌<◌, ◌≢◌, ◌≤◌, Bool, true, false, List, [], ◌∷◌, ◌++◌, length, take, drop, slice_index, slice_set, Option, Some, None, refl, ap, sym, ◌∙◌, arith, IfSome, if◌then◌else◌, ok_or, is_some, append-nil, drop_all, drop_more, take_all, take_more_set, hex_argument, hex_digit, hex_pair, hex_pairs, hex_of}
use Rattle.std.{specs.Prelude.◌&&◌, proofs.lemmas.List.append_assoc}

-- what is known of the bytes once those before a place are read, where each digit before it was one
abbrev pub read_on : (good : Bool) (front : List ℕ) → Option (List ℕ) → Option (List ℕ)
read_on true front (Some rest) = Some (front ++ rest)
read_on true front None = None
read_on false front rest = None

-- the byte of two digits, where both are
abbrev pub IsPairOf : Option ℕ → Option ℕ → ℕ → Type 0
IsPairOf (Some high) (Some low) v = v ≡ 16 * high + low
IsPairOf (Some high) None v = Unit {0}
IsPairOf None y v = Unit {0}

pub is_pair : (x y : Option ℕ) (h l : ℕ) → IfSome x (λ high. h ≡ high) → IfSome y (λ low. l ≡ low) → IsPairOf x y (16 * h + l)
is_pair (Some high) (Some low) h l e f = ap (λ (n : ℕ). 16 * n + l) e ∙ ap (λ (n : ℕ). 16 * high + n) f
is_pair (Some high) None h l e f = tt
is_pair None y h l e f = tt

-- a pair more is read
read_pair : (good : Bool) (front : List ℕ) (x y : Option ℕ) (v : ℕ) (rest : Option (List ℕ)) → IsPairOf x y v
    → read_on good front (hex_pair x y rest) ≡ read_on (good && (is_some x && is_some y)) (front ++ v ∷ []) rest
read_pair true front (Some high) (Some low) v (Some rest) is =
    ap Some (ap (λ (n : ℕ). front ++ n ∷ rest) (sym is) ∙ sym (append_assoc front (v ∷ []) rest))
read_pair true front (Some high) (Some low) v None is = refl
read_pair true front (Some high) None v rest is = refl
read_pair true front None y v rest is = refl
read_pair false front x y v rest is = refl

-- the digits from a place on
pairs_at : (word : List ℕ) (at : ℕ) → 2 * at + 1 < length word
    → hex_pairs (drop (2 * at) word) ≡ hex_pair (hex_digit (slice_index word (2 * at))) (hex_digit (slice_index word (2 * at + 1))) (hex_pairs (drop (2 * (at + 1)) word))
pairs_at word at within =
    let next : 2 * (at + 1) ≡ 2 * at + 1 + 1 = omega arith in
    let high = drop_more word (2 * at) 0 (omega arith) in
    let low = drop_more word (2 * at + 1) 0 within in
    rw (high, low, next) refl

-- the pair at a place is read
pub read_at : (word room : List ℕ) (good : Bool) (at v : ℕ) → 2 * at + 1 < length word → at < length room
    → IsPairOf (hex_digit (slice_index word (2 * at))) (hex_digit (slice_index word (2 * at + 1))) v
    → hex_pairs word ≡ read_on good (take at room) (hex_pairs (drop (2 * at) word))
    → hex_pairs word ≡ read_on (good && (is_some (hex_digit (slice_index word (2 * at))) && is_some (hex_digit (slice_index word (2 * at + 1))))) (take (at + 1) (slice_set room at v)) (hex_pairs (drop (2 * (at + 1)) word))
read_at word room good at v within fits is so =
    let high = hex_digit (slice_index word (2 * at)) in
    let low = hex_digit (slice_index word (2 * at + 1)) in
    so
    ∙ ap (read_on good (take at room)) (pairs_at word at within)
    ∙ read_pair good (take at room) high low v _ is
    ∙ ap (λ front. read_on (good && (is_some high && is_some low)) front (hex_pairs (drop (2 * (at + 1)) word))) (sym (take_more_set room at v fits))

read_empty : (good : Bool) (bytes : List ℕ) → read_on good bytes (hex_pairs []) ≡ if good then Some bytes else None
read_empty true bytes = ap Some (append-nil bytes)
read_empty false bytes = refl

-- all pairs are read
pub read_all : (word room : List ℕ) (good : Bool) (at : ℕ) → length word ≡ 2 * length room → length room ≤ at
    → hex_pairs word ≡ read_on good (take at room) (hex_pairs (drop (2 * at) word)) → hex_pairs word ≡ if good then Some room else None
read_all word room good at twice all so =
    so
    ∙ ap (read_on good (take at room)) (ap hex_pairs (drop_all (2 * at) word (omega arith)))
    ∙ ap (λ front. read_on good front (hex_pairs [])) (take_all at room all)
    ∙ read_empty good room

-- a word with a byte is read as its pairs are
pub argument_is : (word : List ℕ) → length word ≢ 0 → hex_argument word ≡ ok_or (hex_pairs word) 5
unfolding hex_of
argument_is [] some = absurd (some refl)
argument_is (b ∷ word) some = refl

-- before the first pair
pub read_none : (rest : Option (List ℕ)) → rest ≡ read_on true [] rest
read_none (Some rest) = refl
read_none None = refl
