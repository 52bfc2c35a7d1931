-- A word that is cut off a text.
use Rattle.script_text.proofs.{Words.{◌≡◌, ◌≢◌, ◌≤◌, ◌+◌, drop_more, length-drop, get_or, ◌∙◌, sym, refl, ap, ℕ, ◌<◌, true, List, [], ◌∷◌, ◌++◌, length, take, drop, arith, append-nil, take-append-drop, list_all, words_of, is_no_space, word_before}, Spaces.{words_of-cut, words_of-last}}

pub before_some : (word : List ℕ) (words : List (List ℕ)) → length word ≢ 0 → word_before word words ≡ word ∷ words
before_some [] words some = absurd (some refl)
before_some (b ∷ word) words some = refl

pub before_none : (word : List ℕ) (words : List (List ℕ)) → length word ≡ 0 → word_before word words ≡ words
before_none [] words none = refl
before_none (b ∷ word) words none = absurd (omega (arith, none))

-- a text without a byte has no word
pub none_of : (text : List ℕ) → length text ≡ 0 → words_of text ≡ []
unfolding words_of
none_of [] none = refl
none_of (b ∷ text) none = absurd (omega (arith, none))

split_is : (text word behind : List ℕ) (n : ℕ) → word ≡ take n text → behind ≡ drop n text → text ≡ word ++ behind
split_is text word behind n front back = sym (take-append-drop n text) ∙ (λ i. sym front i ++ sym back i)

-- a word and what follows the space at a place, where no byte before it is a space
pub cut_at : (text word behind more : List ℕ) (at : ℕ) → at < length text → get_or text at 0 ≡ 32 → word ≡ take at text → behind ≡ drop at text → more ≡ drop 1 behind
    → list_all is_no_space (take at text) ≡ true → words_of text ≡ word_before word (words_of more)
cut_at text word behind more at inside space front back left all =
    let after : behind ≡ 32 ∷ drop (at + 1) text = back ∙ drop_more text at 0 inside ∙ ap (λ (b : ℕ). b ∷ drop (at + 1) text) space in
    let rest : behind ≡ 32 ∷ more = after ∙ ap (λ (l : List ℕ). 32 ∷ l) (sym (left ∙ ap (drop 1) after)) in
    ap words_of (split_is text word behind at front back ∙ ap (λ (l : List ℕ). word ++ l) rest) ∙ words_of-cut word more (ap (list_all is_no_space) front ∙ all)

-- and where none is
pub cut_end : (text word behind : List ℕ) (at : ℕ) → length text ≤ at → word ≡ take at text → behind ≡ drop at text → list_all is_no_space (take at text) ≡ true
    → words_of text ≡ word_before word (words_of behind)
cut_end text word behind at over front back all =
    let none = length_nil behind (omega (arith, ap length back, length-drop at text, over)) in
    ap words_of (split_is text word behind at front back ∙ ap (λ (l : List ℕ). word ++ l) none ∙ append-nil word)
    ∙ words_of-last word (ap (list_all is_no_space) front ∙ all) ∙ ap (λ (l : List ℕ). word_before word (words_of l)) (sym none)
  where
    length_nil : (behind : List ℕ) → length behind ≡ 0 → behind ≡ []
    length_nil [] none = refl
    length_nil (b ∷ behind) none = absurd (omega (arith, none))
