-- The lines of a usual transaction, by the bytes behind their client.
use Rattle.script_text.proofs.{Words.{◌≡◌, ◌≤◌, ◌-◌, ◌∙◌, ℕ, List, [], ◌∷◌, length, take, drop, take_all, None, Ok, refl, ap, sym, arith, Begin, End, Get, operation_of, put_arguments, said_behind, Says, three_numbers, words_of}, Spaces.{words_of-cut, words_of-last}}
use Rattle.std.specs.Prelude.{slice_index_or}
use Rattle.script_text.specs.Parsing.{said_by}

pub says_get : (client : ℕ) (text : List ℕ) → 4 ≤ length text → slice_index_or text 0 0 ≡ 103 → slice_index_or text 1 0 ≡ 101 → slice_index_or text 2 0 ≡ 116 → slice_index_or text 3 0 ≡ 32
    → said_behind client (words_of text) ≡ said_by client (three_numbers Get (words_of (take (length text - 4) (drop 4 text))))
unfolding operation_of
says_get client [] long g e t space = absurd (omega (arith, long))
says_get client (a ∷ []) long g e t space = absurd (omega (arith, long))
says_get client (a ∷ b ∷ []) long g e t space = absurd (omega (arith, long))
says_get client (a ∷ b ∷ c ∷ []) long g e t space = absurd (omega (arith, long))
says_get client (a ∷ b ∷ c ∷ d ∷ rest) long g e t space =
    (λ i. said_behind client (words_of (g i ∷ e i ∷ t i ∷ space i ∷ rest)))
    ∙ ap (said_behind client) (words_of-cut (103 ∷ 101 ∷ 116 ∷ []) rest refl)
    ∙ ap (λ (l : List ℕ). said_by client (three_numbers Get (words_of l))) (sym (take_all (length (a ∷ b ∷ c ∷ d ∷ rest) - 4) rest (omega arith)))

pub says_put : (client : ℕ) (text : List ℕ) → 4 ≤ length text → slice_index_or text 0 0 ≡ 112 → slice_index_or text 1 0 ≡ 117 → slice_index_or text 2 0 ≡ 116 → slice_index_or text 3 0 ≡ 32
    → said_behind client (words_of text) ≡ said_by client (put_arguments (words_of (take (length text - 4) (drop 4 text))))
unfolding operation_of
says_put client [] long p u t space = absurd (omega (arith, long))
says_put client (a ∷ []) long p u t space = absurd (omega (arith, long))
says_put client (a ∷ b ∷ []) long p u t space = absurd (omega (arith, long))
says_put client (a ∷ b ∷ c ∷ []) long p u t space = absurd (omega (arith, long))
says_put client (a ∷ b ∷ c ∷ d ∷ rest) long p u t space =
    (λ i. said_behind client (words_of (p i ∷ u i ∷ t i ∷ space i ∷ rest)))
    ∙ ap (said_behind client) (words_of-cut (112 ∷ 117 ∷ 116 ∷ []) rest refl)
    ∙ ap (λ (l : List ℕ). said_by client (put_arguments (words_of l))) (sym (take_all (length (a ∷ b ∷ c ∷ d ∷ rest) - 4) rest (omega arith)))

pub says_begin : (client : ℕ) (text : List ℕ) → length text ≡ 5 → slice_index_or text 0 0 ≡ 98 → slice_index_or text 1 0 ≡ 101 → slice_index_or text 2 0 ≡ 103 → slice_index_or text 3 0 ≡ 105
    → slice_index_or text 4 0 ≡ 110 → said_behind client (words_of text) ≡ Ok (Says (record { client = client; op = Begin None }))
unfolding operation_of words_of
says_begin client [] long b e g i n = absurd (omega (arith, long))
says_begin client (u ∷ []) long b e g i n = absurd (omega (arith, long))
says_begin client (u ∷ v ∷ []) long b e g i n = absurd (omega (arith, long))
says_begin client (u ∷ v ∷ w ∷ []) long b e g i n = absurd (omega (arith, long))
says_begin client (u ∷ v ∷ w ∷ x ∷ []) long b e g i n = absurd (omega (arith, long))
says_begin client (u ∷ v ∷ w ∷ x ∷ y ∷ []) long b e g i n =
    (λ k. said_behind client (words_of (b k ∷ e k ∷ g k ∷ i k ∷ n k ∷ [])))
    ∙ ap (said_behind client) (words_of-last (98 ∷ 101 ∷ 103 ∷ 105 ∷ 110 ∷ []) refl)
says_begin client (u ∷ v ∷ w ∷ x ∷ y ∷ z ∷ rest) long b e g i n = absurd (omega (arith, long))

pub says_end : (client : ℕ) (text : List ℕ) → length text ≡ 3 → slice_index_or text 0 0 ≡ 101 → slice_index_or text 1 0 ≡ 110 → slice_index_or text 2 0 ≡ 100
    → said_behind client (words_of text) ≡ Ok (Says (record { client = client; op = End }))
unfolding operation_of words_of
says_end client [] long e n d = absurd (omega (arith, long))
says_end client (u ∷ []) long e n d = absurd (omega (arith, long))
says_end client (u ∷ v ∷ []) long e n d = absurd (omega (arith, long))
says_end client (u ∷ v ∷ w ∷ []) long e n d =
    (λ k. said_behind client (words_of (e k ∷ n k ∷ d k ∷ [])))
    ∙ ap (said_behind client) (words_of-last (101 ∷ 110 ∷ 100 ∷ []) refl)
says_end client (u ∷ v ∷ w ∷ x ∷ rest) long e n d = absurd (omega (arith, long))
