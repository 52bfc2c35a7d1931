-- The lines of a text, from its front on.
use Rattle.script_runner.proofs.Words.{◌≡◌, ◌≢◌, ℕ, Bool, cond, List, [], ◌∷◌, ◌++◌, refl, ap, append-nil, inl, inr, ⊎_elim, sym, ◌∙◌, ◌<◌, get_or, arith, subst, eqb_tells, Contains-append_right, Contains-append_cases, Contains, pieces, before_piece, in_front, HasNoFeed}

-- that some list of pieces has a first one
pub record HasFirst (all : List (List ℕ)) : Type 0 where
  pub piece : List ℕ
  pub more : List (List ℕ)
  pub is : all ≡ piece ∷ more

before_piece-first : (b : ℕ) (all : List (List ℕ)) → HasFirst (before_piece b all)
before_piece-first b all = grind arith

first_of_either : (b : Bool) (xs ys : List (List ℕ)) → HasFirst xs → HasFirst ys → HasFirst (cond b xs ys)
first_of_either b xs ys h k = grind arith

-- there is always a piece
pub pieces-first : (s : ℕ) (text : List ℕ) → HasFirst (pieces s text)
pieces-first s [] = record { piece = []; more = []; is = refl }
pieces-first s (b ∷ text) = grind (arith, first_of_either, before_piece-first)

in_front-nothing : (all : List (List ℕ)) → HasFirst all → all ≡ in_front [] all
in_front-nothing all h = grind arith

before-front : (b : ℕ) (text : List ℕ) (all : List (List ℕ)) → before_piece b (in_front text all) ≡ in_front (b ∷ text) all
before-front b text all = grind arith

-- a byte that is no separator is in front of the first piece
pieces-other : (b : ℕ) (text : List ℕ) → b ≢ 10 → pieces 10 (b ∷ text) ≡ before_piece b (pieces 10 text)
pieces-other b text other = elim (eqb_tells b 10) [ inl same ↦ absurd (other same.1) | inr test ↦ rw test.0 refl ]

pub no_feed-nil : HasNoFeed []
no_feed-nil there = let lt : there.0 < 0 = there.1 in omega arith

pub no_feed-append : (xs ys : List ℕ) → HasNoFeed xs → HasNoFeed ys → HasNoFeed (xs ++ ys)
no_feed-append xs ys first second there = ⊎_elim first second (Contains-append_cases xs ys 10 there)

-- one more byte in front
pub no_feed-cons : (b : ℕ) (text : List ℕ) → b ≢ 10 → HasNoFeed text → HasNoFeed (b ∷ text)
no_feed-cons b text other none there = ⊎_elim (λ at. other (head at)) none (Contains-append_cases (b ∷ []) text 10 there)
  where
    head : Contains (b ∷ []) 10 → b ≡ 10
    head at =
        let lt : at.0 < 1 = at.1 in
        let zero : at.0 ≡ 0 = omega arith in
        subst (λ k. get_or (b ∷ []) k 10 ≡ 10) zero at.2

-- bytes without a line feed stand in front of the first piece of what follows
pub pieces_of : (bytes : List ℕ) → HasNoFeed bytes → (more : List ℕ) → pieces 10 (bytes ++ more) ≡ in_front bytes (pieces 10 more)
pieces_of [] none more = in_front-nothing (pieces 10 more) (pieces-first 10 more)
pieces_of (b ∷ text) none more =
    let other : b ≢ 10 = λ e. none (0, omega arith, e) in
    pieces-other b (text ++ more) other ∙ ap (before_piece b) (pieces_of text (λ there. none (Contains-append_right (b ∷ []) text 10 there)) more)
    ∙ before-front b text (pieces 10 more)

-- bytes without a line feed are one piece
pub one_piece : (bytes : List ℕ) → HasNoFeed bytes → pieces 10 bytes ≡ bytes ∷ []
one_piece bytes none = ap (pieces 10) (sym (append-nil bytes)) ∙ pieces_of bytes none [] ∙ ap (λ (p : List ℕ). p ∷ []) (append-nil bytes)

-- a line and its line feed
pub feed : (line more : List ℕ) → HasNoFeed line → pieces 10 (line ++ 10 ∷ more) ≡ line ∷ pieces 10 more
feed line more none = pieces_of line none (10 ∷ more) ∙ ap (λ p. p ∷ pieces 10 more) (append-nil line)
