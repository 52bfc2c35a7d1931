-- The lines of a whole script.
use Rattle.script_runner.proofs.{ScriptWords.{◌≡◌, ◌≤◌, ◌+◌, ℕ, Bool, List, [], ◌∷◌, ◌++◌, None, Result, Ok, Err, refl, sym, ap, ◌∙◌, subst, length, nat_le, take, append_assoc, take_all, MAX_INPUT, Line, LineError, Parsed, Script, before_script, last_piece, parse_whole, script, script_from, pieces, Gives, SaysFirst, behind, HasNoFeed, one_piece, says-more, script-line, ScriptError, Adds, IsWhyOf, Stops}, LastPieces.stops}
use Rattle.script_runner.specs.declared.lines.ScriptError.TheVariants as error

-- the script of an input that is not too long
pub script_is : (bytes : List ℕ) (cut : Bool) → length bytes ≤ MAX_INPUT → nat_le MAX_INPUT (length bytes) ≡ cut → script bytes ≡ script_from cut 1 (pieces 10 bytes)
unfolding script
script_is bytes cut short is =
    ap (λ (b : Bool). script_from b 1 (pieces 10 (take MAX_INPUT bytes))) is ∙ ap (λ (xs : List ℕ). script_from cut 1 (pieces 10 xs)) (take_all MAX_INPUT bytes short)

-- Of these bytes, those in front say these lines, and the rest follows.
pub record AreFirst (bytes rest : List ℕ) (number : ℕ) (lines : List (ℕ × Line)) : Type 0 where
  pub taken : List ℕ
  pub split : bytes ≡ taken ++ rest
  pub says : SaysFirst taken number lines

pub none_first : (bytes : List ℕ) → AreFirst bytes bytes 1 []
none_first bytes = record { taken = []; split = refl; says = λ cut more. refl }

-- the rest, after them
pub rest_script : (bytes rest : List ℕ) (number : ℕ) (lines : List (ℕ × Line)) (cut : Bool) → AreFirst bytes rest number lines
    → script_from cut 1 (pieces 10 bytes) ≡ behind lines (script_from cut number (pieces 10 rest))
rest_script bytes rest number lines cut first = ap (λ (xs : List ℕ). script_from cut 1 (pieces 10 xs)) first.split ∙ first.says cut rest

-- a line, its line feed and the rest
pub line_script : (bytes rest line next : List ℕ) (number : ℕ) (lines : List (ℕ × Line)) (cut : Bool) → AreFirst bytes rest number lines → rest ≡ line ++ 10 ∷ next → HasNoFeed line
    → script_from cut 1 (pieces 10 bytes) ≡ behind lines (before_script number (parse_whole line) (script_from cut (number + 1) (pieces 10 next)))
line_script bytes rest line next number lines cut first split none =
    rest_script bytes rest number lines cut first
    ∙ ap (λ (xs : List ℕ). behind lines (script_from cut number (pieces 10 xs))) split
    ∙ ap (behind lines) (script-line cut number line next none)

pub bad_in : (bytes rest line next : List ℕ) (number : ℕ) (lines : List (ℕ × Line)) (cut : Bool) → AreFirst bytes rest number lines → rest ≡ line ++ 10 ∷ next → HasNoFeed line
    → (parsed : Result Parsed LineError) (e : ScriptError) → Gives parsed (parse_whole line) → Stops number parsed e → IsWhyOf (script_from cut 1 (pieces 10 bytes)) e
bad_in bytes rest line next number lines cut first split none parsed e given stop =
    subst (λ (S : Script). IsWhyOf S e) (sym (line_script bytes rest line next number lines cut first split none))
    (stops number parsed (parse_whole line) lines (script_from cut (number + 1) (pieces 10 next)) e given stop)

-- one line more
pub first_more : (bytes rest line next : List ℕ) (number : ℕ) (old new : List (ℕ × Line)) → AreFirst bytes rest number old → rest ≡ line ++ 10 ∷ next → HasNoFeed line
    → (parsed : Result Parsed LineError) → Gives parsed (parse_whole line) → Adds number parsed old new → AreFirst bytes next (number + 1) new
first_more bytes rest line next number old new first split none (Ok p) given adds = record {
  taken = first.taken ++ (line ++ 10 ∷ []);
  split = first.split ∙ ap (λ (xs : List ℕ). first.taken ++ xs) split ∙ moved first.taken line next;
  says = subst (SaysFirst (first.taken ++ (line ++ 10 ∷ [])) (number + 1)) (sym adds) (says-more first.taken line number old p first.says none given);
}
  where
    moved : (xs ys zs : List ℕ) → xs ++ (ys ++ 10 ∷ zs) ≡ (xs ++ (ys ++ 10 ∷ [])) ++ zs
    moved xs ys zs = sym (append_assoc xs (ys ++ 10 ∷ []) zs ∙ ap (λ (ws : List ℕ). xs ++ ws) (append_assoc ys (10 ∷ []) zs))
first_more bytes rest line next number old new first split none (Err e) given adds = absurd adds

last_is : (bytes rest : List ℕ) (number : ℕ) (lines : List (ℕ × Line)) (cut : Bool) → AreFirst bytes rest number lines → HasNoFeed rest
    → script_from cut 1 (pieces 10 bytes) ≡ behind lines (last_piece cut number rest)
last_is bytes rest number lines cut first none = rest_script bytes rest number lines cut first ∙ ap (λ (ps : List (List ℕ)). behind lines (script_from cut number ps)) (one_piece rest none)

-- the last piece, and all is read
pub all_read : (bytes rest : List ℕ) (number : ℕ) (old new added : List (ℕ × Line)) (cut : Bool) → AreFirst bytes rest number old → HasNoFeed rest → new ≡ old ++ added
    → last_piece cut number rest ≡ record { lines = added; bad = None } → script_from cut 1 (pieces 10 bytes) ≡ record { lines = new; bad = None }
all_read bytes rest number old new added cut first none more last =
    last_is bytes rest number old cut first none ∙ ap (behind old) last ∙ ap (λ (xs : List (ℕ × Line)). let s : Script = record { lines = xs; bad = None } in s) (sym more)

why_behind : (lines : List (ℕ × Line)) (S : Script) (e : ScriptError) → IsWhyOf S e → IsWhyOf (behind lines S) e
why_behind lines S (error.BadLine bad) is = is
why_behind lines S error.Input is = is
why_behind lines S error.Memory is = is

pub bad_last : (bytes rest : List ℕ) (number : ℕ) (lines : List (ℕ × Line)) (cut : Bool) → AreFirst bytes rest number lines → HasNoFeed rest
    → (e : ScriptError) → IsWhyOf (last_piece cut number rest) e → IsWhyOf (script_from cut 1 (pieces 10 bytes)) e
bad_last bytes rest number lines cut first none e why =
    subst (λ (S : Script). IsWhyOf S e) (sym (last_is bytes rest number lines cut first none)) (why_behind lines (last_piece cut number rest) e why)
