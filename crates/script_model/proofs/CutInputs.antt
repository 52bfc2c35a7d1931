-- An input that is cut has a bad line.
use Rattle.script_model.proofs.Words.{ℕ, ◌+◌, ◌<◌, ◌≤◌, ◌==◌, Bool, true, false, cond, List, Result, Ok, Err, IsSome, length, take, nat_le, arith, leb-false, le-leb, lt-ltb, MAX_INPUT, MAX_LINE, Parsed, Script, bad_line, before_script, last_piece, no_lines, parse, parse_whole, script, script_from, before_piece, is_empty, pieces, Skip, Says}
use Rattle.std.proofs.Common.{◌≡◌, refl, [], ◌∷◌}

-- a line that is too long is bad
long_bad : (number : ℕ) (xs : List ℕ) → nat_le (length xs) MAX_LINE ≡ false → IsSome (cond (is_empty xs) no_lines (before_script number (parse xs) no_lines)).bad
unfolding parse
long_bad number [] e = let above : MAX_LINE < 0 = leb-false 0 MAX_LINE e in absurd (omega arith)
long_bad number (x ∷ xs) e = rw (lt-ltb MAX_LINE (length (x ∷ xs)) (leb-false (length (x ∷ xs)) MAX_LINE e)) cc

-- the last piece of an input that is cut is bad: for that, or for its length
last_bad : (number : ℕ) (piece : List ℕ) → IsSome (last_piece true number piece).bad
last_bad number piece = go (nat_le (length piece) MAX_LINE) refl
  where
    go : (t : Bool) → nat_le (length piece) MAX_LINE ≡ t → IsSome (cond t (bad_line number 9) (cond (is_empty piece) no_lines (before_script number (parse piece) no_lines))).bad
    go true e = cc
    go false e = long_bad number piece e

before_bad : (number : ℕ) (r : Result Parsed ℕ) (rest : Script) → IsSome rest.bad → IsSome (before_script number r rest).bad
before_bad number (Ok Skip) rest bad = bad
before_bad number (Ok (Says line)) rest bad = bad
before_bad number (Err cause) rest bad = cc

from_bad : (number : ℕ) (piece : List ℕ) (more : List (List ℕ)) → IsSome (script_from true number (piece ∷ more)).bad
from_bad number piece [] = last_bad number piece
from_bad number piece (next ∷ more) = before_bad number (parse_whole piece) (script_from true (number + 1) (next ∷ more)) (from_bad (number + 1) next more)

pieces_bad : (number : ℕ) (text : List ℕ) (ps : List (List ℕ)) → pieces 10 text ≡ ps → IsSome (script_from true number ps).bad
pieces_bad number text (piece ∷ more) e = from_bad number piece more
pieces_bad number text [] e = absurd (some text e)
  where
    some : (xs : List ℕ) → pieces 10 xs ≡ [] → ⊥
    some [] e = cc
    some (x ∷ xs) e = both (x == 10) (pieces 10 xs) e
      where
        both : (t : Bool) (ps : List (List ℕ)) → cond t ([] ∷ ps) (before_piece x ps) ≡ [] → ⊥
        both true ps e = cc
        both false [] e = cc
        both false (p ∷ ps) e = cc

-- an input that is cut has a bad line
pub cut_bad : (input : List ℕ) → MAX_INPUT ≤ length input → IsSome (script input).bad
unfolding script
cut_bad input long =
    rw (le-leb MAX_INPUT (length input) long) (pieces_bad 1 (take MAX_INPUT input) (pieces 10 (take MAX_INPUT input)) refl)
