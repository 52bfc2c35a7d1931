-- What a piece of a script says, and what that leaves of the script.
use Rattle.script_runner.proofs.ScriptWords.{◌≡◌, ℕ, Bool, true, false, cond, List, [], ◌∷◌, Some, Result, Ok, Err, refl, sym, ap, subst, length, nat_le, nat_lt, arith, nat_tests, MAX_LINE, Line, LineError, Parsed, Script, bad_line, before_script, last_piece, no_lines, parse, is_empty, Gives, behind, ScriptError, IsWhyOf, Stops}
use Rattle.script_model.specs.declared.script.LineError.TheVariants as line

long_piece : (number : ℕ) (piece : List ℕ) → nat_le (length piece) MAX_LINE ≡ false
    → (cond (is_empty piece) no_lines (before_script number (parse piece) no_lines)).bad ≡ Some (record { line = number; cause = 7 })
unfolding parse
long_piece number [] long = absurd (cc long)
long_piece number (b ∷ piece) long = rw (not_le (length (b ∷ piece)) MAX_LINE long) refl
  where
    not_le : (m n : ℕ) → nat_le m n ≡ false → nat_lt n m ≡ true
    not_le m n e = grind (arith, nat_tests)

-- an input that was cut ends in a bad line
pub cut_bad : (number : ℕ) (piece : List ℕ) → (last_piece true number piece).bad ≡ Some (record { line = number; cause = cond (nat_le (length piece) MAX_LINE) 9 7 })
cut_bad number piece = go (nat_le (length piece) MAX_LINE) refl
  where
    go : (t : Bool) → nat_le (length piece) MAX_LINE ≡ t → (cond t (bad_line number 9) (cond (is_empty piece) no_lines (before_script number (parse piece) no_lines))).bad ≡ Some (record { line = number; cause = cond t 9 7 })
    go true e = refl
    go false e = long_piece number piece e

-- a piece that stops the reading
pub stops : (number : ℕ) (parsed : Result Parsed LineError) (defined : Result Parsed ℕ) (done : List (ℕ × Line)) (rest : Script) (e : ScriptError) → Gives parsed defined → Stops number parsed e
    → IsWhyOf (behind done (before_script number defined rest)) e
stops number (Ok p) defined done rest e given is = subst (IsWhyOf (behind done (before_script number defined rest))) (sym is) tt
stops number (Err (line.Cause cause)) defined done rest e given is =
    subst (IsWhyOf (behind done (before_script number defined rest))) (sym is)
    (ap (λ (d : Result Parsed ℕ). (before_script number d rest).bad) given)
stops number (Err line.Memory) defined done rest e given is = subst (IsWhyOf (behind done (before_script number defined rest))) (sym is) tt
