-- What whole lines say, whatever follows them.
use Rattle.script_runner.proofs.{Words.{◌≡◌, ℕ, ◌+◌, Bool, List, [], ◌∷◌, ◌++◌, Result, Ok, refl, sym, ap, ◌∙◌, append_assoc, Line, Parsed, Script, before_script, parse_whole, script_from, pieces, Gives, SaysFirst, behind, lines_of, HasNoFeed, Skip, Says}, Feeds.{HasFirst, feed, pieces-first}}

pub behind-append : (xs ys : List (ℕ × Line)) (s : Script) → behind xs (behind ys s) ≡ behind (xs ++ ys) s
behind-append xs ys s = ap (λ (lines : List (ℕ × Line)). let t : Script = record { lines = lines; bad = s.bad } in t) (sym (append_assoc xs ys s.lines))

-- before any line
pub says-nothing : SaysFirst [] 1 []
says-nothing cut more = refl

-- the script from a whole line on
pub script-line : (cut : Bool) (number : ℕ) (line more : List ℕ) → HasNoFeed line
    → script_from cut number (pieces 10 (line ++ 10 ∷ more)) ≡ before_script number (parse_whole line) (script_from cut (number + 1) (pieces 10 more))
script-line cut number line more none =
    let first : HasFirst (pieces 10 more) = pieces-first 10 more in
    ap (script_from cut number) (feed line more none) ∙ (rw first.is refl)

-- a line that was parsed
pub before-parsed : (number : ℕ) (parsed : Parsed) (defined : Result Parsed ℕ) (rest : Script) → Gives (Ok parsed) defined
    → before_script number defined rest ≡ behind (lines_of number parsed) rest
before-parsed number Skip defined rest given = ap (λ d. before_script number d rest) given
before-parsed number (Says line) defined rest given = ap (λ d. before_script number d rest) given

-- whole lines and one more
pub says-more : (front line : List ℕ) (number : ℕ) (done : List (ℕ × Line)) (parsed : Parsed) → SaysFirst front number done → HasNoFeed line
    → Gives (Ok parsed) (parse_whole line) → SaysFirst (front ++ (line ++ 10 ∷ [])) (number + 1) (done ++ lines_of number parsed)
says-more front line number done parsed says none given cut more =
    let whole : (front ++ (line ++ 10 ∷ [])) ++ more ≡ front ++ (line ++ 10 ∷ more) =
    append_assoc front (line ++ 10 ∷ []) more ∙ ap (λ xs. front ++ xs) (append_assoc line (10 ∷ []) more) in
    let rest = script_from cut (number + 1) (pieces 10 more) in
    ap (λ xs. script_from cut 1 (pieces 10 xs)) whole ∙ says cut (line ++ 10 ∷ more)
    ∙ ap (behind done) (script-line cut number line more none ∙ before-parsed number parsed (parse_whole line) rest given)
    ∙ behind-append done (lines_of number parsed) rest
