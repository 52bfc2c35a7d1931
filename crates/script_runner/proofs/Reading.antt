-- What was read of a source.
use Rattle.script_runner.proofs.ScriptWords.{◌≡◌, ◌≤◌, ◌<◌, refl, ℕ, Bool, true, false, List, ◌++◌, Option, Some, None, IfSome, length, length-append, take, nat_le, nat_lt, sym, ap, subst, ◌∙◌, arith, le-leb, nat_tests, take-append-le, prepend_known, MetEnd, SourceState, Took, MAX_INPUT, Script, script, script_from, pieces, ScriptError, IsWhyOf, HasNoLines}
use Rattle.script_runner.specs.declared.lines.ScriptError.TheVariants as error

-- bytes after as many as are read say nothing
script_same : (bytes more : List ℕ) → length bytes ≡ MAX_INPUT → script (bytes ++ more) ≡ script bytes
unfolding script
script_same bytes more full =
    let one : nat_le MAX_INPUT (length (bytes ++ more)) ≡ true = le-leb MAX_INPUT (length (bytes ++ more)) (omega (arith, length-append bytes more)) in
    let other : nat_le MAX_INPUT (length bytes) ≡ true = le-leb MAX_INPUT (length bytes) (omega arith) in
    let front : take MAX_INPUT (bytes ++ more) ≡ take MAX_INPUT bytes = take-append-le MAX_INPUT bytes more (omega arith) in
    ap (λ (cut : Bool). script_from cut 1 (pieces 10 (take MAX_INPUT (bytes ++ more)))) (one ∙ sym other)
    ∙ ap (λ (xs : List ℕ). script_from (nat_le MAX_INPUT (length bytes)) 1 (pieces 10 xs)) front

some_on : (o : Option (List ℕ)) (P Q : List ℕ → Type 0) → IfSome o P → ((x : List ℕ) → P x → Q x) → IfSome o Q
some_on None P Q some on = tt
some_on (Some x) P Q some on = on x some

behind_all : (o : Option (List ℕ)) (bytes : List ℕ) (P : Script → Type 0) → length bytes ≡ MAX_INPUT → P (script bytes) → IfSome (prepend_known bytes o) (λ all. P (script all))
behind_all None bytes P full here = tt
behind_all (Some more) bytes P full here = subst P (sym (script_same bytes more full)) here

-- what holds of the script of the bytes taken holds of that of the whole input
told_of : (old new : SourceState) (bytes : List ℕ) → Took old new bytes → length bytes ≤ MAX_INPUT → (length bytes < MAX_INPUT → MetEnd old new bytes) → (P : Script → Type 0) → P (script bytes)
    → IfSome old.rest (λ all. P (script all))
told_of old new bytes took most ended P here = go (nat_lt (length bytes) MAX_INPUT) refl
  where
    go : (t : Bool) → nat_lt (length bytes) MAX_INPUT ≡ t → IfSome old.rest (λ all. P (script all))
    go true e =
        let few : length bytes < MAX_INPUT = grind (arith, nat_tests) in
        some_on old.rest (λ left. left ≡ bytes) (λ all. P (script all)) (ended few).whole (λ x same. subst (λ (xs : List ℕ). P (script xs)) (sym same) here)
    go false e =
        let full : length bytes ≡ MAX_INPUT = grind (arith, nat_tests) in
        subst (λ (o : Option (List ℕ)). IfSome o (λ all. P (script all))) (sym took) (behind_all new.rest bytes P full here)

-- why no line of the input is run
pub no_lines : (old new : SourceState) (bytes : List ℕ) → Took old new bytes → length bytes ≤ MAX_INPUT → (length bytes < MAX_INPUT → MetEnd old new bytes) → new.faults ≡ old.faults
    → (e : ScriptError) → IsWhyOf (script bytes) e → HasNoLines old new e
no_lines old new bytes took most ended passed (error.BadLine bad) why =
    record { bytes = bytes; took = took; bad_is = why; told = told_of old new bytes took most ended (λ S. S.bad ≡ Some bad) why; passed = passed }
no_lines old new bytes took most ended passed error.Input why = absurd why
no_lines old new bytes took most ended passed error.Memory why = passed
