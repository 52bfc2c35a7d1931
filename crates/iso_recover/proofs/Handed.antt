-- What a call of a disk hands on at an exit, and what a test hands on after the last call.
use Rattle.iso_recover.proofs.Words.{◌≡◌, ◌+◌, ◌==◌, ◌||◌, nat_lt, ℕ, Bool, true, false, List, Option, Some, None, Result, Ok, Err, IfErr, IsErrOf, ap, inl, inr, ◌⊎◌, arith, cond, option_map, subst, Geometry, or_else, header_place, OpenError, Disk, Memory, Damaged, UnknownForm, LAST, half_of, unclean_place, halves_refusal, header_of, BlamesDisk, IsTest}
use Rattle.iso_recover.proofs.Steps.{is_error}

-- a fault of the disk is no want of memory
pub fault_no_memory : (e : OpenError) → e ≡ Disk → e ≡ Memory → ⊥
fault_no_memory e is memory = cc

-- and no test is want of memory
pub test_no_memory : (e : OpenError) → IsTest e → e ≡ Memory → ⊥
test_no_memory e test is = subst IsTest is test

-- a run that blamed nobody, and a test after it
pub blames_test : {T : Type 0} {before now : ℕ} (r : Result T OpenError) → now ≡ before → IfErr r IsTest → BlamesDisk before now r
blames_test (Ok x) same tests = record { later = omega (arith, same); failed = λ is. absurd cc; passed = same; other = tt }
blames_test (Err e) same test = record { later = omega (arith, same); failed = λ is. absurd (subst IsTest (is_error e Disk is) test); passed = tt; other = λ no_fault. same }

-- ---- the halves are refused by tests

abbrev IsTested : Option OpenError → Type 0
IsTested None = Unit {0}
IsTested (Some e) = IsTest e

formed : (either one two : Bool) (found : Option ℕ) (place form : ℕ)
    → IsTested (cond either (or_else (option_map (λ i. Damaged (place + i) 3) found) (cond one (Some (Damaged (place + 8) 8)) (cond two (Some (Damaged (place + 16) 8)) None))) (Some (UnknownForm form)))
formed false one two found place form = tt
formed true one two (Some i) place form = tt
formed true true two None place form = tt
formed true false true None place form = tt
formed true false false None place form = tt

halves_tests : (g : Geometry) (first second : List ℕ) (chosen : Option ℕ) → IsTested (halves_refusal g first second chosen)
halves_tests g first second None = tt
halves_tests g first second (Some half) =
    let header = header_of half first second in
    let h = half_of header in
    formed ((h.form == 1) || (h.form == 2)) (nat_lt LAST h.generation) (nat_lt LAST h.base) (unclean_place header) (header_place g half) h.form

pub halves_test : (g : Geometry) (first second : List ℕ) (chosen : Option ℕ) (e : OpenError) → halves_refusal g first second chosen ≡ Some e → IsTest e
halves_test g first second chosen e is = subst IsTested is (halves_tests g first second chosen)

-- ---- the disk is settled, or it is blamed

pub settled_err : {T U P : Type 0} (e : OpenError) → IsErrOf {T = T} (Err e) Disk ⊎ P → IsErrOf {T = U} (Err e) Disk ⊎ P
settled_err e (inl is) = inl (ap Err (is_error e Disk is))
settled_err e (inr p) = inr p
