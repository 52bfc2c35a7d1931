-- What a program does in a transaction that has room for a given number of accesses.
use Rattle.tx_blocks.proofs.Words.{◌≡◌, ◌∙◌, sym, refl, ap, ℕ, zero, suc, ◌-◌, true, false, cond, List, [], ◌∷◌, length, Option, Some, None, arith, nat_le, Access, Array, put, own, block_at, Program, Done, Look, LookWhole, Reserve, Store, bytes_in, further_bytes, with_further, look_access, store_access, accesses_of, answer_of, after, outcome, then_do}

no_answer : {R : Type 0} (r : R) → ◌≡◌ {A = Option R} None (Some r) → ⊥
no_answer r is = cc

pub same_answer : {R : Type 0} (r s : R) → Some r ≡ Some s → r ≡ s
same_answer r s is = cc

-- a program that came to its end made all its accesses, and answered as it does
pub record IsWhole {R : Type 0} (p : Program R) (A : Array) (accesses : List Access) (r : R) : Type 0 where
  pub accesses_are : accesses_of p A ≡ accesses
  pub answer_is : answer_of p A ≡ r

pub outcome_whole : {R : Type 0} (room : ℕ) (p : Program R) (A : Array) (r : R) → (outcome room p A).1 ≡ Some r → IsWhole p A (outcome room p A).0 r
outcome_whole room (Done s) A r is = record { accesses_are = refl; answer_is = same_answer s r is }
outcome_whole zero (Look block mark further next) A r is = absurd (no_answer r is)
outcome_whole (suc room) (Look block mark further next) A r is =
    let ih = outcome_whole room (next (bytes_in mark (block_at A block)) (further_bytes (further (bytes_in mark (block_at A block))) (block_at A block))) A r is in
    record { accesses_are = ap (λ rest. look_access block (mark ∷ with_further (further (bytes_in mark (block_at A block)))) ∷ rest) ih.accesses_are; answer_is = ih.answer_is }
outcome_whole zero (LookWhole block next) A r is = absurd (no_answer r is)
outcome_whole (suc room) (LookWhole block next) A r is =
    let ih = outcome_whole room (next (block_at A block)) A r is in
    record { accesses_are = ap (λ rest. look_access block [] ∷ rest) ih.accesses_are; answer_is = ih.answer_is }
outcome_whole {R = R} room (Reserve count next) A r is =
    elim (nat_le count room) as (λ t. (cond t (outcome room next A) ([], None)).1 ≡ Some r → IsWhole (Reserve count next) A (cond t (outcome room next A) ([], None)).0 r) [
      | true ↦ λ e. let ih = outcome_whole room next A r e in record { accesses_are = ih.accesses_are; answer_is = ih.answer_is }
      | false ↦ λ e. absurd (no_answer r e)
    ] is
outcome_whole zero (Store block spans bytes next) A r is = absurd (no_answer r is)
outcome_whole (suc room) (Store block spans bytes next) A r is =
    let ih = outcome_whole room next (put A (store_access block spans bytes)) r is in
    record { accesses_are = ap (λ rest. store_access block spans bytes ∷ rest) ih.accesses_are; answer_is = ih.answer_is }

less : (room n : ℕ) → suc room - suc n ≡ room - n
less room n = omega arith

-- what follows a program that came to its end
pub outcome_then : {R S : Type 0} (room : ℕ) (p : Program R) (f : R → Program S) (A : Array) (r : R) → (outcome room p A).1 ≡ Some r
    → outcome room (then_do p f) A ≡ after (outcome room p A).0 (outcome (room - length (outcome room p A).0) (f r) (own A (outcome room p A).0))
outcome_then room (Done s) f A r is =
    let none : room - 0 ≡ room = omega arith in
    ap (λ x. outcome room (f x) A) (same_answer s r is) ∙ ap (λ n. outcome n (f r) A) (sym none)
outcome_then zero (Look block mark further next) f A r is = absurd (no_answer r is)
outcome_then (suc room) (Look block mark further next) f A r is =
    let p = next (bytes_in mark (block_at A block)) (further_bytes (further (bytes_in mark (block_at A block))) (block_at A block)) in
    let a = look_access block (mark ∷ with_further (further (bytes_in mark (block_at A block)))) in
    let rest = (outcome room p A).0 in
    ap (after (a ∷ [])) (outcome_then room p f A r is) ∙ ap (λ n. after (a ∷ rest) (outcome n (f r) (own A rest))) (sym (less room (length rest)))
outcome_then zero (LookWhole block next) f A r is = absurd (no_answer r is)
outcome_then (suc room) (LookWhole block next) f A r is =
    let a = look_access block [] in
    let rest = (outcome room (next (block_at A block)) A).0 in
    ap (after (a ∷ [])) (outcome_then room (next (block_at A block)) f A r is) ∙ ap (λ n. after (a ∷ rest) (outcome n (f r) (own A rest))) (sym (less room (length rest)))
outcome_then room (Reserve count next) f A r is =
    elim (nat_le count room) as (λ t. (cond t (outcome room next A) ([], None)).1 ≡ Some r
    → cond t (outcome room (then_do next f) A) ([], None)
    ≡ after (cond t (outcome room next A) ([], None)).0 (outcome (room - length (cond t (outcome room next A) ([], None)).0) (f r) (own A (cond t (outcome room next A) ([], None)).0))) [
      | true ↦ λ e. outcome_then room next f A r e
      | false ↦ λ e. absurd (no_answer r e)
    ] is
outcome_then zero (Store block spans bytes next) f A r is = absurd (no_answer r is)
outcome_then (suc room) (Store block spans bytes next) f A r is =
    let a = store_access block spans bytes in
    let rest = (outcome room next (put A a)).0 in
    ap (after (a ∷ [])) (outcome_then room next f (put A a) r is) ∙ ap (λ n. after (a ∷ rest) (outcome n (f r) (own (put A a) rest))) (sym (less room (length rest)))

-- nothing follows a program that did not
pub outcome_cut : {R S : Type 0} (room : ℕ) (p : Program R) (f : R → Program S) (A : Array) → (outcome room p A).1 ≡ None → outcome room (then_do p f) A ≡ ((outcome room p A).0, None)
outcome_cut room (Done s) f A is = absurd (no_answer s (sym is))
outcome_cut zero (Look block mark further next) f A is = refl
outcome_cut (suc room) (Look block mark further next) f A is =
    ap (after (look_access block (mark ∷ with_further (further (bytes_in mark (block_at A block)))) ∷ []))
    (outcome_cut room (next (bytes_in mark (block_at A block)) (further_bytes (further (bytes_in mark (block_at A block))) (block_at A block))) f A is)
outcome_cut zero (LookWhole block next) f A is = refl
outcome_cut (suc room) (LookWhole block next) f A is = ap (after (look_access block [] ∷ [])) (outcome_cut room (next (block_at A block)) f A is)
outcome_cut room (Reserve count next) f A is =
    elim (nat_le count room) as (λ t. (cond t (outcome room next A) ([], None)).1 ≡ None → cond t (outcome room (then_do next f) A) ([], None) ≡ ((cond t (outcome room next A) ([], None)).0, None)) [
      | true ↦ λ e. outcome_cut room next f A e
      | false ↦ λ e. refl
    ] is
outcome_cut zero (Store block spans bytes next) f A is = refl
outcome_cut (suc room) (Store block spans bytes next) f A is = ap (after (store_access block spans bytes ∷ [])) (outcome_cut room next f (put A (store_access block spans bytes)) is)
