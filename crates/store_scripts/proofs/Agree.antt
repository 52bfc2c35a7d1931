-- What a program does depends on the blocks that it reads alone.
use Rattle.store_scripts.proofs.ThreadWords.{◌≡◌, ◌∙◌, sym, refl, ap, subst, ℕ, zero, suc, Bool, true, false, cond, nat_le, List, [], ◌∷◌, ◌++◌, Option, None, inl, inr, cases_eq, AllByRecursion, Access, Array, merged, put, is_write, own, block_at, other_block, written_block, Program, Done, Look, LookWhole, Reserve, Store, bytes_in, further_bytes, look_access, outcome, store_access, with_further, own_append, blocks_read}

-- two arrays have the same bytes in a block
abbrev pub Same : (A B : Array) → (b : ℕ) → Type 0
Same A B b = block_at A b ≡ block_at B b

put_same : (A B : Array) (w : Access) (b : ℕ) → Same A B b → Same (put A w) (put B w) b
put_same A B w b same = elim (cases_eq b w.block) [
  | inl here ↦
      subst (λ k. Same (put A w) (put B w) k) (sym here)
      (written_block A w ∙ ap (λ old. merged w.spans 0 old w.bytes) (subst (Same A B) here same) ∙ sym (written_block B w))
  | inr other ↦ other_block A w b other ∙ same ∙ sym (other_block B w b other)
]

access_same : (t : Bool) (A B : Array) (w : Access) (b : ℕ) → Same A B b → Same (cond t (put A w) A) (cond t (put B w) B) b
access_same true A B w b same = put_same A B w b same
access_same false A B w b same = same

-- writes leave blocks the same
pub own_same : (accesses : List Access) (A B : Array) (b : ℕ) → Same A B b → Same (own A accesses) (own B accesses) b
own_same [] A B b same = same
own_same (a ∷ accesses) A B b same = own_same accesses (cond (is_write a) (put A a) A) (cond (is_write a) (put B a) B) b (access_same (is_write a) A B a b same)

-- where both have the same bytes in each block that the program reads on the one, it does the same on the other
pub agrees : {R : Type 0} (p : Program R) (room : ℕ) (A B : Array) (accesses : List Access)
    → AllByRecursion (Same A B) (blocks_read (outcome room p (own A accesses)).0) → outcome room p (own A accesses) ≡ outcome room p (own B accesses)
agrees (Done r) room A B accesses all = refl
agrees (Look block mark further next) zero A B accesses all = refl
agrees {R = R} (Look block mark further next) (suc room) A B accesses all =
    let here : block_at (own A accesses) block ≡ block_at (own B accesses) block = own_same accesses A B block all.0 in
    let run : List ℕ → Array → List Access × Option R = λ old C. (
      look_access block (mark ∷ with_further (further (bytes_in mark old))) ∷ (outcome room (next (bytes_in mark old) (further_bytes (further (bytes_in mark old)) old)) C).0,
      (outcome room (next (bytes_in mark old) (further_bytes (further (bytes_in mark old)) old)) C).1,
    ) in
    ap (λ (x : List Access × Option R). (look_access block (mark ∷ with_further (further (bytes_in mark (block_at (own A accesses) block)))) ∷ x.0, x.1))
    (agrees (next (bytes_in mark (block_at (own A accesses) block)) (further_bytes (further (bytes_in mark (block_at (own A accesses) block))) (block_at (own A accesses) block))) room A B accesses all.1)
    ∙ ap (λ old. run old (own B accesses)) here
agrees (LookWhole block next) zero A B accesses all = refl
agrees {R = R} (LookWhole block next) (suc room) A B accesses all =
    let here : block_at (own A accesses) block ≡ block_at (own B accesses) block = own_same accesses A B block all.0 in
    ap (λ (x : List Access × Option R). (look_access block [] ∷ x.0, x.1)) (agrees (next (block_at (own A accesses) block)) room A B accesses all.1)
    ∙ ap (λ old. (look_access block [] ∷ (outcome room (next old) (own B accesses)).0, (outcome room (next old) (own B accesses)).1)) here
agrees {R = R} (Reserve count next) room A B accesses all = by (nat_le count room) (λ rest. agrees next room A B accesses rest) all
  where
    by : (t : Bool) → (AllByRecursion (Same A B) (blocks_read (outcome room next (own A accesses)).0) → outcome room next (own A accesses) ≡ outcome room next (own B accesses)) → AllByRecursion (Same A B) (blocks_read (cond t (outcome room next (own A accesses)) ([], None)).0)
        → cond t (outcome room next (own A accesses)) ([], None) ≡ cond t (outcome room next (own B accesses)) ([], None)
    by true on all = on all
    by false on all = refl
agrees (Store block spans bytes next) zero A B accesses all = refl
agrees {R = R} (Store block spans bytes next) (suc room) A B accesses all =
    let w = store_access block spans bytes in
    let on : (C : Array) → own C (accesses ++ w ∷ []) ≡ put (own C accesses) w = λ C. own_append C accesses (w ∷ []) in
    let rest = agrees next room A B (accesses ++ w ∷ []) (subst (λ D. AllByRecursion (Same A B) (blocks_read (outcome room next D).0)) (sym (on A)) all) in
    ap (λ (x : List Access × Option R). (w ∷ x.0, x.1)) (ap (λ D. outcome room next D) (sym (on A)) ∙ rest ∙ ap (λ D. outcome room next D) (on B))
