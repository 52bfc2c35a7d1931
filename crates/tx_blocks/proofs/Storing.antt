-- What a program may answer, and which blocks it may write, whatever it reads.
use Rattle.tx_blocks.proofs.Words.{◌≡◌, ◌∙◌, refl, ap, ℕ, Bool, true, false, cond, List, Option, Some, None, both_ways, Array, put, own, at_cell, block_at, Done, Look, LookWhole, Program, Reserve, Store, accesses_of, bytes_in, further_bytes, store_access, then_do, other_block}

-- each answer that it may give has the property
abbrev pub Answers : {R : Type 0} → (R → Type 0) → Program R → Type 0
Answers P (Done r) = P r
Answers P (Look block mark further next) = (xs ys : List ℕ) → Answers P (next xs ys)
Answers P (LookWhole block next) = (xs : List ℕ) → Answers P (next xs)
Answers P (Reserve count next) = Answers P next
Answers P (Store block spans bytes next) = Answers P next

-- each block that it may write passes the test
abbrev pub StoresIn : {R : Type 0} → (ℕ → Bool) → Program R → Type 0
StoresIn has (Done r) = Unit {0}
StoresIn has (Look block mark further next) = (xs ys : List ℕ) → StoresIn has (next xs ys)
StoresIn has (LookWhole block next) = (xs : List ℕ) → StoresIn has (next xs)
StoresIn has (Reserve count next) = StoresIn has next
StoresIn has (Store block spans bytes next) = (has block ≡ true) × StoresIn has next

pub stores_then : {R S : Type 0} (has : ℕ → Bool) (P : R → Type 0) (p : Program R) (f : R → Program S) → StoresIn has p → Answers P p → ((r : R) → P r → StoresIn has (f r))
    → StoresIn has (then_do p f)
stores_then has P (Done r) f stores answers each = each r answers
stores_then has P (Look block mark further next) f stores answers each = λ xs ys. stores_then has P (next xs ys) f (stores xs ys) (answers xs ys) each
stores_then has P (LookWhole block next) f stores answers each = λ xs. stores_then has P (next xs) f (stores xs) (answers xs) each
stores_then has P (Reserve count next) f stores answers each = stores_then has P next f stores answers each
stores_then has P (Store block spans bytes next) f stores answers each = (stores.0, stores_then has P next f stores.1 answers each)

pub stores_if : {R : Type 0} (has : ℕ → Bool) (t : Bool) (p q : Program R) → (t ≡ true → StoresIn has p) → (t ≡ false → StoresIn has q) → StoresIn has (cond t p q)
stores_if has true p q one two = one refl
stores_if has false p q one two = two refl

pub stores_cond : {R : Type 0} (has : ℕ → Bool) (t : Bool) (p q : Program R) → StoresIn has p → StoresIn has q → StoresIn has (cond t p q)
stores_cond has t p q one two = stores_if has t p q (λ is. one) (λ is. two)

pub stores_cell : {R : Type 0} (has : ℕ → Bool) (c : Option ℕ) (f : ℕ → Program R) (q : Program R) → ((i : ℕ) → StoresIn has (f i)) → StoresIn has q → StoresIn has (at_cell c f q)
stores_cell has None f q found other = other
stores_cell has (Some i) f q found other = found i

pub answers_cond : {R : Type 0} (P : R → Type 0) (t : Bool) (p q : Program R) → (t ≡ true → Answers P p) → (t ≡ false → Answers P q) → Answers P (cond t p q)
answers_cond P true p q one two = one refl
answers_cond P false p q one two = two refl

-- a block that a program may not write stays
pub kept_outside : {R : Type 0} (has : ℕ → Bool) (p : Program R) (A : Array) (b : ℕ) → StoresIn has p → has b ≡ false → block_at (own A (accesses_of p A)) b ≡ block_at A b
kept_outside has (Done r) A b stores out = refl
kept_outside has (Look block mark further next) A b stores out =
    let x = bytes_in mark (block_at A block) in
    let y = further_bytes (further x) (block_at A block) in
    kept_outside has (next x y) A b (stores x y) out
kept_outside has (LookWhole block next) A b stores out = kept_outside has (next (block_at A block)) A b (stores (block_at A block)) out
kept_outside has (Reserve count next) A b stores out = kept_outside has next A b stores out
kept_outside has (Store block spans bytes next) A b stores out =
    kept_outside has next (put A (store_access block spans bytes)) b stores.1 out
    ∙ other_block A (store_access block spans bytes) b (λ e. both_ways (has b) out (ap has e ∙ stores.0))
