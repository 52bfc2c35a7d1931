-- The least meeting over notes is the model's least clash.
use Rattle.conflict_rule.proofs.Words.{◌≡◌, ◌∙◌, refl, sym, ap, ℕ, zero, suc, ◌+◌, ◌<◌, ◌≤◌, Bool, true, false, ◌&&◌, nat_lt, inl, inr, List, [], ◌∷◌, arith, Option, Some, None, cases_eq, and_parts, and_right, common_steps, touches, AreTouched, Access, Clash, Commit, Geometry, Kind, Read, Write, Mode, clashes, clash_from, first_from, first_byte, guarded, Note, guarded_bytes, AreNotes, Bytes, IsLeastMeeting}

-- no number passes
first_none : (test : ℕ → Bool) (p n : ℕ) → ((q : ℕ) → p ≤ q → q < p + n → test q ≡ false) → first_from test p n ≡ None
first_none test p zero none = refl
first_none test p (suc n) none =
    let here : test p ≡ false = none p (omega arith) (omega arith) in
    rw here (first_none test (p + 1) n (λ q le lt. none q (omega arith) (omega arith)))

-- the first number that passes
first_some : (test : ℕ → Bool) (p n q : ℕ) → p ≤ q → q < p + n → test q ≡ true → ((r : ℕ) → r < q → test r ≡ false) → first_from test p n ≡ Some q
first_some test p zero q le lt passes none = absurd (omega arith)
first_some test p (suc n) q le lt passes none = elim (cases_eq p q) [
  | inl same ↦ (let here : test p ≡ true = rw same passes in rw here (ap Some same))
  | inr other ↦
      (let here : test p ≡ false = none p (omega arith) in
      rw here (first_some test (p + 1) n q (omega arith) (omega arith) passes none))
]

byte_none : (test : ℕ → ℕ → Bool) (size b n : ℕ) → ((c p : ℕ) → c < b + n → p < size → test c p ≡ false) → first_byte test size b n ≡ None
byte_none test size b zero none = refl
byte_none test size b (suc n) none =
    rw (
      first_none (test b) 0 size (λ q le lt. none b q (omega arith) (omega arith)),
      byte_none test size (b + 1) n (λ c p lt inside. none c p (omega arith) inside),
    ) refl

byte_some : (test : ℕ → ℕ → Bool) (size b n block at : ℕ) → b ≤ block → block < b + n → at < size → test block at ≡ true
    → ((c p : ℕ) → c < block → p < size → test c p ≡ false) → ((p : ℕ) → p < at → test block p ≡ false)
    → first_byte test size b n ≡ Some (block, at)
byte_some test size b zero block at le lt inside passes blocks bytes = absurd (omega arith)
byte_some test size b (suc n) block at le lt inside passes blocks bytes = elim (cases_eq b block) [
  | inl same ↦
      (let here : first_from (test b) 0 size ≡ Some at = rw same (first_some (test block) 0 size at (omega arith) (omega arith) passes bytes) in
      rw here (ap (λ (c : ℕ). Some (c, at)) same))
  | inr other ↦
      (let here : first_from (test b) 0 size ≡ None = first_none (test b) 0 size (λ q from below. blocks b q (omega arith) (omega arith)) in
      rw here (byte_some test size (b + 1) n block at (omega arith) (omega arith) inside passes blocks bytes))
]

-- what the transaction may not meet
pub guarded_are : (g : Geometry) (mode : Mode) (accesses : List Access) (reads writes : Bytes) → AreTouched g.block g.blocks Read accesses reads → AreTouched g.block g.blocks Write accesses writes
    → AreTouched g.block g.blocks (guarded mode) accesses (guarded_bytes mode reads writes)
guarded_are g mode accesses reads writes rs ws = grind arith

-- where no byte is touched, no commit is met
pub none_met : (bytes : Bytes) (notes : List Note) → ((b p : ℕ) → touches bytes b p ≡ false) → IsLeastMeeting bytes notes None
none_met bytes [] none = refl
none_met bytes (note ∷ notes) none = inl ((λ b p. and_right (touches note.1 b p) (touches bytes b p) (none b p)), none_met bytes notes none)

-- inside the image both sets meet where the model's test says so
same_test : (s t u v : Bool) → s ≡ true → t ≡ true → ((s && t && u) && (s && t && v)) ≡ (u && v)
same_test s t u v hs ht = rw (hs, ht) refl

agree : (g : Geometry) (mode : Mode) (accesses : List Access) (c : Commit) (bytes marks : Bytes) (b p : ℕ)
    → AreTouched g.block g.blocks (guarded mode) accesses bytes → AreTouched g.block g.blocks Write c.accesses marks → b < g.blocks → p < g.block
    → (touches marks b p && touches bytes b p) ≡ clashes mode c accesses b p
agree g mode accesses c bytes marks b p own theirs block byte = grind (arith, same_test)

inside_image : (g : Geometry) (kind : Kind) (accesses : List Access) (bytes : Bytes) (b p : ℕ) → AreTouched g.block g.blocks kind accesses bytes → touches bytes b p ≡ true
    → (nat_lt b g.blocks ≡ true) × (nat_lt p g.block ≡ true)
inside_image g kind accesses bytes b p are is = grind arith

-- over notes and commits side by side
pub clash_of : (g : Geometry) (mode : Mode) (accesses : List Access) (bytes : Bytes) (k : ℕ) (notes : List Note) (commits : List Commit) (found : Option Clash)
    → AreTouched g.block g.blocks (guarded mode) accesses bytes → AreNotes g k notes commits → IsLeastMeeting bytes notes found → found ≡ clash_from g mode accesses k commits
clash_of g mode accesses bytes k [] [] found own are least = least
clash_of g mode accesses bytes k [] (c ∷ commits) found own are least = absurd are
clash_of g mode accesses bytes k (note ∷ notes) [] found own are least = absurd are
clash_of g mode accesses bytes k (note ∷ notes) (c ∷ commits) found own are least = elim least [
  | inl later ↦
      (let none : first_byte (clashes mode c accesses) g.block 0 g.blocks ≡ None =
      byte_none (clashes mode c accesses) g.block 0 g.blocks
      (λ b p lt inside. sym (agree g mode accesses c bytes note.1 b p own are.1 (omega arith) inside) ∙ later.0 b p) in
      rw none (clash_of g mode accesses bytes (k + 1) notes commits found own are.2 later.1))
  | inr here ↦
      (let block = here.0 in
      let at = here.1 in
      let meet = here.2 in
      let parts = and_parts (touches note.1 block at) (touches bytes block at) meet.both in
      let within = inside_image g (guarded mode) accesses bytes block at own parts.1 in
      let block_in : block < g.blocks = grind (arith, common_steps, within.0) in
      let byte_in : at < g.block = grind (arith, common_steps, within.1) in
      let first : first_byte (clashes mode c accesses) g.block 0 g.blocks ≡ Some (block, at) =
      byte_some (clashes mode c accesses) g.block 0 g.blocks block at (omega arith) (omega arith) byte_in
      (sym (agree g mode accesses c bytes note.1 block at own are.1 block_in byte_in) ∙ meet.both)
      (λ b p lt inside. sym (agree g mode accesses c bytes note.1 b p own are.1 (omega arith) inside) ∙ meet.least_block b p lt)
      (λ p lt. sym (agree g mode accesses c bytes note.1 block p own are.1 block_in (omega arith)) ∙ meet.least_byte p lt) in
      rw first (here.3 ∙ ap (λ (n : ℕ). Some (record { commit = n; block = block; at = at })) are.0))
]
