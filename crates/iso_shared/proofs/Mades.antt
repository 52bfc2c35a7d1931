-- What a call made, from what it took and gave.
use Rattle.iso_shared.{proofs.{Words.{DiskState, Stamped, view, zero, suc, Bool, true, false, cond, nat_lt, length-append, ◌≡◌, ℕ, ◌+◌, ◌<◌, List, [], ◌∷◌, ◌++◌, length, refl, sym, ap, ◌∙◌, subst, arith, Checked, Doing, times, longer, count_up, places, View, prefix_more, prefix_trans, prefix_whole, times_append, nat_tests, Entry, IsLegal, IsAhead, IsOwn, IsTxOf, Made, MadeBoth, Start, Tx, state_at, tx_view, IsPrefix}, Follows.{ahead_kept, follows_prefix, own_kept}}, specs.{Passes.{IsGiven, TakesTurn}, declared.{guarded.Guarded.Guarded, turns.Turns.Turns}}}
use Rattle.turn_lock.specs.{Pass.PassOf, declared.turn.Turn.Turn}

-- t is the pass at its turn, w the pass after it
pub made_by : (A : Start) (v u t w : View Entry) (e : Entry) → IsPrefix v.seen t.seen → IsPrefix u.seen t.seen → t.mine ≡ u.mine
    → w.seen ≡ t.seen ++ e ∷ [] → w.mine ≡ t.mine ++ length t.seen ∷ [] → IsLegal A w.seen → Made A v u e w
made_by A v u t w e told begins same seen mine legal = record {
  before = t.seen;
  told = told;
  begins = begins;
  seen = seen;
  mine = mine ∙ ap (λ l. l ++ length t.seen ∷ []) same;
  legal = legal;
}

-- one entry more
pub one_more : (u t w : View Entry) (e : Entry) → IsPrefix u.seen t.seen → w.seen ≡ t.seen ++ e ∷ [] → IsPrefix u.seen w.seen
one_more u t w e begins seen = subst (λ l. IsPrefix u.seen l) (sym seen) (prefix_more u.seen t.seen (e ∷ []) begins)

-- what a turn made that the pass took and gave back
module _ {D O : Type 0} {disk : D → DiskState} {A : Start} {first : DiskState} {l : Turns D O} {p q r : PassOf (Guarded D O) Stamped} {t : Turn (Guarded D O) Stamped} {s : Stamped} (taken : TakesTurn disk A first p q t) (given : IsGiven A l q r s) where
  pub turn_seen : IsPrefix (view p).seen (view r).seen
  turn_seen = one_more (view p) (view q) (view r) s.entry taken.seen given.seen

  pub turn_made : Made A (view p) (view p) s.entry (view r)
  turn_made = made_by A (view p) (view p) (view q) (view r) s.entry taken.seen taken.seen taken.same.0 given.seen given.mine given.legal

pub held_same : (n : ℕ) (xs ys : List ℕ) → ys ≡ xs → 0 < times n xs → 0 < times n ys
held_same n xs ys same h = subst (λ l. 0 < times n l) (sym same) h

longer_prefix : (xs ys : List Entry) → IsPrefix xs ys → longer xs ys ≡ ys
longer_prefix xs ys p = longer_by xs ys (nat_lt (length xs) (length ys)) refl p
  where
    longer_by : (xs ys : List Entry) (b : Bool) → nat_lt (length xs) (length ys) ≡ b → IsPrefix xs ys → cond b ys xs ≡ ys
    longer_by xs ys true is p = refl
    longer_by xs ys false is p = prefix_whole xs ys p (grind (arith, nat_tests))

-- v is the port before the call, x after it, and y as it was told; u is the other pass before the call, t at its turn, w after it
pub both_by : (A : Start) (v y u t w x : View Entry) (e : Entry) → y ≡ v → IsPrefix v.seen t.seen → IsPrefix u.seen t.seen → t.mine ≡ u.mine
    → w.seen ≡ t.seen ++ e ∷ [] → w.mine ≡ t.mine ++ length t.seen ∷ [] → IsLegal A w.seen
    → x.seen ≡ longer y.seen w.seen → ((p : ℕ) → times p x.mine ≡ times p y.mine + times p w.mine) → MadeBoth A v u e x
both_by A v y u t w x e same told begins mine seen more legal joined all =
    let pre : IsPrefix y.seen w.seen = subst (λ l. IsPrefix y.seen l) (sym seen) (prefix_more y.seen t.seen (e ∷ []) (subst (λ (z : View Entry). IsPrefix z.seen t.seen) (sym same) told)) in
    let is : x.seen ≡ w.seen = joined ∙ longer_prefix y.seen w.seen pre in record {
      before = t.seen;
      told = told;
      begins = begins;
      seen = is ∙ seen;
      mine = λ p.
          omega (arith, all p, times_append p t.mine (length t.seen ∷ []), ap (times p) more, ap (times p) mine, ap (λ (z : View Entry). times p z.mine) same);
      legal = subst (λ l. IsLegal A l) (sym is) legal;
    }

pub units_by : (y v u w x : View Entry) → y ≡ v → w.units ≡ u.units → x.units ≡ y.units + w.units → x.units ≡ v.units + u.units
units_by y v u w x same mine all = let a : y.units ≡ v.units = ap (λ (z : View Entry). z.units) same in omega arith

pub count_snoc : (from n : ℕ) → count_up from n ++ (from + n) ∷ [] ≡ count_up from (n + 1)
count_snoc from zero = let e : from + 0 ≡ from = omega arith in ap (λ (k : ℕ). k ∷ []) e
count_snoc from (suc n) =
    let e : from + suc n ≡ suc from + n = omega arith in
    let a : suc n + 1 ≡ suc (n + 1) = omega arith in
    ap (λ (k : ℕ). from ∷ (count_up (suc from) n ++ k ∷ [])) e ∙ ap (λ l. from ∷ l) (count_snoc (suc from) n) ∙ sym (ap (count_up from) a)

places_snoc : (n : ℕ) → places n ++ n ∷ [] ≡ places (n + 1)
places_snoc n = let e : n ≡ 0 + n = omega arith in ap (λ (k : ℕ). places n ++ k ∷ []) e ∙ count_snoc 0 n

-- all places are its own after an entry, where they were at its turn
pub all_by : (t w : View Entry) (e : Entry) → t.mine ≡ places (length t.seen) → w.seen ≡ t.seen ++ e ∷ [] → w.mine ≡ t.mine ++ length t.seen ∷ [] → w.mine ≡ places (length w.seen)
all_by t w e all seen mine =
    let l : length t.seen + 1 ≡ length w.seen = omega (arith, ap length seen, length-append t.seen (e ∷ [])) in
    mine ∙ ap (λ l. l ++ length t.seen ∷ []) all ∙ places_snoc (length t.seen) ∙ ap places l

-- a transaction's own is its own in each longer list
pub own_on : (A : Start) (xs ys : List Entry) (tx : ℕ) (work : Doing) → IsPrefix xs ys → IsOwn (state_at A xs) tx work → IsOwn (state_at A ys) tx work
own_on A xs ys tx work p own = own_kept (state_at A xs) (state_at A ys) tx work (follows_prefix A xs ys p) own

pub ahead_on : (A : Start) (xs ys : List Entry) (work : Doing) (checked : Checked) → IsPrefix xs ys → IsAhead (state_at A xs) work checked → IsAhead (state_at A ys) work checked
ahead_on A xs ys work checked p is = ahead_kept (state_at A xs) (state_at A ys) work checked (follows_prefix A xs ys p) is

-- a transaction is one of the list while its pass has seen more of it, and holds the same
pub tx_on : {D O : Type 0} {A : Start} (t : Tx D O) (p : PassOf (Guarded D O) Stamped) → IsPrefix (tx_view t).seen (view p).seen → (view p).holds ≡ (tx_view t).holds → IsTxOf A t → IsTxOf A (record t { pass = p })
tx_on {A = A} t p begins same is = record {
  held = held_same t.number (tx_view t).holds (view p).holds same is.held;
  on = is.on;
  own = own_on A (tx_view t).seen (view p).seen t.number t.work begins is.own;
  ahead = ahead_on A (tx_view t).seen (view p).seen t.work t.checked begins is.ahead;
}

-- what was made of t was made of a pass that was told before: u is the pass before the call, t as it was told
pub made_on : (A : Start) (v u t w : View Entry) (e : Entry) → IsPrefix v.seen t.seen → IsPrefix u.seen t.seen → t.mine ≡ u.mine → Made A t t e w → Made A v u e w
made_on A v u t w e told begins same m =
    made_by A v u (record t { seen = m.before }) w e (prefix_trans v.seen t.seen m.before told m.told) (prefix_trans u.seen t.seen m.before begins m.begins) same m.seen m.mine m.legal

pub both_on : (A : Start) (v y u t w x : View Entry) (e : Entry) → y ≡ v → IsPrefix v.seen t.seen → IsPrefix u.seen t.seen → t.mine ≡ u.mine → Made A t t e w
    → x.seen ≡ longer y.seen w.seen → ((p : ℕ) → times p x.mine ≡ times p y.mine + times p w.mine) → MadeBoth A v u e x
both_on A v y u t w x e same told begins mine m joined all =
    both_by A v y u (record t { seen = m.before }) w x e same (prefix_trans v.seen t.seen m.before told m.told) (prefix_trans u.seen t.seen m.before begins m.begins) mine m.seen m.mine m.legal joined all

-- the port has then seen what the other pass has
pub joined_seen : (A : Start) (v y t w x : View Entry) (e : Entry) → y ≡ v → IsPrefix v.seen t.seen → Made A t t e w → x.seen ≡ longer y.seen w.seen → x.seen ≡ w.seen
joined_seen A v y t w x e same told m joined =
    let pre : IsPrefix y.seen w.seen = subst (λ l. IsPrefix y.seen l) (sym m.seen) (prefix_more y.seen m.before (e ∷ []) (subst (λ (z : View Entry). IsPrefix z.seen m.before) (sym same) (prefix_trans v.seen t.seen m.before told m.told))) in
    joined ∙ longer_prefix y.seen w.seen pre
