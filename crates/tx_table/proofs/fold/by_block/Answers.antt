-- One row more, and a list and its permutation pass a test alike.
use Rattle.tx_table.proofs.{Words.{◌≡◌, ◌∙◌, ℕ, zero, suc, ◌-◌, ◌<◌, ◌∷◌, ◌++◌, [], sym, ap, subst, arith, length, length-drop, get_or, drop, All, list_any, take_all, All-append, All-permutation, list_any-IsPermutation, Row}, Covered.place_more}

all_one : {A : Type 0} (P : A → Type 0) (y : A) → P y → All P (y ∷ [])
all_one P y here zero d lt = here
all_one P y here (suc k) d lt = absurd (omega arith)

pub loop-at-preserved : Rattle.tx_table.proofs.fold.by_block.Goals.loop-at-preserved
loop-at-preserved c =
    let rows = c.args.rows.now in
    let old = c.loop-at.order.items in
    let e : ℕ × ℕ = (c.index-rows-at.result.block, c.loop-at.at) in
    let P : ℕ × ℕ → Type 0 = λ e. e.1 < length rows in
    let is : c.push.new.self.items ≡ old ++ e ∷ [] =
    c.in_ok-push.ensures.items ∙ ap (λ (r : Row). old ++ (r.block, c.loop-at.at) ∷ []) (sym c.index-rows-at.is) in
    record {
      inside = subst (All P) (sym is) (All-append P old (e ∷ []) c.loop-at.invariant.inside (all_one P e c.loop-at-test.true));
      all = λ d test. place_more rows c.args.from c.loop-at.at e.0 old c.push.new.self.items d test (c.loop-at.auto.at) c.loop-at-test.true is (c.loop-at.invariant.all d test);
    }

pub returns-clause-inside : Rattle.tx_table.proofs.fold.by_block.Goals.returns-clause-inside
returns-clause-inside c =
    All-permutation (λ (e : ℕ × ℕ). e.1 < length c.args.rows.now) c.loop-at.order.items c.sort_unstable.new.self.items c.sort_unstable.ensures.permutation c.loop-at.invariant.inside

pub returns-clause-all : Rattle.tx_table.proofs.fold.by_block.Goals.returns-clause-all
returns-clause-all c d test =
    let rest = drop c.args.from c.args.rows.now in
    sym (list_any-IsPermutation (λ (e : ℕ × ℕ). test (get_or c.args.rows.now e.1 d)) c.loop-at.order.items c.sort_unstable.new.self.items c.sort_unstable.ensures.permutation)
    ∙ c.loop-at.invariant.all d test
    ∙ ap (list_any test) (take_all (c.loop-at.at - c.args.from) rest (omega (arith, length-drop c.args.from c.args.rows.now, c.loop-at-test.false)))
