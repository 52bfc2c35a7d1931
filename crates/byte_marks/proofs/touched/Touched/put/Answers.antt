-- A block behind all others keeps the order.
use Rattle.byte_marks.proofs.{Words.{◌≡◌, ℕ, ◌<◌, sym, subst, rules, arith, List, length, get_or, Extent, RisesFrom}, Blocks.{rises_push, touches_push}}

pub invariant_of-self-then-is_behind : Rattle.byte_marks.proofs.touched.Touched.put.Goals.invariant_of-self-then-is_behind
invariant_of-self-then-is_behind c =
    let es = c.self.inside.entries.items in
    let e : ℕ × List Extent = (c.args.block, c.args.marks) in
    let seen : c.as_slice.result.now ≡ es = c.as_slice.ensures.value in
    let below : (k : ℕ) → k < length es → (get_or es k e).0 < c.args.block = λ k lt.
    subst (λ (l : List (ℕ × List Extent)). (get_or l k e).0 < c.args.block) seen
    (c.if-is_behind.ensures k (subst (λ (l : List (ℕ × List Extent)). k < length l) (sym seen) lt) e) in
    subst (λ (l : List (ℕ × List Extent)). RisesFrom 0 l) (sym c.in_ok-push.ensures.items) (rises_push 0 es e c.self.invariant (omega arith) below)

pub returns-then-is_behind-clause-set : Rattle.byte_marks.proofs.touched.Touched.put.Goals.returns-then-is_behind-clause-set
returns-then-is_behind-clause-set c b p = search (rules, arith, touches_push)
