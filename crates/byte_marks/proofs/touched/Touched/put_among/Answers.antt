-- A block that has an entry keeps it with more bytes; another gets one at its place.
use Rattle.byte_marks.proofs.{Words.{rules, ◌≡◌, ◌≢◌, ℕ, ◌<◌, ◌≤◌, ◌&&◌, ◌||◌, ◌==◌, ◌∙◌, sym, ap, subst, arith, List, length, get_or, get_or_read, Extent, has, touches, RisesFrom}, Blocks.{in_order, rises_set, touches_set, rises_insert, touches_insert}, touched.Touched.put_among.Goals.{else-place-len-via-then-place-len+else-index-block, else-place-len-via-else-place-len}}

pub invariant_of-self-then-index-block : Rattle.byte_marks.proofs.touched.Touched.put_among.Goals.invariant_of-self-then-index-block
invariant_of-self-then-index-block c =
    let es = c.self.inside.entries.items in
    let place = c.place_of-place.result in
    let was = c.index_mut.result.now in
    let within : place < length es = omega arith in
    let e : ℕ × List Extent = (was.0, c.union.new.self) in
    let same = get_or_read es place was within c.index_mut.ensures.value e in
    rises_set 0 place es e c.self.invariant (ap (λ (x : ℕ × List Extent). x.0) same)

pub returns-in_ok-union-clause-set : Rattle.byte_marks.proofs.touched.Touched.put_among.Goals.returns-in_ok-union-clause-set
returns-in_ok-union-clause-set c b p =
    let es = c.self.inside.entries.items in
    let place = c.place_of-place.result in
    let was = c.index_mut.result.now in
    let within : place < length es = omega arith in
    let e : ℕ × List Extent = (was.0, c.union.new.self) in
    let same = get_or_read es place was within c.index_mut.ensures.value e in
    let read = get_or_read es place c.index.result.now within c.index.ensures e in
    let block : was.0 ≡ c.args.block = ap (λ (x : ℕ × List Extent). x.0) (same ∙ sym read) ∙ c.if-index-block.true in
    let grown : has e.1 p ≡ (has (get_or es place e).1 p || has c.args.marks p) =
    c.in_ok-union.ensures.set p ∙ ap (λ (x : ℕ × List Extent). has x.1 p || has c.args.marks p) same in
    touches_set b p place es e (has c.args.marks p) within (ap (λ (x : ℕ × List Extent). x.0) same) grown
    ∙ ap (λ (k : ℕ). touches es b p || ((k == b) && has c.args.marks p)) block
    ∙ ap (λ (l : List (ℕ × List Extent)). touches l b p || ((c.args.block == b) && has c.args.marks p)) c.self.view_is

-- where no entry of the block is at its place, all from there on are of later blocks
later_blocks : (es : List (ℕ × List Extent)) (place block : ℕ) → RisesFrom 0 es → (place < length es → (d : ℕ × List Extent) → block < (get_or es place d).0)
    → (k : ℕ) → place ≤ k → k < length es → (d : ℕ × List Extent) → block < (get_or es k d).0
later_blocks es place block rises first k le lt d =
    let here = first (omega arith) d in
    omega (arith, here, in_order 0 place k es d rises le lt)

pub invariant_of-self-in-Continue-branch-2 : Rattle.byte_marks.proofs.touched.Touched.put_among.Goals.invariant_of-self-in-Continue-branch-2
invariant_of-self-in-Continue-branch-2 c =
    let es = c.self.inside.entries.items in
    let place = c.place_of-place.result in
    let e : ℕ × List Extent = (c.args.block, c.args.marks) in
    let seen : c.as_slice.result.now ≡ es = c.as_slice.ensures.value in
    let first : place < length es → (d : ℕ × List Extent) → c.args.block < (get_or es place d).0 = λ lt d.
    elim c.else-place-len.branch [
      | else-place-len-via-then-place-len+else-index-block w ↦
          (let read : w.index.result.now.0 ≡ (get_or es place d).0 =
          ap (λ (x : ℕ × List Extent). x.0) (get_or_read es place w.index.result.now lt w.index.ensures d) in
          let least : c.args.block ≤ (get_or c.as_slice.result.now place d).0 =
          c.place_of-place.ensures.after place (omega arith) (subst (λ (l : List (ℕ × List Extent)). place < length l) (sym seen) lt) d in
          let least' : c.args.block ≤ (get_or es place d).0 = subst (λ (l : List (ℕ × List Extent)). c.args.block ≤ (get_or l place d).0) seen least in
          let other : w.index.result.now.0 ≢ c.args.block = w.if-index-block.false in
          omega (arith, read, least', other))
      | else-place-len-via-else-place-len w ↦ absurd (omega arith)
    ] in
    let below : (k : ℕ) → k < place → (get_or es k e).0 < c.args.block = λ k lt.
    subst (λ (l : List (ℕ × List Extent)). (get_or l k e).0 < c.args.block) seen (c.place_of-place.ensures.before k lt e) in
    let within : place ≤ length es = subst (λ (l : List (ℕ × List Extent)). place ≤ length l) seen c.place_of-place.ensures.within in
    let zero_below : 0 ≤ c.args.block = omega arith in
    let risen =
    rises_insert 0 place es e c.self.invariant zero_below below (λ k le lt. later_blocks es place c.args.block c.self.invariant first k le lt e) within in
    subst (λ (l : List (ℕ × List Extent)). RisesFrom 0 l) (sym c.in_ok-insert.ensures.items) risen

pub returns-in_ok-insert-clause-set : Rattle.byte_marks.proofs.touched.Touched.put_among.Goals.returns-in_ok-insert-clause-set
returns-in_ok-insert-clause-set c b p = search (rules, arith, touches_insert)
