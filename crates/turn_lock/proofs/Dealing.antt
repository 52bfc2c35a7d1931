-- How tickets, places, numbers and units stay dealt among the passes.
use Rattle.turn_lock.proofs.{Words.{◌≡◌, ◌≢◌, ℕ, zero, suc, ◌+◌, ◌<◌, ◌≤◌, List, [], ◌∷◌, ◌++◌, length, set, Option, Some, None, IsSome, sym, refl, ap, ◌∙◌, subst, ⊎_elim, arith, length-append, at_set, at_snoc, set_else, LAST, View, Stage, Idle, Waits, Turns, total, hit, times, AllBelow, places, longer, option_to_list, IsOut, AreFree, AreHeld, fresh, spent, waits, turns, gave, kept_part, given_part, both, ticket_at, tickets_at, turns_at, Once, drawn_by, turning, placed_by, held_by, Whole, Knows, Dealt, IsPrefix, dite, some, some-ne-none, dec_le, get_elem?}, Prefixes.{prefix_self, prefix_whole, prefix_length, prefix_more, longer_left, longer_right, prefix_longer, longer_whole}, Totals.{total_set, total_at, total_two, total_append, total_only, total_le_at, hit_same, hit_other}, Rising.{below_more, below_snoc, rises_snoc, times_above, times_append, times_merge, below_merge, merge_rises, all_places}, Outs.{times_parted, held_on}}

pub once_le : (from to n k : ℕ) → Once from to n k → k ≤ 1
once_le from to n k o = grind arith

once_same : (from to n k k' : ℕ) → k' ≡ k → Once from to n k → Once from to n k'
once_same from to n k k' e o = subst (Once from to n) (sym e) o

-- one number more, at the end
once_more : (from to n k k' : ℕ) → from ≤ to → k' ≡ k + hit to n → Once from to n k → Once from (to + 1) n k'
once_more from to n k k' le e o = grind (arith, hit_same, hit_other)

-- one number less, at the beginning
once_less : (from to n k k' : ℕ) → from < to → k' + hit from n ≡ k → Once from to n k → Once (from + 1) to n k'
once_less from to n k k' lt e o = grind (arith, hit_other, hit_same)

waits_is_no_idle : (t : ℕ) → Waits t ≡ Idle → ⊥
waits_is_no_idle t e = cc

turns_is_no_idle : (t : ℕ) → Turns t ≡ Idle → ⊥
turns_is_no_idle t e = cc

no_number : (number : Option ℕ) (units : ℕ) → (IsSome number → 0 < units) → units ≡ 0 → option_to_list number ≡ []
no_number None units enough none = refl
no_number (Some n) units enough none = let lt = enough refl in absurd (omega arith)

module _ {E : Type 0} where
  -- the view of one pass changes, and all know what they are to know
  knows_set : (list : List E) (views : List (View E)) (id : ℕ) (w : View E) → Knows list w → ((j : ℕ) (u : View E) → j ≢ id → get_elem? views j ≡ some u → Knows list u)
      → (j : ℕ) (u : View E) → get_elem? (set views id w) j ≡ some u → Knows list u
  knows_set list views id w mine others j u at =
      ⊎_elim (λ (t : (j ≡ id) × (w ≡ u)). subst (Knows list) t.1 mine) (λ (t : (j ≢ id) × (get_elem? views j ≡ some u)). others j u t.0 t.1) (at_set views id j w u at)

  -- who has the turn has the ticket that is served
  turn_is_served : (list seen : List E) (stage : Stage) → Whole list seen stage → turns_at stage ≤ ticket_at (length list) stage
  turn_is_served list seen Idle w = omega arith
  turn_is_served list seen (Waits t) w = omega arith
  turn_is_served list seen (Turns t) w = let h = hit_same t (length list) w.1 in omega arith

  -- the turn is another's
  whole_on : (list more seen : List E) (stage : Stage) → Whole list seen stage → ticket_at (length list) stage ≡ 0 → Whole more seen stage
  whole_on list more seen Idle w none = tt
  whole_on list more seen (Waits t) w none = tt
  whole_on list more seen (Turns t) w none = let h = hit_same t (length list) w.1 in absurd (omega arith)

  whole_longer : (list seen other : List E) (stage : Stage) → Whole list seen stage → IsPrefix other list → Whole list (longer seen other) stage
  whole_longer list seen other Idle w p = tt
  whole_longer list seen other (Waits t) w p = tt
  whole_longer list seen other (Turns t) w p = (longer_whole seen other (subst (IsPrefix other) (sym w.0) p) ∙ w.0, w.1)

  pub whole_at : (list seen : List E) (stage : Stage) (t : ℕ) → stage ≡ Turns t → Whole list seen stage → (seen ≡ list) × (t ≡ length list)
  whole_at list seen stage t is w = subst (Whole list seen) is w

  pub knows_blank : (list : List E) → Knows list spent
  knows_blank list = record { begins = (list, refl); left_begins = (list, refl); right_begins = (list, refl); below = tt; rises = tt; whole = tt; note = λ _. (refl, refl, refl) }

module _ {E : Type 0} (hands : E → Option ℕ) (takes : E → List ℕ) (list : List E) (tickets : ℕ) (views : List (View E)) (d : Dealt hands takes list tickets views) where
  -- a pass gets another stage, and may have seen more
  restage : (tickets' id : ℕ) (v : View E) (seen : List E) (stage : Stage) → get_elem? views id ≡ some v → tickets_at stage + tickets ≡ tickets_at v.stage + tickets'
      → ((n k k' : ℕ) → k' + ticket_at n v.stage ≡ k + ticket_at n stage → Once (length list) tickets n k → Once (length list) tickets' n k')
      → Knows list (record v { seen = seen; stage = stage }) → Dealt hands takes list tickets' (set views id (record v { seen = seen; stage = stage }))
  restage tickets' id v seen stage at count once known = let w : View E = record v { seen = seen; stage = stage } in record {
    counted = let t = total_set (λ (u : View E). tickets_at u.stage) views id v w at in let c = d.counted in omega arith;
    drawn = λ n. once n (drawn_by n views) (drawn_by n (set views id w)) (total_set (λ (u : View E). ticket_at n u.stage) views id v w at) (d.drawn n);
    placed = λ p. once_same 0 (length list) p (placed_by p views) (placed_by p (set views id w)) (let t = total_set (λ (u : View E). times p u.mine) views id v w at in omega arith) (d.placed p);
    units = let t = total_set (λ (u : View E). u.units) views id v w at in let c = d.units in omega arith;
    alone = λ n. let t = total_set (λ (u : View E). times n u.holds) views id v w at in let c = d.alone n in omega arith;
    out = λ n lt. d.out n (let t = total_set (λ (u : View E). times n u.holds) views id v w at in omega arith);
    each = knows_set list views id w known (λ j u ne e. d.each j u e);
  }

  -- a ticket is drawn
  pub deals_draw : (id : ℕ) (v : View E) → get_elem? views id ≡ some v → v.stage ≡ Idle → 0 < v.units → Dealt hands takes list (tickets + 1) (set views id (waits tickets v))
  deals_draw id v at idle some_units =
      let k = d.each id v at in
      restage (tickets + 1) id v v.seen (Waits tickets) at (let z : tickets_at v.stage ≡ 0 = ap tickets_at idle in omega arith)
      (λ n a b sum once. let z : ticket_at n v.stage ≡ 0 = ap (ticket_at n) idle in once_more (length list) tickets n a b (omega arith) (omega arith) once)
      record { begins = k.begins; left_begins = k.left_begins; right_begins = k.right_begins; below = k.below; rises = k.rises; whole = tt; note = λ none. absurd (omega arith) }

  -- the ticket comes to its turn
  pub deals_turn : (id t : ℕ) (v : View E) → get_elem? views id ≡ some v → v.stage ≡ Waits t → t ≡ length list → Dealt hands takes list tickets (set views id (turns t list v))
  deals_turn id t v at stage place =
      let k = d.each id v at in
      restage tickets id v list (Turns t) at (let z : tickets_at v.stage ≡ 1 = ap tickets_at stage in omega arith)
      (λ n a b sum once. let z : ticket_at n v.stage ≡ hit t n = ap (ticket_at n) stage in once_same (length list) tickets n a b (omega arith) once)
      record {
        begins = prefix_self list;
        left_begins = k.left_begins;
        right_begins = k.right_begins;
        below = below_more (length v.seen) (length list) v.mine (prefix_length v.seen list k.begins) k.below;
        rises = k.rises;
        whole = (refl, place);
        note = λ none. absurd (waits_is_no_idle t (sym stage ∙ (k.note none).0));
      }

  -- while the ticket that is served waits, no pass has the turn
  pub none_turns : (id t : ℕ) (v : View E) → get_elem? views id ≡ some v → v.stage ≡ Waits t → t ≡ length list → turning views ≡ 0
  none_turns id t v at stage place =
      let le = total_le_at (λ (u : View E). turns_at u.stage) (λ (u : View E). ticket_at (length list) u.stage) views id v at (λ j u e. turn_is_served list u.seen u.stage (d.each j u e).whole) in
      let a : turns_at v.stage ≡ 0 = ap turns_at stage in
      let b : ticket_at (length list) v.stage ≡ hit t (length list) = ap (ticket_at (length list)) stage in
      let h = hit_same t (length list) place in
      let o = once_le (length list) tickets (length list) (drawn_by (length list) views) (d.drawn (length list)) in
      omega arith

  pub served_is_drawn : (id t : ℕ) (v : View E) → get_elem? views id ≡ some v → v.stage ≡ Turns t → length list < tickets
  served_is_drawn id t v at stage = grind (arith, total_at)

  -- an entry is added at a turn
  pub deals_entry : (id t : ℕ) (v : View E) (e : E) → get_elem? views id ≡ some v → v.stage ≡ Turns t → AreFree hands takes (option_to_list (hands e)) v.seen → AreHeld (takes e) v.holds
      → Dealt hands takes (list ++ e ∷ []) tickets (set views id (gave hands takes e v))
  deals_entry id t v e at stage free held =
      let k = d.each id v at in
      let whole = whole_at list v.seen v.stage t stage k.whole in
      let w : View E = gave hands takes e v in
      let more : List E = list ++ e ∷ [] in
      let size : length more ≡ length list + 1 = length-append list (e ∷ []) in
      let here : length v.seen ≡ length list = ap length whole.0 in
      let free' : AreFree hands takes (option_to_list (hands e)) list = subst (AreFree hands takes (option_to_list (hands e))) whole.0 free in
      let numbers : (n : ℕ) → (held_by n (set views id w) ≤ 1) × (0 < held_by n (set views id w) → IsOut hands takes n more) =
      λ n. held_on hands takes n e v.holds list (held_by n views) (held_by n (set views id w)) (total_set (λ (u : View E). times n u.holds) views id v w at)
      (total_at (λ (u : View E). times n u.holds) views id v at) (d.alone n) (d.out n) free' held in record {
        counted = let s = total_set (λ (u : View E). tickets_at u.stage) views id v w at in let z : tickets_at v.stage ≡ 1 = ap tickets_at stage in let c = d.counted in omega arith;
        drawn = λ n. subst (λ z. Once z tickets n (drawn_by n (set views id w))) (sym size)
            (once_less (length list) tickets n (drawn_by n views) (drawn_by n (set views id w)) (served_is_drawn id t v at stage)
            (let s = total_set (λ (u : View E). ticket_at n u.stage) views id v w at in let z : ticket_at n v.stage ≡ hit (length list) n = ap (ticket_at n) stage ∙ ap (λ q. hit q n) whole.1 in omega arith) (d.drawn n));
        placed = λ p. subst (λ z. Once 0 z p (placed_by p (set views id w))) (sym size)
            (once_more 0 (length list) p (placed_by p views) (placed_by p (set views id w)) (omega arith)
            (let s = total_set (λ (u : View E). times p u.mine) views id v w at in let a = times_append p v.mine (length v.seen ∷ []) in let z : hit (length v.seen) p ≡ hit (length list) p = ap (λ q. hit q p) here in omega arith) (d.placed p));
        units = let s = total_set (λ (u : View E). u.units) views id v w at in let c = d.units in omega arith;
        alone = λ n. (numbers n).0;
        out = λ n. (numbers n).1;
        each = knows_set more views id w
            record {
              begins = subst (λ (l : List E). IsPrefix (l ++ e ∷ []) more) (sym whole.0) (prefix_self more);
              left_begins = prefix_more v.left list (e ∷ []) k.left_begins;
              right_begins = prefix_more v.right list (e ∷ []) k.right_begins;
              below = subst (λ z. AllBelow z w.mine) (sym (length-append v.seen (e ∷ []))) (below_snoc (length v.seen) v.mine k.below);
              rises = rises_snoc 0 (length v.seen) v.mine (omega arith) k.rises k.below;
              whole = tt;
              note = λ none. absurd (turns_is_no_idle t (sym stage ∙ (k.note none).0));
            }
            (λ j u ne is. let q = d.each j u is in
            let two = total_two (λ (x : View E). ticket_at (length list) x.stage) views id j v u ne at is in
            let o = once_le (length list) tickets (length list) (drawn_by (length list) views) (d.drawn (length list)) in
            let z : ticket_at (length list) v.stage ≡ hit t (length list) = ap (ticket_at (length list)) stage in
            let h = hit_same t (length list) whole.1 in record {
              begins = prefix_more u.seen list (e ∷ []) q.begins;
              left_begins = prefix_more u.left list (e ∷ []) q.left_begins;
              right_begins = prefix_more u.right list (e ∷ []) q.right_begins;
              below = q.below;
              rises = q.rises;
              whole = whole_on list more u.seen u.stage q.whole (omega arith);
              note = q.note;
            });
      }

  -- each number that a pass holds is out
  pub own_out : (id : ℕ) (v : View E) → get_elem? views id ≡ some v → (n : ℕ) → 0 < times n v.holds → IsOut hands takes n list
  own_out id v at n lt = d.out n (let a = total_at (λ (u : View E). times n u.holds) views id v at in omega arith)

  cut_total : (f : View E → ℕ) (id : ℕ) (v w new : View E) → get_elem? views id ≡ some v → f w + f new ≡ f v → total f (set views id w ++ new ∷ []) ≡ total f views
  cut_total f id v w new at parts = let s = total_set f views id v w at in let a = total_append f (set views id w) (new ∷ []) in omega arith

  -- a pass is cut in two
  pub deals_split : (id : ℕ) (v : View E) (number : Option ℕ) (units : ℕ) → get_elem? views id ≡ some v → units < v.units → AreHeld (option_to_list number) v.holds → (IsSome number → 0 < units)
      → Dealt hands takes list tickets (set views id (kept_part number units v) ++ given_part number units v ∷ [])
  deals_split id v number units at some_left held some_given =
      let k = d.each id v at in
      let w : View E = kept_part number units v in
      let new : View E = given_part number units v in
      let views' : List (View E) = set views id w ++ new ∷ [] in
      let holds : (n : ℕ) → held_by n views' ≡ held_by n views = λ n. cut_total (λ (u : View E). times n u.holds) id v w new at
      (times_parted n number v.holds held (let a = total_at (λ (u : View E). times n u.holds) views id v at in let c = d.alone n in omega arith)) in record {
        counted = let s = cut_total (λ (u : View E). tickets_at u.stage) id v w new at (omega arith) in let c = d.counted in omega arith;
        drawn = λ n. once_same (length list) tickets n (drawn_by n views) (drawn_by n views') (cut_total (λ (u : View E). ticket_at n u.stage) id v w new at (omega arith)) (d.drawn n);
        placed = λ p. once_same 0 (length list) p (placed_by p views) (placed_by p views') (cut_total (λ (u : View E). times p u.mine) id v w new at (omega arith)) (d.placed p);
        units = let s = cut_total (λ (u : View E). u.units) id v w new at (omega arith) in let c = d.units in omega arith;
        alone = λ n. let s = holds n in let c = d.alone n in omega arith;
        out = λ n lt. d.out n (let s = holds n in omega arith);
        each = λ j u is. ⊎_elim
            (λ (old : get_elem? (set views id w) j ≡ some u). knows_set list views id w
            record { begins = k.begins; left_begins = k.left_begins; right_begins = k.right_begins; below = k.below; rises = k.rises; whole = k.whole; note = λ none. absurd (omega arith) }
            (λ i x ne e. d.each i x e) j u old)
            (λ (e : new ≡ u). subst (Knows list) e
            record { begins = k.begins; left_begins = (list, refl); right_begins = (list, refl); below = tt; rises = tt; whole = tt; note = λ none. (refl, refl, no_number number units some_given none) })
            (at_snoc (set views id w) new u j is);
      }

  join_total : (f : View E → ℕ) (id other : ℕ) (v w b : View E) → get_elem? views id ≡ some v → get_elem? (set views id b) other ≡ some w → f b ≡ f v + f w → f spent ≡ 0
      → total f (set (set views id b) other spent) ≡ total f views
  join_total f id other v w b at is parts none = let s = total_set f views id v b at in let t = total_set f (set views id b) other w spent is in omega arith

  -- a pass is joined into another
  pub deals_join : (id other : ℕ) (v w : View E) → get_elem? views id ≡ some v → other ≢ id → get_elem? (set views id (both v w)) other ≡ some w → w.stage ≡ Idle → 0 < v.units
      → Dealt hands takes list tickets (set (set views id (both v w)) other spent)
  deals_join id other v w at apart is idle some_units =
      let b : View E = both v w in
      let views' : List (View E) = set (set views id b) other spent in
      let there : get_elem? views other ≡ some w = sym (set_else views id other b apart) ∙ is in
      let k = d.each id v at in
      let q = d.each other w there in
      let holds : (n : ℕ) → held_by n views' ≡ held_by n views = λ n. join_total (λ (u : View E). times n u.holds) id other v w b at is (let a = times_append n w.holds v.holds in omega arith) refl in
      let once : (n : ℕ) → times n w.mine + times n v.mine ≤ 1 = λ n. (let two = total_two (λ (u : View E). times n u.mine) views id other v w apart at there in let o = once_le 0 (length list) n (placed_by n views) (d.placed n) in omega arith) in
      let known : Knows list b = record {
        begins = prefix_longer v.seen w.seen list k.begins q.begins;
        left_begins = k.begins;
        right_begins = q.begins;
        below = below_merge (length b.seen) w.mine v.mine (below_more (length w.seen) (length b.seen) w.mine (longer_right v.seen w.seen) q.below) (below_more (length v.seen) (length b.seen) v.mine (longer_left v.seen w.seen) k.below);
        rises = merge_rises 0 w.mine v.mine q.rises k.rises once;
        whole = whole_longer list v.seen w.seen v.stage k.whole q.begins;
        note = λ none. absurd (omega arith);
      } in record {
        counted = let s = join_total (λ (u : View E). tickets_at u.stage) id other v w b at is (let z : tickets_at w.stage ≡ 0 = ap tickets_at idle in omega arith) refl in let c = d.counted in omega arith;
        drawn = λ n. once_same (length list) tickets n (drawn_by n views) (drawn_by n views')
            (join_total (λ (u : View E). ticket_at n u.stage) id other v w b at is (let z : ticket_at n w.stage ≡ 0 = ap (ticket_at n) idle in omega arith) refl) (d.drawn n);
        placed = λ p. once_same 0 (length list) p (placed_by p views) (placed_by p views')
            (join_total (λ (u : View E). times p u.mine) id other v w b at is (let a = times_merge p w.mine v.mine in omega arith) refl) (d.placed p);
        units = let s = join_total (λ (u : View E). u.units) id other v w b at is refl refl in let c = d.units in omega arith;
        alone = λ n. let s = holds n in let c = d.alone n in omega arith;
        out = λ n lt. d.out n (let s = holds n in omega arith);
        each = knows_set list (set views id b) other spent (knows_blank list) (λ j u ne e. knows_set list views id b known (λ i x no at'. d.each i x at') j u e);
      }

  pub turning_join : (id other : ℕ) (v w : View E) → get_elem? views id ≡ some v → get_elem? (set views id (both v w)) other ≡ some w → w.stage ≡ Idle
      → turning (set (set views id (both v w)) other spent) ≡ turning views
  turning_join id other v w at is idle = join_total (λ (u : View E). turns_at u.stage) id other v w (both v w) at is (let z : turns_at w.stage ≡ 0 = ap turns_at idle in omega arith) refl

  pub turning_split : (id : ℕ) (v : View E) (number : Option ℕ) (units : ℕ) → get_elem? views id ≡ some v
      → turning (set views id (kept_part number units v) ++ given_part number units v ∷ []) ≡ turning views
  turning_split id v number units at = cut_total (λ (u : View E). turns_at u.stage) id v (kept_part number units v) (given_part number units v) at (omega arith)

  -- where a pass has all units, all others are notes
  others_are_notes : (id : ℕ) (v : View E) → get_elem? views id ≡ some v → v.units ≡ LAST → (j : ℕ) (u : View E) → j ≢ id → get_elem? views j ≡ some u
      → (u.stage ≡ Idle) × (u.mine ≡ []) × (u.holds ≡ [])
  others_are_notes id v at all j u ne is = (d.each j u is).note (let two = total_two (λ (x : View E). x.units) views id j v u ne at is in let c = d.units in omega arith)

  place_is_mine : (id : ℕ) (v : View E) → get_elem? views id ≡ some v → v.units ≡ LAST → (p : ℕ) → p < length list → times p v.mine ≡ 1
  place_is_mine id v at all p lt =
      let only = total_only (λ (u : View E). times p u.mine) views id v at (λ j u ne is. ap (times p) (others_are_notes id v at all j u ne is).1) in
      let o = (d.placed p).within (omega arith) lt in omega arith

  -- with all units, the places of a pass are every place
  pub has_all_places : (id : ℕ) (v : View E) → get_elem? views id ≡ some v → v.units ≡ LAST → v.mine ≡ places (length list)
  has_all_places id v at all =
      let k = d.each id v at in
      all_places (length list) v.mine k.rises (below_more (length v.seen) (length list) v.mine (prefix_length v.seen list k.begins) k.below) (place_is_mine id v at all)

  -- and it has seen the whole list
  pub has_seen_all : (id : ℕ) (v : View E) → get_elem? views id ≡ some v → v.units ≡ LAST → v.seen ≡ list
  has_seen_all id v at all = let k = d.each id v at in
      prefix_whole v.seen list k.begins (dite {C = length list ≤ length v.seen} (dec_le (length list) (length v.seen)) (λ le. le)
      (λ no. let one = place_is_mine id v at all (length v.seen) (omega arith) in let none = times_above (length v.seen) (length v.seen) v.mine (omega arith) k.below in absurd (omega arith)))

  -- and no pass has the turn, where it has none
  pub none_turns_at_end : (id : ℕ) (v : View E) → get_elem? views id ≡ some v → v.units ≡ LAST → v.stage ≡ Idle → turning views ≡ 0
  none_turns_at_end id v at all idle = grind (arith, total_only, others_are_notes)

module _ {E : Type 0} (hands : E → Option ℕ) (takes : E → List ℕ) where
  first_knows : (id : ℕ) (v : View E) → get_elem? (fresh ∷ []) id ≡ some v → Knows [] v
  first_knows zero v at = grind arith
  first_knows (suc id) v at = absurd (some-ne-none v (sym at))

  pub deals_first : Dealt hands takes [] 0 (fresh ∷ [])
  deals_first = grind (arith, first_knows)
