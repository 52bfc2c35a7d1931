-- Each step keeps the rule of the table, and tells what it is to tell.
use Rattle.turn_lock.proofs.{Words.{◌≡◌, ℕ, ◌+◌, ◌-◌, ◌%◌, ◌^◌, ◌<◌, ◌≤◌, ◌==◌, List, [], ◌∷◌, ◌++◌, length, set, get_or, Option, Some, None, IsSome, is_some, sym, refl, ap, ◌∙◌, subst, inl, inr, ⊎_elim, arith, rules, length-append, State, step, Act, keeps, takes, gives, stepped, Valid, Allows, Splits, Joins, Final, Seen, opening, put_back, rest, carried_after, set_again, exchanged, LAST, View, Idle, Waits, Turns, times, AllBelow, places, longer, option_to_list, IsOut, AreOut, AreFree, AreHeld, fresh, spent, waits, turns, gave, kept_part, given_part, both, turns_at, turning, Dealt, Rests, Fair, ticket_of, Sat, drew, Turned, looked, advanced, settled, stayed, IsPlaced, IsAtRest, IsAtTurn, Settled, dite, none, some, some-injective, ℕ_discrete, get_elem?, set-get_or, either}, Prefixes.{prefix_length, prefix_whole, prefix_shorter, longer_left, longer_right}, Totals.{total_set, total_at}, Rising.{below_more, below_snoc, rises_snoc}, Outs.{handed_out, taken_free}, Dealing.{whole_at, deals_draw, deals_turn, none_turns, served_is_drawn, deals_entry, own_out, deals_split, deals_join, turning_join, turning_split, has_all_places, has_seen_all, none_turns_at_end, deals_first}}
use mathlib.Core.Option as maybe

-- the next number, in 64 bits
next_fits : (n t : ℕ) → n < t → t ≤ LAST → (n + 1) % 2 ^ 64 ≡ n + 1
next_fits n t lt le = omega arith

module _ {X E : Type 0} (stands : X → List E → Type 0) (hands : E → Option ℕ) (takes_back : E → List ℕ) where
  abbrev Table : Type 0
  Table = State (Option X) (View E)

  abbrev Rule : Table → Type 0
  Rule = Fair stands hands takes_back

  -- a load of a word that changes no view
  stands_still : (s : Table) (r : Rule s) (i id : ℕ) (v : View E) → get_elem? s.views id ≡ some v
      → Rule record { words = set s.words i (get_or s.words i 0); homes = s.homes; views = set s.views id v }
  stands_still s r i id v at = let same : set s.views id v ≡ s.views = set_again s.views id v at in record {
    list = r.list;
    tickets = r.tickets;
    others = r.others;
    words_are = set-get_or s.words i 0 ∙ r.words_are;
    few = r.few;
    dealt = subst (Dealt hands takes_back r.list r.tickets) (sym same) r.dealt;
    slot = subst (λ (vs : List (View E)). Rests stands s.homes r.list (turning vs)) (sym same) r.slot;
  }

  pub draws : (slots id n : ℕ) (m : Sat X E) → m.0.stage ≡ Idle → 0 < m.0.units → n < LAST
      → Allows Rule slots id m 0 (λ k. either (k == n) (n + 1) k) (drew (step slots 0 n (n + 1) none) m)
  draws slots id n m idle some_units room s r deep at fits =
      let k : ℕ = get_or s.words 0 0 in
      let Goal : ℕ → Type 0 = λ z. (w : View E) × (a : Act (Option X)) × Valid s.homes m.1 a × Rule (stepped s 0 z id m.1 w a) × drew (step slots 0 n (n + 1) none) m k (w, carried_after m.1 a) in
      exchanged k n (n + 1) Goal
      (λ hit_it.
      let next : k ≡ r.tickets = ap (λ ws. get_or ws 0 0) r.words_are in
      let is : n ≡ r.tickets = sym hit_it ∙ next in
      let w : View E = waits n m.0 in
      let stage_is : turns_at m.0.stage ≡ 0 = ap turns_at idle in
      let same : turning (set s.views id w) ≡ turning s.views = (let t = total_set (λ (u : View E). turns_at u.stage) s.views id m.0 w at in omega arith) in (
        w,
        keeps,
        tt,
        record {
          list = r.list;
          tickets = n + 1;
          others = r.others;
          words_are = ap (λ ws. set ws 0 (n + 1)) r.words_are;
          few = omega arith;
          dealt = subst (λ z. Dealt hands takes_back r.list (z + 1) (set s.views id (waits z m.0))) (sym is) (deals_draw hands takes_back r.list r.tickets s.views r.dealt id m.0 at idle some_units);
          slot = subst (Rests stands s.homes r.list) (sym same) r.slot;
        },
        (λ e. refl, λ ne. absurd (ne hit_it)),
      ))
      (λ missed. (m.0, keeps, tt, stands_still s r 0 id m.0 at, (λ e. absurd (missed e), λ ne. refl)))

  -- a step on a word after the first two
  behind : (a b i n : ℕ) (others : List ℕ) → 2 ≤ i → set (a ∷ b ∷ others) i n ≡ a ∷ b ∷ set others (i - 2) n
  behind a b i n others le = search rules

  pub changes_word : (slots id i : ℕ) (f : ℕ → ℕ) (m : Sat X E) → 2 ≤ i → Allows Rule slots id m i f (λ _ m'. m' ≡ m)
  changes_word slots id i f m le s r deep at fits = let n : ℕ = f (get_or s.words i 0) in let same : set s.views id m.0 ≡ s.views = set_again s.views id m.0 at in (
    m.0,
    keeps,
    tt,
    record {
      list = r.list;
      tickets = r.tickets;
      others = set r.others (i - 2) n;
      words_are = ap (λ ws. set ws i n) r.words_are ∙ behind r.tickets (length r.list) i n r.others le;
      few = r.few;
      dealt = subst (Dealt hands takes_back r.list r.tickets) (sym same) r.dealt;
      slot = subst (λ (vs : List (View E)). Rests stands s.homes r.list (turning vs)) (sym same) r.slot;
    },
    refl,
  )

  pub stores_word : (slots id i n : ℕ) (m : Sat X E) → 2 ≤ i → Allows Rule slots id m i (λ _. n) (λ _. stayed (step slots i n 0 none) m n)
  stores_word slots id i n m le = changes_word slots id i (λ _. n) m le

  turn_comes : (slots id t : ℕ) (m : Sat X E) (s : Table) (r : Rule s) → m.0.stage ≡ Waits t → m.1 ≡ [] → get_elem? s.views id ≡ some m.0 → get_or s.words 1 0 ≡ t
      → (w : View E) × (a : Act (Option X)) × Valid s.homes m.1 a × Rule (stepped s 1 (get_or s.words 1 0) id m.1 w a) × Turned stands hands takes_back t m.0 (w, carried_after m.1 a)
  turn_comes slots id t m s r stage idle at is =
      let served : get_or s.words 1 0 ≡ length r.list = ap (λ ws. get_or ws 1 0) r.words_are in
      let place : t ≡ length r.list = sym is ∙ served in
      let none_has : turning s.views ≡ 0 = none_turns hands takes_back r.list r.tickets s.views r.dealt id t m.0 at stage place in
      let w : View E = turns t r.list m.0 in
      let one : turning (set s.views id w) ≡ 1 = (let c = total_set (λ (u : View E). turns_at u.stage) s.views id m.0 w at in let z : turns_at m.0.stage ≡ 0 = ap turns_at stage in omega arith) in
      ⊎_elim
      (λ (home : (x : X) × (s.homes ≡ some (Some x) ∷ []) × stands x r.list × (turning s.views ≡ 0)). (
        w,
        takes 0 (Some home.0),
        ap (λ (h : List (maybe.Option (Option X))). get_elem? h 0) home.1,
        record {
          list = r.list;
          tickets = r.tickets;
          others = r.others;
          words_are = set-get_or s.words 1 0 ∙ r.words_are;
          few = r.few;
          dealt = deals_turn hands takes_back r.list r.tickets s.views r.dealt id t m.0 at stage place;
          slot = inr (ap (λ (h : List (maybe.Option (Option X))). set h 0 none) home.1, one);
        },
        record {
          value = home.0;
          list = r.list;
          view_is = refl;
          slot_is = ap (λ (c : List (ℕ × Option X)). (0, Some home.0) ∷ c) idle;
          stands_for = home.2;
          seen = (r.dealt.each id m.0 at).begins;
          place = place;
          out = own_out hands takes_back r.list r.tickets s.views r.dealt id m.0 at;
          all = λ all. has_all_places hands takes_back r.list r.tickets s.views r.dealt id m.0 at all;
        },
      ))
      (λ (out : (s.homes ≡ none ∷ []) × (turning s.views ≡ 1)). let e : turning s.views ≡ 1 = out.1 in absurd (omega arith))
      r.slot

  pub looks : (slots id t : ℕ) (m : Sat X E) → m.0.stage ≡ Waits t → m.1 ≡ [] → Allows Rule slots id m 1 (λ n. n) (looked stands hands takes_back (step slots 1 0 0 none) m)
  looks slots id t m stage idle s r deep at fits =
      let k : ℕ = get_or s.words 1 0 in
      let T : ℕ = ticket_of m.0.stage in
      let mine : T ≡ t = ap ticket_of stage in
      let Goal : Type 0 = (w : View E) × (a : Act (Option X)) × Valid s.homes m.1 a × Rule (stepped s 1 k id m.1 w a) × looked stands hands takes_back (step slots 1 0 0 none) m k (w, carried_after m.1 a) in
      dite {C = Goal} (ℕ_discrete k T)
      (λ here. let c = turn_comes slots id T m s r (stage ∙ ap Waits (sym mine)) idle at here in (c.0, c.1, c.2, c.3, (λ e. c.4, λ ne. absurd (ne here))))
      (λ other. (m.0, keeps, tt, stands_still s r 1 id m.0 at, (λ e. absurd (other e), λ ne. refl)))

  pub settles : (slots id : ℕ) (m : Sat X E) → length m.0.left ≤ length m.0.seen → length m.0.right ≤ length m.0.seen → Allows Rule slots id m 1 (λ n. n) (settled (step slots 1 0 0 none) m)
  settles slots id m left right s r deep at fits = let k = r.dealt.each id m.0 at in (
    m.0,
    keeps,
    tt,
    stands_still s r 1 id m.0 at,
    (
      refl,
      record {
        left = prefix_shorter m.0.left m.0.seen r.list k.left_begins k.begins left;
        right = prefix_shorter m.0.right m.0.seen r.list k.right_begins k.begins right;
        placed = (k.rises, k.below);
        whole = λ ticket is size. let w = whole_at r.list m.0.seen m.0.stage ticket is k.whole in let e = w.1 in prefix_whole m.0.left r.list k.left_begins (omega arith) ∙ sym w.0;
        alone = λ n. let a = total_at (λ (u : View E). times n u.holds) s.views id m.0 at in let c = r.dealt.alone n in omega arith;
        units = let a = total_at (λ (u : View E). u.units) s.views id m.0 at in let c = r.dealt.units in omega arith;
      },
    ),
  )

  pub advances : (slots id t next : ℕ) (m : Sat X E) (x : X) (e : E) → next ≡ (t + 1) % 2 ^ 64 → m.0.stage ≡ Turns t → m.1 ≡ (0, Some x) ∷ [] → stands x (m.0.seen ++ e ∷ [])
      → AreFree hands takes_back (option_to_list (hands e)) m.0.seen → AreHeld (takes_back e) m.0.holds
      → Allows Rule slots id m 1 (λ _. next) (λ _. advanced hands takes_back e (step slots 1 next 0 none) m next)
  advances slots id t next m x e up stage has value free held s r deep at fits =
      let k = r.dealt.each id m.0 at in
      let whole = whole_at r.list m.0.seen m.0.stage t stage k.whole in
      let more : List E = r.list ++ e ∷ [] in
      let size : length more ≡ length r.list + 1 = length-append r.list (e ∷ []) in
      let later : length r.list < r.tickets = served_is_drawn hands takes_back r.list r.tickets s.views r.dealt id t m.0 at stage in
      let next_is : next ≡ length more = up ∙ (ap (λ z. (z + 1) % 2 ^ 64) whole.1 ∙ (next_fits (length r.list) r.tickets later r.few ∙ sym size)) in
      let w : View E = gave hands takes_back e m.0 in
      let holder : turns_at m.0.stage ≡ 1 = ap turns_at stage in
      let some_has = total_at (λ (u : View E). turns_at u.stage) s.views id m.0 at in
      let change = total_set (λ (u : View E). turns_at u.stage) s.views id m.0 w at in
      ⊎_elim
      (λ (home : (x : X) × (s.homes ≡ some (Some x) ∷ []) × stands x r.list × (turning s.views ≡ 0)). let z : turning s.views ≡ 0 = home.3 in absurd (omega arith))
      (λ (out : (s.homes ≡ none ∷ []) × (turning s.views ≡ 1)). let z : turning s.views ≡ 1 = out.1 in (
        w,
        gives,
        tt,
        record {
          list = more;
          tickets = r.tickets;
          others = r.others;
          words_are = ap (λ ws. set ws 1 next) r.words_are ∙ ap (λ q. r.tickets ∷ q ∷ r.others) next_is;
          few = r.few;
          dealt = deals_entry hands takes_back r.list r.tickets s.views r.dealt id t m.0 e at stage free held;
          slot = inl (x, homes_back s.homes m.1 x has out.0, subst (λ (l : List E). stands x (l ++ e ∷ [])) whole.0 value, omega arith);
        },
        (refl, taken_free hands takes_back m.0.holds m.0.seen e (λ n lt. subst (IsOut hands takes_back n) (sym whole.0) (own_out hands takes_back r.list r.tickets s.views r.dealt id m.0 at n lt)) free held),
      ))
      r.slot
    where
      homes_back : (hs : List (maybe.Option (Option X))) (c : List (ℕ × Option X)) (x : X) → c ≡ (0, Some x) ∷ [] → hs ≡ none ∷ [] → put_back hs c ≡ some (Some x) ∷ []
      homes_back hs c x has out = ap (put_back hs) has ∙ ap (λ (h : List (maybe.Option (Option X))). set h 0 (some (Some x))) out

  pub splits : (id : ℕ) (v : View E) (number : Option ℕ) (units : ℕ) → units < v.units → AreHeld (option_to_list number) v.holds → (IsSome number → 0 < units)
      → Splits Rule id v (kept_part number units v) (given_part number units v)
  splits id v number units some_left held enough s r at = record {
    list = r.list;
    tickets = r.tickets;
    others = r.others;
    words_are = r.words_are;
    few = r.few;
    dealt = deals_split hands takes_back r.list r.tickets s.views r.dealt id v number units at some_left held enough;
    slot = subst (Rests stands s.homes r.list) (sym (turning_split hands takes_back r.list r.tickets s.views r.dealt id v number units at)) r.slot;
  }

  pub joins : (id other : ℕ) (v w : View E) → w.stage ≡ Idle → 0 < v.units → Joins Rule id v other w (both v w) spent
  joins id other v w idle some_units s r at apart is = record {
    list = r.list;
    tickets = r.tickets;
    others = r.others;
    words_are = r.words_are;
    few = r.few;
    dealt = deals_join hands takes_back r.list r.tickets s.views r.dealt id other v w at apart is idle some_units;
    slot = subst (Rests stands s.homes r.list) (sym (turning_join hands takes_back r.list r.tickets s.views r.dealt id other v w at is idle)) r.slot;
  }

  pub starts : (others : List ℕ) (x : X) → stands x [] → Rule (opening (0 ∷ 0 ∷ others) (Some x ∷ []) fresh)
  starts others x value = record {
    list = [];
    tickets = 0;
    others = others;
    words_are = refl;
    few = omega arith;
    dealt = deals_first hands takes_back;
    slot = inl (x, refl, value, refl);
  }

  -- what the last state shows of the value and of the pass with all units
  ends : (id : ℕ) (v : View E) (ws : List ℕ) (xs : List (Option X)) (slot : Option X) → v.stage ≡ Idle → v.units ≡ LAST → Final (Seen Rule id v) ws xs → get_elem? xs 0 ≡ some slot
      → (x : X) × (slot ≡ Some x) × stands x v.seen × (v.mine ≡ places (length v.seen))
  ends id v ws xs slot idle all final is =
      let s = final.0 in
      let r = final.1.0 in
      let at = final.1.1 in
      let seen : v.seen ≡ r.list = has_seen_all hands takes_back r.list r.tickets s.views r.dealt id v at all in
      let none_has = none_turns_at_end hands takes_back r.list r.tickets s.views r.dealt id v at all idle in
      ⊎_elim
      (λ (home : (x : X) × (s.homes ≡ some (Some x) ∷ []) × stands x r.list × (turning s.views ≡ 0)). (
        home.0,
        some-injective slot (Some home.0) (sym is ∙ final.4 0 (Some home.0) (ap (λ (h : List (maybe.Option (Option X))). get_elem? h 0) home.1)),
        subst (stands home.0) (sym seen) home.2,
        has_all_places hands takes_back r.list r.tickets s.views r.dealt id v at all ∙ ap (λ (l : List E). places (length l)) (sym seen),
      ))
      (λ (out : (s.homes ≡ none ∷ []) × (turning s.views ≡ 1)). let z : turning s.views ≡ 1 = out.1 in absurd (omega arith))
      r.slot

  pub ends_full : (id : ℕ) (v : View E) (ws : List ℕ) (xs : List (Option X)) (slot : Option X) → v.stage ≡ Idle → v.units ≡ LAST → Final (Seen Rule id v) ws xs → get_elem? xs 0 ≡ some slot → IsSome slot
  ends_full id v ws xs slot idle all final is = ap is_some (ends id v ws xs slot idle all final is).1

  pub ends_value : (id : ℕ) (v : View E) (ws : List ℕ) (xs : List (Option X)) (slot : Option X) (x : X) → v.stage ≡ Idle → v.units ≡ LAST → Final (Seen Rule id v) ws xs → get_elem? xs 0 ≡ some slot → slot ≡ Some x
      → stands x v.seen
  ends_value id v ws xs slot x idle all final is full =
      let e = ends id v ws xs slot idle all final is in
      let same : e.0 ≡ x = cc in
      subst (λ (z : X). stands z v.seen) same e.2

  pub ends_places : (id : ℕ) (v : View E) (ws : List ℕ) (xs : List (Option X)) (slot : Option X) → v.stage ≡ Idle → v.units ≡ LAST → Final (Seen Rule id v) ws xs → get_elem? xs 0 ≡ some slot
      → v.mine ≡ places (length v.seen)
  ends_places id v ws xs slot idle all final is = (ends id v ws xs slot idle all final is).3

  -- the load after a join
  pub settles_both : (slots id : ℕ) (m : Sat X E) (v w : View E) → m.0 ≡ both v w → Allows Rule slots id m 1 (λ n. n) (settled (step slots 1 0 0 none) m)
  settles_both slots id m v w is =
      let a : length m.0.left ≡ length v.seen = ap (λ (z : View E). length z.left) is in
      let b : length m.0.right ≡ length w.seen = ap (λ (z : View E). length z.right) is in
      let c : length m.0.seen ≡ length (longer v.seen w.seen) = ap (λ (z : View E). length z.seen) is in
      let d = longer_left v.seen w.seen in
      let e = longer_right v.seen w.seen in
      settles slots id m (omega arith) (omega arith)

  -- the store of a give, once the value is back in its slot
  pub gives_back : (slots id t next : ℕ) (m old : Sat X E) (x : X) (e : E) → m ≡ (old.0, (0, Some x) ∷ rest old.1) → next ≡ (t + 1) % 2 ^ 64 → IsAtTurn old t
      → stands x (old.0.seen ++ e ∷ []) → AreFree hands takes_back (option_to_list (hands e)) old.0.seen → AreHeld (takes_back e) old.0.holds
      → Allows Rule slots id m 1 (λ _. next) (λ _. advanced hands takes_back e (step slots 1 next 0 none) m next)
  gives_back slots id t next m old x e is up turn value free held =
      let there : m ≡ (old.0, (0, Some x) ∷ []) = is ∙ ap (λ (c : List (ℕ × Option X)). (old.0, (0, Some x) ∷ rest c)) turn.1 in
      subst (λ (q : Sat X E). Allows Rule slots id q 1 (λ _. next) (λ _. advanced hands takes_back e (step slots 1 next 0 none) q next)) (sym there)
      (advances slots id t next (old.0, (0, Some x) ∷ []) x e up turn.0 refl value free held)

  -- the pass after a give
  pub rests_after : (t : ℕ) (m m' old : Sat X E) (x : X) (e : E) → m ≡ (old.0, (0, Some x) ∷ rest old.1) → m' ≡ (gave hands takes_back e m.0, rest m.1) → IsAtTurn old t
      → IsAtRest m'
  rests_after t m m' old x e is is' turn =
      let there : m' ≡ (gave hands takes_back e old.0, rest old.1) = is' ∙ ap (λ (q : Sat X E). (gave hands takes_back e q.0, rest q.1)) is in
      let placed : IsPlaced (gave hands takes_back e old.0) = (
        rises_snoc 0 (length old.0.seen) old.0.mine (omega arith) turn.2.0 turn.2.1,
        subst (λ z. AllBelow z (gave hands takes_back e old.0).mine) (sym (length-append old.0.seen (e ∷ []))) (below_snoc (length old.0.seen) old.0.mine turn.2.1),
      ) in (
        ap (λ (q : Sat X E). q.0.stage) there,
        ap (λ (q : Sat X E). q.1) there ∙ ap rest turn.1,
        subst (λ (q : Sat X E). IsPlaced q.0) (sym there) placed,
      )

  pub handed_after : (m m' : Sat X E) (e : E) → m' ≡ (gave hands takes_back e m.0, rest m.1) → AreOut hands takes_back (option_to_list (hands e)) m'.0.seen × AreHeld (option_to_list (hands e)) m'.0.holds
  handed_after m m' e is = subst (λ (q : Sat X E). AreOut hands takes_back (option_to_list (hands e)) q.0.seen × AreHeld (option_to_list (hands e)) q.0.holds) (sym is) (handed_out hands takes_back m.0.holds m.0.seen e)

  -- the steps of a take, from the pass that it began with
  pub draws_from : (slots id n : ℕ) (m old : Sat X E) → m ≡ old → old.0.stage ≡ Idle → 0 < old.0.units → n < LAST
      → Allows Rule slots id m 0 (λ k. either (k == n) (n + 1) k) (drew (step slots 0 n (n + 1) none) m)
  draws_from slots id n m old is idle some_units room = grind (arith, draws)

  pub looks_from : (slots id t : ℕ) (m : Sat X E) (v : View E) → m ≡ (waits t v, []) → Allows Rule slots id m 1 (λ n. n) (looked stands hands takes_back (step slots 1 0 0 none) m)
  looks_from slots id t m v is =
      subst (λ (q : Sat X E). Allows Rule slots id q 1 (λ n. n) (looked stands hands takes_back (step slots 1 0 0 none) q)) (sym is) (looks slots id t (waits t v, []) refl refl)

  pub comes_to_turn : (slots t found : ℕ) (m m' : Sat X E) (v : View E) → m ≡ (waits t v, []) → looked stands hands takes_back (step slots 1 0 0 none) m found m' → found ≡ t
      → Turned stands hands takes_back t (waits t v) m'
  comes_to_turn slots t found m m' v is told served = grind arith

  pub has_slot : (t : ℕ) (v : View E) (m' : Sat X E) → Turned stands hands takes_back t v m' → (o : Option X) × (m'.1 ≡ (0, o) ∷ rest m'.1)
  has_slot t v m' c = (Some c.value, c.slot_is ∙ ap (λ (q : List (ℕ × Option X)). (0, Some c.value) ∷ q) (sym (ap rest c.slot_is)))

  pub has_turn : (t : ℕ) (v : View E) (m' m'' : Sat X E) → Turned stands hands takes_back t v m' → m'' ≡ (m'.0, (0, None) ∷ rest m'.1) → IsPlaced v → IsAtTurn m'' t
  has_turn t v m' m'' c is placed = grind (arith, below_more, prefix_length)

  -- a pass at its turn, after a join
  pub whole_after : (t : ℕ) (m m' old : Sat X E) (w : View E) → m ≡ (both old.0 w, old.1) → m' ≡ m → Settled m.0 → IsAtTurn old t
      → m'.0.seen ≡ old.0.seen
  whole_after t m m' old w is same done turn = grind arith

  pub turn_after : (t : ℕ) (m m' old : Sat X E) (w : View E) → m ≡ (both old.0 w, old.1) → m' ≡ m → Settled m.0 → IsAtTurn old t
      → IsAtTurn m' t
  turn_after t m m' old w is same done turn = grind (arith, whole_after)

  pub rest_after : (m m' old : Sat X E) (w : View E) → m ≡ (both old.0 w, old.1) → m' ≡ m → Settled m.0 → IsAtRest old → IsAtRest m'
  rest_after m m' old w is same done idle = grind arith
