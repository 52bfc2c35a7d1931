-- A transaction that a session releases or takes over, and a port that is split off it or joined into it.
use Rattle.handle_pass.proofs.{Words.{◌≡◌, ℕ, ◌+◌, ◌-◌, ◌<◌, ◌++◌, Bool, true, false, Option, Some, None, IfSome, cond, is_some, refl, sym, ap, ◌∙◌, arith, Checked, Doing, times, view, View, IsAlike, IsPrefix, Entry, Port, Tx, Start, IsSameTx, Inside, IsSession, IsPortAt, Joined, Split, device_of, given_part, kept_part, mine_of, IsReleased, Own, Released, TookOver, checked_of, held_state, own_of, port_units, SessionState, state_of, units_of}, Entering.{count_both, count_of, own_same}}
use Rattle.iso_shared.specs.Ports.{IsTx, check_of}

-- a session with more than 33 units has a port with more than 32
pub more_units : (s : SessionState) → 33 < s.units → 32 < port_units s
more_units s more = by (is_some s.own)
  where
    by : (b : Bool) → 32 < s.units - cond b 1 0
    by true = omega (arith, more)
    by false = omega (arith, more)

module _ {D O : Type 0} where
  -- the units of a session's port
  pub left_units : (v : View Entry) (tx : Option (Tx D O)) → IfSome tx (λ t. (view t.pass).units ≡ 1) → units_of v tx - cond (is_some (own_of tx)) 1 0 ≡ v.units
  left_units v None one = omega arith
  left_units v (Some t) one = omega (arith, one)

  mine_same : (v w : View Entry) (tx : Option (Tx D O)) → w.mine ≡ v.mine → mine_of w tx ≡ mine_of v tx
  mine_same v w None same = same
  mine_same v w (Some t) same = ap (λ m. m ++ (view t.pass).mine) same

  units_less : (v w : View Entry) (tx : Option (Tx D O)) (n : ℕ) → w.units + n ≡ v.units → units_of w tx + n ≡ units_of v tx
  units_less v w None n less = less
  units_less v w (Some t) n less = omega (arith, less)

  -- p is the session's port after a split, and q the one that was split off
  pub split_off : (s : Inside D O) (p q : Port D O) → IsPortAt (device_of s.shared.now) q → 32 < (view s.port.pass).units → view p.pass ≡ kept_part None 32 (view s.port.pass) → view q.pass ≡ given_part None 32 (view s.port.pass)
      → Split (state_of s) q (state_of (record { shared = s.shared; port = p; tx = s.tx }))
  split_off s p q port some kept given = record {
    port = port;
    given = ap (λ (v : View Entry). v.units) given;
    less = units_less (view s.port.pass) (view p.pass) s.tx 32 (let a : (view p.pass).units ≡ (view s.port.pass).units - 32 = ap (λ (v : View Entry). v.units) kept in omega (arith, a, some));
    none = λ k. ap (λ (v : View Entry). times k v.mine) given;
    told = ap (λ (v : View Entry). v.seen) given;
    known = ap (λ (v : View Entry). v.seen) kept;
    places = λ k. ap (times k) (mine_same (view s.port.pass) (view p.pass) s.tx (ap (λ (v : View Entry). v.mine) kept));
    tx = record { is = refl; upto = refl };
    of = refl;
  }

  -- p is the session's port after a join of q
  pub joined_in : (s : Inside D O) (p q : Port D O) → (view p.pass).units ≡ (view s.port.pass).units + (view q.pass).units → IsPrefix (view s.port.pass).seen (view p.pass).seen → IsPrefix (view q.pass).seen (view p.pass).seen
      → ((k : ℕ) → times k (view p.pass).mine ≡ times k (view s.port.pass).mine + times k (view q.pass).mine) → Joined (state_of s) q (state_of (record { shared = s.shared; port = p; tx = s.tx }))
  joined_in s p q more known told places = record {
    more = by_units s.tx;
    told = told;
    known = known;
    places = λ k. by k s.tx;
    tx = record { is = refl; upto = refl };
    of = refl;
  }
    where
      by_units : (tx : Option (Tx D O)) → units_of (view p.pass) tx ≡ units_of (view s.port.pass) tx + (view q.pass).units
      by_units None = more
      by_units (Some t) = omega (arith, more)

      by : (k : ℕ) (tx : Option (Tx D O)) → count_of (view p.pass) tx k ≡ count_of (view s.port.pass) tx k + times k (view q.pass).mine
      by k None = places k
      by k (Some t) =
          let a = count_both (view p.pass) (Some t) t k refl in
          let b = count_both (view s.port.pass) (Some t) t k refl in
          let c = places k in omega (arith, a, b, c)

  -- the same transaction as one that is the same, and up to which commit it was compared ahead
  pub same_on : (t u w : Tx D O) → IsSameTx t u → IsSameTx u w → IsSameTx t w
  same_on t u w first second = record {
    number = second.number ∙ first.number;
    work = second.work ∙ ap (λ (d : Doing). record d { settled = w.work.settled }) first.work;
    checked = second.checked ∙ first.checked;
  }

  pub upto_same : (t u : Tx D O) → IsSameTx t u → (check_of u).upto ≡ (check_of t).upto
  upto_same t u same = ap (λ (c : Checked). c.upto) same.checked

  -- u is the transaction t as it was told what the session knows
  pub released : (A : Start) (s : Inside D O) (q : Port D O) (tx : Option (Tx D O)) (t u : Tx D O) → IsSession A s → s.tx ≡ Some t → tx ≡ None → IsTx s.shared.now A u → IsSameTx t u → IsAlike (view t.pass) (view u.pass)
      → (view t.pass).units ≡ 1 → view q.pass ≡ view s.port.pass → IsPrefix (view s.port.pass).seen (view u.pass).seen → Released (state_of s) (held_state u) (state_of (record { shared = s.shared; port = q; tx = tx }))
  released A s q tx t u is was none rests same alike one kept told = record {
    was = ap own_of was ∙ ap Some (sym (own_same t u same));
    upto = upto_same t u same ∙ sym (ap checked_of was);
    left = ap own_of none;
    told = told;
    same = ap (λ (v : View Entry). v.seen) kept;
    places = λ p.
        let a : count_of (view q.pass) tx p ≡ times p (view q.pass).mine = ap (λ o. count_of (view q.pass) o p) none in
        let b : times p (view q.pass).mine ≡ times p (view s.port.pass).mine = ap (λ (v : View Entry). times p v.mine) kept in
        let c : times p (view u.pass).mine ≡ times p (view t.pass).mine = ap (times p) alike.0 in
        let d = count_both (view s.port.pass) s.tx t p was in
        omega (arith, a, b, c, d);
    units =
        let a : units_of (view q.pass) tx ≡ (view q.pass).units = ap (λ o. units_of (view q.pass) o) none in
        let b : (view q.pass).units ≡ (view s.port.pass).units = ap (λ (v : View Entry). v.units) kept in
        let d : units_of (view s.port.pass) s.tx ≡ (view s.port.pass).units + (view t.pass).units = ap (λ (o : Option (Tx D O)). units_of (view s.port.pass) o) was in
        omega (arith, a, b, d, one);
    of = (refl, rests.0.0);
  }

  -- u is the transaction t of the handle after the session was told what it knows
  pub took_over : (A : Start) (s : Inside D O) (q : Port D O) (tx : Option (Tx D O)) (t u : Tx D O) (at : ℕ) → s.tx ≡ None → tx ≡ Some u → IsSameTx t u → view u.pass ≡ view t.pass → IsReleased A t → IsAlike (view s.port.pass) (view q.pass)
      → at ≡ u.work.begin → IsPrefix (view t.pass).seen (view q.pass).seen → IsPrefix (view s.port.pass).seen (view q.pass).seen
      → TookOver (state_of s) (held_state t) at (state_of (record { shared = s.shared; port = q; tx = tx }))
  took_over A s q tx t u at none some same kept is alike begun told more = record {
    none = ap own_of none;
    is = ap own_of some ∙ ap Some (own_same t u same);
    upto = ap checked_of some ∙ upto_same t u same;
    begun = begun ∙ ap (λ (o : Own). o.begin) (own_same t u same);
    told = told;
    more = more;
    places = λ p.
        let a = count_both (view q.pass) tx u p some in
        let b : times p (view q.pass).mine ≡ times p (view s.port.pass).mine = ap (times p) alike.0 in
        let c : times p (view u.pass).mine ≡ times p (view t.pass).mine = ap (λ (v : View Entry). times p v.mine) kept in
        let d : count_of (view s.port.pass) s.tx p ≡ times p (view s.port.pass).mine = ap (λ (o : Option (Tx D O)). count_of (view s.port.pass) o p) none in
        omega (arith, a, b, c, d);
    units =
        let a : units_of (view q.pass) tx ≡ (view q.pass).units + (view u.pass).units = ap (λ o. units_of (view q.pass) o) some in
        let b : (view q.pass).units ≡ (view s.port.pass).units = alike.2 in
        let c : (view u.pass).units ≡ (view t.pass).units = ap (λ (v : View Entry). v.units) kept in
        let d : units_of (view s.port.pass) s.tx ≡ (view s.port.pass).units = ap (λ (o : Option (Tx D O)). units_of (view s.port.pass) o) none in
        let e = is.one in
        omega (arith, a, b, c, d, e);
    of = refl;
  }
