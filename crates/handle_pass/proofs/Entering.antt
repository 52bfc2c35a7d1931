-- What an entry of a session changes, by how port and transaction stand before and after it.
use Rattle.handle_pass.proofs.Words.{◌≡◌, ℕ, ◌+◌, ◌<◌, ◌≤◌, Bool, true, false, nat_lt, List, [], ◌∷◌, ◌++◌, Option, Some, None, IfSome, length, refl, sym, ap, ◌∙◌, subst, arith, is_some, nat_tests, Doing, View, hit, times, AllBelow, view, IsAlike, prefix_length, prefix_self, prefix_trans, times_above, times_append, CoreError, array_at, block_at, Entry, Port, Shared, Tx, IsLegal, IsSameTx, IsTxOf, MadeBoth, Start, opened, state_at, cause_of, posting_of_tx, own_on, legal_last, loose_is, Inside, Own, mine_of, own_in, state_of, units_of, IsSession, Made, Rested, left_by, IsPrefix, PassMade}
use Rattle.iso_model.specs.declared.core_error.CoreError.TheVariants as error
use Rattle.iso_shared.specs.declared.entry.Call.TheVariants as call
use Rattle.iso_shared.specs.declared.entry.Entry.TheVariants as entry
use Rattle.iso_shared.specs.Ports.{IsOf, IsPort, IsTx}

-- a number that is in a list of such is below the bound
below_of : (n p : ℕ) (xs : List ℕ) → AllBelow n xs → 0 < times p xs → p < n
below_of n p xs below some = by (nat_lt p n) refl
  where
    by : (b : Bool) → nat_lt p n ≡ b → p < n
    by true is = grind (arith, nat_tests)
    by false is =
        let past : n ≤ p = grind (arith, nat_tests) in
        let none = times_above n p xs past below in absurd (omega (arith, none, some))

-- one place more of a pass
pub one_place : (A : Start) (v u w : View Entry) (e : Entry) (m : PassMade A v u e w) (p : ℕ) → times p w.mine ≡ times p u.mine + hit (length m.before) p
one_place A v u w e m p =
    let a : times p w.mine ≡ times p (u.mine ++ length m.before ∷ []) = ap (times p) m.mine in
    let b = times_append p u.mine (length m.before ∷ []) in
    let h : ℕ = hit (length m.before) p in
    let g : times p u.mine + (h + 0) ≡ times p u.mine + h = omega arith in
    a ∙ b ∙ g

pub known_by : (before more w : List Entry) (e : Entry) → w ≡ before ++ e ∷ [] → IsPrefix w more → IsPrefix (before ++ e ∷ []) more
known_by before more w e is p = subst (λ l. IsPrefix l more) is p

module _ {D O : Type 0} where
  -- how often a place is one of the port's or of the transaction's entries
  abbrev pub count_of : View Entry → Option (Tx D O) → ℕ → ℕ
  count_of v tx p = times p (mine_of v tx)

  pub count_both : (v : View Entry) (o : Option (Tx D O)) (t : Tx D O) (p : ℕ) → o ≡ Some t → count_of v o p ≡ times p v.mine + times p (view t.pass).mine
  count_both v o t p is = ap (λ x. count_of v x p) is ∙ times_append p v.mine (view t.pass).mine

  -- each own place lies in what the session knows
  own_by : (sh : Shared D O) (A : Start) (v : View Entry) (tx : Option (Tx D O)) → AllBelow (length v.seen) v.mine → IfSome tx (λ t. IsTx sh A t × IsPrefix (view t.pass).seen v.seen)
      → (p : ℕ) → 0 < count_of v tx p → p < length v.seen
  own_by sh A v None below is p some = below_of (length v.seen) p v.mine below some
  own_by sh A v (Some t) below is p some = by (nat_lt 0 (times p v.mine)) refl
    where
      both : count_of v (Some t) p ≡ times p v.mine + times p (view t.pass).mine
      both = count_both v (Some t) t p refl

      by : (b : Bool) → nat_lt 0 (times p v.mine) ≡ b → p < length v.seen
      by true first = below_of (length v.seen) p v.mine below (grind (arith, nat_tests))
      by false first =
          let none : times p v.mine ≡ 0 = grind (arith, nat_tests) in
          let second = below_of (length (view t.pass).seen) p (view t.pass).mine is.0.0.1.2.1 (omega (arith, none, some, both)) in
          omega (arith, second, prefix_length (view t.pass).seen v.seen is.1)

  pub own_below : (A : Start) (s : Inside D O) → IsSession A s → (p : ℕ) → 0 < count_of (view s.port.pass) s.tx p → p < length (view s.port.pass).seen
  own_below A s is p some = own_by s.shared.now A (view s.port.pass) s.tx is.port.1.2.1 is.tx p some

  abbrev pub made_at : (A : Start) (s : Inside D O) (q : Port D O) (tx : Option (Tx D O)) (e : Entry) (before : List Entry) → IsSession A s → IsPrefix (view s.port.pass).seen before
      → IsPrefix (before ++ e ∷ []) (view q.pass).seen → IsLegal A (before ++ e ∷ []) → ((p : ℕ) → count_of (view q.pass) tx p ≡ count_of (view s.port.pass) s.tx p + hit (length before) p)
      → units_of (view q.pass) tx ≡ units_of (view s.port.pass) s.tx → Made A (state_of s) (state_of (record { shared = s.shared; port = q; tx = tx })) e
  made_at A s q tx e before is told known legal places same = record {
    entered = record {
      before = before;
      told = told;
      known = known;
      legal = legal;
      above = λ p some. (let a = own_below A s is p some in let b = prefix_length (view s.port.pass).seen before told in omega arith);
      places = places;
    };
    units = same;
    of = refl;
  }

  -- the port's own entry: the transaction stays as it was
  pub made_port : (A : Start) (s : Inside D O) (q : Port D O) (e : Entry) → IsSession A s → PassMade A (view s.port.pass) (view s.port.pass) e (view q.pass)
      → (view q.pass).units ≡ (view s.port.pass).units → Made A (state_of s) (state_of (record { shared = s.shared; port = q; tx = s.tx })) e
  made_port A s q e is m same =
      made_at A s q s.tx e m.before is m.told (known_by m.before (view q.pass).seen (view q.pass).seen e m.seen (prefix_self (view q.pass).seen)) (subst (λ l. IsLegal A l) m.seen m.legal)
      (λ p. by p s.tx) (by_units s.tx)
    where
      by : (p : ℕ) (tx : Option (Tx D O)) → count_of (view q.pass) tx p ≡ count_of (view s.port.pass) tx p + hit (length m.before) p
      by p None = one_place A (view s.port.pass) (view s.port.pass) (view q.pass) e m p
      by p (Some t) =
          let a = one_place A (view s.port.pass) (view s.port.pass) (view q.pass) e m p in
          let b = count_both (view q.pass) (Some t) t p refl in
          let c = count_both (view s.port.pass) (Some t) t p refl in omega (arith, a, b, c)

      by_units : (tx : Option (Tx D O)) → units_of (view q.pass) tx ≡ units_of (view s.port.pass) tx
      by_units None = same
      by_units (Some t) = omega arith

  -- the port's own entry, by which it got a transaction
  pub made_new : (A : Start) (s : Inside D O) (q : Port D O) (tx : Option (Tx D O)) (t : Tx D O) (e : Entry) → IsSession A s → s.tx ≡ None → tx ≡ Some t
      → PassMade A (view s.port.pass) (view s.port.pass) e (view q.pass) → (view t.pass).mine ≡ [] → (view t.pass).units ≡ 1 → (view q.pass).units + 1 ≡ (view s.port.pass).units
      → Made A (state_of s) (state_of (record { shared = s.shared; port = q; tx = tx })) e
  made_new A s q tx t e is none some m mine one less =
      made_at A s q tx e m.before is m.told (known_by m.before (view q.pass).seen (view q.pass).seen e m.seen (prefix_self (view q.pass).seen)) (subst (λ l. IsLegal A l) m.seen m.legal)
      (λ p.
      let a = one_place A (view s.port.pass) (view s.port.pass) (view q.pass) e m p in
      let b : times p (view t.pass).mine ≡ 0 = ap (times p) mine in
      let c = count_both (view q.pass) tx t p some in
      let d : count_of (view s.port.pass) s.tx p ≡ times p (view s.port.pass).mine = ap (λ (o : Option (Tx D O)). count_of (view s.port.pass) o p) none in
      omega arith)
      (let c : units_of (view q.pass) tx ≡ (view q.pass).units + (view t.pass).units = ap (λ o. units_of (view q.pass) o) some in
      let d : units_of (view s.port.pass) s.tx ≡ (view s.port.pass).units = ap (λ (o : Option (Tx D O)). units_of (view s.port.pass) o) none in
      omega arith)

  -- the transaction's entry, by which it was joined into the port
  abbrev pub made_gone : (A : Start) (s : Inside D O) (q : Port D O) (tx : Option (Tx D O)) (t : Tx D O) (e : Entry) → IsSession A s → s.tx ≡ Some t → tx ≡ None
      → MadeBoth A (view s.port.pass) (view t.pass) e (view q.pass) → (view q.pass).units ≡ (view s.port.pass).units + (view t.pass).units
      → Made A (state_of s) (state_of (record { shared = s.shared; port = q; tx = tx })) e
  made_gone A s q tx t e is some none m all =
      made_at A s q tx e m.before is m.told (known_by m.before (view q.pass).seen (view q.pass).seen e m.seen (prefix_self (view q.pass).seen)) (subst (λ l. IsLegal A l) m.seen m.legal)
      (λ p.
      let a = m.mine p in
      let c : count_of (view q.pass) tx p ≡ times p (view q.pass).mine = ap (λ o. count_of (view q.pass) o p) none in
      let d = count_both (view s.port.pass) s.tx t p some in
      omega arith)
      (let c : units_of (view q.pass) tx ≡ (view q.pass).units = ap (λ o. units_of (view q.pass) o) none in
      let d : units_of (view s.port.pass) s.tx ≡ (view s.port.pass).units + (view t.pass).units = ap (λ (o : Option (Tx D O)). units_of (view s.port.pass) o) some in
      omega arith)

  -- the transaction's entry, of which the port was told: o and u are the passes before it, k the transaction after it, l as it is kept
  abbrev pub made_kept : (A : Start) (s : Inside D O) (q : Port D O) (tx : Option (Tx D O)) (t k l : Tx D O) (e : Entry) (o u v : View Entry) → IsSession A s → s.tx ≡ Some t → tx ≡ Some l
      → PassMade A o u e (view k.pass) → IsPrefix (view s.port.pass).seen o.seen → u.mine ≡ (view t.pass).mine → (view k.pass).units ≡ (view t.pass).units → view l.pass ≡ view k.pass
      → v ≡ view s.port.pass → IsAlike v (view q.pass) → IsPrefix (view k.pass).seen (view q.pass).seen → Made A (state_of s) (state_of (record { shared = s.shared; port = q; tx = tx })) e
  made_kept A s q tx t k l e o u v is was some m told mine one last same alike knows =
      made_at A s q tx e m.before is (prefix_trans (view s.port.pass).seen o.seen m.before told m.told) (known_by m.before (view q.pass).seen (view k.pass).seen e m.seen knows) (subst (λ l. IsLegal A l) m.seen m.legal)
      (λ p.
      let a = one_place A o u (view k.pass) e m p in
      let b : times p u.mine ≡ times p (view t.pass).mine = ap (times p) mine in
      let f : times p (view l.pass).mine ≡ times p (view k.pass).mine = ap (λ (w : View Entry). times p w.mine) last in
      let g : times p (view q.pass).mine ≡ times p v.mine = ap (times p) alike.0 in
      let h : times p v.mine ≡ times p (view s.port.pass).mine = ap (λ (w : View Entry). times p w.mine) same in
      let c = count_both (view q.pass) tx l p some in
      let d = count_both (view s.port.pass) s.tx t p was in
      omega arith)
      (let f : (view l.pass).units ≡ (view k.pass).units = ap (λ (w : View Entry). w.units) last in
      let g : (view q.pass).units ≡ v.units = alike.2 in
      let h : v.units ≡ (view s.port.pass).units = ap (λ (w : View Entry). w.units) same in
      let c : units_of (view q.pass) tx ≡ (view q.pass).units + (view l.pass).units = ap (λ o. units_of (view q.pass) o) some in
      let d : units_of (view s.port.pass) s.tx ≡ (view s.port.pass).units + (view t.pass).units = ap (λ (o : Option (Tx D O)). units_of (view s.port.pass) o) was in
      omega arith)

  -- A call through the pass of the transaction t: a is as it was told what the port had seen, k as the call left it, b as it told the port.
  pub record Through (A : Start) (s : Inside D O) (q : Port D O) (t a k b : Tx D O) : Type 0 where
    pub is : IsSession A s
    pub was : s.tx ≡ Some t
    pub owns : own_in b ≡ own_in t
    pub number : a.number ≡ t.number
    pub told : IsPrefix (view s.port.pass).seen (view a.pass).seen
    pub mine : (view a.pass).mine ≡ (view t.pass).mine
    pub kept : (view k.pass).units ≡ (view t.pass).units
    pub last : view b.pass ≡ view k.pass
    pub port : View Entry
    pub same : port ≡ view s.port.pass
    pub alike : IsAlike port (view q.pass)
    pub knows : IsPrefix (view k.pass).seen (view q.pass).seen

  abbrev pub made_through : {A : Start} {s : Inside D O} {q : Port D O} {t a k b : Tx D O} (h : Through A s q t a k b) (l : Tx D O) (e : ℕ → Entry) → PassMade A (view a.pass) (view a.pass) (e a.number) (view k.pass) → view l.pass ≡ view b.pass
      → Made A (state_of s) (state_of (record { shared = s.shared; port = q; tx = Some l })) (e t.number)
  made_through {A} {s} {q} {t} {a} {k} {b} h l e m last =
      made_kept A s q (Some l) t k l (e t.number) (view a.pass) (view a.pass) h.port h.is h.was refl (subst (λ (x : Entry). PassMade A (view a.pass) (view a.pass) x (view k.pass)) (ap e h.number) m) h.told h.mine h.kept (last ∙ h.last)
      h.same h.alike h.knows

  -- the session is in order with the transaction as it is kept
  pub still_session : {A : Start} {s : Inside D O} {q : Port D O} {t a k b : Tx D O} (h : Through A s q t a k b) (l : Tx D O) → IsPort s.shared.now q → IsTx s.shared.now A b → l.pass ≡ b.pass → IsTxOf A l
      → IsSession A (record { shared = s.shared; port = q; tx = Some l })
  still_session {A} {s} {q} {t} {a} {k} {b} h l port rests same of =
      let last : view l.pass ≡ view k.pass = ap view same ∙ h.last in
      let one : (view t.pass).units ≡ 1 = subst (λ (o : Option (Tx D O)). IfSome o (λ u. (view u.pass).units ≡ 1)) h.was h.is.one in
      record {
        image = h.is.image;
        port = port;
        tx = ((subst (λ p. IsOf s.shared.now.lock p) (sym same) rests.0, of), subst (λ (v : View Entry). IsPrefix v.seen (view q.pass).seen) (sym last) h.knows);
        one = ap (λ (v : View Entry). v.units) last ∙ h.kept ∙ one;
      }

  -- a call that left the transaction left the session
  pub same_state : (s : Inside D O) (t u : Tx D O) → s.tx ≡ Some t → u ≡ t → state_of (record { shared = s.shared; port = s.port; tx = Some u }) ≡ state_of s
  same_state s t u was same = ap (λ (o : Option (Tx D O)). state_of (record { shared = s.shared; port = s.port; tx = o })) (ap Some same ∙ sym was)

  -- so did one after which its holder sees the same transaction, with the same pass
  pub seen_state : (s : Inside D O) (t u : Tx D O) → s.tx ≡ Some t → u.pass ≡ t.pass → own_in u ≡ own_in t → u.checked ≡ t.checked
      → state_of (record { shared = s.shared; port = s.port; tx = Some u }) ≡ state_of s
  seen_state s t u was pass own checked =
      let v = view s.port.pass in
      let as_it_was : state_of (record { shared = s.shared; port = s.port; tx = Some u }) ≡ state_of (record { shared = s.shared; port = s.port; tx = Some t }) = λ i. record {
        device = (state_of s).device;
        own = Some (own i);
        checked = (checked i).upto;
        seen = v.seen;
        mine = v.mine ++ (view (pass i)).mine;
        units = v.units + (view (pass i)).units;
      } in
      as_it_was ∙ same_state s t t was refl

  -- what its holder sees of one transaction
  pub own_same : (t u : Tx D O) → IsSameTx t u → own_in u ≡ own_in t
  own_same t u same = λ i. posting_of_tx (same.number i) (same.work i)

  pub is_none : (tx : Option (Tx D O)) → is_some tx ≡ false → tx ≡ None
  is_none None e = refl
  is_none (Some t) e = absurd (cc e)

  -- one that has just begun
  pub new_own : (t : Tx D O) (at : ℕ) → at ≡ t.work.begin → t.work.accesses ≡ [] → own_in t ≡ record { number = t.number; begin = at; mode = t.work.mode; accesses = [] }
  new_own t at is none = λ i. record { number = t.number; begin = (sym is) i; mode = t.work.mode; accesses = none i }

  -- the same number and the same work give the same
  pub own_by_parts : (t u : Tx D O) (w : Doing) → u.number ≡ t.number → u.work ≡ w → own_in u ≡ posting_of_tx t.number w
  own_by_parts t u w number work = λ i. posting_of_tx (number i) (work i)

  -- no entry was made, and the transaction kept its pass
  pub rested_by : (s : Inside D O) (t u : Tx D O) → s.tx ≡ Some t → u.pass ≡ t.pass → Rested (state_of s) (state_of (record { shared = s.shared; port = s.port; tx = Some u }))
  rested_by s t u was same = record {
    known = refl;
    places = λ p. sym (count_both (view s.port.pass) s.tx t p was ∙ ap (λ q. times p (view s.port.pass).mine + times p (view q).mine) (sym same) ∙ sym (count_both (view s.port.pass) (Some u) u p refl));
    units = sym (ap (λ (o : Option (Tx D O)). units_of (view s.port.pass) o) was ∙ ap (λ q. (view s.port.pass).units + (view q).units) (sym same));
    of = refl;
  }

  -- what is fetched is the block at the transaction's begin
  pub fetched_is : (A : Start) (t : Tx D O) (before : List Entry) (block : ℕ) (bytes : List ℕ) → IsTxOf A t → IsPrefix (view t.pass).seen before
      → IsLegal A (before ++ entry.Fetch t.number block bytes ∷ []) → (state_at A before).tells ≡ true
      → bytes ≡ block_at (array_at (state_at A before).world.history t.work.begin) block
  fetched_is A t before block bytes is told legal tells =
      let fits = (legal_last (opened A) before (entry.Fetch t.number block bytes) legal).1 in
      let live = (loose_is t.number (state_at A before) fits.needs.0).0 in
      let own = own_on A (view t.pass).seen before t.number t.work told is.own in
      fits.answers.2 tells ∙ ap (λ (n : ℕ). block_at (array_at (state_at A before).world.history n) block) (own.begin live)

-- a fetch that is refused, but by no fault, is so since the device is down
pub down_by : (A : Start) (before : List Entry) (n block b k : ℕ) (e : CoreError) → IsLegal A (before ++ entry.Refused (call.Fetch n block) (cause_of b k e) ∷ []) → (e ≡ error.Disk → ⊥) → e ≡ error.Down
down_by A before n block b k error.Down legal never = refl
down_by A before n block b k error.Disk legal never = absurd (never refl)
down_by A before n block b k error.Memory legal never = absurd ((legal_last (opened A) before _ legal).1.answers.1)
down_by A before n block b k e legal never = absurd (cc ((legal_last (opened A) before _ legal).1.answers.1.1))

-- a transaction is left but by a fault of the disk
pub left_kept : (e : CoreError) (o : Own) → (e ≡ error.Disk → ⊥) → left_by e o ≡ Some o
left_kept error.Disk o never = absurd (never refl)
left_kept e o never = refl
