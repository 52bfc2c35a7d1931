-- Numbers of members that a port holds, of which no pass holds one twice.
use Rattle.iso_shared.{proofs.Words.{view, ◌≡◌, ℕ, ◌<◌, ◌≤◌, ◌==◌, Bool, true, false, cond, nat_tests, List, [], ◌∷◌, map, refl, subst, arith, AllByRecursion, AreDistinct, AreHeld, hit, hit_same, times, total, ◌+◌, ◌||◌, is_among, ◌++◌, ◌-◌, length, Some, None, ap, ◌∙◌, View, times_append, prefix_trans, Entry, Shared, Tx, IsJoined, IsNote, IsNoteOf, held_in, Start, IsPrefix, times_without, both, kept_part, sym, suc, length-map, prefix_more, Doing, GroupEnd, Member, MemberEnd, ArePaired, IsBack, IsPartOf, IsSameTx, IsTaken, Made, MadeAll, answered, bare_end, end_of, ends_at, made_in, members_at, members_in, numbers_in, replies_of, Checked, IsAhead, IsLegal, IsOwn, state_at, units_of, unwrap_or, tx_view}, specs.{Groups.{Gathers, IsWithin, MayPart, PartsWith}, Passes.{HasJoined, IsSplit}, Ports.{IsPort, IsTx}, declared.guarded.{Guarded.Guarded, Stamped.Stamped}, declared.shared.Port.Port}, proofs.Mades.{ahead_on, own_on}, proofs.Ends.{ahead_same, on_same, own_same}}
use Rattle.turn_lock.{proofs.Prefixes.longer_whole, specs.{Lists.merge, Numbers.without, Pass.PassOf}}
use Rattle.iso_model.specs.declared.access.GroupReply.TheVariants as member

pub distinct_by : (ns : List ℕ) → ((n : ℕ) → times n ns ≤ 1) → AreDistinct ns
distinct_by [] alone = tt
distinct_by (m ∷ ns) alone = (omega (arith, hit_same m m refl, alone m), distinct_by ns (λ n. let all = alone n in omega (arith, all)))

-- a number of a member is held by its pass
pub times_held : {A : Type 0} → (number : A → ℕ) (holds : A → List ℕ) (xs : List A) → AllByRecursion (λ x. 0 < times (number x) (holds x)) xs → (n : ℕ) → times n (map number xs) ≤ total (λ x. times n (holds x)) xs
times_held number holds [] each n = omega arith
times_held number holds (x ∷ xs) each n =
    omega (arith, times_held number holds xs each.1 n, hit_held (number x) n (holds x) each.0)
  where
    by : (m n : ℕ) (ns : List ℕ) (b : Bool) → (m == n) ≡ b → 0 < times m ns → cond b 1 0 ≤ times n ns
    by m n ns true is held = let same : m ≡ n = grind (arith, nat_tests) in subst (λ (k : ℕ). 1 ≤ times k ns) same (omega (arith, held))
    by m n ns false is held = omega arith

    hit_held : (m n : ℕ) (ns : List ℕ) → 0 < times m ns → hit m n ≤ times n ns
    hit_held m n ns held = by m n ns (m == n) refl held

-- so they are held by a pass that has what these passes had
pub held_by : (ns holds : List ℕ) → ((n : ℕ) → times n ns ≤ times n holds) → AreHeld ns holds
held_by ns holds within = each ns (λ n less. let w = within n in omega (arith, w, less))
  where
    each : (ms : List ℕ) → ((n : ℕ) → 0 < times n ms → 0 < times n holds) → AreHeld ms holds
    each [] by = tt
    each (m ∷ ms) by =
        let here : hit m m ≡ 1 = hit_same m m refl in
        (by m (omega (arith, here)), each ms (λ n some. by n (omega (arith, some))))

-- ---- members whose passes were joined into a port

-- a pass that holds what both held
pub holds_both : (n : ℕ) (old kept other new : View Entry) → kept.holds ≡ old.holds → new ≡ both kept other → times n new.holds ≡ times n old.holds + times n other.holds
holds_both n old kept other new same joined = omega (arith, ap (λ (v : View Entry). times n v.holds) joined, times_append n other.holds kept.holds, ap (times n) same)

module _ {D O : Type 0} (s : Shared D O) (A : Start) where
  pub note_on : (xs ys : List Entry) (t : Tx D O) → IsPrefix xs ys → IsNote s xs t → IsNote s ys t
  note_on xs ys t p n = record { lock = n.lock; seen_is = prefix_trans _ xs ys n.seen_is p; bare = n.bare }

  pub joined_on : (xs ys : List Entry) (t : Tx D O) → IsPrefix xs ys → IsJoined s A xs t → IsJoined s A ys t
  joined_on xs ys t p j = record {
    note = note_on xs ys t p j.note;
    on = j.on;
    own = own_on A xs ys t.number t.work p j.own;
    ahead = ahead_on A xs ys t.work t.checked p j.ahead;
    within = j.within;
  }

  pub note_of_on : (xs ys : List Entry) (t u : Tx D O) → IsPrefix xs ys → IsNoteOf s A xs t u → IsNoteOf s A ys t u
  note_of_on xs ys t u p n = record { joined = joined_on xs ys u p n.joined; told = prefix_trans _ xs ys n.told p; number = n.number; work = n.work; checked = n.checked }

  -- no pass holds a number twice, where the last join has shown it
  pub alone_by : (rest : List (Tx D O)) (mid new : List ℕ) → ((n : ℕ) → times n mid ≤ 1) → ((n : ℕ) → times n new ≡ times n mid + held_in n rest) → (0 < length rest → (n : ℕ) → times n new ≤ 1) → (n : ℕ) → times n new ≤ 1
  alone_by [] mid new one sum more n = let a = one n in let b : times n new ≡ times n mid + 0 = sum n in omega (arith, a, b)
  alone_by (t ∷ rest) mid new one sum more n = more (omega arith) n

  -- a port takes in the pass of a member, and a note that it gave before takes its place
  pub gathers_one : (t : Tx D O) (mid other note left : PassOf (Guarded D O) Stamped) (old new : Port D O) → IsSplit s.lock None 0 old.pass mid note → HasJoined mid new.pass other → other ≡ t.pass → left ≡ note
      → IsPort s old → IsTx s A t → IsWithin t.work → Gathers s A (t ∷ []) (record t { pass = left } ∷ []) old new
  gathers_one t mid other note left old new split joined own after port tx within =
      let told : IsPrefix (view t.pass).seen (view new.pass).seen = subst (λ (p : PassOf (Guarded D O) Stamped). IsPrefix (view p).seen (view new.pass).seen) own joined.seen.1 in
      let begins : IsPrefix (view old.pass).seen (view new.pass).seen = subst (λ (v : View Entry). IsPrefix v.seen (view new.pass).seen) split.kept joined.seen.0 in
      let units : (view new.pass).units ≡ (view old.pass).units + (view t.pass).units =
      (let a : (view new.pass).units ≡ (view mid).units + (view other).units = ap (λ (v : View Entry). v.units) joined.view_is in
      let b : (view mid).units ≡ (view old.pass).units - 0 = ap (λ (v : View Entry). v.units) split.kept in
      let d : (view other).units ≡ (view t.pass).units = ap (λ (p : PassOf (Guarded D O) Stamped). (view p).units) own in
      omega (arith, a, b, d)) in record {
        port = (joined.lock.0 ∙ split.lock.0 ∙ port.0, joined.stays (split.stays port.1), omega (arith, units, port.2));
        units = omega (arith, units);
        seen = begins;
        holds = λ n.
            let a = holds_both n (view old.pass) (view mid) (view other) (view new.pass) (ap (λ (v : View Entry). v.holds) split.kept) joined.view_is in
            let d : times n (view other).holds ≡ times n (view t.pass).holds = ap (λ (p : PassOf (Guarded D O) Stamped). times n (view p).holds) own in
            omega (arith, a, d);
        places = λ n.
            let a = joined.places n in
            let b : times n (view mid).mine ≡ times n (view old.pass).mine = ap (λ (v : View Entry). times n v.mine) split.kept in
            let d : times n (view other).mine ≡ times n (view t.pass).mine = ap (λ (p : PassOf (Guarded D O) Stamped). times n (view p).mine) own in
            omega (arith, a, b, d);
        alone = λ some. joined.alone;
        group = (
          record {
            joined = record {
              note = subst (λ (p : PassOf (Guarded D O) Stamped). IsNote s (view new.pass).seen (record t { pass = p })) (sym after) (record {
                lock = split.new;
                seen_is = subst (λ (v : View Entry). IsPrefix v.seen (view new.pass).seen) (sym split.given) begins;
                bare = (ap (λ (v : View Entry). v.mine) split.given, ap (λ (v : View Entry). v.holds) split.given, ap (λ (v : View Entry). v.units) split.given);
              });
              on = tx.1.on;
              own = own_on A (view t.pass).seen (view new.pass).seen t.number t.work told tx.1.own;
              ahead = ahead_on A (view t.pass).seen (view new.pass).seen t.work t.checked told tx.1.ahead;
              within = within;
            };
            told = told;
            number = refl;
            work = refl;
            checked = refl;
          },
          tt,
        );
      }

  -- a port takes in the pass of one member, and then those of others
  pub gathers_more : (t u : Tx D O) (ts us : List (Tx D O)) (p q r : Port D O) → Gathers s A (t ∷ []) (u ∷ []) p q → Gathers s A ts us q r → Gathers s A (t ∷ ts) (u ∷ us) p r
  gathers_more t u ts us p q r one more = record {
    port = more.port;
    units = let a = one.units in let b = more.units in omega (arith, a, b);
    seen = prefix_trans (view p.pass).seen (view q.pass).seen (view r.pass).seen one.seen more.seen;
    holds = λ n. let a = one.holds n in let b = more.holds n in omega (arith, a, b);
    places = λ n. let a = one.places n in let b = more.places n in omega (arith, a, b);
    alone = λ some. alone_by ts (view q.pass).holds (view r.pass).holds (one.alone (omega arith)) more.holds more.alone;
    group = (note_of_on (view q.pass).seen (view r.pass).seen t u more.seen one.group.0, more.group);
  }

-- numbers that others hold, once one of another number is split off
still_one : (m n : ℕ) (ns : List ℕ) → (n == m) ≡ false → 0 < times m ns → 0 < times m (without (n ∷ []) ns)
still_one m n ns other held =
    let not_it : is_among m (n ∷ []) ≡ false = ap (λ (b : Bool). b || false) other in
    omega (arith, times_without m (n ∷ []) ns, ap (λ (b : Bool). cond b 0 (times m ns)) not_it, held)

not_first : (m n : ℕ) (b : Bool) → (m == n) ≡ b → cond {A = ℕ} b 1 0 ≡ 0 → (n == m) ≡ false
not_first m n true is none = absurd (omega (arith, none))
not_first m n false is none = grind (arith, nat_tests)

still_held : (n : ℕ) (ms holds : List ℕ) → times n ms ≡ 0 → AreHeld ms holds → AreHeld ms (without (n ∷ []) holds)
still_held n [] holds none held = tt
still_held n (m ∷ ms) holds none held =
    let first : hit m n ≡ 0 = omega (arith, none) in
    (still_one m n holds (not_first m n (m == n) refl first) held.0, still_held n ms holds (omega (arith, none)) held.1)

module _ {D O : Type 0} (s : Shared D O) where
  -- a port takes in the note of a member, and a pass that it gave before takes its place
  pub parts_one : (t : Tx D O) (mid note part left : PassOf (Guarded D O) Stamped) (old new : Port D O) → IsSplit s.lock (Some t.number) 1 old.pass mid part → HasJoined mid new.pass note → note ≡ t.pass → left ≡ part
      → MayPart s (t ∷ []) old → PartsWith s (t ∷ []) (record t { pass = left } ∷ []) old new
  parts_one t mid note part left old new split joined own after may =
      let bare = may.group.0.bare in
      let kept : (view mid).units ≡ (view old.pass).units - 1 = ap (λ (v : View Entry). v.units) split.kept in
      let both : (view new.pass).units ≡ (view mid).units + (view note).units = ap (λ (v : View Entry). v.units) joined.view_is in
      let none : (view note).units ≡ 0 = ap (λ (p : PassOf (Guarded D O) Stamped). (view p).units) own ∙ bare.2 in
      let one : (view part).units ≡ 1 = ap (λ (v : View Entry). v.units) split.given in
      let told : IsPrefix (view note).seen (view mid).seen =
      subst (λ (v : View Entry). IsPrefix (view note).seen v.seen) (sym split.kept) (subst (λ (p : PassOf (Guarded D O) Stamped). IsPrefix (view p).seen (view old.pass).seen) (sym own) may.group.0.seen_is) in record {
        port = (joined.lock.0 ∙ split.lock.0 ∙ may.port.0, joined.stays (split.stays may.port.1), omega (arith, kept, both, none, may.units));
        units = omega (arith, kept, both, none, may.units);
        seen = ap (λ (v : View Entry). v.seen) joined.view_is ∙ longer_whole (view mid).seen (view note).seen told ∙ ap (λ (v : View Entry). v.seen) split.kept;
        mine = ap (λ (v : View Entry). v.mine) joined.view_is ∙ ap (λ (l : List ℕ). merge l (view mid).mine) (ap (λ (p : PassOf (Guarded D O) Stamped). (view p).mine) own ∙ bare.0) ∙ ap (λ (v : View Entry). v.mine) split.kept;
        group = (
          subst (λ (p : PassOf (Guarded D O) Stamped). IsPartOf s (view old.pass).seen t (record t { pass = p })) (sym after) (record {
            lock = (split.new.0, split.new.1, omega (arith, one));
            seen_is = ap (λ (v : View Entry). v.seen) split.given;
            has = (ap (λ (v : View Entry). v.mine) split.given, ap (λ (v : View Entry). v.holds) split.given, one);
            number = refl;
            work = refl;
            checked = refl;
          }),
          tt,
        );
      }

  -- a number and a unit are given to one member, and then to the others
  pub part_first : (t : Tx D O) (ts : List (Tx D O)) (p : Port D O) → MayPart s (t ∷ ts) p → MayPart s (t ∷ []) p
  part_first t ts p may = record { port = may.port; units = (let a = may.units in omega (arith, a)); held = (may.held.0, tt); distinct = (refl, tt); group = (may.group.0, tt) }

  pub part_rest : (t u : Tx D O) (ts : List (Tx D O)) (p q : Port D O) → PartsWith s (t ∷ []) (u ∷ []) p q → (view q.pass).holds ≡ without (t.number ∷ []) (view p.pass).holds → MayPart s (t ∷ ts) p → MayPart s ts q
  part_rest t u ts p q parts holds may = record {
    port = parts.port;
    units = let a = parts.units in let b = may.units in omega (arith, a, b);
    held = subst (λ (hs : List ℕ). AreHeld (numbers_in ts) hs) (sym holds) (still_held t.number (numbers_in ts) (view p.pass).holds may.distinct.0 may.held.1);
    distinct = may.distinct.1;
    group = subst (λ (l : List Entry). AllByRecursion (IsNote s l) ts) (sym parts.seen) may.group.1;
  }

  pub parts_more : (t u : Tx D O) (ts us : List (Tx D O)) (p q r : Port D O) → PartsWith s (t ∷ []) (u ∷ []) p q → PartsWith s ts us q r → PartsWith s (t ∷ ts) (u ∷ us) p r
  parts_more t u ts us p q r one more = record {
    port = more.port;
    units = let a = one.units in let b = more.units in omega (arith, a, b);
    seen = more.seen ∙ one.seen;
    mine = more.mine ∙ one.mine;
    group = (one.group.0, subst (λ (l : List Entry). ArePaired (IsPartOf s l) ts us) one.seen more.group);
  }

pub split_holds : (n : ℕ) (old kept other new : View Entry) → kept ≡ kept_part (Some n) 1 old → other.holds ≡ [] → new ≡ both kept other → new.holds ≡ without (n ∷ []) old.holds
split_holds n old kept other new is none joined = grind arith

-- ---- what a group leaves of its members: notes, or the same transactions again

pub made_seen : (A : Start) (v w : View Entry) (e : Entry) → Made A v v e w → IsPrefix v.seen w.seen
made_seen A v w e m = subst (λ l. IsPrefix v.seen l) (sym m.seen) (prefix_more v.seen m.before (e ∷ []) m.begins)

pub same_many : (last ends : List GroupEnd) → map bare_end last ≡ map bare_end ends → length last ≡ length ends
same_many last ends same = sym (length-map last bare_end) ∙ ap (λ (l : List GroupEnd). length l) same ∙ length-map ends bare_end

-- members with the answers that they were given
pub answered_is : (ends : List GroupEnd) → answered (members_at ends) (replies_of (ends_at ends)) ≡ ends_at ends
answered_is [] = refl
answered_is (g ∷ ends) =
    let first : MemberEnd = record { number = g.tx; accesses = g.work.accesses; reply = unwrap_or g.reply member.ReadOnly } in
    ap (λ (l : List MemberEnd). first ∷ l) (answered_is ends)

pub as_many : (ends : List GroupEnd) → length (replies_of (ends_at ends)) ≡ length (members_at ends)
as_many [] = refl
as_many (g ∷ ends) = ap suc (as_many ends)

module _ {D O : Type 0} where
  taken_note : (s : Shared D O) (xs : List Entry) (t u : Tx D O) → IsTaken t u → IsNote s xs t → IsNote s xs u
  taken_note s xs t u taken n = subst (λ p. IsNote s xs (record u { pass = p })) (sym taken.pass) (record { lock = n.lock; seen_is = n.seen_is; bare = n.bare })

  -- notes stay where works are taken
  pub joined_notes : (s : Shared D O) (A : Start) (xs ys : List Entry) (ts : List (Tx D O)) → IsPrefix xs ys → AllByRecursion (IsJoined s A xs) ts → AllByRecursion (IsNote s ys) ts
  joined_notes s A xs ys [] p all = tt
  joined_notes s A xs ys (t ∷ ts) p all = (note_on s A xs ys t p all.0.note, joined_notes s A xs ys ts p all.1)

  -- the first ones are notes where all are, and the last one
  pub front_notes : (s : Shared D O) (xs : List Entry) (front : List (Tx D O)) (t : Tx D O) → AllByRecursion (IsNote s xs) (front ++ t ∷ []) → AllByRecursion (IsNote s xs) front × IsNote s xs t
  front_notes s xs [] t all = (tt, all.0)
  front_notes s xs (u ∷ front) t all = let rest = front_notes s xs front t all.1 in ((all.0, rest.0), rest.1)

  pub taken_notes : (s : Shared D O) (xs : List Entry) (ts us : List (Tx D O)) → ArePaired IsTaken ts us → AllByRecursion (IsNote s xs) ts → AllByRecursion (IsNote s xs) us
  taken_notes s xs [] [] pairs all = tt
  taken_notes s xs [] (u ∷ us) pairs all = absurd pairs
  taken_notes s xs (t ∷ ts) [] pairs all = absurd pairs
  taken_notes s xs (t ∷ ts) (u ∷ us) pairs all = (taken_note s xs t u pairs.0 all.0, taken_notes s xs ts us pairs.1 all.1)

  same_tx : (t : Tx D O) → IsSameTx t t
  same_tx t = record { number = refl; work = refl; checked = refl }

  pub all_same : (ts : List (Tx D O)) → ArePaired IsSameTx ts ts
  all_same [] = tt
  all_same (t ∷ ts) = (same_tx t, all_same ts)

  given_back : (t u w : Tx D O) (e : GroupEnd) → IsTaken t u → IsTaken u w → w.work ≡ e.work → bare_end e ≡ bare_end (end_of t) → IsSameTx t w
  given_back t u w e first second work same = grind arith

  -- works that are back are those that were taken, but for how far they are settled
  pub back_same : (ts us ws : List (Tx D O)) (es : List GroupEnd) → ArePaired IsTaken ts us → ArePaired IsTaken us ws → ArePaired (λ (e : GroupEnd) (w : Tx D O). w.work ≡ e.work) es ws
      → map bare_end es ≡ map bare_end (map end_of ts) → ArePaired IsSameTx ts ws
  back_same [] [] [] es first second works same = tt
  back_same [] [] (w ∷ ws) es first second works same = absurd second
  back_same [] (u ∷ us) ws es first second works same = absurd first
  back_same (t ∷ ts) [] ws es first second works same = absurd first
  back_same (t ∷ ts) (u ∷ us) [] es first second works same = absurd second
  back_same (t ∷ ts) (u ∷ us) (w ∷ ws) [] first second works same = absurd works
  back_same (t ∷ ts) (u ∷ us) (w ∷ ws) (e ∷ es) first second works same =
      let head : bare_end e ≡ bare_end (end_of t) = cc same in
      let tail : map bare_end es ≡ map bare_end (map end_of ts) = cc same in
      (given_back t u w e first.0 second.0 works.0 head, back_same ts us ws es first.1 second.1 works.1 tail)

  pub taken_then : (ts us ws : List (Tx D O)) → ArePaired IsTaken ts us → ArePaired IsTaken us ws → ArePaired IsTaken ts ws
  taken_then [] [] [] first second = tt
  taken_then [] [] (w ∷ ws) first second = absurd second
  taken_then [] (u ∷ us) ws first second = absurd first
  taken_then (t ∷ ts) [] ws first second = absurd first
  taken_then (t ∷ ts) (u ∷ us) [] first second = absurd second
  taken_then (t ∷ ts) (u ∷ us) (w ∷ ws) first second =
      (record { pass = second.0.pass ∙ first.0.pass; number = second.0.number ∙ first.0.number; checked = second.0.checked ∙ first.0.checked }, taken_then ts us ws first.1 second.1)

  pub pairs_many : (P : Tx D O → Tx D O → Type 0) (ts us : List (Tx D O)) → ArePaired P ts us → length us ≡ length ts
  pairs_many P [] [] pairs = refl
  pairs_many P [] (u ∷ us) pairs = absurd pairs
  pairs_many P (t ∷ ts) [] pairs = absurd pairs
  pairs_many P (t ∷ ts) (u ∷ us) pairs = ap suc (pairs_many P ts us pairs.1)

-- ---- the whole call

part_of_total : {D O : Type 0} → (p : ℕ) (ts : List (Tx D O)) → total (λ (u : View Entry). times p u.mine) (map tx_view ts) ≡ made_in p ts
part_of_total p [] = refl
part_of_total p (t ∷ ts) = let rest = part_of_total p ts in omega (arith, rest)

begins_on : (us : List (View Entry)) (xs ys : List Entry) → IsPrefix xs ys → AllByRecursion (λ (u : View Entry). IsPrefix u.seen xs) us → AllByRecursion (λ (u : View Entry). IsPrefix u.seen ys) us
begins_on [] xs ys p all = tt
begins_on (u ∷ us) xs ys p all = (prefix_trans u.seen xs ys all.0 p, begins_on us xs ys p all.1)

-- v is the port before the call, m after the joins, w after its entry, and x after the call
pub made_all : {D O : Type 0} → (A : Start) (v m w x : View Entry) (ts : List (Tx D O)) (e : Entry) → IsPrefix v.seen m.seen → AllByRecursion (λ (u : View Entry). IsPrefix u.seen m.seen) (map tx_view ts)
    → ((p : ℕ) → times p m.mine ≡ times p v.mine + made_in p ts) → Made A m m e w → x.seen ≡ w.seen → ((p : ℕ) → times p x.mine ≡ times p w.mine) → MadeAll A v (map tx_view ts) e x
made_all A v m w x ts e told begins mine made seen stays = record {
  before = made.before;
  told = prefix_trans v.seen m.seen made.before told made.told;
  begins = begins_on (map tx_view ts) m.seen made.before made.told begins;
  seen = seen ∙ made.seen;
  mine = λ p.
      let a = stays p in
      let b : times p w.mine ≡ times p (m.mine ++ length made.before ∷ []) = ap (times p) made.mine in
      let c = times_append p m.mine (length made.before ∷ []) in
      let d = mine p in
      let f = part_of_total p ts in
      omega (arith, a, b, c, d, f);
  legal = subst (λ (l : List Entry). IsLegal A l) (sym seen) made.legal;
}

module _ {D O : Type 0} (s : Shared D O) (A : Start) where
  pub joined_all : (seen : List Entry) (ts us : List (Tx D O)) → ArePaired (IsNoteOf s A seen) ts us → AllByRecursion (IsJoined s A seen) us
  joined_all seen [] [] pairs = tt
  joined_all seen [] (u ∷ us) pairs = absurd pairs
  joined_all seen (t ∷ ts) [] pairs = absurd pairs
  joined_all seen (t ∷ ts) (u ∷ us) pairs = (pairs.0.joined, joined_all seen ts us pairs.1)

  pub told_all : (seen : List Entry) (ts us : List (Tx D O)) → ArePaired (IsNoteOf s A seen) ts us → AllByRecursion (λ (u : View Entry). IsPrefix u.seen seen) (map tx_view ts)
  told_all seen [] [] pairs = tt
  told_all seen [] (u ∷ us) pairs = absurd pairs
  told_all seen (t ∷ ts) [] pairs = absurd pairs
  told_all seen (t ∷ ts) (u ∷ us) pairs = (pairs.0.told, told_all seen ts us pairs.1)

  pub noted_members : (seen : List Entry) (ts us : List (Tx D O)) → ArePaired (IsNoteOf s A seen) ts us → members_in us ≡ members_in ts
  noted_members seen [] [] pairs = refl
  noted_members seen [] (u ∷ us) pairs = absurd pairs
  noted_members seen (t ∷ ts) [] pairs = absurd pairs
  noted_members seen (t ∷ ts) (u ∷ us) pairs =
      let rest = noted_members seen ts us pairs.1 in
      λ i. (let m : Member = record { number = pairs.0.number i; accesses = (pairs.0.work i).accesses } in m) ∷ rest i

  -- the entry of a group in whose members' places notes stand, told of the members
  pub made_joined : (v m w x : View Entry) (ts us : List (Tx D O)) (e : List Member → Entry) → IsPrefix v.seen m.seen → ArePaired (IsNoteOf s A m.seen) ts us → ((p : ℕ) → times p m.mine ≡ times p v.mine + made_in p ts)
      → Made A m m (e (members_in us)) w → x.seen ≡ w.seen → ((p : ℕ) → times p x.mine ≡ times p w.mine) → MadeAll A v (map tx_view ts) (e (members_in ts)) x
  made_joined v m w x ts us e told noted mine made seen stays =
      made_all A v m w x ts (e (members_in ts)) told (told_all m.seen ts us noted) mine (subst (λ (ms : List Member). Made A m m (e ms) w) (noted_members m.seen ts us noted) made) seen stays

  pub noted_numbers : (seen : List Entry) (ts us : List (Tx D O)) → ArePaired (IsNoteOf s A seen) ts us → numbers_in us ≡ numbers_in ts
  noted_numbers seen [] [] pairs = refl
  noted_numbers seen [] (u ∷ us) pairs = absurd pairs
  noted_numbers seen (t ∷ ts) [] pairs = absurd pairs
  noted_numbers seen (t ∷ ts) (u ∷ us) pairs = let rest = noted_numbers seen ts us pairs.1 in λ i. pairs.0.number i ∷ rest i

  pub noted_many : (seen : List Entry) (ts us : List (Tx D O)) → ArePaired (IsNoteOf s A seen) ts us → length us ≡ length ts
  noted_many seen [] [] pairs = refl
  noted_many seen [] (u ∷ us) pairs = absurd pairs
  noted_many seen (t ∷ ts) [] pairs = absurd pairs
  noted_many seen (t ∷ ts) (u ∷ us) pairs = ap suc (noted_many seen ts us pairs.1)

  pub parts_many : (seen : List Entry) (ts us : List (Tx D O)) → ArePaired (IsPartOf s seen) ts us → length us ≡ length ts
  parts_many seen [] [] pairs = refl
  parts_many seen [] (u ∷ us) pairs = absurd pairs
  parts_many seen (t ∷ ts) [] pairs = absurd pairs
  parts_many seen (t ∷ ts) (u ∷ us) pairs = ap suc (parts_many seen ts us pairs.1)

  pub same_numbers : (ts us : List (Tx D O)) → ArePaired IsSameTx ts us → numbers_in us ≡ numbers_in ts
  same_numbers [] [] pairs = refl
  same_numbers [] (u ∷ us) pairs = absurd pairs
  same_numbers (t ∷ ts) [] pairs = absurd pairs
  same_numbers (t ∷ ts) (u ∷ us) pairs = let rest = same_numbers ts us pairs.1 in λ i. pairs.0.number i ∷ rest i

  -- each has a unit at least
  pub many_units : (ts : List (Tx D O)) → AllByRecursion (IsTx s A) ts → length ts ≤ units_of ts
  many_units [] all = omega arith
  many_units (t ∷ ts) all = let rest = many_units ts all.1 in let one = all.0.0.2 in omega (arith, rest, one)

  numbers_held : (ts : List (Tx D O)) → AllByRecursion (IsTx s A) ts → AllByRecursion (λ (t : Tx D O). 0 < times t.number (view t.pass).holds) ts
  numbers_held [] all = tt
  numbers_held (t ∷ ts) all = (all.0.1.held, numbers_held ts all.1)

  -- the port holds the numbers of the members, which are different ones
  pub members_held : (ts : List (Tx D O)) (old new : List ℕ) → AllByRecursion (IsTx s A) ts → 0 < length ts → ((n : ℕ) → times n new ≡ times n old + held_in n ts) → (0 < length ts → (n : ℕ) → times n new ≤ 1)
      → AreHeld (numbers_in ts) new × AreDistinct (numbers_in ts)
  members_held ts old new all some sum alone =
      let each = times_held (λ (t : Tx D O). t.number) (λ (t : Tx D O). (view t.pass).holds) ts (numbers_held ts all) in (
        held_by (numbers_in ts) new (λ n. let a = each n in let b = sum n in omega (arith, a, b)),
        distinct_by (numbers_in ts) (λ n. let a = each n in let b = sum n in let one = alone some n in omega (arith, a, b, one)),
      )

  pub is_back : (mid seen : List Entry) (t u w x : Tx D O) → IsPrefix mid seen → IsNoteOf s A mid t u → IsSameTx u w → IsPartOf s seen w x → IsBack s A seen t x
  is_back mid seen t u w x p noted same part =
      let work : x.work ≡ (let d : Doing = record u.work { settled = x.work.settled } in d) = part.work ∙ same.work ∙ (λ i. record u.work { settled = (sym part.work i).settled }) in
      let number : x.number ≡ u.number = part.number ∙ same.number in
      let checked : x.checked ≡ u.checked = part.checked ∙ same.checked in
      let S = state_at A seen in
      let own = own_same S u.number u.work x.work work (own_on A mid seen u.number u.work p noted.joined.own) in
      let ahead = ahead_same S u.work x.work u.checked work (ahead_on A mid seen u.work u.checked p noted.joined.ahead) in
      let one : times x.number (w.number ∷ []) ≡ 1 = let h = hit_same w.number x.number (sym part.number) in omega (arith, h) in
      let held : times x.number (view x.pass).holds ≡ times x.number (w.number ∷ []) = ap (times x.number) part.has.1 in record {
        tx = (
          part.lock,
          record {
            held = omega (arith, held, one);
            on = on_same A.world.geometry u.work x.work work noted.joined.on;
            own = subst (λ (l : List Entry). IsOwn (state_at A l) x.number x.work) (sym part.seen_is) (subst (λ (n : ℕ). IsOwn S n x.work) (sym number) own);
            ahead = subst (λ (l : List Entry). IsAhead (state_at A l) x.work x.checked) (sym part.seen_is) (subst (λ (k : Checked). IsAhead S x.work k) (sym checked) ahead);
          },
        );
        same = record { number = number ∙ noted.number; work = work ∙ (λ i. record (noted.work i) { settled = x.work.settled }); checked = checked ∙ noted.checked };
        seen_is = part.seen_is;
        has = (part.has.0, part.has.1 ∙ ap (λ (n : ℕ). n ∷ []) (sym part.number), part.has.2);
      }

  pub back_all : (mid seen : List Entry) (ts us ws xs : List (Tx D O)) → IsPrefix mid seen → ArePaired (IsNoteOf s A mid) ts us → ArePaired IsSameTx us ws → ArePaired (IsPartOf s seen) ws xs → ArePaired (IsBack s A seen) ts xs
  back_all mid seen [] [] [] [] p first second third = tt
  back_all mid seen [] [] [] (x ∷ xs) p first second third = absurd third
  back_all mid seen [] [] (w ∷ ws) xs p first second third = absurd second
  back_all mid seen [] (u ∷ us) ws xs p first second third = absurd first
  back_all mid seen (t ∷ ts) [] ws xs p first second third = absurd first
  back_all mid seen (t ∷ ts) (u ∷ us) [] xs p first second third = absurd second
  back_all mid seen (t ∷ ts) (u ∷ us) (w ∷ ws) [] p first second third = absurd third
  back_all mid seen (t ∷ ts) (u ∷ us) (w ∷ ws) (x ∷ xs) p first second third = (is_back mid seen t u w x p first.0 second.0 third.0, back_all mid seen ts us ws xs p first.1 second.1 third.1)

  -- those that are handed back are transactions of the device again, with a unit each
  pub back_are : (seen : List Entry) (ts xs : List (Tx D O)) → ArePaired (IsBack s A seen) ts xs → AllByRecursion (IsTx s A) xs × (units_of xs ≡ length ts)
  back_are seen [] [] pairs = (tt, refl)
  back_are seen [] (x ∷ xs) pairs = absurd pairs
  back_are seen (t ∷ ts) [] pairs = absurd pairs
  back_are seen (t ∷ ts) (x ∷ xs) pairs =
      let rest = back_are seen ts xs pairs.1 in
      ((pairs.0.tx, rest.0), omega (arith, rest.1, pairs.0.has.2))
