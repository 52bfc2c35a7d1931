-- A session whose transaction was handed out, and what came back of it.
use Rattle.committer.proofs.Words.{inl, inr, ℕ, ◌++◌, ◌≡◌, ◌⊎◌, ◌∙◌, List, [], ◌∷◌, None, Some, refl, sym, ap, subst, arith, ⊎_elim, CoreError, IsLegal, IsPort, number_of, port_view, tx_view, Start, Entry, Shared, Tx, IsPrefix, prefix_self, prefix_trans, times, cause_of, SessionState}
use Rattle.iso_model.specs.declared.core_error.CoreError.TheVariants as error
use Rattle.iso_shared.specs.{declared.shared.Port.Port, Ports.{doing_of}}
use Rattle.iso_shared.specs.declared.entry.Entry.TheVariants as entry
use Rattle.handle_pass.{proofs.Entering.{left_kept, own_same}, proofs.Handing.{upto_same}, specs.Handles.{TookOver}, specs.Held.{held_state}, specs.Inside.{own_in}, specs.Sessions.{Own}, specs.Splits.{Joined}}
use Rattle.group_commit.specs.{declared.each.Ended.Ended, Each.IsEndedIn}
use Rattle.committer.specs.{Outcomes.{IsEndedAlone, IsHandedBack, IsLost, IsRefusedIn}, Together.{Follows, IsAnswer, IsHandedOut, IsRefusal, KeepsPlaces, Unended}}

module _ (A : Start) where
  -- what follows in one list follows in those that hold it
  widened : (old from to new : List Entry) (e : Entry) → IsPrefix old from → Follows A from e to → IsPrefix to new → Follows A old e new
  widened old from to new e less f more = record {
    before = f.before;
    told = prefix_trans old from f.before less f.told;
    known = prefix_trans (f.before ++ e ∷ []) to new f.known more;
    legal = f.legal;
  }

  ends_in : (before seen : List Entry) (e : Entry) (from : List Entry) → IsPrefix from before → seen ≡ before ++ e ∷ [] → IsLegal A seen → Follows A from e seen
  ends_in before seen e from told is legal = record {
    before = before;
    told = told;
    known = subst (λ (l : List Entry). IsPrefix (before ++ e ∷ []) l) (sym is) (prefix_self (before ++ e ∷ []));
    legal = subst (IsLegal A) is legal;
  }

  -- an entry that refuses the end of a transaction
  abbrev pub IsRefusedAt : (o : Own) (why : CoreError) (from to : List Entry) → Type 0
  IsRefusedAt o why from to = (x : Entry) × IsRefusal o why x × Follows A from x to

module _ {D O : Type 0} (A : Start) where
  -- the port of a transaction that has ended, and the entry that it has seen
  abbrev pub IsTold : Shared D O → Tx D O → Ended D O → Type 0
  IsTold d u e = IsPort d e.port × ((port_view e.port).units ≡ 1) × ((port_view e.port).mine ≡ []) × (x : Entry) × IsAnswer (own_in u) e.reply x × Follows A (tx_view u).seen x (port_view e.port).seen

  pub told_of : (d : Shared D O) (u : Tx D O) (e : Ended D O) → IsEndedIn d A u e ⊎ IsEndedAlone d A u e → IsTold d u e
  told_of d u e one = ⊎_elim
      (λ m. (m.port, m.unit, m.bare, entry.EndGroup m.members, inl (m.members, refl, m.among), ends_in A m.before (port_view e.port).seen (entry.EndGroup m.members) (tx_view u).seen m.told m.seen_is m.legal))
      (λ a. (
        a.port.port,
        a.port.unit,
        a.port.bare,
        entry.End (number_of u) (doing_of u).accesses a.reply,
        inr (a.reply, refl, a.same),
        ends_in A a.seen.before (port_view e.port).seen (entry.End (number_of u) (doing_of u).accesses a.reply) (tx_view u).seen a.seen.told a.seen.seen_is a.seen.legal,
      ))
      one

  pub refused_of : (d : Shared D O) (u : Tx D O) (why : CoreError) (list : List Entry) → IsRefusedIn d A u why list → IsRefusedAt A (own_in u) why (tx_view u).seen list
  refused_of d u why list r = (
    entry.Refused r.asked (cause_of r.faults r.now why),
    (r.asked, r.faults, r.now, refl, r.of),
    ends_in A r.seen.before list (entry.Refused r.asked (cause_of r.faults r.now why)) (tx_view u).seen r.seen.told r.seen.seen_is r.seen.legal,
  )

  module _ (d : Shared D O) (s m : SessionState) (u : Tx D O) (out : IsHandedOut d A s u m) where
    -- the port of a transaction that is gone was joined into the session
    pub rejoined : (t : SessionState) (q : Port D O) → (port_view q).units ≡ 1 → (port_view q).mine ≡ [] → Joined m q t → (t.own ≡ None) × KeepsPlaces s t × (t.units ≡ s.units)
    rejoined t q one bare j = (
      j.tx.is ∙ out.left,
      record {
        known = prefix_trans s.seen m.seen t.seen out.stays.known j.known;
        places = λ p. (let more = j.places p in let none = ap (times p) bare in let was = out.stays.places p in omega (arith, more, none, was));
        of = j.of ∙ out.stays.of;
      },
      (let more = j.more in let less = out.units in omega (arith, more, less, one)),
    )

    pub answered_in : (t : SessionState) (q : Port D O) (x : Entry) → Joined m q t → Follows A (tx_view u).seen x (port_view q).seen → Follows A s.seen x t.seen
    answered_in t q x j f = widened A s.seen (tx_view u).seen (port_view q).seen t.seen x out.told f j.told

    -- the disk failed in the end, and the port of the transaction, which is gone, was joined into the session
    pub lost_in : (t : SessionState) (q : Port D O) → IsLost d A u q → Joined m q t → Unended A s (own_in u) error.Disk t
    lost_in t q lost j =
        let back = rejoined t q lost.port.unit lost.port.bare j in
        let r = refused_of d u error.Disk (port_view q).seen lost.refused in record {
          was = out.was;
          left = back.0;
          upto = λ no. absurd (no refl);
          stays = back.1;
          units = back.2;
          refusal = r.0;
          is = r.1;
          follows = answered_in t q r.0 j r.2;
        }

    -- the end was refused, and the transaction was taken over again
    pub kept_in : (t : SessionState) (why : CoreError) (v : Tx D O) (at : ℕ) → IsHandedBack d A u why v → TookOver m (held_state v) at t → Unended A s (own_in u) why t
    kept_in t why v at back over =
        let same : own_in v ≡ own_in u = own_same u v back.same in
        let r = refused_of d u why back.list back.refused in
        let before : IsPrefix back.list t.seen = prefix_trans back.list (tx_view v).seen t.seen back.known over.told in record {
          was = out.was;
          left = over.is ∙ ap Some same ∙ sym (left_kept why (own_in u) back.live);
          upto = λ _. over.upto ∙ upto_same u v back.same ∙ out.upto;
          stays = record {
            known = prefix_trans s.seen m.seen t.seen out.stays.known over.more;
            places = λ p. (let more = over.places p in let none = ap (times p) back.bare in let was = out.stays.places p in omega (arith, more, none, was));
            of = over.of ∙ out.stays.of;
          };
          units = (let more = over.units in let less = out.units in omega (arith, more, less));
          refusal = r.0;
          is = r.1;
          follows = widened A s.seen (tx_view u).seen back.list t.seen r.0 out.told r.2 before;
        }
