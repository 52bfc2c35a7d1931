-- Marks of a client's last access: what the rules answer, and what the session does.
use Rattle.par_lines.proofs.{Words.{◌≡◌, Bool, ℕ, false, cond, eq-eqb, List, [], ◌∷◌, ◌++◌, Option, Some, None, ap, inl, refl, sym, subst, ◌∙◌, Result, Ok, Err, is_some, option_map, accesses_of, mark_answer, with_mark, HasMarked, Rested, moves_rested, Access, Geometry, MarkError, Reply, TxError, is_outside, mark_fault, marked, marks_fault, mark_refused, mark_step, marked_step, step, World, Start, mark_refusal, marking, IsRefused, span_at, Own, Did, Does, alone, live_of, own_among, Answered, SessionState}, Answering.{by_none, same_own}}
use Rattle.iso_model.specs.declared.access.MarkError.TheVariants as mark
use Rattle.script_model.specs.declared.script.Op.TheVariants as op
use Rattle.script_model.specs.declared.script.Reply.TheVariants as reply
use Rattle.store_model.specs.declared.stores.TxError.TheVariants as error
use Rattle.par_lines.specs.Replies as say

-- why a mark is refused to a client with this transaction
abbrev mark_refused_to : Geometry → Option Own → (off len : ℕ) → Option TxError
mark_refused_to g was off len = mark_refusal (record { size = g.block; blocks = g.blocks; base = None; accesses = accesses_of was; is_open = is_some was }) off len

-- an access without a mark takes one
pub takes_mark : (size off len : ℕ) (accesses : List Access) (a : Access) → a.spans ≡ [] → is_outside size off len ≡ false → mark_fault size off len (accesses ++ a ∷ []) ≡ None
takes_mark size off len accesses a none is = rw is (last accesses)
  where
    last : (accesses : List Access) → marks_fault (accesses ++ a ∷ []) ≡ None
    last [] = rw none refl
    last (b ∷ []) = rw none refl
    last (b ∷ c ∷ accesses) = last (c ∷ accesses)

marks_to : (g : Geometry) (o : Own) (off len : ℕ) → step (alone g [] (Some o)) 1 (op.Mark off len) ≡ marked_step (alone g [] (Some o)) (live_of o) (span_at off len) (mark_fault g.block off len o.accesses)
unfolding step mark_step
marks_to g o off len = refl

no_mark : (g : Geometry) (tells : Bool) (off len : ℕ) → Does g tells None (op.Mark off len) [] (Ok reply.NotInTx) None
unfolding step
no_mark g tells off len = (refl, refl, refl)

says_mark : (g : Geometry) (tells : Bool) (o : Own) (own' : Option Own) (off len : ℕ) (w : Reply × World) → step (alone g [] (Some o)) 1 (op.Mark off len) ≡ w → own' ≡ own_among w.1.live → Does g tells (Some o) (op.Mark off len) [] (Ok w.0) own'
says_mark g tells o own' off len w is left = (refl, ap (λ (v : Reply × World). Ok v.0) (sym is), left ∙ ap (λ (v : Reply × World). own_among v.1.live) (sym is))

refused_reply : (e : MarkError) → say.accessed (Err (marking e)) ≡ Ok (mark_refused e)
refused_reply mark.BadRange = refl
refused_reply x = refl

with_last : (o : Own) (off len : ℕ) (g : Geometry) → own_among (marked_step (alone g [] (Some o)) (live_of o) (span_at off len) None).1.live ≡ Some (with_mark o off len)
with_last o off len g = ap (λ b. own_among (cond b (record (live_of o) { accesses = marked (span_at off len) o.accesses }) (live_of o) ∷ [])) (eq-eqb o.number o.number refl)

-- a mark that was not refused
pub record Marked (s : SessionState) (off len : ℕ) (r : Result (Unit {0}) TxError) (t : SessionState) : Type 0 where
  pub answered : r ≡ Ok tt
  pub own : Own
  pub was : s.own ≡ Some own
  pub is : t.own ≡ Some (with_mark own off len)
  pub rested : Rested s t

pub never_refused : (s t : SessionState) (off len : ℕ) (r : Result (Unit {0}) TxError) → IsRefused None (λ e. ⊥) r → HasMarked s off len r t → Marked s off len r t
never_refused s t off len (Ok done) cause did = record { answered = refl; own = did.0; was = did.1; is = did.2; rested = did.3 }
never_refused s t off len (Err e) cause did = absurd cause

module _ (A : Start) (off len : ℕ) where
  refused_so : (s t : SessionState) (was : Option Own) (e : TxError) (r : Result (Unit {0}) TxError) → s.own ≡ was → r ≡ Err e → HasMarked s off len r t
      → Does A.world.geometry A.tells was (op.Mark off len) [] (say.accessed (Err e)) was → Answered A s (op.Mark off len) (say.accessed r) t
  refused_so s t was e r is so did does =
      subst (λ q. HasMarked s off len q t → Answered A s (op.Mark off len) (say.accessed q) t) (sym so) (λ same. by_none A s t (op.Mark off len) (say.accessed (Err e)) was is same does) did

  marked_so : (s t : SessionState) (o : Own) (r : Result (Unit {0}) TxError) → s.own ≡ Some o → mark_fault A.world.geometry.block off len o.accesses ≡ None → Marked s off len r t
      → Answered A s (op.Mark off len) (say.accessed r) t
  marked_so s t o r is fine m =
      let g : Geometry = A.world.geometry in
      let same : m.own ≡ o = same_own m.own o (sym m.was ∙ is) in
      let stepped : step (alone g [] (Some o)) 1 (op.Mark off len) ≡ marked_step (alone g [] (Some o)) (live_of o) (span_at off len) None = marks_to g o off len ∙ ap (marked_step (alone g [] (Some o)) (live_of o) (span_at off len)) fine in
      subst (λ q. Answered A s (op.Mark off len) (say.accessed q) t) (sym m.answered) (record {
        entries = [];
        moves = moves_rested s t m.rested;
        did = subst (λ w. Did g A.tells w (op.Mark off len) [] (Ok reply.Done) t.own) (sym is)
            (inl (says_mark g A.tells o t.own off len (marked_step (alone g [] (Some o)) (live_of o) (span_at off len) None) stepped (m.is ∙ ap (λ p. Some (with_mark p off len)) same ∙ sym (with_last o off len g))));
        of = m.rested.of;
      })

  -- a line that marks
  pub mark_line : (s t : SessionState) (r : Result (Unit {0}) TxError) → IsRefused (mark_answer A s off len) (λ e. ⊥) r → HasMarked s off len r t → Answered A s (op.Mark off len) (say.accessed r) t
  mark_line s t r cause did = by s.own refl
    where
      by : (was : Option Own) → s.own ≡ was → Answered A s (op.Mark off len) (say.accessed r) t
      by None is = refused_so s t None error.NotInTx r is (subst (λ w. IsRefused (mark_refused_to A.world.geometry w off len) (λ e. ⊥) r) is cause) did (no_mark A.world.geometry A.tells off len)
      by (Some o) is = fault (mark_fault A.world.geometry.block off len o.accesses) refl
        where
          known : IsRefused (mark_refused_to A.world.geometry (Some o) off len) (λ e. ⊥) r
          known = subst (λ w. IsRefused (mark_refused_to A.world.geometry w off len) (λ e. ⊥) r) is cause

          at : (f : Option MarkError) → mark_fault A.world.geometry.block off len o.accesses ≡ f → IsRefused (option_map marking f) (λ e. ⊥) r
          at f so = subst (λ v. IsRefused (option_map marking v) (λ e. ⊥) r) so known

          fault : (f : Option MarkError) → mark_fault A.world.geometry.block off len o.accesses ≡ f → Answered A s (op.Mark off len) (say.accessed r) t
          fault (Some e) so =
              let stepped = marks_to A.world.geometry o off len ∙ ap (marked_step (alone A.world.geometry [] (Some o)) (live_of o) (span_at off len)) so in
              refused_so s t (Some o) (marking e) r is (at (Some e) so) did
              (subst (λ q. Does A.world.geometry A.tells (Some o) (op.Mark off len) [] q (Some o)) (sym (refused_reply e)) (says_mark A.world.geometry A.tells o (Some o) off len (mark_refused e, alone A.world.geometry [] (Some o)) stepped refl))
          fault None so = marked_so s t o r is so (never_refused s t off len r (at None so) did)

-- a mark is not refused to a session whose transaction may take it
pub mark_free : (A : Start) (s : SessionState) (o : Own) (off len : ℕ) → s.own ≡ Some o → mark_fault A.world.geometry.block off len o.accesses ≡ None → mark_answer A s off len ≡ None
mark_free A s o off len is fine = ap (λ w. mark_refused_to A.world.geometry w off len) is ∙ ap (option_map marking) fine
