-- Accesses that make no entry: what the rules answer the client, and what the session does.
use Rattle.par_lines.proofs.Words.{◌≡◌, ℕ, ◌==◌, Bool, true, false, cond, List, [], ◌∷◌, ◌++◌, Option, Some, None, ap, inl, inr, length, refl, sym, subst, ◌∙◌, eq-eqb, nat_le, Result, Ok, Err, IfErr, is_some, slice_index, eqb-true, access_answer, accesses_of, with_access, HasAdded, HasWritten, IsWriteCause, moves_none, moves_rested, Access, Geometry, MAX_ACCESSES, Op, Reply, TxError, access_step, fill_step, step, write_step, write_access, World, Start, Stop, access_refusal, IsRefused, Own, Did, Does, alone, answer, live_of, own_after, own_among, Answered, SessionState}
use Rattle.std.specs.Prelude.{not, replicate}
use Rattle.script_model.specs.declared.script.Op.TheVariants as op
use Rattle.script_model.specs.declared.script.Reply.TheVariants as reply
use Rattle.store_model.specs.declared.stores.TxError.TheVariants as error
use Rattle.script_model.specs.Step as rules
use Rattle.script_model.specs.declared.stop.Stop.TheVariants as stop
use Rattle.par_lines.specs.Replies as say

-- what an access is answered by the three tests
tested : (blocks block : ℕ) → (is_wrong is_full : Bool) → Reply → Reply
tested blocks block is_wrong is_full said = cond (nat_le blocks block) reply.BadBlock (cond is_wrong reply.BadRange (cond is_full reply.TooManyAccesses said))

module _ (g : Geometry) (o : Own) (block : ℕ) (said : Reply) (a : Access) where
  -- the client's only transaction has the one access more
  pub after : own_among (rules.with_access (alone g [] (Some o)) (live_of o) a).live ≡ Some (with_access o a)
  after = ap (λ b. own_among (cond b (record (live_of o) { accesses = o.accesses ++ a ∷ [] }) (live_of o) ∷ [])) (eq-eqb o.number o.number refl)

  pub outside : (wrong : Bool) → nat_le g.blocks block ≡ true → access_step (alone g [] (Some o)) (live_of o) block wrong said a ≡ (reply.BadBlock, alone g [] (Some o))
  outside wrong is = rw is refl

  pub wrong_range : nat_le g.blocks block ≡ false → access_step (alone g [] (Some o)) (live_of o) block true said a ≡ (reply.BadRange, alone g [] (Some o))
  wrong_range is = rw is refl

  pub full : nat_le g.blocks block ≡ false → nat_le MAX_ACCESSES (length o.accesses) ≡ true → access_step (alone g [] (Some o)) (live_of o) block false said a ≡ (reply.TooManyAccesses, alone g [] (Some o))
  full is few = rw is (rw few refl)

  pub added : nat_le g.blocks block ≡ false → nat_le MAX_ACCESSES (length o.accesses) ≡ false
      → access_step (alone g [] (Some o)) (live_of o) block false said a ≡ (said, rules.with_access (alone g [] (Some o)) (live_of o) a)
  added is few = rw is (rw few refl)

-- an operation that makes an access, of which these are the parts
pub record IsAccessing (g : Geometry) (x : Op) (block : ℕ) (wrong : Bool) (a : Access) : Type 0 where
  pub opened : (o : Own) → step (alone g [] (Some o)) 1 x ≡ access_step (alone g [] (Some o)) (live_of o) block wrong reply.Done a
  pub closed : step (alone g [] None) 1 x ≡ (reply.NotInTx, alone g [] None)
  pub says : (tells : Bool) (own own' : Option Own) (r : Result Reply Stop) → r ≡ Ok (answer g [] own x) → own' ≡ own_after g [] own x → Does g tells own x [] r own'

-- why an access is refused to a client with this transaction
abbrev refusal : Geometry → Option Own → (block : ℕ) → Option TxError
refusal g was block = access_refusal (record { size = g.block; blocks = g.blocks; base = None; accesses = accesses_of was; is_open = is_some was }) block

module _ (A : Start) (x : Op) (block : ℕ) (a : Access) (parts : IsAccessing A.world.geometry x block false a) where
  -- the rules answer as the session does
  rules_say : (o : Own) (said : Reply) → access_step (alone A.world.geometry [] (Some o)) (live_of o) block false reply.Done a ≡ (said, alone A.world.geometry [] (Some o))
      → Did A.world.geometry A.tells (Some o) x [] (Ok said) (Some o)
  rules_say o said is =
      let whole = parts.opened o ∙ is in
      inl (parts.says A.tells (Some o) (Some o) (Ok said) (ap (λ (w : Reply × World). Ok w.0) (sym whole)) (ap (λ (w : Reply × World). own_among w.1.live) (sym whole)))

  stopped : (was : Option Own) → Did A.world.geometry A.tells was x [] (Err stop.Memory) was
  stopped was = inr (refl, refl, refl)

module _ (A : Start) (x : Op) (block : ℕ) (a : Access) (parts : IsAccessing A.world.geometry x block false a) where
  -- a line that answers so, and leaves the session
  left : (s : SessionState) (was : Option Own) (r : Result Reply Stop) → s.own ≡ was → Did A.world.geometry A.tells was x [] r was → Answered A s x r s
  left s was r is did = record {
    entries = [];
    moves = moves_none s;
    did = subst (λ w. Did A.world.geometry A.tells w x [] r w) (sym is) did;
    of = refl;
  }

  refused_by : (s t : SessionState) (was : Option Own) (e : TxError) (r : Result (Unit {0}) TxError) → s.own ≡ was → r ≡ Err e → HasAdded s a r t → Did A.world.geometry A.tells was x [] (say.accessed (Err e)) was
      → Answered A s x (say.accessed r) t
  refused_by s t was e r is so did does =
      subst (λ q. HasAdded s a q t → Answered A s x (say.accessed q) t) (sym so) (λ same. subst (λ u. Answered A s x (say.accessed (Err e)) u) (sym same) (left s was (say.accessed (Err e)) is does)) did

  written_so : (s t : SessionState) (o : Own) (r : Result (Unit {0}) TxError) → s.own ≡ Some o → nat_le A.world.geometry.blocks block ≡ false → nat_le MAX_ACCESSES (length o.accesses) ≡ false
      → IfErr r IsWriteCause → HasAdded s a r t → Answered A s x (say.accessed r) t
  written_so s t o (Ok done) is within few cause did =
      let whole = parts.opened o ∙ added A.world.geometry o block reply.Done a within few in
      let same : did.0 ≡ o = ap (unwrap o) (sym did.1 ∙ is) in
      record {
        entries = [];
        moves = moves_rested s t did.3;
        did = subst (λ w. Did A.world.geometry A.tells w x [] (Ok reply.Done) t.own) (sym is)
            (inl (parts.says A.tells (Some o) t.own (Ok reply.Done) (ap (λ (w : Reply × World). Ok w.0) (sym whole))
            (did.2 ∙ ap (λ p. Some (with_access p a)) same ∙ sym (after A.world.geometry o block reply.Done a) ∙ ap (λ (w : Reply × World). own_among w.1.live) (sym whole))));
        of = did.3.of;
      }
    where
      unwrap : Own → Option Own → Own
      unwrap d None = d
      unwrap d (Some p) = p
  written_so s t o (Err e) is within few cause did =
      subst (λ u. Answered A s x (say.accessed (Err e)) u) (sym did) (left s (Some o) (say.accessed (Err e)) is (subst (λ f. Did A.world.geometry A.tells (Some o) x [] (say.accessed (Err f)) (Some o)) (sym cause) (stopped A x block a parts (Some o))))

  pub written : (s t : SessionState) (r : Result (Unit {0}) TxError) → IsRefused (access_answer A s block) IsWriteCause r → HasAdded s a r t → Answered A s x (say.accessed r) t
  written s t r cause did = by s.own refl
    where
      by : (was : Option Own) → s.own ≡ was → Answered A s x (say.accessed r) t
      by None is =
          refused_by s t None error.NotInTx r is (subst (λ w. IsRefused (refusal A.world.geometry w block) IsWriteCause r) is cause) did
          (inl (parts.says A.tells None None (Ok reply.NotInTx) (ap (λ (w : Reply × World). Ok w.0) (sym parts.closed)) (ap (λ (w : Reply × World). own_among w.1.live) (sym parts.closed))))
      by (Some o) is = tests (nat_le A.world.geometry.blocks block) (nat_le MAX_ACCESSES (length o.accesses)) refl refl
        where
          known : IsRefused (refusal A.world.geometry (Some o) block) IsWriteCause r
          known = subst (λ w. IsRefused (refusal A.world.geometry w block) IsWriteCause r) is cause

          at : (b c : Bool) → nat_le A.world.geometry.blocks block ≡ b → nat_le MAX_ACCESSES (length o.accesses) ≡ c
              → IsRefused (cond b (Some error.BadBlock) (cond c (Some error.TooManyAccesses) None)) IsWriteCause r
          at b c within few =
              subst (λ v. IsRefused (cond v (Some error.BadBlock) (cond c (Some error.TooManyAccesses) None)) IsWriteCause r) within
              (subst (λ v. IsRefused (cond (nat_le A.world.geometry.blocks block) (Some error.BadBlock) (cond v (Some error.TooManyAccesses) None)) IsWriteCause r) few known)

          tests : (b c : Bool) → nat_le A.world.geometry.blocks block ≡ b → nat_le MAX_ACCESSES (length o.accesses) ≡ c → Answered A s x (say.accessed r) t
          tests true c within few =
              refused_by s t (Some o) error.BadBlock r is (at true c within few) did (rules_say A x block a parts o reply.BadBlock (outside A.world.geometry o block reply.Done a false within))
          tests false true within few =
              refused_by s t (Some o) error.TooManyAccesses r is (at false true within few) did (rules_say A x block a parts o reply.TooManyAccesses (full A.world.geometry o block reply.Done a within few))
          tests false false within few = written_so s t o r is within few (at false false within few) did

-- what the rules answer where the bytes are wrong
module _ (A : Start) (x : Op) (block : ℕ) (a : Access) (parts : IsAccessing A.world.geometry x block true a) where
  wrong_says : (was : Option Own) → Does A.world.geometry A.tells was x [] (Ok (say.wrong_bytes A.world.geometry.blocks was block)) was
  wrong_says None = parts.says A.tells None None (Ok reply.NotInTx) (ap (λ (w : Reply × World). Ok w.0) (sym parts.closed)) (ap (λ (w : Reply × World). own_among w.1.live) (sym parts.closed))
  wrong_says (Some o) = by (nat_le A.world.geometry.blocks block) refl
    where
      so : (said : Reply) → access_step (alone A.world.geometry [] (Some o)) (live_of o) block true reply.Done a ≡ (said, alone A.world.geometry [] (Some o)) → Does A.world.geometry A.tells (Some o) x [] (Ok said) (Some o)
      so said is =
          let whole = parts.opened o ∙ is in
          parts.says A.tells (Some o) (Some o) (Ok said) (ap (λ (w : Reply × World). Ok w.0) (sym whole)) (ap (λ (w : Reply × World). own_among w.1.live) (sym whole))

      by : (b : Bool) → nat_le A.world.geometry.blocks block ≡ b → Does A.world.geometry A.tells (Some o) x [] (Ok (cond b reply.BadBlock reply.BadRange)) (Some o)
      by true is = so reply.BadBlock (outside A.world.geometry o block reply.Done a true is)
      by false is = so reply.BadRange (wrong_range A.world.geometry o block reply.Done a is)

  pub wrong_bytes : (s : SessionState) → Answered A s x (Ok (say.wrong_bytes A.world.geometry.blocks s.own block)) s
  wrong_bytes s = record { entries = []; moves = moves_none s; did = inl (wrong_says s.own); of = refl }

-- a write of a whole block
pub write_parts : (g : Geometry) (block : ℕ) (bytes : List ℕ) (b : Bool) → not (length bytes == g.block) ≡ b → IsAccessing g (op.Write block bytes) block b (write_access block bytes)
unfolding step write_step
write_parts g block bytes b is = record {
  opened = λ o. ap (λ v. access_step (alone g [] (Some o)) (live_of o) block v reply.Done (write_access block bytes)) is;
  closed = refl;
  says = does;
}
  where
    does : (tells : Bool) (own own' : Option Own) (r : Result Reply Stop) → r ≡ Ok (answer g [] own (op.Write block bytes)) → own' ≡ own_after g [] own (op.Write block bytes) → Does g tells own (op.Write block bytes) [] r own'
    does tells None own' r said left = (refl, said, left)
    does tells (Some o) own' r said left = (refl, said, left)

differ_test : (m n : ℕ) → (m ≡ n → ⊥) → not (m == n) ≡ true
differ_test m n differ = by (m == n) refl
  where
    by : (b : Bool) → (m == n) ≡ b → not b ≡ true
    by true is = absurd (differ (eqb-true m n is))
    by false is = refl

module _ (A : Start) (block : ℕ) (bytes : List ℕ) where
  pub wrong_write : (h : Geometry) (s : SessionState) → h ≡ A.world.geometry → (length bytes ≡ h.block → ⊥) → Answered A s (op.Write block bytes) (Ok (say.wrong_bytes h.blocks s.own block)) s
  wrong_write h s is differ =
      subst (λ k. (length bytes ≡ k.block → ⊥) → Answered A s (op.Write block bytes) (Ok (say.wrong_bytes k.blocks s.own block)) s) (sym is)
      (λ apart. wrong_bytes A (op.Write block bytes) block (write_access block bytes) (write_parts A.world.geometry block bytes true (differ_test (length bytes) A.world.geometry.block apart)) s) differ

  pub right_write : (h : Geometry) (s t : SessionState) (r : Result (Unit {0}) TxError) → h ≡ A.world.geometry → length bytes ≡ h.block → IsRefused (access_answer A s block) IsWriteCause r
      → HasWritten s block bytes r t → Answered A s (op.Write block bytes) (say.accessed r) t
  right_write h s t r is same cause did =
      written A (op.Write block bytes) block (write_access block bytes) (write_parts A.world.geometry block bytes false (ap not (eq-eqb (length bytes) A.world.geometry.block (same ∙ ap (λ k. k.block) is)))) s t r cause did

-- a write of a block full of one byte
pub fill_parts : (g : Geometry) (block : ℕ) (bytes : List ℕ) (b : Bool) → not (length bytes == 1) ≡ b → IsAccessing g (op.Fill block bytes) block b (write_access block (replicate g.block (slice_index bytes 0)))
unfolding step fill_step
fill_parts g block bytes b is = record {
  opened = λ o. ap (λ v. access_step (alone g [] (Some o)) (live_of o) block v reply.Done (write_access block (replicate g.block (slice_index bytes 0)))) is;
  closed = refl;
  says = does;
}
  where
    does : (tells : Bool) (own own' : Option Own) (r : Result Reply Stop) → r ≡ Ok (answer g [] own (op.Fill block bytes)) → own' ≡ own_after g [] own (op.Fill block bytes) → Does g tells own (op.Fill block bytes) [] r own'
    does tells None own' r said left = (refl, said, left)
    does tells (Some o) own' r said left = (refl, said, left)

module _ (A : Start) (block : ℕ) (bytes : List ℕ) where
  pub wrong_fill : (h : Geometry) (s : SessionState) → h ≡ A.world.geometry → (length bytes ≡ 1 → ⊥) → Answered A s (op.Fill block bytes) (Ok (say.wrong_bytes h.blocks s.own block)) s
  wrong_fill h s is differ =
      subst (λ k. Answered A s (op.Fill block bytes) (Ok (say.wrong_bytes k.blocks s.own block)) s) (sym is)
      (wrong_bytes A (op.Fill block bytes) block (write_access block (replicate A.world.geometry.block (slice_index bytes 0))) (fill_parts A.world.geometry block bytes true (differ_test (length bytes) 1 differ)) s)

  pub right_fill : (h : Geometry) (s t : SessionState) (buffer : List ℕ) (r : Result (Unit {0}) TxError) → h ≡ A.world.geometry → length bytes ≡ 1 → buffer ≡ replicate h.block (slice_index bytes 0)
      → IsRefused (access_answer A s block) IsWriteCause r → HasWritten s block buffer r t → Answered A s (op.Fill block bytes) (say.accessed r) t
  right_fill h s t buffer r is one full cause did =
      written A (op.Fill block bytes) block (write_access block (replicate A.world.geometry.block (slice_index bytes 0))) (fill_parts A.world.geometry block bytes false (ap not (eq-eqb (length bytes) 1 one))) s t r cause
      (subst (λ v. HasWritten s block v r t) (full ∙ ap (λ k. replicate k.block (slice_index bytes 0)) is) did)

  -- without memory before it, a line stops the client
  pub wants : (s : SessionState) (x : Op) → Answered A s x (Err stop.Memory) s
  wants s x = record { entries = []; moves = moves_none s; did = inr (refl, refl, refl); of = refl }
