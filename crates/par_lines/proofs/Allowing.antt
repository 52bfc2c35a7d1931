-- Which accesses of a client are refused by its own state, and what the rules answer to them.
use Rattle.par_lines.proofs.{Words.{◌≡◌, ℕ, Bool, true, false, cond, [], Option, Some, None, ap, length, refl, subst, ◌∙◌, nat_le, is_some, accesses_of, with_access, Access, Geometry, MAX_ACCESSES, Op, Reply, TxError, Array, access_step, step, World, access_refusal, Own, alone, answer, live_of, own_after, own_among}, Writing.{after, full, outside}}
use Rattle.script_model.specs.declared.script.Reply.TheVariants as reply
use Rattle.store_model.specs.declared.stores.TxError.TheVariants as error
use Rattle.script_model.specs.Step as rules

-- why an access to a block is refused to a client with this transaction
abbrev pub refusal : Geometry → Option Own → (block : ℕ) → Option TxError
refusal g was block = access_refusal (record { size = g.block; blocks = g.blocks; base = None; accesses = accesses_of was; is_open = is_some was }) block

same_error : (e f : TxError) → Some e ≡ Some f → e ≡ f
same_error e f is = ap (unwrap e) is
  where
    unwrap : TxError → Option TxError → TxError
    unwrap d None = d
    unwrap d (Some x) = x

-- an access whose bytes are right: what the rules answer to it where it is made, over this array, and the access
pub record IsAllowed (g : Geometry) (x : Op) (block : ℕ) (said : Array → Own → Reply) (a : Access) : Type 0 where
  pub opened : (B : Array) (o : Own) → step (alone g B (Some o)) 1 x ≡ access_step (alone g B (Some o)) (live_of o) block false (said B o) a
  pub closed : step (alone g [] None) 1 x ≡ (reply.NotInTx, alone g [] None)

-- the rules answer so, and the client's transaction is as it was
pub record Refuses (g : Geometry) (x : Op) (was : Option Own) (r : Reply) : Type 0 where
  pub answer_is : answer g [] was x ≡ r
  pub left : own_after g [] was x ≡ was

module _ (g : Geometry) (x : Op) (block : ℕ) (said : Array → Own → Reply) (a : Access) (is : IsAllowed g x block said a) where
  refused_none : Refuses g x None reply.NotInTx
  refused_none = record {
    answer_is = ap (λ (w : Reply × World). w.0) is.closed;
    left = ap (λ (w : Reply × World). own_among w.1.live) is.closed;
  }

  refused_some : (o : Own) (r : Reply) → access_step (alone g [] (Some o)) (live_of o) block false (said [] o) a ≡ (r, alone g [] (Some o)) → Refuses g x (Some o) r
  refused_some o r so =
      let whole = is.opened [] o ∙ so in
      record { answer_is = ap (λ (w : Reply × World). w.0) whole; left = ap (λ (w : Reply × World). own_among w.1.live) whole }

  -- what holds of each refusal of the rules, holds of this one
  pub by_tests : (K : Option Own → TxError → Type 0) (was : Option Own) (e : TxError) → refusal g was block ≡ Some e
      → (Refuses g x None reply.NotInTx → K None error.NotInTx) → ((o : Own) → Refuses g x (Some o) reply.BadBlock → K (Some o) error.BadBlock)
      → ((o : Own) → Refuses g x (Some o) reply.TooManyAccesses → K (Some o) error.TooManyAccesses) → K was e
  by_tests K None e so closed beyond many = subst (K None) (same_error error.NotInTx e so) (closed refused_none)
  by_tests K (Some o) e so closed beyond many = tests (nat_le g.blocks block) (nat_le MAX_ACCESSES (length o.accesses)) refl refl so
    where
      tests : (b c : Bool) → nat_le g.blocks block ≡ b → nat_le MAX_ACCESSES (length o.accesses) ≡ c
          → cond b (Some error.BadBlock) (cond c (Some error.TooManyAccesses) None) ≡ Some e → K (Some o) e
      tests true c within few so = subst (K (Some o)) (same_error error.BadBlock e so) (beyond o (refused_some o reply.BadBlock (outside g o block (said [] o) a false within)))
      tests false true within few so = subst (K (Some o)) (same_error error.TooManyAccesses e so) (many o (refused_some o reply.TooManyAccesses (full g o block (said [] o) a within few)))
      tests false false within few so = absurd (cc so)

  -- an access that is not refused: what the rules answer to it, and the client's transaction then
  pub record Allows (was : Option Own) : Type 0 where
    pub own : Own
    pub own_is : was ≡ Some own
    pub answers : (B : Array) → answer g B (Some own) x ≡ said B own
    pub leaves : (B : Array) → own_after g B (Some own) x ≡ Some (with_access own a)

  pub allowed : (was : Option Own) → refusal g was block ≡ None → Allows was
  allowed None so = absurd (cc so)
  allowed (Some o) so = tests (nat_le g.blocks block) (nat_le MAX_ACCESSES (length o.accesses)) refl refl so
    where
      tests : (b c : Bool) → nat_le g.blocks block ≡ b → nat_le MAX_ACCESSES (length o.accesses) ≡ c
          → cond b (Some error.BadBlock) (cond c (Some error.TooManyAccesses) None) ≡ None → Allows (Some o)
      tests true c within few so = absurd (cc so)
      tests false true within few so = absurd (cc so)
      tests false false within few so = record {
        own = o;
        own_is = refl;
        answers = λ B. ap (λ (w : Reply × World). w.0) (is.opened B o ∙ added_over B within few);
        leaves = λ B. ap (λ (w : Reply × World). own_among w.1.live) (is.opened B o ∙ added_over B within few) ∙ after_over B;
      }
        where
          added_over : (B : Array) → nat_le g.blocks block ≡ false → nat_le MAX_ACCESSES (length o.accesses) ≡ false
              → access_step (alone g B (Some o)) (live_of o) block false (said B o) a ≡ (said B o, rules.with_access (alone g B (Some o)) (live_of o) a)
          added_over B within few = rw within (rw few refl)

          after_over : (B : Array) → own_among (rules.with_access (alone g B (Some o)) (live_of o) a).live ≡ Some (with_access o a)
          after_over B = after g o block (said B o) a
