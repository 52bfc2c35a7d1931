-- Bytes that are put into a block.
use Rattle.par_lines.proofs.{Words.{◌≡◌, ℕ, Bool, true, false, List, [], Option, None, Some, ap, length, refl, sym, subst, ◌∙◌, Result, Ok, access_answer, HasAdded, IsWriteCause, Geometry, Reply, TxError, is_outside, access_step, put_step, step, put_access, Start, Stop, IsRefused, Own, Does, alone, answer, live_of, own_after, Answered, SessionState}, Writing.{written, wrong_bytes, IsAccessing}}
use Rattle.script_model.specs.declared.script.Op.TheVariants as op
use Rattle.script_model.specs.declared.script.Reply.TheVariants as reply
use Rattle.par_lines.specs.Replies as say

-- a put of these bytes is an access
pub put_parts : (g : Geometry) (block off : ℕ) (bytes : List ℕ) (b : Bool) → is_outside g.block off (length bytes) ≡ b → IsAccessing g (op.Put block off bytes) block b (put_access g.block block off bytes)
unfolding step put_step
put_parts g block off bytes b is = record {
  opened = λ o. ap (λ v. access_step (alone g [] (Some o)) (live_of o) block v reply.Done (put_access g.block block off bytes)) is;
  closed = refl;
  says = does;
}
  where
    does : (tells : Bool) (own own' : Option Own) (r : Result Reply Stop) → r ≡ Ok (answer g [] own (op.Put block off bytes)) → own' ≡ own_after g [] own (op.Put block off bytes) → Does g tells own (op.Put block off bytes) [] r own'
    does tells None own' r said left = (refl, said, left)
    does tells (Some o) own' r said left = (refl, said, left)

module _ (A : Start) (block off : ℕ) (bytes : List ℕ) where
  pub right_put : (h : Geometry) (s t : SessionState) (r : Result (Unit {0}) TxError) → h ≡ A.world.geometry → is_outside h.block off (length bytes) ≡ false → IsRefused (access_answer A s block) IsWriteCause r
      → HasAdded s (put_access A.world.geometry.block block off bytes) r t → Answered A s (op.Put block off bytes) (say.accessed r) t
  right_put h s t r is inside cause did =
      written A (op.Put block off bytes) block (put_access A.world.geometry.block block off bytes) (put_parts A.world.geometry block off bytes false (ap (λ k. is_outside k.block off (length bytes)) (sym is) ∙ inside)) s t r cause did

-- a put whose bytes are none, or pass the end of a block
pub wrong_put : (A : Start) (block off : ℕ) (bytes : List ℕ) (h : Geometry) (s : SessionState) → h ≡ A.world.geometry → is_outside h.block off (length bytes) ≡ true
    → Answered A s (op.Put block off bytes) (Ok (say.wrong_bytes h.blocks s.own block)) s
wrong_put A block off bytes h s is outside =
    subst (λ k. Answered A s (op.Put block off bytes) (Ok (say.wrong_bytes k.blocks s.own block)) s) (sym is)
    (wrong_bytes A (op.Put block off bytes) block (put_access A.world.geometry.block block off bytes) (put_parts A.world.geometry block off bytes true (ap (λ k. is_outside k.block off (length bytes)) (sym is) ∙ outside)) s)
