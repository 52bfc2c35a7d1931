-- A visit of a session's transaction begins.
use Rattle.handle_pass.proofs.{Words.{◌≡◌, ◌≤◌, false, IsTrue, Option, Some, None, length, refl, sym, subst, arith, Array, is_valid, array_at, block_at, limits, Start, state_at, IsArrayOf, IsTx, accesses_of, tx_on, Own, IsVisit, base_in, base_of, begin_array, shaped, SessionState, HasItsBegin}, Shapes.{length-block_shaped, length-shaped}, Visiting.{begun_base, told_base, visit_none}}

module _ (A : Start) (s : SessionState) where
  base_shape : (B : Array) → base_in A s ≡ Some B → IsArrayOf (tx_on A s (base_in A s)) B
  base_shape B is =
      let tells = told_base A.tells (begin_array A s) B is in
      let begun = begun_base s.own (λ (o : Own). shaped A.world.geometry (array_at (state_at A s.seen).world.history o.begin)) B tells.1 in
      let X : Array = array_at (state_at A s.seen).world.history begun.0.begin in
      let same : shaped A.world.geometry X ≡ B = begun.2 in
      record {
        blocks = subst (λ (C : Array). length C ≡ A.world.geometry.blocks) same (length-shaped A.world.geometry X);
        bytes = λ b below. subst (λ (C : Array). length (block_at C b) ≡ A.world.geometry.block) same (length-block_shaped A.world.geometry X b below);
      }

  limits_first : IsTrue (is_valid A.world.geometry) → length (accesses_of s.own) ≤ 4096 → IsTx (tx_on A s (base_in A s))
  limits_first valid few =
      let bounds = limits A.world.geometry valid in
      let least : 64 ≤ A.world.geometry.block = bounds.least_block in
      let most : A.world.geometry.block ≤ 4096 = bounds.largest_block in
      let blocks : A.world.geometry.blocks ≤ 16384 = bounds.most_blocks in
      record { least = least; most = most; few = omega (arith, blocks); base = base_shape; count = few }

  pub visit_begins : (before : Option SessionState) → before ≡ Some s → HasItsBegin A s → IsTrue (is_valid A.world.geometry) → length (accesses_of s.own) ≤ 4096 → IsVisit A before s 0 false
  visit_begins before is begun valid few = record {
    was = s;
    is = is;
    begun = begun;
    refused = None;
    made = visit_none A s;
    failed = (refl, refl);
    limits = subst (λ (o : Option SessionState). IsTx (tx_on A s (base_of A o))) (sym is) (limits_first valid few);
  }
