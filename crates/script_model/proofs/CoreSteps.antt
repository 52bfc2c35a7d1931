-- Steps of a script that a core makes, by the core's cases.
use Rattle.script_model.proofs.Words.{Bool, true, false, cond, CoreReply, World, Reply, as_step}

-- what holds of both answers holds of the one that a test picks
pub as_either : (P : Reply × World → Type 0) (test : Bool) (x y : CoreReply × World) → P (as_step x) → P (as_step y) → P (as_step (cond test x y))
as_either P true x y first second = first
as_either P false x y first second = second
