-- The worlds of the one script that the tests' machine knows.
use Rattle.std.{specs.Prelude.{ℕ, zero, suc, List, [], ◌∷◌, None, take, refl}, proofs.Common.arith, specs.List.AllByRecursion}
use Rattle.iso_model.{specs.declared.access.Geometry.Geometry, specs.declared.access.Mode.TheVariants.Serial, specs.Geometry.is_valid, specs.World.{World, empty_history, fresh}, specs.Worlds.IsWorld, proofs.ByteLists.{bytes_cons, no_bytes}, proofs.FreshWorlds.empty_world_is}
use Rattle.script_model.{specs.declared.script.Line.Line, specs.declared.script.Op.Op, specs.declared.script.Op.TheVariants.{Begin, End, Put}, specs.Script.after, specs.Operations.{AreLines, IsOp}, proofs.Steps.after_leads}

-- the small image
abbrev pub small : Geometry
small = record { block = 64; blocks = 4; log = 256; mode = Serial; hash = 0; tree = 0; form = 1 }

abbrev line_of : Op → Line
line_of op = record { client = 1; op = op }

-- client 1 begins and ends without a write, and then puts two bytes and commits them
abbrev pub rehearsal : List (ℕ × Line)
rehearsal = (1, line_of (Begin None)) ∷ (2, line_of End) ∷ (3, line_of (Begin None)) ∷ (4, line_of (Put 2 5 (171 ∷ 205 ∷ []))) ∷ (5, line_of End) ∷ []

-- the world after its first n lines
abbrev pub rehearsed : (n : ℕ) → World
rehearsed n = after (fresh small 1 (empty_history small)) (take n rehearsal)

all_take : (P : ℕ × Line → Type 0) (n : ℕ) (lines : List (ℕ × Line)) → AllByRecursion P lines → AllByRecursion P (take n lines)
all_take P zero lines all = tt
all_take P (suc n) [] all = tt
all_take P (suc n) (line ∷ lines) all = (all.0, all_take P n lines all.1)

-- each of them is sound
pub rehearsed_is_world : (n : ℕ) → IsWorld (rehearsed n)
unfolding is_valid
rehearsed_is_world n =
    let lines : AreLines rehearsal = (tt, (tt, (tt, (bytes_cons 171 (205 ∷ []) (omega arith) (bytes_cons 205 [] (omega arith) no_bytes), (tt, tt))))) in
    (after_leads (fresh small 1 (empty_history small)) (take n rehearsal) (empty_world_is small 1 refl (omega arith)) (all_take (λ line. IsOp line.1.op) n rehearsal lines)).world
