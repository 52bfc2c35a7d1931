-- What a transaction wrote of a block, in the patches that are left.
use Rattle.std.proofs.{Common.{◌≡◌, ◌∙◌, refl, sym, ap, ℕ, List, [], ◌∷◌, Option, None, length, replicate, eq-eqb}}
use Rattle.std.specs.List.{AllByRecursion}
use Rattle.iso_model.specs.{declared.access.Access.Access, Array.Array, Effect.{effects_from, own}, Premises.{HasBytes, block_at}}
use Rattle.merge_write.{specs.Patch.laid, proofs.Growth.effects_shown}
use Rattle.tx_table.{specs.Patches.patch_at, proofs.Blocks.laid_none}

pub held_here : (size b at : ℕ) (values effects : List (Option ℕ)) (entries rest : List (ℕ × List (Option ℕ))) → entries ≡ (at, values) ∷ rest → at ≡ b → patch_at size b entries ≡ effects → values ≡ effects
held_here size b at values effects entries rest is here held =
    let first : patch_at size b ((at, values) ∷ rest) ≡ values = rw (eq-eqb at b here) refl in
    sym first ∙ ap (patch_at size b) (sym is) ∙ held

-- no patch of the block is left
pub none_held : (size b : ℕ) (effects : List (Option ℕ)) (entries : List (ℕ × List (Option ℕ))) → entries ≡ [] → patch_at size b entries ≡ effects → replicate size None ≡ effects
none_held size b effects entries is held = ap (patch_at size b) (sym is) ∙ held

-- what the accesses write, laid over the block as it stood
pub laid_is : (A : Array) (accesses : List Access) (b size : ℕ) (into new : List ℕ) → AllByRecursion (HasBytes size) accesses → block_at A b ≡ into → length into ≡ size
    → new ≡ laid (effects_from accesses b 0 size) into → new ≡ block_at (own A accesses) b
laid_is A accesses b size into new whole is long laid_so =
    laid_so ∙ ap (laid (effects_from accesses b 0 size)) (sym is) ∙ effects_shown A accesses b size whole (ap length is ∙ long)

pub nothing_laid : (size : ℕ) (effects : List (Option ℕ)) (into : List ℕ) → replicate size None ≡ effects → length into ≡ size → into ≡ laid effects into
nothing_laid size effects into none long = laid_none size into long ∙ ap (λ (l : List (Option ℕ)). laid l into) none
