-- A rename, part by part.
use Rattle.iso_fs.proofs.{Words.{arith, ◌≡◌, ◌≢◌, refl, ap, ℕ, ◌+◌, ◌≤◌, Bool, true, false, ◌&&◌, cond, List, Result, Err, IfOk, own, StoreError, FsError, FileAreas, FsRegion, is_key, get_program, in_tree, refuse, rename_found, rename_op, rename_program, AreFileAreas, AreFileRegions, files, Tx, IsTx, IsLocalCall, at_start, ran_at, TakesNoBlocks, HasRun, areas_of, may_follow}, CreateSteps.have_blocks, Ended.{run_as, call_local}, RenameCalls.rename_local}
use Rattle.store_model.specs.declared.stores.StoreError.TheVariants as store
use Rattle.store_model.specs.declared.files.FsError.TheVariants as fs

-- THE OLD NAME IS REMOVED
pub tree_follows : (e : StoreError) → (e ≢ store.BadKey) × TakesNoBlocks e → may_follow true (fs.Store e) ≡ true
tree_follows store.BadKey known = absurd (known.0 refl)
tree_follows store.BadValue known = absurd known.1
tree_follows (store.NoBlocks need free) known = absurd known.1
tree_follows (store.Broken block) known = refl
tree_follows (store.Tx e) known = refl
tree_follows store.Memory known = refl

pub memory_value : store.Memory ≡ store.BadValue → ⊥
memory_value is = cc

-- THE WHOLE CALL
pub rename_as : (a : FileAreas) (old new : List ℕ) → is_key old ≡ true → is_key new ≡ true → rename_program a old new ≡ in_tree (get_program a.tree old) (rename_found a old new)
unfolding rename_program
rename_as a old new old_key new_key = λ i. cond (old_key i && new_key i) (in_tree (get_program a.tree old) (rename_found a old new)) (refuse fs.BadName)

pub old_bad : (old new : List ℕ) → is_key old ≡ false → (is_key old && is_key new) ≡ false
old_bad old new bad = ap (λ (b : Bool). b && is_key new) bad

pub new_bad : (old new : List ℕ) → is_key new ≡ false → (is_key old && is_key new) ≡ false
new_bad old new bad = elim (is_key old) as (λ b. (b && is_key new) ≡ false) [ true ↦ bad | false ↦ refl ]

pub rename_bad : (a : FileAreas) (old new : List ℕ) (t : Tx) → (is_key old && is_key new) ≡ false → HasRun (rename_program a old new) t t (Err fs.BadName)
unfolding rename_program
rename_bad a old new t bad = grind (arith, run_as, ran_at, at_start) steps 100000

pub rename_call : (t u : Tx) (at : FsRegion) (old new : List ℕ) (result : Result Bool FsError) → IsTx t → AreFileAreas (areas_of t at) → at.files.start + at.files.size ≤ t.blocks → is_key old ≡ true → is_key new ≡ true
    → HasRun (rename_program (areas_of t at) old new) t u result → IfOk result (IsLocalCall (AreFileRegions (areas_of t at)) (files (areas_of t at)) (rename_op old new) t u)
rename_call t u at old new result tx areas fits old_key new_key run =
    let a = areas_of t at in
    call_local (AreFileRegions a) (files a) (rename_op old new) (rename_program a old new) t u result run (λ A x told is. rename_local a old new (own A t.accesses) x areas (have_blocks t at A tx areas fits told).tree old_key new_key is)
