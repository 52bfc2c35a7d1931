-- The stores of a history that goes on from a world, by the accesses of its commits.
use Rattle.top_laws.proofs.Words.{◌≡◌, ℕ, ◌<◌, arith, subst, sym, Geometry, History, array_at, last, last_longer, World, LeadsTo, BeginsWell, SecondStore, the_files, the_tree}
use Rattle.top_laws.specs.ByAccesses.{AnswerByAccesses, AnswersByAccesses}
use Rattle.store_laws.{proofs.TwoStores.{both_commits, both_well_formed}, specs.Both.{AreOfBoth, BothWellFormed, IsByBoth}, specs.Region.{IsOfItsBlocks, MapStore}}
use Rattle.store_scripts.{proofs.Blocks.{file_blocks_are, hash_blocks, tree_blocks}, proofs.Members.array_extends, specs.Stores.{image_hash, second_store}}

module _ (S : SecondStore) (W V : World) (leads : LeadsTo W V) (two : IsOfItsBlocks (second_store S V.geometry)) (begins : BeginsWell S W) where
  abbrev s : MapStore
  s = image_hash V.geometry

  abbrev t : MapStore
  t = second_store S V.geometry

  abbrev H : History
  H = V.history

  abbrev n : ℕ
  n = last W.history

  some : 0 < W.history.first
  some = begins.world.history.first

  begun : BothWellFormed s t (array_at H n)
  begun =
      let same : array_at H n ≡ array_at W.history n = array_extends W.history H n some leads.history (omega arith) in
      let well : BothWellFormed (image_hash W.geometry) (second_store S W.geometry) (array_at H n) =
      subst (BothWellFormed (image_hash W.geometry) (second_store S W.geometry)) (sym same) begins.stores in
      subst (λ (g : Geometry). BothWellFormed (image_hash g) (second_store S g) (array_at H n)) (sym leads.geometry.same) well

  by_both : AreOfBoth s t H n → IsByBoth s t V.geometry H n
  by_both calls =
      let first = leads.history.first in
      let since = begins.world.since in
      let base = begins.world.base in
      let trim = begins.world.trim in
      record {
        first = leads.world.history.first;
        since = omega (arith, first, since, base, trim);
        within = last_longer W.history H some leads.history;
        isolated = leads.world.isolated;
        calls = calls;
        begins = begun;
      }

  pub by_accesses : AreOfBoth s t H n → AnswerByAccesses s t H n
  by_accesses calls =
      let by = by_both calls in
      let one : IsOfItsBlocks s = hash_blocks V.geometry leads.world.valid in
      record {
        commits = both_commits s t one two V.geometry H n by;
        well = λ m from to. both_well_formed s t one two V.geometry H n m by from to;
      }

pub tree_by_accesses : (W V : World) → LeadsTo W V → AnswersByAccesses the_tree W V
tree_by_accesses W V leads begins calls = by_accesses the_tree W V leads (tree_blocks V.geometry leads.world.valid) begins calls

pub files_by_accesses : (W V : World) → LeadsTo W V → AnswersByAccesses the_files W V
files_by_accesses W V leads begins calls = by_accesses the_files W V leads (file_blocks_are V.geometry leads.world.valid) begins calls
