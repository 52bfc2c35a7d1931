-- The store theorem of the lines of a script, as one word.
use Rattle.store_scripts.proofs.{Words.{arith, both_well_formed, BothWellFormed, Live, BeginsWell, IsByBoth, IsTrue, Some, ToldByMap, array_of, attached, has_write, image_hash, second_store, told_after, ◌≡◌, sym, subst, ℕ, ◌-◌, List, [], ◌∷◌, ◌++◌, Line, array_at, last, after, step, World, AreLines, ToldInOrder, CommitsKeep, Notes, no_notes, noted, notes_after, AnswersWith, SecondStore, FilesAnswer, the_tree, the_files, StoresAnswer}, Commits.{commits_told, groups_told}, Lines.{noted_after, noted_begins}, Order.{live_told, read_only_told}, Acting.SecondGoes, Blocks.{files_second, hash_blocks, tree_second}, FileGoes.file_goes, Noted.IsNoted, Seconds.IsSecond, TreeGoes.tree_goes}
use Rattle.std.specs.Prelude.{IsFalse}

module _ (S : SecondStore) (lawful : IsSecond S) (second : SecondGoes S) where
  front_lines : (before later : List (ℕ × Line)) → AreLines (before ++ later) → AreLines before
  front_lines [] later good = tt
  front_lines (first ∷ before) later good = (good.0, front_lines before later good.1)

  front_keeps : (W : World) (notes : Notes S) (before later : List (ℕ × Line)) → CommitsKeep S W notes (before ++ later) → CommitsKeep S W notes before
  front_keeps W notes [] later keeps = tt
  front_keeps W notes (first ∷ before) later keeps =
      (keeps.0, front_keeps (step W first.1.client first.1.op).1 (noted S W notes first.1.client first.1.op) before later keeps.1)

  -- what is told at the end of lines
  noted_told : (W : World) (lines : List (ℕ × Line)) → BeginsWell S W → AreLines lines → CommitsKeep S W (no_notes S) lines → IsNoted S (Unit {0}) (last W.history) (after W lines) (notes_after S W (no_notes S) lines)
  noted_told W lines begins good keeps = noted_after S lawful second (Unit {0}) (last W.history) W (no_notes S) lines (noted_begins S lawful second W begins) good (λ q. keeps)

  pub calls_of : (W : World) (lines : List (ℕ × Line)) → BeginsWell S W → AreLines lines → CommitsKeep S W (no_notes S) lines → let V = after W lines in
      IsByBoth (image_hash V.geometry) (second_store S V.geometry) V.geometry V.history (last W.history)
  calls_of W lines begins good keeps = (noted_told W lines begins good keeps).by tt

  well_of : (W : World) (lines : List (ℕ × Line)) → BeginsWell S W → AreLines lines → CommitsKeep S W (no_notes S) lines → let V = after W lines in
      BothWellFormed (image_hash V.geometry) (second_store S V.geometry) (array_at V.history (last V.history))
  well_of W lines begins good keeps =
      let V = after W lines in
      let is = noted_told W lines begins good keeps in
      let valid = is.world.valid in
      both_well_formed (image_hash V.geometry) (second_store S V.geometry) (hash_blocks V.geometry valid) (lawful.blocks V.geometry valid) V.geometry V.history (last W.history) (last V.history) (is.by tt) is.low (omega arith)

  pub live_of : (W : World) (lines : List (ℕ × Line)) (client : ℕ) (t : Live) → BeginsWell S W → AreLines lines → CommitsKeep S W (no_notes S) lines → let V = after W lines in
      attached V client ≡ Some t → IsTrue (told_after S W lines t.number).kept → ToldInOrder S V.geometry (told_after S W lines t.number) (array_at V.history t.begin) (array_of V t)
  live_of W lines client t begins good keeps found kept =
      live_told S lawful (last W.history) (after W lines) (notes_after S W (no_notes S) lines) (noted_told W lines begins good keeps) client t found kept

  pub read_only_of : (W : World) (lines : List (ℕ × Line)) (client : ℕ) (t : Live) → BeginsWell S W → AreLines lines → CommitsKeep S W (no_notes S) lines → let V = after W lines in
      attached V client ≡ Some t → IsFalse (has_write t.accesses) → ToldByMap S V.geometry (told_after S W lines t.number) (array_at V.history t.begin)
  read_only_of W lines client t begins good keeps found none =
      read_only_told S lawful (last W.history) (after W lines) (notes_after S W (no_notes S) lines) (noted_told W lines begins good keeps) client t found none

  answers_with : (W : World) (lines : List (ℕ × Line)) → AreLines lines → AnswersWith S W lines
  answers_with W lines good begins keeps = record {
    well = well_of W lines begins good keeps;
    by_calls = calls_of W lines begins good keeps;
    commits = λ before later line k t are is_end found done.
        subst (λ (all : List (ℕ × Line)). ToldInOrder S (after W before).geometry (notes_after S W (no_notes S) before t.number) (array_at (after W all).history (k - 1)) (array_at (after W all).history k)) (sym are)
        (commits_told S lawful second W before later line k t begins (subst AreLines are good) (subst (CommitsKeep S W (no_notes S)) are keeps) is_end found done);
    grouped = λ before later line k t are ends.
        subst (λ (all : List (ℕ × Line)). ToldInOrder S (after W before).geometry (notes_after S W (no_notes S) before t.number) (array_at (after W all).history (k - 1)) (array_at (after W all).history k)) (sym are)
        (groups_told S lawful second W before later line k t begins (subst AreLines are good) (subst (CommitsKeep S W (no_notes S)) are keeps) ends);
    live = λ before later client t are.
        live_of W before client t begins (front_lines before later (subst AreLines are good)) (front_keeps W (no_notes S) before later (subst (CommitsKeep S W (no_notes S)) are keeps));
    read_only = λ before later client t are.
        read_only_of W before client t begins (front_lines before later (subst AreLines are good)) (front_keeps W (no_notes S) before later (subst (CommitsKeep S W (no_notes S)) are keeps));
  }

pub stores_answer : (W : World) (lines : List (ℕ × Line)) → AreLines lines → StoresAnswer W lines
stores_answer = answers_with the_tree tree_second tree_goes

pub files_answer : (W : World) (lines : List (ℕ × Line)) → AreLines lines → FilesAnswer W lines
files_answer = answers_with the_files files_second file_goes
