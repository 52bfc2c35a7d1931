-- The lines of a script that commit, by the history after all its lines.
use Rattle.store_scripts.proofs.{Words.{◌≡◌, ◌∙◌, sym, refl, ap, subst, ℕ, ◌-◌, ◌<◌, ◌≤◌, IsTrue, List, [], ◌∷◌, ◌++◌, Some, arith, Line, Op, End, Array, array_at, last, after, step, Live, World, attached, AreLines, IsOp, after_leads, step_leads, BeginsWell, ToldInOrder, CommitKeeps, CommitsKeep, Notes, no_notes, noted, notes_after, IsEndedAs, group_step, Begin, Abort, Put, Read, Get, Write, Fill, Mark, Release, Takeover, Await, Group, Trim, Stat, Compact, Upgrade, HashPut, HashGet, HashDelete, TreePut, TreeGet, TreeDelete, TreeScan, SecondStore, FileNew, FileWrite, FileRead, FileMove, FileDelete}, Lines.{noted_after, noted_begins}, Members.{array_extends, labels_told}, Noted.IsNoted, Order.{commit_told, committed_last}, Acting.SecondGoes, Seconds.IsSecond}
use Rattle.script_model.specs.declared.script.Reply.TheVariants as reply

module _ (S : SecondStore) (lawful : IsSecond S) (second : SecondGoes S) where
  -- a script before a line, and after it
  lines_split : (before later : List (ℕ × Line)) (line : ℕ × Line) → AreLines (before ++ line ∷ later) → AreLines before × IsOp line.1.op × AreLines later
  lines_split [] later line good = (tt, good.0, good.1)
  lines_split (first ∷ before) later line good = let rest = lines_split before later line good.1 in ((good.0, rest.0), rest.1, rest.2)

  keep_split : (W : World) (notes : Notes S) (before later : List (ℕ × Line)) (line : ℕ × Line) → CommitsKeep S W notes (before ++ line ∷ later)
      → CommitsKeep S W notes before × CommitKeeps S (after W before) (notes_after S W notes before) line.1.client line.1.op
  keep_split W notes [] later line keeps = (tt, keeps.0)
  keep_split W notes (first ∷ before) later line keeps =
      let rest = keep_split (step W first.1.client first.1.op).1 (noted S W notes first.1.client first.1.op) before later line keeps.1 in
      ((keeps.0, rest.0), rest.1)

  after_split : (W : World) (before later : List (ℕ × Line)) (line : ℕ × Line) → after W (before ++ line ∷ later) ≡ after (step (after W before) line.1.client line.1.op).1 later
  after_split W [] later line = refl
  after_split W (first ∷ before) later line = after_split (step W first.1.client first.1.op).1 before later line

  -- what an end told is in each later history
  later_told : (n : ℕ) (V : World) (notes : Notes S) (is : IsNoted S (Unit {0}) n V notes) (c k : ℕ) (t : Live) (later : List (ℕ × Line)) → attached V c ≡ Some t → (step V c End).0 ≡ reply.Committed k
      → IsTrue (notes t.number).kept → AreLines later
      → let H = (after (step V c End).1 later).history in ToldInOrder S V.geometry (notes t.number) (array_at H (k - 1)) (array_at H k)
  later_told n V notes is c k t later found done kept good =
      let U = (step V c End).1 in
      let H = (after U later).history in
      let leads = step_leads V c End is.world tt in
      let more = (after_leads U later leads.world good).history in
      let first : 0 < U.history.first = leads.world.history.first in
      let within : k ≤ last U.history = committed_last S lawful n V notes is c t found kept k done in
      let one : array_at H (k - 1) ≡ array_at U.history (k - 1) = array_extends U.history H (k - 1) first more (omega arith) in
      let two : array_at H k ≡ array_at U.history k = array_extends U.history H k first more within in
      subst (λ (A : Array). ToldInOrder S V.geometry (notes t.number) A (array_at H k)) (sym one)
      (subst (λ (B : Array). ToldInOrder S V.geometry (notes t.number) (array_at U.history (k - 1)) B) (sym two) (commit_told S lawful n V notes is c t found kept k done))

  pub commits_told : (W : World) (before later : List (ℕ × Line)) (line : ℕ × Line) (k : ℕ) (t : Live) → BeginsWell S W → AreLines (before ++ line ∷ later) → CommitsKeep S W (no_notes S) (before ++ line ∷ later)
      → let V = after W before in let H = (after W (before ++ line ∷ later)).history in
      line.1.op ≡ End → attached V line.1.client ≡ Some t → (step V line.1.client End).0 ≡ reply.Committed k
      → ToldInOrder S V.geometry (notes_after S W (no_notes S) before t.number) (array_at H (k - 1)) (array_at H k)
  commits_told W before later line k t begins good keeps is_end found done =
      let V = after W before in
      let c = line.1.client in
      let lines = lines_split before later line good in
      let keep = keep_split W (no_notes S) before later line keeps in
      let noted_is = noted_after S lawful second (Unit {0}) (last W.history) W (no_notes S) before (noted_begins S lawful second W begins) lines.0 (λ q. keep.0) in
      let kept = keep.1.one t k found (ap (λ (op : Op). (step V c op).0) is_end ∙ done) in
      let told = later_told (last W.history) V (notes_after S W (no_notes S) before) noted_is c k t later found done kept lines.2 in
      let world_is : after W (before ++ line ∷ later) ≡ after (step V c End).1 later = after_split W before later line ∙ ap (λ (op : Op). after (step V c op).1 later) is_end in
      subst (λ (U : World). ToldInOrder S V.geometry (notes_after S W (no_notes S) before t.number) (array_at U.history (k - 1)) (array_at U.history k)) (sym world_is) told

  -- what a group told is in each later history
  later_grouped : (n : ℕ) (V : World) (notes : Notes S) (is : IsNoted S (Unit {0}) n V notes) (c k : ℕ) (t : Live) (op : Op) (later : List (ℕ × Line)) → IsOp op → CommitKeeps S V notes c op → IsEndedAs V op t k
      → AreLines later → let H = (after (step V c op).1 later).history in ToldInOrder S V.geometry (notes t.number) (array_at H (k - 1)) (array_at H k)
  unfolding step
  later_grouped n V notes is c k t (Group texts) later isop keeps ends good =
      let U = (group_step V texts).1 in
      let H = (after U later).history in
      let leads = step_leads V c (Group texts) is.world isop in
      let more = (after_leads U later leads.world good).history in
      let first : 0 < U.history.first = leads.world.history.first in
      let told = labels_told S lawful n texts V notes is keeps.each t k ends in
      let within : k ≤ last U.history = told.1 in
      let one : array_at H (k - 1) ≡ array_at U.history (k - 1) = array_extends U.history H (k - 1) first more (omega arith) in
      let two : array_at H k ≡ array_at U.history k = array_extends U.history H k first more within in
      subst (λ (A : Array). ToldInOrder S V.geometry (notes t.number) A (array_at H k)) (sym one)
      (subst (λ (B : Array). ToldInOrder S V.geometry (notes t.number) (array_at U.history (k - 1)) B) (sym two) told.0)
  later_grouped n V notes is c k t (Begin mode) later isop keeps ends good = absurd ends
  later_grouped n V notes is c k t End later isop keeps ends good = absurd ends
  later_grouped n V notes is c k t Abort later isop keeps ends good = absurd ends
  later_grouped n V notes is c k t (Put block off bytes) later isop keeps ends good = absurd ends
  later_grouped n V notes is c k t (Read block) later isop keeps ends good = absurd ends
  later_grouped n V notes is c k t (Get block off len) later isop keeps ends good = absurd ends
  later_grouped n V notes is c k t (Write block bytes) later isop keeps ends good = absurd ends
  later_grouped n V notes is c k t (Fill block bytes) later isop keeps ends good = absurd ends
  later_grouped n V notes is c k t (Mark off len) later isop keeps ends good = absurd ends
  later_grouped n V notes is c k t (Release text) later isop keeps ends good = absurd ends
  later_grouped n V notes is c k t (Takeover text) later isop keeps ends good = absurd ends
  later_grouped n V notes is c k t (Await text) later isop keeps ends good = absurd ends
  later_grouped n V notes is c k t Trim later isop keeps ends good = absurd ends
  later_grouped n V notes is c k t Stat later isop keeps ends good = absurd ends
  later_grouped n V notes is c k t Compact later isop keeps ends good = absurd ends
  later_grouped n V notes is c k t Upgrade later isop keeps ends good = absurd ends
  later_grouped n V notes is c k t (HashPut key value) later isop keeps ends good = absurd ends
  later_grouped n V notes is c k t (HashGet key) later isop keeps ends good = absurd ends
  later_grouped n V notes is c k t (HashDelete key) later isop keeps ends good = absurd ends
  later_grouped n V notes is c k t (TreePut key value) later isop keeps ends good = absurd ends
  later_grouped n V notes is c k t (TreeGet key) later isop keeps ends good = absurd ends
  later_grouped n V notes is c k t (TreeDelete key) later isop keeps ends good = absurd ends
  later_grouped n V notes is c k t (TreeScan from to most) later isop keeps ends good = absurd ends
  later_grouped n V notes is c k t (FileNew name) later isop keeps ends good = absurd ends
  later_grouped n V notes is c k t (FileWrite name off bytes) later isop keeps ends good = absurd ends
  later_grouped n V notes is c k t (FileRead name off len) later isop keeps ends good = absurd ends
  later_grouped n V notes is c k t (FileMove from to) later isop keeps ends good = absurd ends
  later_grouped n V notes is c k t (FileDelete name) later isop keeps ends good = absurd ends

  pub groups_told : (W : World) (before later : List (ℕ × Line)) (line : ℕ × Line) (k : ℕ) (t : Live) → BeginsWell S W → AreLines (before ++ line ∷ later) → CommitsKeep S W (no_notes S) (before ++ line ∷ later)
      → let V = after W before in let H = (after W (before ++ line ∷ later)).history in
      IsEndedAs V line.1.op t k → ToldInOrder S V.geometry (notes_after S W (no_notes S) before t.number) (array_at H (k - 1)) (array_at H k)
  groups_told W before later line k t begins good keeps ends =
      let V = after W before in
      let c = line.1.client in
      let lines = lines_split before later line good in
      let keep = keep_split W (no_notes S) before later line keeps in
      let noted_is = noted_after S lawful second (Unit {0}) (last W.history) W (no_notes S) before (noted_begins S lawful second W begins) lines.0 (λ q. keep.0) in
      let told = later_grouped (last W.history) V (notes_after S W (no_notes S) before) noted_is c k t line.1.op later lines.1 keep.1 ends lines.2 in
      subst (λ (U : World). ToldInOrder S V.geometry (notes_after S W (no_notes S) before t.number) (array_at U.history (k - 1)) (array_at U.history k)) (sym (after_split W before later line)) told
