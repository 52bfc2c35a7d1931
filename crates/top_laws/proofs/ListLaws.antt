-- What a run of clients says of images, of its history and of stores, from its record.
use Rattle.top_laws.proofs.Words.{inl, inr, ℕ, ◌<◌, List, [], ◌∷◌, ◌++◌, length, Option, Some, None, refl, sym, subst, arith, AllByRecursion, DiskState, SinkState, SourceState, Commit, last, with_commits, Shows, ShowsBetween, World, Entry, Start, State, start_at, state_at, whole, with_lost, ShowsFrom, Grows, behind_it, between_grown, histories_grow, last_longer, told_shown, CommitsUpTo, image_opens, Part, Told, SecondStore, BeginsWell, CallsAnswer, Event, IsTrace, the_tree, the_files, HasRunClients, PrintedClients, ShowsBehind, WereRun, AnswerInOneOrder, GoesOnIsolated, HasCommitsOf, OpensFrom, PrintsClients, PrintsClientsFront, disk_fault_text, TellsNamed, shows_last, Line, IsFront, IsOutput, Printed, PrintsSomeOfClients, WasCut, memory_text, ◌≡◌, ◌⊎◌}
use mathlib.Core.List.{IsPrefix}
use Rattle.iso_disk.proofs.Moments.{weakened}
use Rattle.iso_shared.{proofs.Trace.legal_append, specs.Legal.IsLegal, specs.States.opened}
use Rattle.top_laws.specs.Plain.{CommitsStayFrom}
use Rattle.iso_top.proofs.Results.{some_of}

-- an image that shows a history at a commit opens to it there
opens_at : (V : World) (p : ℕ) (c : List ℕ) → Shows c V.geometry V.history p → OpensFrom p c
opens_at V p c s =
    let held = image_opens c _ s.generation s.held s.image in
    let at = s.last in
    record { geometry = record V.geometry { form = s.form }; generation = s.generation; history = s.held; holds = s.image; accepted = held.free; opens = held.opens; last = omega arith }

-- with the commits that may stand after the others
between_lost : (W : World) (o : Option (List Commit)) (c : List ℕ) → 0 < W.history.first → ShowsBehind o W c → ShowsBetween W (with_lost W o) c
between_lost W None c some shown = shows_last W c shown
between_lost W (Some lost) c some (inl before) =
    let grows : Grows W (with_lost W (Some lost)) = record { geometry = refl; history = behind_it W.history lost } in
    between_grown W W (with_lost W (Some lost)) c some grows (shows_last W c before)
between_lost W (Some lost) c some (inr behind) =
    let more = last_longer W.history (with_commits lost W.history) some (behind_it W.history lost) in
    record { at = last (with_commits lost W.history); from = more; to = omega arith; shows = behind }

module _ {D : Type 0} (state : D → DiskState) (name : List ℕ) (status : ℕ) (old new : D) (input_old input_new : SourceState) (output_old output_new : SinkState)
    (r : HasRunClients state name status old new input_old input_new output_old output_new) where
  abbrev A : Start
  A = start_at r.world (state r.start)

  abbrev S : State
  S = state_at A r.entries

  pub goes_on : GoesOnIsolated r.world S.world
  goes_on = record { begins = histories_grow A [] r.entries; isolated = r.isolated }

  -- the history that the image as given opens to has a first commit
  some_first : TellsNamed name (state old) → 0 < r.world.history.first
  some_first tells =
      let (c, is) = some_of ((state old).named name) tells in
      subst (λ (W : World). 0 < W.history.first) (sym r.opens.world_is) (r.opens.told.image c is).first

  state_first : 0 < r.world.history.first → 0 < S.world.history.first
  state_first some = subst (λ (n : ℕ). 0 < n) (sym (histories_grow A [] r.entries).first) some

  pub commits_there : TellsNamed name (state old) → (image : List ℕ) → (state new).now image → HasCommitsOf r.entries image
  commits_there tells image here = by r.ran
    where
      some : 0 < r.world.history.first
      some = some_first tells

      shown : ShowsFrom A r.entries r.entries image
      shown = between_lost S.world S.lost image (state_first some) (r.exit image here)

      opens : OpensFrom shown.at image
      opens = opens_at (whole S) shown.at image shown.shows

      by : WereRun A r.lines r.entries status output_old output_new → HasCommitsOf r.entries image
      by (inl (parts, told, printed)) = record { at = shown.at; opens = opens; each = told_shown A r.entries r.entries image some told.legal shown }
      by (inr (none, is, printed)) = record { at = shown.at; opens = opens; each = subst (λ (es : List Entry). AllByRecursion (λ e. CommitsUpTo shown.at e) es) (sym none) tt }

  -- the list is legal: it was told to clients, or is empty
  legal : WereRun A r.lines r.entries status output_old output_new → IsLegal A r.entries
  legal (inl (parts, told, printed)) = told.legal
  legal (inr (none, is, printed)) = subst (λ (es : List Entry). IsLegal A es) (sym none) tt

  pub commits_stay : TellsNamed name (state old) → (before : List Entry) (e : Entry) (past : List ℕ) (moment : ℕ) → IsPrefix (before ++ e ∷ []) r.entries → IsPrefix (past ++ moment ∷ []) r.moments
      → length past ≡ length before → CommitsStayFrom state moment (before ++ e ∷ []) new
  commits_stay tells before e past moment (rest, whole_is) in_moments same =
      let told = before ++ e ∷ [] in
      let some = some_first tells in
      let fits = (legal_append (opened A) told rest (subst (λ (es : List Entry). IsLegal A es) (sym whole_is) (legal r.ran))).0 in
      let was = r.turns.each before e past moment (rest, whole_is) in_moments same in (
        was.0,
        was.1,
        weakened was.2.since (λ image shown. record {
          at = shown.at;
          opens = opens_at (whole S) shown.at image shown.shows;
          each = told_shown A told r.entries image some fits shown;
        }),
      )

  answer_so : (T : SecondStore) (parts : List Part) (order : List Event) → IsTrace A r.lines parts r.entries order → CallsAnswer T A r.entries order → TellsNamed name (state old) → BeginsWell T r.world
      → AnswerInOneOrder T A r.lines parts r.entries
  answer_so T parts order trace calls tells begins = record { order = order; has_all = trace; answers = calls (r.tells tells) begins.stores }

  pub tree_calls : (parts : List Part) → Told A r.lines parts r.entries → TellsNamed name (state old) → BeginsWell the_tree r.world → AnswerInOneOrder the_tree A r.lines parts r.entries
  tree_calls parts told tells begins = let calls = r.calls parts told in answer_so the_tree parts calls.events calls.trace (calls.tree calls.events calls.trace) tells begins

  pub file_calls : (parts : List Part) → Told A r.lines parts r.entries → TellsNamed name (state old) → BeginsWell the_files r.world → AnswerInOneOrder the_files A r.lines parts r.entries
  file_calls parts told tells begins = let calls = r.calls parts told in answer_so the_files parts calls.events calls.trace (calls.files calls.events calls.trace) tells begins

-- ---- what was put, by the status

failed_text : (n : ℕ) (parts : List Part) (old new : SinkState) → n ≡ 5 → PrintedClients n parts old new → (text : List ℕ) × IsOutput parts text × Printed old new (text ++ disk_fault_text)
failed_text n parts old new five (text, inl (is, none, output, put)) = absurd (omega (arith, is, five))
failed_text n parts old new five (text, inr (inl (is, none, output, put))) = absurd (omega (arith, is, five))
failed_text n parts old new five (text, inr (inr (inl (is, stop, output, put)))) = (text, output, put)
failed_text n parts old new five (text, inr (inr (inr (is, all, put)))) = absurd (omega (arith, is, five))

cut_text : (n : ℕ) (parts : List Part) (old new : SinkState) → n ≡ 7 → PrintedClients n parts old new → (text : List ℕ) × IsOutput parts text × WasCut old new text
cut_text n parts old new seven (text, inl (is, none, output, put)) = absurd (omega (arith, is, seven))
cut_text n parts old new seven (text, inr (inl (is, none, output, cut))) = (text, output, cut)
cut_text n parts old new seven (text, inr (inr (inl (is, stop, output, put)))) = absurd (omega (arith, is, seven))
cut_text n parts old new seven (text, inr (inr (inr (is, all, put)))) = absurd (omega (arith, is, seven))

-- a whole text, or first lines of one
memory_text_of : (n : ℕ) (parts : List Part) (old new : SinkState) → n ≡ 8 → PrintedClients n parts old new
    → (text : List ℕ) × (IsOutput parts text ⊎ IsFront parts text) × Printed old new (text ++ memory_text)
memory_text_of n parts old new eight (text, inl (is, none, output, put)) = absurd (omega (arith, is, eight))
memory_text_of n parts old new eight (text, inr (inl (is, none, output, put))) = absurd (omega (arith, is, eight))
memory_text_of n parts old new eight (text, inr (inr (inl (is, stop, output, put)))) = absurd (omega (arith, is, eight))
memory_text_of n parts old new eight (text, inr (inr (inr (is, inl (stop, output), put)))) = (text, inl output, put)
memory_text_of n parts old new eight (text, inr (inr (inr (is, inr front, put)))) = (text, inr front, put)

failed_so : (A : Start) (lines : List (ℕ × Line)) (entries : List Entry) (n : ℕ) (old new : SinkState) → n ≡ 5 → WereRun A lines entries n old new → PrintsClients A lines entries disk_fault_text old new
failed_so A lines entries n old new five (inl (parts, told, printed)) =
    let (text, output, put) = failed_text n parts old new five printed in
    record { parts = parts; told = told; text = text; whole = output; prints = put }
failed_so A lines entries n old new five (inr (none, is, printed)) = absurd (omega (arith, is, five))

cut_so : (A : Start) (lines : List (ℕ × Line)) (entries : List Entry) (n : ℕ) (old new : SinkState) → n ≡ 7 → WereRun A lines entries n old new → PrintsClientsFront A lines entries old new
cut_so A lines entries n old new seven (inl (parts, told, printed)) =
    let (text, output, cut) = cut_text n parts old new seven printed in
    record { parts = parts; told = told; text = text; whole = output; cut = cut }
cut_so A lines entries n old new seven (inr (none, is, printed)) = absurd (omega (arith, is, seven))

wanted_so : (A : Start) (lines : List (ℕ × Line)) (entries : List Entry) (n : ℕ) (old new : SinkState) → n ≡ 8 → WereRun A lines entries n old new
    → PrintsSomeOfClients A lines entries memory_text old new ⊎ ((entries ≡ []) × Printed old new memory_text)
wanted_so A lines entries n old new eight (inl (parts, told, printed)) =
    let (text, front, put) = memory_text_of n parts old new eight printed in
    inl (record { parts = parts; told = told; text = text; front = front; prints = put })
wanted_so A lines entries n old new eight (inr (none, is, printed)) = inr (none, printed)

module _ {D : Type 0} (state : D → DiskState) (name : List ℕ) (old new : D) (input_old input_new : SourceState) (output_old output_new : SinkState) where
  pub clients_wanted : (r : HasRunClients state name 8 old new input_old input_new output_old output_new)
      → PrintsSomeOfClients (start_at r.world (state r.start)) r.lines r.entries memory_text output_old output_new ⊎ ((r.entries ≡ []) × Printed output_old output_new memory_text)
  clients_wanted r = wanted_so (start_at r.world (state r.start)) r.lines r.entries 8 output_old output_new refl r.ran

  pub clients_failed : (r : HasRunClients state name 5 old new input_old input_new output_old output_new) → PrintsClients (start_at r.world (state r.start)) r.lines r.entries disk_fault_text output_old output_new
  clients_failed r = failed_so (start_at r.world (state r.start)) r.lines r.entries 5 output_old output_new refl r.ran

  pub clients_cut : (r : HasRunClients state name 7 old new input_old input_new output_old output_new) → PrintsClientsFront (start_at r.world (state r.start)) r.lines r.entries output_old output_new
  clients_cut r = cut_so (start_at r.world (state r.start)) r.lines r.entries 7 output_old output_new refl r.ran
