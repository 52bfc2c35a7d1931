-- What each status says of what was put, from the records of the promise.
use Rattle.top_laws.proofs.{Words.{◌≡◌, ◌≢◌, ◌⊎◌, inl, inr, ⊎_elim, ℕ, List, [], ◌++◌, Option, Some, None, IfSome, refl, sym, ◌∙◌, ap, subst, append_assoc, take, drop, take-append-drop, Task, New, Run, Par, Recover, Bench, DiskState, IsBoundTo, SinceBind, SinkState, Wrote, SourceState, Geometry, World, empty_history, fresh, OpenError, IsTest, IsUnmadeOrEmpty, Line, BadLine, bench_output, recover_output, Script, after, replies, script, replies-append, Part, ScriptError, RunEnd, AreFirst, AreLinesOf, Replied, HasAnswered, HasDone, HasMet, HasNotBegun, HasRunClients, HasRunNone, IsUntouched, PrintedBench, PrintedClients, PrintedDigest, PrintedResult, Printed, SinkFailed, start_at, WereRun, NamesBadLine, NamesRefusal, OfItsWorld, PrintsFirst, PrintsFront, PrintsWholeLines, OpensTo, TellsNamed, bad_line_text, disk_fault_text, end_status, end_text, error_status, error_text, input_fault_text, memory_text, script_error_status}, Plainly.some_named}
use Rattle.iso_top.proofs.Behind.{behind_whole}
use Rattle.iso_image.specs.declared.open_error.OpenError.TheVariants as error
use Rattle.script_runner.specs.declared.run_end.RunEnd.TheVariants as end
use Rattle.script_runner.specs.declared.lines.ScriptError.TheVariants as lines

-- ---- which end a status is of

five_is_disk : (e : RunEnd) → 5 ≡ end_status e → e ≡ end.Disk
five_is_disk end.Disk is = refl
five_is_disk e is = cc is

eight_is_memory : (e : RunEnd) → 8 ≡ end_status e → e ≡ end.Memory
eight_is_memory end.Memory is = refl
eight_is_memory e is = cc is

four_is_no_end : (e : RunEnd) → 4 ≡ end_status e → ⊥
four_is_no_end end.Done is = cc is
four_is_no_end e is = cc is

-- why a call was not begun
pub five_unbegun : (e : OpenError) → 5 ≡ error_status e → e ≡ error.Disk
five_unbegun error.Disk is = refl
five_unbegun e is = cc is

pub eight_unbegun : (e : OpenError) → 8 ≡ error_status e → e ≡ error.Memory
eight_unbegun error.Memory is = refl
eight_unbegun e is = cc is

four_is_a_test : (e : OpenError) → 4 ≡ error_status e → IsTest e
four_is_a_test error.Disk is = cc is
four_is_a_test error.Memory is = cc is
four_is_a_test e is = tt

three_is_begun : (e : OpenError) → 3 ≡ error_status e → ⊥
three_is_begun error.NotIsotope is = cc is
three_is_begun e is = cc is

six_is_begun : (e : OpenError) → 6 ≡ error_status e → ⊥
six_is_begun error.NotIsotope is = cc is
six_is_begun e is = cc is

pub seven_is_begun : (e : OpenError) → 7 ≡ error_status e → ⊥
seven_is_begun error.NotIsotope is = cc is
seven_is_begun e is = cc is

-- why no line of the clients was run
four_is_no_reason : (e : ScriptError) → 4 ≡ script_error_status e → ⊥
four_is_no_reason lines.Input is = cc is
four_is_no_reason e is = cc is

module _ {D : Type 0} (state : D → DiskState) (name : List ℕ) (old new : D) (input_old input_new : SourceState) (output_old output_new : SinkState) where
  abbrev Met : Task → ℕ → Type 0
  Met task status = HasMet state task name status old new input_old input_new output_old output_new

  abbrev Ran : Option Geometry → RunEnd → Type 0
  Ran made e = HasAnswered state made name e old new input_old input_new output_old output_new

  -- ---- 4: the image as given fails a test

  unbegun_keeps : (e : OpenError) (image : List ℕ) → IsTest e → HasNotBegun None name e (state old) (state new) input_old input_new output_old output_new → (state old).named name ≡ Some image
      → NamesRefusal name image (state new) input_old input_new output_old output_new
  unbegun_keeps e image test not named = by not.unbegun
    where
      by : ((e ≡ error.Disk) × ((state new).bound ≡ None)) ⊎ (IsBoundTo name (state new) × SinceBind (state new) (IsUntouched None ((state old).named name))) → NamesRefusal name image (state new) input_old input_new output_old output_new
      by (inl (is, none)) = absurd (subst IsTest is test)
      by (inr (bound, kept)) = record {
        test = e;
        fails = (not.refused test).1 image named;
        prints = not.printed;
        unread = not.unread;
        bound = bound;
        kept = λ moment is c left. kept moment is c left image named;
      }

  -- clients that were run have another status
  no_run : (n : ℕ) → (n ≢ 0) → (n ≢ 5) → (n ≢ 7) → (n ≢ 8) → HasRunClients state name n old new input_old input_new output_old output_new → ⊥
  no_run n not_0 not_5 not_7 not_8 r = by r.ran
    where
      put : (parts : List Part) → PrintedClients n parts output_old output_new → ⊥
      put parts (text, inl (is, none, output, whole)) = not_0 is
      put parts (text, inr (inl (is, none, output, cut))) = not_7 is
      put parts (text, inr (inr (inl (is, stop, output, printed)))) = not_5 is
      put parts (text, inr (inr (inr (is, whole, printed)))) = not_8 is

      by : WereRun (start_at r.world (state r.start)) r.lines r.entries n output_old output_new → ⊥
      by (inl (parts, told, printed)) = put parts printed
      by (inr (none, is, printed)) = not_8 is

  no_result : (tells : Type 0) (defined : List ℕ) → PrintedResult 4 tells defined output_old output_new → ⊥
  no_result tells defined (text, told, inl (is, whole)) = cc is
  no_result tells defined (text, told, inr (is, cut)) = cc is

  four_is_not_done : (task : Task) → HasDone state task name 4 old new input_old input_new output_old output_new → ⊥
  four_is_not_done (New g) (e, is, a) = four_is_no_end e is
  four_is_not_done Run (e, is, a) = four_is_no_end e is
  four_is_not_done Par (inl (e, is, r)) = four_is_no_reason e is
  four_is_not_done Par (inr r) = no_run 4 (λ e. cc e) (λ e. cc e) (λ e. cc e) (λ e. cc e) r
  four_is_not_done Recover r = by r.printed
    where
      by : PrintedDigest 4 (TellsNamed name (state old)) r.world.history output_old output_new → ⊥
      by (inl result) = no_result (TellsNamed name (state old)) (recover_output r.world.history) result
      by (inr (inl (is, text))) = cc is
      by (inr (inr (is, text))) = cc is
  four_is_not_done (Bench seed count) b = by b.end b.printed
    where
      by : (e : RunEnd) → PrintedBench seed count 4 e (TellsNamed name (state old)) output_old output_new → ⊥
      by end.Done result = no_result (TellsNamed name (state old)) (bench_output seed count) result
      by (end.BadLine bad) never = never
      by end.Disk (is, text) = cc is
      by end.Input never = never
      by end.Output (is, text) = cc is
      by end.Memory (is, text) = cc is

  pub refusal_named : (task : Task) (image : List ℕ) → Met task 4 → (state old).named name ≡ Some image → NamesRefusal name image (state new) input_old input_new output_old output_new
  refusal_named task image (inl (e, is, not)) named =
      let test = four_is_a_test e is in
      unbegun_keeps e image test
      (subst (λ (made : Option Geometry). HasNotBegun made name e (state old) (state new) input_old input_new output_old output_new) (not.refused test).0 not) named
  refusal_named task image (inr done) named = absurd (four_is_not_done task done)

  -- ---- a call that was not begun

  none_bound : (P : List ℕ → Type 0) → (state new).bound ≡ None → SinceBind (state new) P
  none_bound P none moment is c left = absurd (cc (none, is))

  pub given_stays : (e : OpenError) (image : List ℕ) → HasNotBegun None name e (state old) (state new) input_old input_new output_old output_new → (state old).named name ≡ Some image
      → SinceBind (state new) (λ c. c ≡ image)
  given_stays e image not named = ⊎_elim (λ failed. none_bound (λ c. c ≡ image) failed.1) (λ bound. λ moment is c left. bound.1 moment is c left image named) not.unbegun

  pub made_is_empty : (g : Geometry) (e : OpenError) → HasNotBegun (Some g) name e (state old) (state new) input_old input_new output_old output_new
      → SinceBind (state new) (IsUnmadeOrEmpty g)
  made_is_empty g e not = ⊎_elim (λ failed. none_bound (IsUnmadeOrEmpty g) failed.1) (λ bound. bound.1) not.unbegun

  -- ---- the lines of a run that has ended

  lines_are : (made : Option Geometry) (e : RunEnd) (all : List ℕ) (a : Ran made e) → input_old.rest ≡ Some all → AreLinesOf e (script all) a.run.done a.run.next
  lines_are made e all a rest = subst (λ (o : Option (List ℕ)). IfSome o (λ text. AreLinesOf e (script text) a.run.done a.run.next)) rest a.run.told

  of_its_world : (image : List ℕ) (P : World → Type 0) (W : World) → OpensTo ((state old).named name) W → (state old).named name ≡ Some image → P W → OfItsWorld image P
  of_its_world image P W opens named is =
      record { geometry = opens.geometry; generation = opens.generation; history = opens.history; holds = opens.told.image image named; is = subst P opens.world_is is }

  -- where no line of the clients was run, nothing was written
  pub none_written : {e : ScriptError} → HasRunNone name e (state old) (state new) input_old input_new output_old output_new → (image : List ℕ) → (state old).named name ≡ Some image
      → SinceBind (state new) (λ c. c ≡ image)
  none_written r image named moment is c left = r.unwritten moment is c left image named

  -- ---- 3: a bad line

  put_bad : (made : Option Geometry) (bad : BadLine) (all : List ℕ) (a : Ran made (end.BadLine bad)) → TellsNamed name (state old) → input_old.rest ≡ Some all
      → NamesBadLine (replies a.world (script all).lines) all output_old output_new
  put_bad made bad all a tells rest =
      let told = lines_are made (end.BadLine bad) all a rest in
      record {
        bad = bad;
        is = ap (λ (S : Script). S.bad) told.0;
        prints = subst (λ (xs : List (ℕ × Line)). Printed output_old output_new (replies a.world xs ++ bad_line_text bad)) (sym (ap (λ (S : Script). S.lines) told.0))
            (behind_whole output_old a.replied output_new (replies a.world a.run.done) (bad_line_text bad) (a.run.answered.replies (a.begun.told tells)) a.run.answered.output a.last);
      }

  bad_of : (made : Option Geometry) (e : RunEnd) (all : List ℕ) → 3 ≡ end_status e → (a : Ran made e) → TellsNamed name (state old) → input_old.rest ≡ Some all
      → NamesBadLine (replies a.world (script all).lines) all output_old output_new
  bad_of made (end.BadLine bad) all is a tells rest = put_bad made bad all a tells rest
  bad_of made e all is a tells rest = cc is

  pub bad_line_of_new : (g : Geometry) (all : List ℕ) → Met (New g) 3 → TellsNamed name (state old) → input_old.rest ≡ Some all
      → NamesBadLine (replies (fresh g 1 (empty_history g)) (script all).lines) all output_old output_new
  bad_line_of_new g all (inl (e, is, not)) tells rest = absurd (three_is_begun e is)
  bad_line_of_new g all (inr (e, is, a)) tells rest =
      subst (λ (W : World). NamesBadLine (replies W (script all).lines) all output_old output_new) a.begun.starts (bad_of (Some g) e all is a tells rest)

  pub bad_line_of_run : (all image : List ℕ) → Met Run 3 → (state old).named name ≡ Some image → input_old.rest ≡ Some all
      → OfItsWorld image (λ W. NamesBadLine (replies W (script all).lines) all output_old output_new)
  bad_line_of_run all image (inl (e, is, not)) named rest = absurd (three_is_begun e is)
  bad_line_of_run all image (inr (e, is, a)) named rest =
      of_its_world image (λ W. NamesBadLine (replies W (script all).lines) all output_old output_new) a.world a.begun.starts named
      (bad_of None e all is a (some_named ((state old).named name) image named) rest)

  pub bad_line_of_par : (all image : List ℕ) → Met Par 3 → (state old).named name ≡ Some image → input_old.rest ≡ Some all → NamesBadLine [] all output_old output_new × SinceBind (state new) (λ c. c ≡ image)
  bad_line_of_par all image (inl (e, is, not)) named rest = absurd (three_is_begun e is)
  bad_line_of_par all image (inr (inr r)) named rest = absurd (no_run 3 (λ e. cc e) (λ e. cc e) (λ e. cc e) (λ e. cc e) r)
  bad_line_of_par all image (inr (inl (e, is, r))) named rest = by e is r
    where
      by : (e : ScriptError) → 3 ≡ script_error_status e → HasRunNone name e (state old) (state new) input_old input_new output_old output_new → NamesBadLine [] all output_old output_new × SinceBind (state new) (λ c. c ≡ image)
      by (lines.BadLine bad) is r = (
        record { bad = bad; is = subst (λ (o : Option (List ℕ)). IfSome o (λ text. (script text).bad ≡ Some bad)) rest r.why.told; prints = r.printed },
        none_written r image named,
      )
      by e is r = cc is

  -- ---- 5 and 8: a fault of the disk, and want of memory

  first_of : (made : Option Geometry) (e : RunEnd) (all : List ℕ) (a : Ran made e) → (e ≡ end.Disk) ⊎ (e ≡ end.Memory) → TellsNamed name (state old) → input_old.rest ≡ Some all
      → PrintsFirst a.world all (end_text e) output_old output_new
  first_of made end.Disk all a which tells rest =
      let told = lines_are made end.Disk all a rest in
      record {
        lines = a.run.done;
        later = a.run.next ++ told.later;
        first = told.all ∙ append_assoc a.run.done a.run.next told.later;
        prints = behind_whole output_old a.replied output_new (replies a.world a.run.done) disk_fault_text (a.run.answered.replies (a.begun.told tells)) a.run.answered.output a.last;
      }
  first_of made end.Memory all a which tells rest =
      let told = lines_are made end.Memory all a rest in
      record {
        lines = a.run.done;
        later = a.run.next ++ told.later;
        first = told.all ∙ append_assoc a.run.done a.run.next told.later;
        prints = behind_whole output_old a.replied output_new (replies a.world a.run.done) memory_text (a.run.answered.replies (a.begun.told tells)) a.run.answered.output a.last;
      }
  first_of made e all a which tells rest = ⊎_elim (λ is. cc is) (λ is. cc is) which

  -- where no line was answered
  none_first : (W : World) (all line : List ℕ) → Printed output_old output_new line → PrintsFirst W all line output_old output_new
  none_first W all line put = record { lines = []; later = (script all).lines; first = refl; prints = put }

  pub fault_of_new : (g : Geometry) (all : List ℕ) → Met (New g) 5 → TellsNamed name (state old) → input_old.rest ≡ Some all → PrintsFirst (fresh g 1 (empty_history g)) all disk_fault_text output_old output_new
  fault_of_new g all (inl (e, is, not)) tells rest = none_first (fresh g 1 (empty_history g)) all disk_fault_text (subst (λ (f : OpenError). Printed output_old output_new (error_text f)) (five_unbegun e is) not.printed)
  fault_of_new g all (inr (e, is, a)) tells rest =
      let same = five_is_disk e is in
      subst (λ (f : RunEnd). PrintsFirst (fresh g 1 (empty_history g)) all (end_text f) output_old output_new) same
      (subst (λ (W : World). PrintsFirst W all (end_text e) output_old output_new) a.begun.starts (first_of (Some g) e all a (inl same) tells rest))

  pub memory_of_new : (g : Geometry) (all : List ℕ) → Met (New g) 8 → TellsNamed name (state old) → input_old.rest ≡ Some all → PrintsFirst (fresh g 1 (empty_history g)) all memory_text output_old output_new
  memory_of_new g all (inl (e, is, not)) tells rest = none_first (fresh g 1 (empty_history g)) all memory_text (subst (λ (f : OpenError). Printed output_old output_new (error_text f)) (eight_unbegun e is) not.printed)
  memory_of_new g all (inr (e, is, a)) tells rest =
      let same = eight_is_memory e is in
      subst (λ (f : RunEnd). PrintsFirst (fresh g 1 (empty_history g)) all (end_text f) output_old output_new) same
      (subst (λ (W : World). PrintsFirst W all (end_text e) output_old output_new) a.begun.starts (first_of (Some g) e all a (inr same) tells rest))

  pub fault_of_run : (all image : List ℕ) → Met Run 5 → (state old).named name ≡ Some image → input_old.rest ≡ Some all
      → Printed output_old output_new disk_fault_text ⊎ OfItsWorld image (λ W. PrintsFirst W all disk_fault_text output_old output_new)
  fault_of_run all image (inl (e, is, not)) named rest = inl (subst (λ (f : OpenError). Printed output_old output_new (error_text f)) (five_unbegun e is) not.printed)
  fault_of_run all image (inr (e, is, a)) named rest =
      let same = five_is_disk e is in
      inr (of_its_world image (λ W. PrintsFirst W all disk_fault_text output_old output_new) a.world a.begun.starts named
      (subst (λ (f : RunEnd). PrintsFirst a.world all (end_text f) output_old output_new) same (first_of None e all a (inl same) (some_named ((state old).named name) image named) rest)))

  pub memory_of_run : (all image : List ℕ) → Met Run 8 → (state old).named name ≡ Some image → input_old.rest ≡ Some all
      → Printed output_old output_new memory_text ⊎ OfItsWorld image (λ W. PrintsFirst W all memory_text output_old output_new)
  memory_of_run all image (inl (e, is, not)) named rest = inl (subst (λ (f : OpenError). Printed output_old output_new (error_text f)) (eight_unbegun e is) not.printed)
  memory_of_run all image (inr (e, is, a)) named rest =
      let same = eight_is_memory e is in
      inr (of_its_world image (λ W. PrintsFirst W all memory_text output_old output_new) a.world a.begun.starts named
      (subst (λ (f : RunEnd). PrintsFirst a.world all (end_text f) output_old output_new) same (first_of None e all a (inr same) (some_named ((state old).named name) image named) rest)))

  -- ---- 6: the source failed

  whole_of : (made : Option Geometry) (e : RunEnd) → 6 ≡ end_status e → (a : Ran made e) → TellsNamed name (state old) → PrintsWholeLines a.world input_old input_new output_old output_new
  whole_of made end.Input is a tells = record {
    bytes = a.run.bytes;
    took = a.run.took;
    lines = a.run.done;
    whole = a.run.whole refl;
    prints = behind_whole output_old a.replied output_new (replies a.world a.run.done) input_fault_text (a.run.answered.replies (a.begun.told tells)) a.run.answered.output a.last;
  }
  whole_of made e is a tells = cc is

  pub input_fault_of_new : (g : Geometry) → Met (New g) 6 → TellsNamed name (state old) → PrintsWholeLines (fresh g 1 (empty_history g)) input_old input_new output_old output_new
  input_fault_of_new g (inl (e, is, not)) tells = absurd (six_is_begun e is)
  input_fault_of_new g (inr (e, is, a)) tells = subst (λ (W : World). PrintsWholeLines W input_old input_new output_old output_new) a.begun.starts (whole_of (Some g) e is a tells)

  pub input_fault_of_run : (image : List ℕ) → Met Run 6 → (state old).named name ≡ Some image → OfItsWorld image (λ W. PrintsWholeLines W input_old input_new output_old output_new)
  input_fault_of_run image (inl (e, is, not)) named = absurd (six_is_begun e is)
  input_fault_of_run image (inr (e, is, a)) named =
      of_its_world image (λ W. PrintsWholeLines W input_old input_new output_old output_new) a.world a.begun.starts named (whole_of None e is a (some_named ((state old).named name) image named))

  pub input_fault_of_par : (image : List ℕ) → Met Par 6 → (state old).named name ≡ Some image → Printed output_old output_new input_fault_text × SinceBind (state new) (λ c. c ≡ image)
  input_fault_of_par image (inl (e, is, not)) named = absurd (six_is_begun e is)
  input_fault_of_par image (inr (inr r)) named = absurd (no_run 6 (λ e. cc e) (λ e. cc e) (λ e. cc e) (λ e. cc e) r)
  input_fault_of_par image (inr (inl (e, is, r))) named = by e is r
    where
      by : (e : ScriptError) → 6 ≡ script_error_status e → HasRunNone name e (state old) (state new) input_old input_new output_old output_new → Printed output_old output_new input_fault_text × SinceBind (state new) (λ c. c ≡ image)
      by lines.Input is r = (r.printed, none_written r image named)
      by e is r = cc is

  -- ---- 7: the sink failed

  front_of : (made : Option Geometry) (e : RunEnd) (all : List ℕ) → 7 ≡ end_status e → (a : Ran made e) → TellsNamed name (state old) → input_old.rest ≡ Some all → PrintsFront a.world all output_old output_new
  front_of made end.Output all is a tells rest = by (a.run.answered.replies (a.begun.told tells))
    where
      told : AreFirst (script all).lines a.run.done a.run.next
      told = lines_are made end.Output all a rest

      whole : List ℕ
      whole = replies a.world a.run.done

      next : List ℕ
      next = replies (after a.world a.run.done) a.run.next

      later : List ℕ
      later = replies (after (after a.world a.run.done) a.run.next) told.later

      all_are : replies a.world (script all).lines ≡ whole ++ (next ++ later)
      all_are =
          ap (replies a.world) (told.all ∙ append_assoc a.run.done a.run.next told.later) ∙ replies-append a.world a.run.done (a.run.next ++ told.later)
          ∙ ap (λ (text : List ℕ). whole ++ text) (replies-append (after a.world a.run.done) a.run.next told.later)

      failed : SinkFailed output_old output_new
      failed = subst (λ (k : SinkState). SinkFailed output_old k) (sym a.last) (⊎_elim (λ failed. inl failed.0) (λ refused. inr refused.0) a.run.answered.output)

      by : Replied end.Output output_old a.replied whole next → PrintsFront a.world all output_old output_new
      by (inl cut) = record {
        failed = failed;
        front = whole ++ take cut.count next;
        behind = drop cut.count next ++ later;
        split =
            all_are ∙ ap (λ (text : List ℕ). whole ++ (text ++ later)) (sym (take-append-drop cut.count next))
            ∙ ap (λ (text : List ℕ). whole ++ text) (append_assoc (take cut.count next) (drop cut.count next) later)
            ∙ sym (append_assoc whole (take cut.count next) (drop cut.count next ++ later));
        put = subst (λ (k : SinkState). Wrote output_old k (whole ++ take cut.count next)) (sym a.last) cut.wrote;
      }
      by (inr (none, put)) = record {
        failed = failed;
        front = whole;
        behind = next ++ later;
        split = all_are;
        put = subst (λ (k : SinkState). Wrote output_old k whole) (sym a.last) put;
      }
  front_of made e all is a tells rest = cc is

  pub front_of_new : (g : Geometry) (all : List ℕ) → Met (New g) 7 → TellsNamed name (state old) → input_old.rest ≡ Some all → PrintsFront (fresh g 1 (empty_history g)) all output_old output_new
  front_of_new g all (inl (e, is, not)) tells rest = absurd (seven_is_begun e is)
  front_of_new g all (inr (e, is, a)) tells rest = subst (λ (W : World). PrintsFront W all output_old output_new) a.begun.starts (front_of (Some g) e all is a tells rest)

  pub front_of_run : (all image : List ℕ) → Met Run 7 → (state old).named name ≡ Some image → input_old.rest ≡ Some all → OfItsWorld image (λ W. PrintsFront W all output_old output_new)
  front_of_run all image (inl (e, is, not)) named rest = absurd (seven_is_begun e is)
  front_of_run all image (inr (e, is, a)) named rest =
      of_its_world image (λ W. PrintsFront W all output_old output_new) a.world a.begun.starts named (front_of None e all is a (some_named ((state old).named name) image named) rest)
