-- The laws that say what the promise means, from its records.
use Rattle.top_laws.proofs.Words.{◌≡◌, ◌⊎◌, inl, inr, ⊎_elim, ℕ, ◌≤◌, List, Option, Some, None, IfSome, IsSome, refl, sym, ◌∙◌, ap, subst, arith, New, Run, Recover, DiskState, SinceBind, SinkState, Wrote, SourceState, Geometry, ShowsBetween, last, World, empty_history, fresh, OpenError, image_opens, Line, answers_to, recover_output, IsOp, Script, after, replies, script, RunEnd, AreSameButShown, TellsCommit, text_of, Acknowledges, AreLinesOf, ArePlain, told_kept, plain_same, all_first, HasRunClients, HasAnswered, HasMet, PrintedDigest, OpensFrom, PrintsButShown, PrintsButShownOf, PrintsDigestOf, PrintsReplies, PrintsRepliesOf, MayBeUnmade, OpensTo, TellsNamed, end_status, error_status}
use Rattle.iso_image.specs.declared.open_error.OpenError.TheVariants as error
use Rattle.script_runner.specs.declared.run_end.RunEnd.TheVariants as end

zero_is_done : (e : RunEnd) → 0 ≡ end_status e → e ≡ end.Done
zero_is_done end.Done is = refl
zero_is_done e is = cc is

pub zero_is_begun : (e : OpenError) → 0 ≡ error_status e → ⊥
zero_is_begun error.NotIsotope is = cc is
zero_is_begun e is = cc is

opens_between : (W V : World) (c : List ℕ) → ShowsBetween W V c → OpensFrom (last W.history) c
opens_between W V c shown =
    let s = shown.shows in
    let held = image_opens c _ s.generation s.held s.image in
    let from = shown.from in
    let at = s.last in
    record { geometry = record V.geometry { form = s.form }; generation = s.generation; history = s.held; holds = s.image; accepted = held.free; opens = held.opens; last = omega arith }

opens_later : (m n : ℕ) (c : List ℕ) → m ≤ n → OpensFrom n c → OpensFrom m c
opens_later m n c le o =
    let high = o.last in
    record { geometry = o.geometry; generation = o.generation; history = o.history; holds = o.holds; accepted = o.accepted; opens = o.opens; last = omega arith }

pub some_named : (o : Option (List ℕ)) (c : List ℕ) → o ≡ Some c → IsSome o
some_named o c is = subst IsSome (sym is) refl

module _ {D : Type 0} (state : D → DiskState) (name : List ℕ) (old new : D) (input_old input_new : SourceState) (output_old output_new : SinkState) where
  prints : (made : Option Geometry) (all : List ℕ) (a : HasAnswered state made name end.Done old new input_old input_new output_old output_new) → TellsNamed name (state old)
      → input_old.rest ≡ Some all → PrintsReplies a.world all output_old output_new
  prints made all a tells rest =
      let lines : AreLinesOf end.Done (script all) a.run.done a.run.next = subst (λ (o : Option (List ℕ)). IfSome o (λ text. AreLinesOf end.Done (script text) a.run.done a.run.next)) rest a.run.told in (
        ap (λ (S : Script). S.bad) lines.0,
        subst (λ (xs : List (ℕ × Line)). Wrote output_old output_new (replies a.world xs)) (sym (ap (λ (S : Script). S.lines) lines.0))
            (subst (λ (k : SinkState). Wrote output_old k (replies a.world a.run.done)) (sym a.last) (a.run.answered.replies (a.begun.told tells))),
      )

  -- with status 0 all lines were run
  zero_answered : (made : Option Geometry) (e : RunEnd) → 0 ≡ end_status e → HasAnswered state made name e old new input_old input_new output_old output_new
      → HasAnswered state made name end.Done old new input_old input_new output_old output_new
  zero_answered made e is a = subst (λ (f : RunEnd). HasAnswered state made name f old new input_old input_new output_old output_new) (zero_is_done e is) a

  pub made_prints : (g : Geometry) (all : List ℕ) → HasMet state (New g) name 0 old new input_old input_new output_old output_new → TellsNamed name (state old) → input_old.rest ≡ Some all
      → PrintsReplies (fresh g 1 (empty_history g)) all output_old output_new
  made_prints g all (inl (e, is, not)) tells rest = absurd (zero_is_begun e is)
  made_prints g all (inr (e, is, a)) tells rest =
      let done = zero_answered (Some g) e is a in
      subst (λ (W : World). PrintsReplies W all output_old output_new) done.begun.starts (prints (Some g) all done tells rest)

  pub given_prints : (all image : List ℕ) → HasMet state Run name 0 old new input_old input_new output_old output_new → (state old).named name ≡ Some image → input_old.rest ≡ Some all
      → PrintsRepliesOf image all output_old output_new
  given_prints all image (inl (e, is, not)) named rest = absurd (zero_is_begun e is)
  given_prints all image (inr (e, is, a)) named rest =
      let done = zero_answered None e is a in
      let opens : OpensTo ((state old).named name) done.world = done.begun.starts in
      record {
        geometry = opens.geometry;
        generation = opens.generation;
        history = opens.history;
        holds = opens.told.image image named;
        prints = subst (λ (W : World). PrintsReplies W all output_old output_new) opens.world_is (prints None all done (some_named ((state old).named name) image named) rest);
      }

  pub since_opens : (made : Option Geometry) (e : RunEnd) (a : HasAnswered state made name e old new input_old input_new output_old output_new)
      → SinceBind (state new) (λ c. MayBeUnmade made c ⊎ OpensFrom (last a.world.history) c)
  since_opens made e a moment is c left = ⊎_elim inl (λ shown. inr (opens_between a.world a.run.answered.final c shown)) (a.begun.since moment is c left)

  pub exit_opens : (made : Option Geometry) (e : RunEnd) (a : HasAnswered state made name e old new input_old input_new output_old output_new) → TellsNamed name (state old)
      → (n : ℕ) → Acknowledges a.world a.run.done n → (c : List ℕ) → (state new).now c → OpensFrom n c
  exit_opens made e a tells n told c here =
      let reached : a.run.answered.reached ≡ after a.world a.run.done = a.run.answered.reached_is.known (inl (a.begun.told tells)) in
      opens_later n (last a.run.answered.reached.history) c
      (subst (λ (W : World). n ≤ last W.history) (sym reached) (a.run.answered.acknowledged n told))
      (opens_between a.run.answered.reached a.run.answered.final c (a.run.answered.exit c here))

  pub told_opens : (made : Option Geometry) (e : RunEnd) (a : HasAnswered state made name e old new input_old input_new output_old output_new)
      → (n : ℕ) → TellsCommit a.run.done a.run.answered.on_any_disk.given n → (c : List ℕ) → (state new).now c → OpensFrom n c
  told_opens made e a n told c here =
      let put = a.run.answered.on_any_disk in
      opens_later n (last a.run.answered.reached.history) c
      (told_kept a.world a.run.answered.reached a.run.done put.given a.begun.sound (all_first (λ (line : ℕ × Line). IsOp line.1.op) a.run.done a.run.next a.run.answered.good) put.are n told)
      (opens_between a.run.answered.reached a.run.answered.final c (a.run.answered.exit c here))

  -- what was put on any disk
  prints_any : (made : Option Geometry) (all : List ℕ) (a : HasAnswered state made name end.Done old new input_old input_new output_old output_new)
      → input_old.rest ≡ Some all → ArePlain (script all).lines → PrintsButShown a.world all output_old output_new
  prints_any made all a rest plain =
      let put = a.run.answered.on_any_disk in
      let lines : AreLinesOf end.Done (script all) a.run.done a.run.next = subst (λ (o : Option (List ℕ)). IfSome o (λ text. AreLinesOf end.Done (script text) a.run.done a.run.next)) rest a.run.told in
      let done : (script all).lines ≡ a.run.done = ap (λ (S : Script). S.lines) lines.0 in
      let good : ArePlain a.run.done = subst ArePlain done plain in
      record {
        whole = ap (λ (S : Script). S.bad) lines.0;
        given = put.given;
        same = subst (λ (xs : List (ℕ × Line)). AreSameButShown put.given (answers_to a.world xs)) (sym done) (plain_same a.world a.run.answered.reached a.run.done put.given good put.are);
        put = subst (λ (xs : List (ℕ × Line)). Wrote output_old output_new (text_of xs put.given)) (sym done)
            (subst (λ (k : SinkState). Wrote output_old k (text_of a.run.done put.given)) (sym a.last) put.put);
      }

  pub made_prints_any : (g : Geometry) (all : List ℕ) → HasMet state (New g) name 0 old new input_old input_new output_old output_new → input_old.rest ≡ Some all → ArePlain (script all).lines
      → PrintsButShown (fresh g 1 (empty_history g)) all output_old output_new
  made_prints_any g all (inl (e, is, not)) rest plain = absurd (zero_is_begun e is)
  made_prints_any g all (inr (e, is, a)) rest plain =
      let done = zero_answered (Some g) e is a in
      subst (λ (W : World). PrintsButShown W all output_old output_new) done.begun.starts (prints_any (Some g) all done rest plain)

  pub given_prints_any : (all : List ℕ) → HasMet state Run name 0 old new input_old input_new output_old output_new → input_old.rest ≡ Some all → ArePlain (script all).lines
      → PrintsButShownOf ((state old).named name) all output_old output_new
  given_prints_any all (inl (e, is, not)) rest plain = absurd (zero_is_begun e is)
  given_prints_any all (inr (e, is, a)) rest plain =
      let done = zero_answered None e is a in
      (done.world, done.begun.starts, prints_any None all done rest plain)

  pub clients_open : (status : ℕ) (r : HasRunClients state name status old new input_old input_new output_old output_new) → SinceBind (state new) (OpensFrom (last r.world.history))
  clients_open status r moment is c left = opens_between r.world _ c (r.since moment is c left)

  pub digest_prints : (image : List ℕ) → HasMet state Recover name 0 old new input_old input_new output_old output_new → (state old).named name ≡ Some image → PrintsDigestOf image output_old output_new
  digest_prints image (inl (e, is, not)) named = absurd (zero_is_begun e is)
  digest_prints image (inr r) named =
      record { geometry = r.opens.geometry; generation = r.opens.generation; history = r.opens.history; holds = r.opens.told.image image named; prints = put r.printed }
    where
      tells : TellsNamed name (state old)
      tells = some_named ((state old).named name) image named

      history_is : r.world.history ≡ r.opens.history
      history_is = ap (λ (W : World). W.history) r.opens.world_is

      put : PrintedDigest 0 (TellsNamed name (state old)) r.world.history output_old output_new → Wrote output_old output_new (recover_output r.opens.history)
      put (inl (text, told, inl (is, whole))) = subst (λ (t : List ℕ). Wrote output_old output_new t) (told tells ∙ ap recover_output history_is) whole.wrote
      put (inl (text, told, inr (is, cut))) = cc is
      put (inr (inl (is, text))) = cc is
      put (inr (inr (is, text))) = cc is
