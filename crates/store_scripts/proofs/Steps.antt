-- Where each operation of a client leads, with what is told of the transactions.
use Rattle.store_scripts.proofs.{Words.{◌≡◌, sym, refl, subst, ℕ, ◌-◌, ◌==◌, ◌&&◌, not, Bool, true, false, cond, List, [], ◌∷◌, ◌++◌, length, nat_le, Option, Some, None, Result, Ok, Err, arith, nat_lt, AllByRecursion, Access, Mode, CoreReply, LAST, MAX_ACCESSES, MAX_LIVE, Op, Reply, same_mode, array_at, last, access_step, array_of, in_transaction, out_of_transaction, release_step, store_reply, takeover_step, after_begin, after_leaving, after_switch, after_trim, begin_step, placed, switch_step, with_accesses, as_reply, as_step, as_either, Program, outcome, Live, Place, World, attached, client, held, is_at_client, is_under_label, label, with, IsWorld, all_filter, all_find, all_push, all_weaker, Answered, Notes, told_more, with_call, SecondStore}, Growing.{begins_told, in_form}, Noted.{Goes, Holds, IsKept, IsNoted, adds, changes, choose, notes_by, quiet, stays}}
use Rattle.iso_model.specs.declared.core_reply.CoreReply.TheVariants as core
use Rattle.script_model.specs.declared.script.Reply.TheVariants as reply

module _ (S : SecondStore) where
  module _ (Q : Type 0) (n : ℕ) (W : World) (notes : Notes S) (is : IsNoted S Q n W notes) (c : ℕ) (op : Op) where
    pub in_goes : (o : Option Live) (act : Live → Reply × World) → attached W c ≡ o → S.answered op reply.NotInTx ≡ None → ((t : Live) → attached W c ≡ Some t → Goes S Q n W notes c op (Some t) (act t))
        → Goes S Q n W notes c op o (in_transaction W o act)
    in_goes None act at none goes = stays S Q n W notes is c op None reply.NotInTx none
    in_goes (Some t) act at none goes = goes t at

    pub out_goes : (o : Option Live) (x : Reply × World) → S.answered op reply.InTx ≡ None → Goes S Q n W notes c op None x → Goes S Q n W notes c op o (out_of_transaction W o x)
    out_goes (Some t) x none goes = stays S Q n W notes is c op (Some t) reply.InTx none
    out_goes None x none goes = goes

    pub kept_of : (t : Live) → attached W c ≡ Some t → IsKept S Q n W.geometry W.history notes t
    kept_of t found = all_find (IsKept S Q n W.geometry W.history notes) (λ u. is_at_client c u.place) W.live t is.each found

    -- a transaction begins, of which nothing is told
    begins : (place : Place) (mode : Mode) (r : Reply) → S.answered op r ≡ None → Goes S Q n W notes c op None (r, after_begin W place mode)
    begins place mode r none = grind (arith, all_push, begins_told)

    pub begin_goes : (place : Place) (mode : Mode) → ((r : Reply) → S.answered op r ≡ None) → Goes S Q n W notes c op None (as_step (begin_step W place mode))
    unfolding begin_step
    begin_goes place mode none =
        let so = Goes S Q n W notes c op None in
        as_either so ((W.geometry.form == 1) && not (same_mode mode W.geometry.mode)) _ _ (stays S Q n W notes is c op None reply.ModeFixed (none _))
        (as_either so (nat_le MAX_LIVE (length W.live)) _ _ (stays S Q n W notes is c op None reply.TooManyTx (none _))
        (as_either so (nat_lt LAST W.next) _ _ (stays S Q n W notes is c op None reply.Worn (none _)) (begins place mode (reply.Began (last W.history)) (none _))))

    -- a transaction leaves
    pub leaves : (o : Option Live) (t : Live) (r : Reply) → S.answered op r ≡ None → Goes S Q n W notes c op o (r, after_leaving W t)
    leaves o t r none =
        let x : Reply × World = (r, after_leaving W t) in
        record {
          next = omega arith;
          each = all_filter (IsKept S Q n W.geometry W.history (notes_by S W notes c op o x)) (λ (u : Live). not (u.number == t.number)) W.live
              (all_weaker (IsKept S Q n W.geometry W.history notes) (IsKept S Q n W.geometry W.history (notes_by S W notes c op o x)) (λ u. quiet S Q n W notes is c op W.geometry W.history o x u none) W.live is.each);
          low = is.low;
          by = is.by;
        }

    all_with : (P : Live → Type 0) (t : Live) (live : List Live) → P t → AllByRecursion P live → AllByRecursion P (with t live)
    all_with P t [] has all = tt
    all_with P t (u ∷ live) has all = (elim (u.number == t.number) as (λ v. P (cond v t u)) [ true ↦ has | false ↦ all.0 ], all_with P t live has all.1)

    -- a transaction is somewhere else
    pub places : (o : Option Live) (t : Live) (place : Place) (r : Reply) → S.answered op r ≡ None → IsKept S Q n W.geometry W.history notes t → Goes S Q n W notes c op o (r, placed W t place)
    places o t place r none kept =
        let x : Reply × World = (r, placed W t place) in
        let new : Live = record t { place = place } in
        record {
          next = omega arith;
          each = all_with (IsKept S Q n W.geometry W.history (notes_by S W notes c op o x)) new W.live (quiet S Q n W notes is c op W.geometry W.history o x new none kept)
              (all_weaker (IsKept S Q n W.geometry W.history notes) (IsKept S Q n W.geometry W.history (notes_by S W notes c op o x)) (λ u. quiet S Q n W notes is c op W.geometry W.history o x u none) W.live is.each);
          low = is.low;
          by = is.by;
        }

    pub release_goes : (t : Live) (text : List ℕ) (o : Option Live) → attached W c ≡ Some t → ((r : Reply) → S.answered op r ≡ None) → Goes S Q n W notes c op (Some t) (release_step W t text o)
    release_goes t text (Some other) found none = stays S Q n W notes is c op (Some t) reply.LabelTaken (none _)
    release_goes t text None found none = places (Some t) t (label text) reply.Done (none _) (kept_of t found)

    pub takeover_goes : (text : List ℕ) (o : Option Live) → held W text ≡ o → ((r : Reply) → S.answered op r ≡ None) → Goes S Q n W notes c op None (takeover_step W c o)
    takeover_goes text None found none = stays S Q n W notes is c op None reply.NoHandle (none _)
    takeover_goes text (Some t) found none =
        places None t (client c) (reply.Began t.begin) (none _) (all_find (IsKept S Q n W.geometry W.history notes) (λ u. is_under_label text u.place) W.live t is.each found)

    -- an access
    pub access_goes : (t : Live) (block : ℕ) (is_wrong : Bool) (answer : Reply) (a : Access) → attached W c ≡ Some t → ((r : Reply) → S.answered op r ≡ None)
        → Goes S Q n W notes c op (Some t) (access_step W t block is_wrong answer a)
    access_goes t block is_wrong answer a found none =
        choose S Q n W notes c op (Some t) (nat_le W.geometry.blocks block) _ _ (stays S Q n W notes is c op (Some t) reply.BadBlock (none _)) (λ x.
        choose S Q n W notes c op (Some t) is_wrong _ _ (stays S Q n W notes is c op (Some t) reply.BadRange (none _)) (λ y.
        choose S Q n W notes c op (Some t) (nat_le MAX_ACCESSES (length t.accesses)) _ _ (stays S Q n W notes is c op (Some t) reply.TooManyAccesses (none _)) (λ z.
        adds S Q n W notes is c op t answer (a ∷ []) found (kept_of t found) (none _))))

    -- the numbers of an image change
    same_form : (form : ℕ) (o : Option Live) (x : Reply × World) (u : Live) → S.answered op x.0 ≡ None → IsKept S Q n W.geometry W.history notes u
        → IsKept S Q n (record W.geometry { form = form }) W.history (notes_by S W notes c op o x) u
    same_form form o x u none kept =
        let was = quiet S Q n W notes is c op W.geometry W.history o x u none kept in
        record {
          since = was.since;
          made = λ more. in_form S W.geometry (array_at W.history u.begin) u.accesses u.mode (notes_by S W notes c op o x u.number) (was.made more) form;
          by_map = λ q reads. let by_map = was.by_map q reads in record { hash = by_map.hash; second = by_map.second };
        }

    pub trim_goes : (o : Option Live) (r : Reply) → S.answered op r ≡ None → Goes S Q n W notes c op o (r, after_trim W)
    trim_goes o r none = record {
      next = omega arith;
      each = all_weaker (IsKept S Q n W.geometry W.history notes) (IsKept S Q n W.geometry W.history (notes_by S W notes c op o (r, after_trim W))) (λ u. quiet S Q n W notes is c op W.geometry W.history o (r, after_trim W) u none) W.live is.each;
      low = is.low;
      by = is.by;
    }

    switches : (form : ℕ) (o : Option Live) (r : Reply) → S.answered op r ≡ None → IsWorld (after_switch W form) → Goes S Q n W notes c op o (r, after_switch W form)
    switches form o r none sound = record {
      next = omega arith;
      each = all_weaker (IsKept S Q n W.geometry W.history notes) (IsKept S Q n (record W.geometry { form = form }) W.history (notes_by S W notes c op o (r, after_switch W form)))
          (λ u. same_form form o (r, after_switch W form) u none) W.live is.each;
      low = is.low;
      by = λ q.
          let was = is.by q in
          record {
            first = was.first;
            since = was.since;
            within = was.within;
            isolated = sound.isolated;
            calls = was.calls;
            begins = record { first = was.begins.first; second = was.begins.second };
          };
    }

    pub switch_goes : (form : ℕ) (o : Option Live) (answer : CoreReply) → ((r : Reply) → S.answered op r ≡ None) → IsWorld (switch_step W form answer).1 → Goes S Q n W notes c op o (as_step (switch_step W form answer))
    unfolding switch_step
    switch_goes form o answer none sound = go (W.generation == LAST) sound
      where
        go : (b : Bool) → IsWorld (cond {A = CoreReply × World} b (core.Worn, W) (answer, after_switch W form)).1 → Goes S Q n W notes c op o (as_step (cond b (core.Worn, W) (answer, after_switch W form)))
        go true world = stays S Q n W notes is c op o reply.Worn (none _)
        go false world = switches form o (as_reply answer) (none _) world

    -- A call of a store: refused, or answered Ok, where it is one more of those that are told.
    pub called : {E R : Type 0} (t : Live) (program : Program (Result R E)) (refusal : E → Reply) (answer : R → Reply) (name : R → Answered S.Call S.Answer) (end : Option (Result R E)) → attached W c ≡ Some t
        → S.answered op reply.TooManyAccesses ≡ None → ((e : E) → S.answered op (refusal e) ≡ None) → ((r : R) → S.answered op (answer r) ≡ Some (name r))
        → (outcome (MAX_ACCESSES - length t.accesses) program (array_of W t)).1 ≡ end
        → ((r : R) (done : List Access) → (outcome (MAX_ACCESSES - length t.accesses) program (array_of W t)).1 ≡ Some (Ok r) → done ≡ (outcome (MAX_ACCESSES - length t.accesses) program (array_of W t)).0
        → IsKept S Q n W.geometry W.history notes t
        → Holds S Q n W.geometry (array_at W.history t.begin) t.begin (t.accesses ++ done) t.mode (with_call S (notes t.number) (name r) (length (t.accesses ++ done))))
        → Goes S Q n W notes c op (Some t) (store_reply refusal answer end, with_accesses W t (t.accesses ++ (outcome (MAX_ACCESSES - length t.accesses) program (array_of W t)).0))
    called t program refusal answer name None found full refused named ends told =
        adds S Q n W notes is c op t reply.TooManyAccesses (outcome (MAX_ACCESSES - length t.accesses) program (array_of W t)).0 found (kept_of t found) full
    called t program refusal answer name (Some (Err e)) found full refused named ends told =
        adds S Q n W notes is c op t (refusal e) (outcome (MAX_ACCESSES - length t.accesses) program (array_of W t)).0 found (kept_of t found) (refused e)
    called t program refusal answer name (Some (Ok r)) found full refused named ends told =
        let done = (outcome (MAX_ACCESSES - length t.accesses) program (array_of W t)).0 in
        changes S Q n W notes is c op t (answer r) (t.accesses ++ done) found
        (subst (λ (a : Option (Answered S.Call S.Answer)).
        Holds S Q n W.geometry (array_at W.history t.begin) t.begin (t.accesses ++ done) t.mode (told_more S W.geometry op (answer r) t.accesses (t.accesses ++ done) (notes t.number) a))
        (sym (named r)) (told r done ends refl (kept_of t found)))
