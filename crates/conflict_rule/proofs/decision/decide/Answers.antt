-- The decision over the notes is the model's.
use Rattle.conflict_rule.proofs.{Words.{arith, Bool, true, false, refl, has_write, ◌≡◌, ◌∙◌, ◌+◌, ◌-◌, Option, Some, None, ap, sym, subst, drop, rules, Clash, clash, clash_from, first_after, or_else, no_clash, above, guarded_bytes, up_to, Bytes, IsLeastMeeting}, Clashing.{clash_parts, has_write_where, no_write_where, untouched_where, wrote_where}, Meetings.{clash_of, guarded_are}}

pub returns-then-is_empty-clause-exact : Rattle.conflict_rule.proofs.decision.decide.Goals.returns-then-is_empty-clause-exact
returns-then-is_empty-clause-exact g c g' H begin accesses asked = grind (arith, no_write_where, no_clash)

pub returns-in-Some-clause-exact : Rattle.conflict_rule.proofs.decision.decide.Goals.returns-in-Some-clause-exact
returns-in-Some-clause-exact g c g' H begin accesses asked =
    let upto = c.args.checked.now.upto in
    let touched = c.if-is_empty.ensures.some in
    let some = has_write_where g' accesses c.args.writes.now touched.0 touched.1 asked.writes touched.2 in
    let ahead : clash g' (up_to H upto) c.args.mode begin accesses ≡ Some c.in-Some.clash = sym asked.ahead ∙ c.in-Some.is in
    let rest = clash_from g' c.args.mode accesses (first_after H upto) (drop (upto + 1 - H.first) H.commits) in
    sym (clash_parts g' H c.args.mode begin upto accesses some asked.order ∙ ap (λ (o : Option Clash). or_else o rest) ahead)

pub returns-clause-exact : Rattle.conflict_rule.proofs.decision.decide.Goals.returns-clause-exact
returns-clause-exact g c g' H begin accesses asked = by (has_write accesses) refl
  where
    by : (t : Bool) → has_write accesses ≡ t → c.least_met.result ≡ clash g' H c.args.mode begin accesses
    by false none =
        (c.least_met.ensures.read_only (untouched_where g' accesses c.args.writes.now asked.writes none)).0 ∙ sym (no_clash g' H c.args.mode begin accesses none)
    by true some =
        let upto = c.args.checked.now.upto in
        let known : c.args.checked.now.clash ≡ None = search rules in
        let ahead : clash g' (up_to H upto) c.args.mode begin accesses ≡ None = sym asked.ahead ∙ known in
        let rest = clash_from g' c.args.mode accesses (first_after H upto) (drop (upto + 1 - H.first) H.commits) in
        let bytes = guarded_bytes c.args.mode c.args.reads.now c.args.writes.now in
        let notes = above upto c.args.notes.now.notes in
        let (b, p, touched) = wrote_where g' accesses c.args.writes.now asked.size asked.well_formed asked.writes some in
        let least : IsLeastMeeting bytes notes c.least_met.result = subst (λ (x : Bytes). IsLeastMeeting x notes c.least_met.result) c.guarded-bytes.ensures (c.least_met.ensures.least b p touched) in
        let later : c.least_met.result ≡ rest =
        clash_of g' c.args.mode accesses bytes (first_after H upto) notes (drop (upto + 1 - H.first) H.commits) c.least_met.result
        (guarded_are g' c.args.mode accesses c.args.reads.now c.args.writes.now asked.reads asked.writes) asked.later least in
        later ∙ sym (clash_parts g' H c.args.mode begin upto accesses some asked.order ∙ ap (λ (o : Option Clash). or_else o rest) ahead)
