use Rattle.group_commit.proofs.{Words.{[], ap, arith, is_some, length, map, subst, sym, ◌∙◌, port_view, AreTxs, found_in, marks_of, spread}, Grouping.{found_are, found_few, none_ended, told_places}}
use Rattle.group_commit.proofs.commit.commit_found.Goals as goal

pub returns-then-not-is_found-clause-did : goal.returns-then-not-is_found-clause-did
returns-then-not-is_found-clause-did g c =
    let none = ap found_in (sym c.as_slice.ensures.value) ∙ c.is_found.ensures.none c.if-not-is_found.true in (
      [],
      c.tell_none-answers.ensures ∙ ap (λ members. spread (marks_of members) []) c.as_slice-then-not-is_found.ensures.value,
      none_ended g.O.Origin.start (port_view c.args.port.now) c.args.members.items none,
    )

pub returns-then-not-is_found-clause-places : goal.returns-then-not-is_found-clause-places
returns-then-not-is_found-clause-places g c =
    let none = ap found_in (sym c.as_slice.ensures.value) ∙ c.is_found.ensures.none c.if-not-is_found.true in
    ap (λ told. map is_some told) (c.tell_none-answers.ensures ∙ ap (λ members. spread (marks_of members) []) c.as_slice-then-not-is_found.ensures.value) ∙ told_places c.args.members.items [] (sym (ap length none))

pub end_all-requires-clause-group : goal.end_all-requires-clause-group
end_all-requires-clause-group g c =
    subst (AreTxs c.args.shared.now g.O.Origin.start) (sym c.gather.ensures.group) (found_are c.args.shared.now g.O.Origin.start c.args.members.items c.requires.members)

pub end_all-requires-clause-most : goal.end_all-requires-clause-most
end_all-requires-clause-most g c =
    let same = ap length c.gather.ensures.group in
    let few = found_few c.args.members.items in
    let most = c.requires.most in
    omega (arith, same, few, most)

pub returns-clause-places : goal.returns-clause-places
returns-clause-places g c =
    let marks = c.as_slice-2.ensures ∙ c.gather.ensures.marks in
    let replies = c.as_slice-3.ensures in
    ap (λ told. map is_some told) (c.spread_all.ensures ∙ (λ i. spread (marks i) (replies i))) ∙ told_places c.args.members.items c.in_ok-replies.replies (c.in_ok-replies.ensures.did.0 ∙ ap length c.gather.ensures.group)
