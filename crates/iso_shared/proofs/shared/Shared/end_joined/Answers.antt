use Rattle.iso_shared.proofs.{Words.{view, ◌≡◌, ◌++◌, ap, sym, map, subst, ◌∙◌, List, GroupReply, Member, Made, bare_end, cause_of, end_of, ends_at, replies_of}, Groupings.{ended_so, joined_ends, many_end, members_last}, HandedBack.{all_same, back_same, joined_notes, pairs_many, same_many, taken_notes, taken_then}, shared.Shared.end_joined.Goals.After-end_at_turn}
use Rattle.iso_shared.specs.declared.entry.Call.TheVariants as call
use Rattle.iso_shared.specs.declared.entry.Entry.TheVariants as entry
use Rattle.iso_shared.proofs.shared.Shared.end_joined.Goals as goal

pub returns-in_default-clause-notes : goal.returns-in_default-clause-notes
returns-in_default-clause-notes g c =
    joined_notes c.args.self.now g.O.Origin.start _ _ c.args.group.now c.refuse_at_turn.ensures.turn.seen c.requires.each

pub returns-in_default-clause-back : goal.returns-in_default-clause-back
returns-in_default-clause-back g c other = all_same c.args.group.now

pub returns-in_default-clause-turn : goal.returns-in_default-clause-turn
returns-in_default-clause-turn g c = record {
  port = c.refuse_at_turn.ensures.turn.port;
  units = c.refuse_at_turn.ensures.turn.units;
  seen = c.refuse_at_turn.ensures.turn.seen;
  holds = c.refuse_at_turn.ensures.turn.holds;
  only = c.refuse_at_turn.ensures.turn.only;
}

pub end_at_turn-requires : goal.end_at_turn-requires
end_at_turn-requires g c =
    let group = c.args.group.now in
    joined_ends c.args.self.now g.O.Origin.start c.args.port.now group _ (c.as_mut_slice-handed.ensures.value ∙ c.take_works.ensures.ends ∙ ap (λ l. l ++ map end_of group) c.in-Some.ensures.0.items_are) c.requires

-- the works were handed to the core and came back
module _ (g : Rattle.iso_shared.proofs.shared.Shared.end_joined.Given.Over) (c : After-end_at_turn g) where
  same : map bare_end c.end_at_turn.new.ends ≡ map bare_end (map end_of c.args.group.now)
  same = c.end_at_turn.ensures.members ∙ ap (map bare_end) (c.as_mut_slice-handed.ensures.value ∙ c.take_works.ensures.ends ∙ ap (λ l. l ++ map end_of c.args.group.now) c.in-Some.ensures.0.items_are)

pub returns-in-Ok-clause-ok : goal.returns-in-Ok-clause-ok
returns-in-Ok-clause-ok g c =
    let (before, now, made) = c.in-Ok.ensures.made in
    let s = (goal.at.returns-in-Ok-clause-ok g c).After-end_at_turn in
    let replies = c.of.ensures ∙ c.put_replies.ensures ∙ ap (λ (l : List GroupReply). l ++ replies_of (ends_at c.end_at_turn.new.ends)) c.in-Some.ensures.1.items_are in
    ended_so g.O.Origin.start (view c.args.port.now.pass) (view c.end_at_turn.new.port.pass) c.args.group.now c.end_at_turn.new.ends _ (same g s) replies made

pub returns-in-Ok-clause-notes : goal.returns-in-Ok-clause-notes
returns-in-Ok-clause-notes g c =
    let s = c.args.self.now in
    taken_notes s _ c.args.group.now _ c.take_works.ensures.group (joined_notes s g.O.Origin.start _ _ c.args.group.now c.end_at_turn.ensures.turn.seen c.requires.each)

pub returns-in-Ok-clause-many : goal.returns-in-Ok-clause-many
returns-in-Ok-clause-many g c = pairs_many _ c.args.group.now _ c.take_works.ensures.group

pub give_works-requires : goal.give_works-requires
give_works-requires g c =
    let s = (goal.at.give_works-requires g c).After-end_at_turn in
    let group = c.args.group.now in
    pairs_many _ group _ c.take_works.ensures.group ∙ sym (many_end group) ∙ sym (same_many c.end_at_turn.new.ends (map end_of group) (same g s))

pub returns-clause-err : goal.returns-clause-err
returns-clause-err g c =
    let v = (view c.args.port.now.pass) in
    let s = (goal.at.returns-clause-err g c).After-end_at_turn in
    let (before, now, made) = c.in-Err.ensures.made in (
      before,
      now,
      subst (λ (ms : List Member). Made g.O.Origin.start v v (entry.Refused (call.EndGroup ms) (cause_of before now c.in-Err.error)) (view c.end_at_turn.new.port.pass)) (members_last c.args.group.now c.end_at_turn.new.ends (same g s)) made,
    )

pub returns-clause-notes : goal.returns-clause-notes
returns-clause-notes g c =
    let s = c.args.self.now in
    let group = c.args.group.now in
    taken_notes s _ group _ (taken_then group _ _ c.take_works.ensures.group c.give_works.ensures.group) (joined_notes s g.O.Origin.start _ _ group c.end_at_turn.ensures.turn.seen c.requires.each)

pub returns-clause-many : goal.returns-clause-many
returns-clause-many g c = let group = c.args.group.now in pairs_many _ group _ (taken_then group _ _ c.take_works.ensures.group c.give_works.ensures.group)

pub returns-clause-back : goal.returns-clause-back
returns-clause-back g c other =
    let s = (goal.at.returns-clause-back g c).After-end_at_turn in
    back_same c.args.group.now _ _ c.end_at_turn.new.ends c.take_works.ensures.group c.give_works.ensures.group c.give_works.ensures.works (same g s)
