use Rattle.accounts.proofs.{Words.{◌≡◌, ◌∙◌, ◌∷◌, [], ap, arith, length, sym, into_iter_items, prefix_self}, Knowing.learns_more}
use Rattle.group_commit.proofs.Grouping.{nothing_left}
use Rattle.accounts.proofs.learning.learn_all.Goals as goal

pub learn_one-reply-requires-clause-session : goal.learn_one-reply-requires-clause-session
learn_one-reply-requires-clause-session g c = (c.loop-ended.invariant.kept, c.loop-ended.invariant.same ∙ c.requires.session.1)

pub learn_one-reply-requires-clause-ended : goal.learn_one-reply-requires-clause-ended
learn_one-reply-requires-clause-ended g c =
    let at = c.loop-ended in
    let items : into_iter_items at.rest ≡ c.in-Some.ended ∷ into_iter_items c.next.new.self = c.in-Some.ensures.items in
    (rw items at at.invariant.told).0

pub loop-ended-preserved : goal.loop-ended-preserved
loop-ended-preserved g c =
    let at = c.loop-ended in
    let e = c.in-Some.ended in
    let rest = into_iter_items c.next.new.self in
    let items : into_iter_items at.rest ≡ e ∷ rest = c.in-Some.ensures.items in
    let size = ap length items in
    let was = at.invariant.len in
    let gone = c.in-Some.ensures.len in
    let units = rw items at at.invariant.units in
    let joined = c.learn_one-reply.ensures.session in
    let one = joined.units in
    record {
      kept = joined.session;
      same = joined.of ∙ at.invariant.same;
      len = omega (arith, size, was, gone);
      told = (rw items at at.invariant.told).1;
      units = omega (arith, units, one);
      learned = learns_more c.args.shared.now g.O.Origin.start at.session.seen c.learn_one-reply.new.session.seen e rest c.args.told.items c.learn_one-reply.ensures.known c.learn_one-reply.ensures.learned (rw items at at.invariant.learned);
    }

pub returns-clause-session : goal.returns-clause-session
returns-clause-session g c =
    let at = c.loop-ended in
    let none : into_iter_items at.rest ≡ [] = nothing_left _ (sym at.invariant.len ∙ c.in_default.ensures.cases.0) in
    let units = rw none at at.invariant.units in
    record { session = at.invariant.kept; of = at.invariant.same; units = omega (arith, units) }

pub returns-clause-learned : goal.returns-clause-learned
returns-clause-learned g c =
    let at = c.loop-ended in
    let none : into_iter_items at.rest ≡ [] = nothing_left _ (sym at.invariant.len ∙ c.in_default.ensures.cases.0) in
    (rw none at at.invariant.learned) at.session.seen (prefix_self at.session.seen) tt
