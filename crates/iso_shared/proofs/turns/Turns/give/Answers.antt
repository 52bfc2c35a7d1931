use Rattle.iso_shared.proofs.{Words.{[], ◌∷◌, ◌++◌, ap, sym, subst, ◌∙◌, ℕ, IsLegal, entries_in, handed, moments_in, option_to_list}, Stamping.{are_free, entries_many, entries_snoc, moments_snoc, rests_shown, stands_stamped}, Standings.{distinct_back, free_before}}
use Rattle.iso_shared.proofs.turns.Turns.give.Goals as goal

pub give-requires-clause-value : goal.give-requires-clause-value
give-requires-clause-value g c = stands_stamped c.args.pass.now.me.0.seen g.N.Names.entry c.requires.value

pub give-requires-clause-hands : goal.give-requires-clause-hands
give-requires-clause-hands g c = are_free (option_to_list (handed g.N.Names.entry.entry)) c.args.pass.now.me.0.seen (free_before g.D.Disk.state g.O.Origin.start _ _ _ _ c.requires.value)

pub give-requires-clause-takes : goal.give-requires-clause-takes
give-requires-clause-takes g c = (c.requires.held.1, distinct_back g.D.Disk.state g.O.Origin.start _ _ _ _ c.requires.value)

pub returns : goal.returns
returns g c =
    let seen = ap entries_in c.give.ensures.seen ∙ entries_snoc c.args.pass.now.me.0.seen g.N.Names.entry in
    record {
      lock = (c.give.ensures.lock.0 ∙ c.requires.lock, rests_shown c.give.new.pass c.give.ensures.free);
      seen = seen;
      past = ap moments_in c.give.ensures.seen ∙ moments_snoc c.args.pass.now.me.0.seen g.N.Names.entry;
      mine = c.give.ensures.mine ∙ ap (λ (n : ℕ). c.args.pass.now.me.0.mine ++ n ∷ []) (sym (entries_many c.args.pass.now.me.0.seen));
      holds = c.give.ensures.holds;
      units = c.give.ensures.units;
      legal = subst (IsLegal g.O.Origin.start) (sym seen) c.requires.value.legal;
    }
