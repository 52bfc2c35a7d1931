use Rattle.committer.proofs.{Words.{arith, port_view, subst}, Lasts.{all_back, all_lost, are_txs, not_disk, paired_self, units_one}}
use Rattle.iso_model.specs.declared.core_error.CoreError.{CoreError}
use Rattle.std.specs.List.{AllByRecursion}
use Rattle.committer.specs.Outcomes.{IsRefusedIn, MayEnd}
use Rattle.committer.proofs.outcomes.end_taken.Goals as goal

pub returns-in-Ok-clause-units : goal.returns-in-Ok-clause-units
returns-in-Ok-clause-units g c =
    let ones = units_one c.args.shared.now g.O.Origin.start c.args.group.items c.requires.group in
    omega (arith, c.in-Ok.ensures.ok.1, ones)

pub returns-in-Some-clause-told : goal.returns-in-Some-clause-told
returns-in-Some-clause-told g c =
    let kept = rw c.in-Some.is at c.in-Err.ensures.kept in
    let made = kept.3.2 in
    all_back c.args.shared.now g.O.Origin.start c.in-Err.error kept.3.0 kept.3.1 made.before (port_view c.end_each.new.port).seen _ made.seen made.legal (not_disk c.in-Err.error kept.0) c.args.group.items c.in-Some.back.items made.begins (λ n accesses one. one) kept.2

pub returns-in-Some-clause-units : goal.returns-in-Some-clause-units
returns-in-Some-clause-units g c =
    let kept = rw c.in-Some.is at c.in-Err.ensures.kept in
    let ones = units_one c.args.shared.now g.O.Origin.start c.args.group.items c.requires.group in
    omega (arith, kept.1, ones)

pub returns-in-None-clause-told : goal.returns-in-None-clause-told
returns-in-None-clause-told g c =
    let gone = rw c.in-None.is at c.in-Err.ensures.gone in
    let made = gone.2.2 in
    let lost = all_lost c.args.shared.now g.O.Origin.start c.in-Err.error gone.2.0 gone.2.1 made.before (port_view c.end_each.new.port).seen _ made.seen made.legal c.args.group.items made.begins (λ n accesses one. one) in
    subst (λ (e : CoreError). AllByRecursion (λ t. IsRefusedIn c.args.shared.now g.O.Origin.start t e (port_view c.end_each.new.port).seen) c.args.group.items) gone.0 lost

pub returns-in-None-clause-units : goal.returns-in-None-clause-units
returns-in-None-clause-units g c =
    let gone = rw c.in-None.is at c.in-Err.ensures.gone in
    let ones = units_one c.args.shared.now g.O.Origin.start c.args.group.items c.requires.group in
    omega (arith, gone.1, ones)

pub returns-then-len-lt2-clause-told : goal.returns-then-len-lt2-clause-told
returns-then-len-lt2-clause-told g c = paired_self (MayEnd c.args.shared.now g.O.Origin.start) c.args.group.items c.requires.group

pub end_each-requires-clause-group : goal.end_each-requires-clause-group
end_each-requires-clause-group g c = are_txs c.args.shared.now g.O.Origin.start c.args.group.items c.requires.group
