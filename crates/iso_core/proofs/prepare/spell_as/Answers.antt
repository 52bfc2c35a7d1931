use Rattle.iso_core.proofs.{Words.{◌∙◌, ◌<◌, sym, subst, ap, List, length, ◌++◌, arith, LieInAnImage, PartSpan, Run, Spelled, map, part_of, runs, spell}, Spellings.{runs_lie, same_runs, some_runs, spelled_so}}
use Rattle.iso_core.proofs.prepare.spell_as.Goals as goal

pub push_work-requires : goal.push_work-requires
push_work-requires c = record { settled = c.requires.next.may.settled.settled }

pub finish-requires-clause-number : goal.finish-requires-clause-number
finish-requires-clause-number c = omega (arith, c.requires.next.number_is, c.requires.next.fresh)

pub finish-requires-clause-some : goal.finish-requires-clause-some
finish-requires-clause-some c =
    let n = c.requires in
    let work = n.next.may.settled.is_work in
    let made = c.in_ok-push_work.ensures.runs n.world.geometry (sym work.size) (sym work.blocks) in
    subst (λ (l : List Run). 0 < length l) (sym (made.0 ∙ ap (λ (b : Spelled). b.parts ++ runs n.world.geometry c.args.work.now.accesses) c.clear.ensures)) (some_runs n.world n.tx n.t c.args.work.now n.next.world n.next.may)

pub finish-requires-clause-runs : goal.finish-requires-clause-runs
finish-requires-clause-runs c =
    let n = c.requires in
    let work = n.next.may.settled.is_work in
    let made = c.in_ok-push_work.ensures.runs n.world.geometry (sym work.size) (sym work.blocks) in
    subst LieInAnImage (sym (made.0 ∙ ap (λ (b : Spelled). b.parts ++ runs n.world.geometry c.args.work.now.accesses) c.clear.ensures)) (runs_lie n.world n.tx n.t c.args.work.now n.next.world n.next.may)

pub returns-clause-spelled : goal.returns-clause-spelled
returns-clause-spelled c n =
    let work = n.next.may.settled.is_work in
    let made = c.in_ok-push_work.ensures.runs n.world.geometry (sym work.size) (sym work.blocks) in
    let runs_are = made.0 ∙ ap (λ (b : Spelled). b.parts ++ runs n.world.geometry c.args.work.now.accesses) c.clear.ensures in
    let before = c.push_work.ensures.records ∙ ap (λ (b : Spelled). b.records) c.clear.ensures in
    let bytes = ap (λ (b : Spelled). b.records) c.in_ok-finish.ensures.ok ∙ (λ i. before i ++ spell 1 c.kind_of-kind.result c.args.number (runs_are i)) in
    record {
      next = spelled_so n.world n.tx n.t c.args.work.now n.next.world n.next.may c.args.kept.now.geometry c.args.number c.kind_of-kind.result c.mode.result _ n.next.geometry n.next.number_is n.next.fresh c.mode.ensures c.kind_of-kind.ensures.kind bytes;
      parts = made.1 ∙ ap (λ (l : List PartSpan). l ++ map part_of (runs n.world.geometry c.args.work.now.accesses)) c.clear-2.ensures.items ∙ ap (map part_of) (same_runs n.world n.tx n.t c.args.work.now n.next.world n.next.may);
    }
