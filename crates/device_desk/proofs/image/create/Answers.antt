use Rattle.iso_machine.proofs.Words.{refl, sym, subst, LeavesOnly, StaysTold}
use Rattle.iso_model.specs.World.{empty_history, fresh}
use Rattle.iso_recover.specs.Made.{IsUnmadeOrEmpty}
use Rattle.device_desk.proofs.image.create.Goals as goal

pub over-requires : goal.over-requires
over-requires g c =
    let geometry = c.args.geometry.now in
    (fresh geometry 1 (empty_history geometry), c.in-Ok.ensures.stands, refl)

pub returns-in-Ok-clause-stands : goal.returns-in-Ok-clause-stands
returns-in-Ok-clause-stands g c =
    let geometry = c.args.geometry.now in
    c.over.ensures.stands (fresh geometry 1 (empty_history geometry)) c.in-Ok.ensures.stands refl

pub returns-in-Ok-clause-moments : goal.returns-in-Ok-clause-moments
returns-in-Ok-clause-moments g c =
    subst (λ (d : g.row.D.Denot). LeavesOnly (g.D.Disk.state c.args.disk) (g.D.Disk.state d) (IsUnmadeOrEmpty c.args.geometry.now)) (sym c.over.ensures.disk) c.in-Ok.ensures.moments

pub returns-in-Ok-clause-told : goal.returns-in-Ok-clause-told
returns-in-Ok-clause-told g c = subst (λ (d : g.row.D.Denot). StaysTold (g.D.Disk.state c.args.disk) (g.D.Disk.state d)) (sym c.over.ensures.disk) c.in-Ok.ensures.told
