use Rattle.iso_machine.proofs.Words.{refl, sym, subst, WritesNothing}
use Rattle.iso_model.specs.World.{fresh}
use Rattle.device_desk.proofs.image.open.Goals as goal

pub over-requires : goal.over-requires
over-requires g c =
    let to = c.in-Ok.ensures.opened in
    (fresh to.geometry to.generation to.history, to.stands, refl)

pub returns-in-Ok-clause-opened : goal.returns-in-Ok-clause-opened
returns-in-Ok-clause-opened g c =
    let to = c.in-Ok.ensures.opened in
    record {
      geometry = to.geometry;
      generation = to.generation;
      history = to.history;
      stands = c.over.ensures.stands (fresh to.geometry to.generation to.history) to.stands refl;
      told = to.told;
    }

pub returns-in-Ok-clause-unwritten : goal.returns-in-Ok-clause-unwritten
returns-in-Ok-clause-unwritten g c = subst (λ (d : g.row.D.Denot). WritesNothing (g.D.Disk.state c.args.disk) (g.D.Disk.state d)) (sym c.over.ensures.disk) c.in-Ok.ensures.unwritten

pub returns-in-Ok-clause-shown : goal.returns-in-Ok-clause-shown
returns-in-Ok-clause-shown g c contents geometry H p told shows =
    let to = c.in-Ok.ensures.shown contents geometry H p told shows in
    record {
      form = to.form;
      generation = to.generation;
      history = to.history;
      stands = c.over.ensures.stands (fresh (record geometry { form = to.form }) to.generation to.history) to.stands refl;
      last = to.last;
      array = to.array;
      arrays = to.arrays;
    }
