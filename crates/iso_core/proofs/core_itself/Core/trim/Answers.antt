use Rattle.iso_core.proofs.{Words.{◌∙◌, Ok, floor, refl, up}, Standings.stands_as, Trims.{floor_is, trims_so}}

pub returns-clause-trimmed : Rattle.iso_core.proofs.core_itself.Core.trim.Goals.returns-clause-trimmed
returns-clause-trimmed g c W stands =
    let kept = c.args.self.now.kept in
    let to = c.floor-floor.ensures ∙ floor_is kept W stands.kept_of c.last.result c.last.ensures in (
      (λ i. Ok (to i)),
      stands_as (g.D.Disk.state c.args.self.now.disk) kept (record kept { index = c.trim.new.index; trim = c.floor-floor.result }) W up W.live W.next (floor W) stands
          (let of = trims_so kept W stands.kept_of c.trim.new.index c.floor-floor.result to c.trim.ensures.blocks c.trim.ensures.kept in record { of = of; half = refl; down = refl }),
    )
