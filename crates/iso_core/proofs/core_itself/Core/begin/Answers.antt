use Rattle.iso_core.proofs.{Words.{◌+◌, ◌++◌, ◌∷◌, [], mode_named, up}, Begins.begun, Standings.{if_ok, stands_as}}

pub returns-clause-begun : Rattle.iso_core.proofs.core_itself.Core.begin.Goals.returns-clause-begun
returns-clause-begun g c W stands =
    let d = g.D.Disk.state c.args.self.now.disk in
    if_ok c.begin.result (λ b is. (
      is.0,
      is.1,
      is.2,
      stands_as d c.args.self.now.kept c.begin.new.kept W up (W.live ++ begun W (mode_named W c.args.mode) ∷ []) (W.next + 1) W.trim stands (record { of = is.3.of; half = is.3.half; down = is.3.down }),
    ))
    (c.begin.ensures.begun W stands.kept_of)
