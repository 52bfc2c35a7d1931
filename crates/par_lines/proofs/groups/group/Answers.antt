use Rattle.par_lines.proofs.{Words.{subst, sym, ◌∙◌, Answered, Group, IsPortAt}, Grouping.{answers, wants_memory}}
use Rattle.handle_pass.proofs.Handing.{more_units}

pub returns-then-labels-gt-MAX_LABELS : Rattle.par_lines.proofs.groups.group.Goals.returns-then-labels-gt-MAX_LABELS
returns-then-labels-gt-MAX_LABELS g c = record { did = wants_memory g.O.Origin.start c.args.session.now c.args.labels.now }

pub returns-in_default : Rattle.par_lines.proofs.groups.group.Goals.returns-in_default
returns-in_default g c = record { did = wants_memory g.O.Origin.start c.args.session.now c.args.labels.now }

pub split_port-port-requires : Rattle.par_lines.proofs.groups.group.Goals.split_port-port-requires
split_port-port-requires g c = record { units = more_units c.args.session.now c.requires.units }

pub look_all-requires-clause-port : Rattle.par_lines.proofs.groups.group.Goals.look_all-requires-clause-port
look_all-requires-clause-port g c = subst (λ d. IsPortAt d c.split_port-port.result) c.requires.device c.split_port-port.ensures.did.port

pub join_port-requires : Rattle.par_lines.proofs.groups.group.Goals.join_port-requires
join_port-requires g c =
    let same = c.split_port-port.ensures.did.of ∙ c.requires.device in
    record { port = subst (λ d. IsPortAt d c.commit_group-answer.new.port) (sym same) c.commit_group-answer.ensures.port }

pub returns : Rattle.par_lines.proofs.groups.group.Goals.returns
returns g c =
    record {
      did = subst (λ r. Answered g.O.Origin.start c.args.session.now (Group c.args.labels.now) r c.join_port.new.self) (sym c.grouped.ensures)
          (answers g.O.Origin.start c.args.session.now c.split_port-port.new.self c.join_port.new.self c.split_port-port.result c.look_all.new.port c.commit_group-answer.new.port c.args.labels.now c.look_all.new.found.items
          c.split_port-port.ensures.did c.look_all.ensures.did c.look_all.ensures.new c.look_all.ensures.units c.commit_group-answer.ensures.units c.join_port.ensures.did c.commit_group-answer.result c.commit_group-answer.ensures.did);
    }
