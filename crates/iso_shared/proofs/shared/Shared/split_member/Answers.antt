use Rattle.iso_shared.proofs.{Words.{view, ap, ◌∙◌}, HandedBack.{parts_one, split_holds}}
use Rattle.iso_shared.proofs.shared.Shared.split_member.Goals as goal

pub returns-clause-parts : goal.returns-clause-parts
returns-clause-parts g c =
    parts_one c.args.self.now c.args.tx.now _ _ _ _ c.args.port.now _ c.split-pass.ensures c.join.ensures c.replace-note.ensures.value c.replace-note.ensures.after c.requires

pub returns-clause-holds : goal.returns-clause-holds
returns-clause-holds g c =
    let bare = ap (λ p. (view p).holds) c.replace-note.ensures.value ∙ c.requires.group.0.bare.1 in
    split_holds c.args.tx.now.number (view c.args.port.now.pass) (view c.split-pass.new.pass) (view c.replace-note.result) (view c.join.new.pass) c.split-pass.ensures.kept bare c.join.ensures.view_is
