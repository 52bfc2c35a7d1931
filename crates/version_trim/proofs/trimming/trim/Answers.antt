-- What is dropped shows nothing from the floor on.
use Rattle.std.proofs.Common.{sym, subst, List}
use Rattle.mv_index.{specs.declared.version.Version.Version, specs.Shown.ShowTheSame, specs.Versions.{upto, versions_in}, proofs.Layers.since_same}

pub returns-clause-same : Rattle.version_trim.proofs.trimming.trim.Goals.returns-clause-same
returns-clause-same c b n from =
    subst (λ (l : List Version). ShowTheSame (upto n l) (upto n (versions_in c.args.index.now b))) (sym (c.trim_to.ensures.kept b))
    (λ image p. since_same image c.args.floor n p (versions_in c.args.index.now b) from)
