use Rattle.mv_index.proofs.{Words.shown_since, Layers.{newest_kept, same_newest, since_same}}

pub returns-clause-from_there : Rattle.mv_index.proofs.laws.dropped_versions_show_nothing.Goals.returns-clause-from_there
returns-clause-from_there _ = λ t n versions le image p. since_same image t n p versions le

pub returns-clause-all : Rattle.mv_index.proofs.laws.dropped_versions_show_nothing.Goals.returns-clause-all
returns-clause-all _ = λ t versions. same_newest (shown_since t versions) versions (λ p. newest_kept t p versions)
