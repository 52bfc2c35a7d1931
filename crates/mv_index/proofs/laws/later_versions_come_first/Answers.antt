use Rattle.mv_index.proofs.Layers.{byte_in-append}

pub returns : Rattle.mv_index.proofs.laws.later_versions_come_first.Goals.returns
returns _ = byte_in-append
