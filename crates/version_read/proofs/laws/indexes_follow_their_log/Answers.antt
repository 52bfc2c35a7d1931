use Rattle.version_read.proofs.Following.{index_more, index_moved, index_split, index_trimmed}

pub returns-clause-more : Rattle.version_read.proofs.laws.indexes_follow_their_log.Goals.returns-clause-more
returns-clause-more _ = index_more

pub returns-clause-trimmed : Rattle.version_read.proofs.laws.indexes_follow_their_log.Goals.returns-clause-trimmed
returns-clause-trimmed _ = index_trimmed

pub returns-clause-moved : Rattle.version_read.proofs.laws.indexes_follow_their_log.Goals.returns-clause-moved
returns-clause-moved _ = λ g first place t k to later told old new are has. index_moved g first place t k told old are has to later new

pub returns-clause-split : Rattle.version_read.proofs.laws.indexes_follow_their_log.Goals.returns-clause-split
returns-clause-split _ = λ g first place t k b told index are has. index_split g first place t k told index are has b
