use Rattle.version_read.proofs.Fetched.{fetched, newest}

pub returns-clause-upto : Rattle.version_read.proofs.laws.blocks_are_those_of_the_half.Goals.returns-clause-upto
returns-clause-upto _ = λ g x t n b index image block has is le below long. fetched g x image has t n b index block is below long le

pub returns-clause-newest : Rattle.version_read.proofs.laws.blocks_are_those_of_the_half.Goals.returns-clause-newest
returns-clause-newest _ = λ g x t n b index pieces image block has is late below long. newest g x image has t n b index block is below long pieces late
