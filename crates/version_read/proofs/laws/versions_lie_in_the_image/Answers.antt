use Rattle.version_read.proofs.{Words.{Lies, image_size, no_version, upto, versions_in, all_at}, Lying.{all_lie, all_upto, base_lies}}

pub returns-clause-all : Rattle.version_read.proofs.laws.versions_lie_in_the_image.Goals.returns-clause-all
returns-clause-all _ = λ g first at t b told index half are room has. all_at (Lies g.block (image_size g)) no_version (versions_in index b) (all_lie g first at t b told index half are room has)

pub returns-clause-upto : Rattle.version_read.proofs.laws.versions_lie_in_the_image.Goals.returns-clause-upto
returns-clause-upto _ = λ g first at t n b told index half are room has.
    all_at (Lies g.block (image_size g)) no_version (upto n (versions_in index b)) (all_upto (Lies g.block (image_size g)) n (versions_in index b) (all_lie g first at t b told index half are room has))

pub returns-clause-base : Rattle.version_read.proofs.laws.versions_lie_in_the_image.Goals.returns-clause-base
returns-clause-base _ = base_lies
