use Rattle.iso_model.proofs.{Words.{◌∙◌, refl}, Bytes.{put_here, put_kept, other_block, length-put, length-block_put}}
use Rattle.iso_model.proofs.laws.put_writes_what_it_covers.Goals as goal

pub returns-clause-covered : goal.returns-clause-covered
returns-clause-covered c = λ A w p same inside has. put_here A w p same inside ∙ rw has refl

pub returns-clause-not_covered : goal.returns-clause-not_covered
returns-clause-not_covered c = put_kept

pub returns-clause-other_blocks : goal.returns-clause-other_blocks
returns-clause-other_blocks c = other_block

pub returns-clause-blocks : goal.returns-clause-blocks
returns-clause-blocks c = length-put

pub returns-clause-bytes : goal.returns-clause-bytes
returns-clause-bytes c = length-block_put
