use Rattle.version_read.proofs.{Words.{◌∙◌, ap, Array, block_at, half_of}, Fetched.{array_of, fetched, last_of, newest}}

pub returns-clause-upto : Rattle.version_read.proofs.laws.blocks_are_those_of_the_history.Goals.returns-clause-upto
returns-clause-upto _ = λ g at generation base t n b H index image block history since has is from le below long over.
    fetched g (half_of g at generation base H) image has t n b index block is below long le over
    ∙ ap (λ (A : Array). block_at A b) (array_of g at generation base n H history since from)

pub returns-clause-newest : Rattle.version_read.proofs.laws.blocks_are_those_of_the_history.Goals.returns-clause-newest
returns-clause-newest _ = λ g at generation base t n b H index pieces image block history since has is from late below long same over.
    newest g (half_of g at generation base H) image has t n b index block is below long pieces (last_of g at generation base n H history since from late) same over
    ∙ ap (λ (A : Array). block_at A b) (array_of g at generation base n H history since from)
