-- Words that ask for what is there.
use Rattle.command_line.proofs.Words.{◌≡◌, [], ◌∷◌, Some, refl, codes, IsFalse, clap_on_literals, Text, Par, Recover, Run, rows_found, request_of, task_of, begins_with_hyphen}

pub run_opens : (program image : Text) → IsFalse (begins_with_hyphen image) → request_of (program ∷ codes "run" ∷ image ∷ []) ≡ Some (image, Run)
unfolding clap_on_literals request_of rows_found task_of
run_opens program [] plain = refl
run_opens program (b ∷ image) plain = rw plain (rw plain refl)

pub par_opens : (program image : Text) → IsFalse (begins_with_hyphen image) → request_of (program ∷ codes "par" ∷ image ∷ []) ≡ Some (image, Par)
unfolding clap_on_literals request_of rows_found task_of
par_opens program [] plain = refl
par_opens program (b ∷ image) plain = rw plain (rw plain refl)

pub recover_opens : (program image : Text) → IsFalse (begins_with_hyphen image) → request_of (program ∷ codes "recover" ∷ image ∷ []) ≡ Some (image, Recover)
unfolding clap_on_literals request_of rows_found task_of
recover_opens program [] plain = refl
recover_opens program (b ∷ image) plain = rw plain (rw plain refl)
