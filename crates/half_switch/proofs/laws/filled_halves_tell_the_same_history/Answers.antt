use Rattle.half_switch.proofs.Forms.{refilled_history}

pub returns : Rattle.half_switch.proofs.laws.filled_halves_tell_the_same_history.Goals.returns
returns _ = refilled_history
