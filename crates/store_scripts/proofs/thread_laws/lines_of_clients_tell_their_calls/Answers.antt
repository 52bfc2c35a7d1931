use Rattle.store_scripts.proofs.Tracing.{lines_tell}

pub returns : Rattle.store_scripts.proofs.thread_laws.lines_of_clients_tell_their_calls.Goals.returns
returns _ = lines_tell
