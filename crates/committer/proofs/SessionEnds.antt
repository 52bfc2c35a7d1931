-- What an end together with others leaves of the session.
use Rattle.std.proofs.Common.{◌≡◌, ℕ, Result, Ok, Err, ap, inl, inr}
use Rattle.iso_model.specs.declared.access.{EndReply.EndReply, GroupReply.GroupReply}
use Rattle.iso_shared.specs.States.{Start}
use Rattle.handle_pass.specs.{declared.errors.EndError.EndError, Calls.HasEnded, Sessions.SessionState}
use Rattle.handle_pass.specs.declared.errors.EndError.TheVariants as end
use Rattle.committer.specs.Together.{HasEndedBeside, HasEndedWith}

-- its device and its units
by_itself : (A : Start) (s : SessionState) (old new : ℕ) (own : Result EndReply EndError) (t : SessionState) → HasEnded A s old own t new → (t.device ≡ s.device) × (t.units ≡ s.units)
by_itself A s old new (Ok reply) t did = (did.3.of, did.3.units)
by_itself A s old new (Err end.NotInTx) t did = (ap (λ (u : SessionState). u.device) did.1, ap (λ (u : SessionState). u.units) did.1)
by_itself A s old new (Err (end.Core why)) t did = (did.5.of, did.5.units)

beside : (A : Start) (s : SessionState) (r : Result GroupReply EndError) (t : SessionState) → HasEndedBeside A s r t → (t.device ≡ s.device) × (t.units ≡ s.units)
beside A s (Ok reply) t did = (did.3.of, did.4)
beside A s (Err end.NotInTx) t did = (ap (λ (u : SessionState). u.device) did.1, ap (λ (u : SessionState). u.units) did.1)
beside A s (Err (end.Core why)) t did = (did.1.stays.of, did.1.units)

pub ended_same : (A : Start) (s : SessionState) (r : Result GroupReply EndError) (t : SessionState) → HasEndedWith A s r t → (t.device ≡ s.device) × (t.units ≡ s.units)
ended_same A s r t (inl did) = by_itself A s did.0 did.1 did.2 t did.3
ended_same A s r t (inr did) = beside A s r t did
