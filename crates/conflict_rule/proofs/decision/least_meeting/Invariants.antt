-- What is known of what is left is known of all.
use Rattle.conflict_rule.proofs.Words.{◌+◌, ◌≤◌, length, Option, Clash, above, IsLeastMeeting}

abbrev pub invariant-loop-commit : Rattle.conflict_rule.proofs.decision.least_meeting.Given.invariant-loop-commit
invariant-loop-commit g l = record {
  all : (found : Option Clash) → IsLeastMeeting l.bytes l.rest found → IsLeastMeeting l.bytes (above l.upto l.notes.notes) found;
  steps : l.steps + length l.rest ≤ l.initial.steps + length (above l.upto l.notes.notes);
}

abbrev pub decreases-loop-commit : Rattle.conflict_rule.proofs.decision.least_meeting.Given.decreases-loop-commit
decreases-loop-commit g l = length l.rest
