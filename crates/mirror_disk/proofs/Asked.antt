-- What a call of one side has come to, and of both.
use Rattle.mirror_disk.proofs.{Words.{◌≡◌, ℕ, ◌+◌, ◌≤◌, Bool, List, length, Result, Ok, Err, OnOk, OnErr, sym, ◌∙◌, ap, arith, DiskState, IsLawful, TellsTorn, Splices, torn_same, length-contents, tells_spliced, Slot, BothAsked, SideCalled, ArePair, AreBoth}, Telling.came_from}

-- a write that was done or failed
pub told_of : {T E : Type 0} (old new : DiskState) (k : ℕ) (bytes : List ℕ) → IsLawful old → k + length bytes ≤ old.size → (r : Result T E) → OnOk r (Splices k bytes old new) → OnErr r (TellsTorn k (length bytes) old new) → TellsTorn k (length bytes) old new
told_of old new k bytes laws fits (Ok x) written failed = tells_spliced old new k bytes written (λ c is. let len = length-contents laws c is in omega (arith, fits, len))
told_of old new k bytes laws fits (Err e) written failed = failed

-- what a call that keeps the contents tells is torn in no byte
pub told_same : (old new : DiskState) (k : ℕ) → new.contents ≡ old.contents → TellsTorn k 0 old new
told_same old new k same = record { told = λ c is. (c, same ∙ is, torn_same k 0 c); untold = λ is. same ∙ is }

pub both_asked : {a b new_a new_b : DiskState} {past : List (ℕ × ℕ)} {e : ℕ} {one two : Slot} {at n : ℕ} {turn : List ℕ → List ℕ} {p q : Bool} → ArePair a b past → AreBoth a b past e one two → SideCalled at n turn a new_a p → SideCalled at n turn b new_b q → BothAsked a b new_a new_b past e one two at n p q
both_asked {a = a} {b = b} {new_a = new_a} {new_b = new_b} {turn = turn} pair both first second = record {
  pair = pair;
  both = both;
  run_a = first.crash;
  run_b = second.crash;
  told_a = first.torn;
  told_b = second.torn;
  agree = λ done done' x y told told'.
      let u = came_from a.contents new_a.contents (first.did done) x told in
      let v = came_from b.contents new_b.contents (second.did done') y told' in
      u.2 ∙ ap turn (both.agree u.0 v.0 u.1 v.1) ∙ sym v.2;
}
