-- What a call on the sides in use has come to. `old` and `new` are the two sides before it and after it, `past` and `past'` their moments,
-- `turn` is what it makes of the bytes that are told, and `answer` says which sides are in use then, and whether the call was done.
use Rattle.std.specs.{Prelude.{◌≡◌, ◌≢◌, ◌⊎◌, ℕ, ◌+◌, ◌≤◌, Bool, true, false, List}, List.slice_range, Option.{ForSome, option_map}}
use Rattle.iso_disk.specs.Disk.{DiskState, Elapses, IsSettled, LeavesOnly, TellsTorn, TornFrom}
use Rattle.counts.specs.Count.{Rose}
use Rattle.mirror_disk.specs.{declared.marks.Marks.Marks, declared.used.Used.Used, declared.used.Used.TheVariants.{Both, Broken, Unbound}, Becoming.Becomes, Failing.{AllFailed, CannotLeave, LeavesFailed}, Standing.{Stands, sides_in, state_by, state_in}}

-- one side, behind its header, in n bytes from `at` on
pub record SideCalled (at n : ℕ) (turn : List ℕ → List ℕ) (old new : DiskState) (done : Bool) : Type 0 where
  pub crash : LeavesOnly old new (TornFrom (64 + at) n old.now)
  pub torn : TellsTorn (64 + at) n old new
  pub did : done ≡ true → Becomes (λ c d. d ≡ turn c) old.contents new.contents
  pub later : old.faults ≤ new.faults
  pub failed : done ≡ false → Rose old.faults new.faults

-- one side that is read from `at` on: of the bytes that are in `into` then, where it was done
pub record SideRead (at len : ℕ) (into : List ℕ) (old new : DiskState) (done : Bool) : Type 0 where
  pub called : SideCalled 0 0 (λ c. c) old new done
  pub contents : new.contents ≡ old.contents
  pub bytes : done ≡ true → ForSome old.contents (λ c. into ≡ slice_range c (64 + at) (64 + at + len))

-- the sides in use
pub record Called {A B : Type 0} (first : A → DiskState) (second : B → DiskState) (marks : Marks) (past past' : List (ℕ × ℕ)) (at n : ℕ) (turn : List ℕ → List ℕ) (old new : A × B) (answer : Used × Bool) : Type 0 where
  pub stands : Stands (first new.0) (second new.1) answer.0 past' marks.epoch marks.first_slot marks.second_slot
  pub crash : (faults faults' binds : ℕ) → Elapses (state_by marks (first old.0) (second old.1) past faults binds) (state_in answer.0 (first new.0) (second new.1) past' faults' binds) (TornFrom at n (state_by marks (first old.0) (second old.1) past faults binds).now)
  pub torn : (faults faults' binds : ℕ) → TellsTorn at n (state_by marks (first old.0) (second old.1) past faults binds) (state_in answer.0 (first new.0) (second new.1) past' faults' binds)
  pub did : answer.1 ≡ true → (faults faults' binds : ℕ) → (state_in answer.0 (first new.0) (second new.1) past' faults' binds).contents ≡ option_map turn (state_by marks (first old.0) (second old.1) past faults binds).contents
  pub bound : answer.1 ≡ true → marks.used ≢ Unbound
  pub goes_on : answer.1 ≡ true → answer.0 ≢ Broken
  pub first_idle : (sides_in marks.used).0 ≡ false → new.0 ≡ old.0
  pub second_idle : (sides_in marks.used).1 ≡ false → new.1 ≡ old.1

-- a call that leaves out a side that fails in it, by the states of the sides: when, and why it fails itself
pub record LeavesOut (marks : Marks) (a b new_a new_b : DiskState) (answer : Used × Bool) : Type 0 where
  pub breaks : answer.1 ≡ false → marks.used ≡ Both → answer.0 ≡ Broken
  pub left : LeavesFailed marks.used answer.0 a.faults new_a.faults b.faults new_b.faults
  pub counted : answer.1 ≡ false → AllFailed marks.used a.faults new_a.faults b.faults new_b.faults ⊎ CannotLeave marks.used marks.epoch a.faults new_a.faults b.faults new_b.faults

-- a write, or a sync
pub record ChangesSides {A B : Type 0} (first : A → DiskState) (second : B → DiskState) (marks : Marks) (past past' : List (ℕ × ℕ)) (at n : ℕ) (turn : List ℕ → List ℕ) (old new : A × B) (answer : Used × Bool) : Type 0 where
  pub called : Called first second marks past past' at n turn old new answer
  pub leaves : LeavesOut marks (first old.0) (second old.1) (first new.0) (second new.1) answer

pub record SyncsSides {A B : Type 0} (first : A → DiskState) (second : B → DiskState) (marks : Marks) (past past' : List (ℕ × ℕ)) (old new : A × B) (answer : Used × Bool) : Type 0 where
  pub changes : ChangesSides first second marks past past' 0 0 (λ c. c) old new answer
  pub settled : answer.1 ≡ true → (faults binds : ℕ) → IsSettled (state_in answer.0 (first new.0) (second new.1) past' faults binds)

-- a read, which leaves no side out: of the bytes that are in `into` then, where it was done
pub record ReadsSides {A B : Type 0} (first : A → DiskState) (second : B → DiskState) (marks : Marks) (past past' : List (ℕ × ℕ)) (at len : ℕ) (into : List ℕ) (old new : A × B) (done : Bool) : Type 0 where
  pub called : Called first second marks past past' 0 0 (λ c. c) old new (marks.used, done)
  pub bytes : done ≡ true → (faults binds : ℕ) → ForSome (state_by marks (first old.0) (second old.1) past faults binds).contents (λ c. into ≡ slice_range c at (at + len))
  pub second_last : marks.used ≡ Both → Rose (first old.0).faults (first new.0).faults ⊎ (new.1 ≡ old.1)
  pub counted : done ≡ false → AllFailed marks.used (first old.0).faults (first new.0).faults (second old.1).faults (second new.1).faults
