-- What is told of answers.
use Rattle.std.proofs.Math.Nat.{min-eq_left}
use Rattle.std.proofs.Common.{List, ◌≤◌, eq-eqb, ◌≡◌, ◌∙◌, ◌-◌, sym, ap, arith, refl, subst, ℕ, ℤ, pos, Option, None, Some, Result, Ok, Err, IfOk, length, option_map, SFits, w32, to_z, of_z, to_z-of_z}
use Rattle.iso_model.specs.{declared.access.Geometry.Geometry, declared.limits.TheConstants.MAX_ACCESSES, History.last, Versions.versions, World.{Live, World}}
use Rattle.iso_model.specs.World.{used as bytes_used}
use Rattle.script_model.specs.{Step.numbers, declared.script.Reply.Reply, declared.stop.Stop.Stop}
use Rattle.script_model.specs.declared.script.Reply.TheVariants as reply
use Rattle.script_model.specs.declared.stop.Stop.TheVariants as stop
use Rattle.device_desk.specs.Oldest.{oldest_of}
use Rattle.isotope_c.specs.Told.{begun, code, counts, length_asked, number_in, room_told, shown}
use Rattle.iso_machine.specs.Accessing.{IsFilled, with_bytes}

-- the transaction's number is told where one has begun alone
pub begun_same : (a b tx at : ℕ) (answer : Result Reply Stop) → ((n : ℕ) → answer ≡ Ok (reply.Began n) → a ≡ b) → begun a tx at answer ≡ begun b tx at answer
begun_same a b tx at (Ok (reply.Began n)) same = ap (λ (m : ℕ). begun m tx at (Ok (reply.Began n))) (same n refl)
begun_same a b tx at (Ok r) same = refl
begun_same a b tx at (Err why) same = refl

-- so too where the status comes back from memory
pub begun_told : {status : ℤ} → SFits w32 status → (number next tx at : ℕ) {new_tx new_at : ℕ} (answer : Result Reply Stop) → (status, (new_tx, new_at)) ≡ begun number tx at answer
    → ((n : ℕ) → answer ≡ Ok (reply.Began n) → number ≡ next) → (to_z w32 (of_z w32 status), (new_tx, new_at)) ≡ begun next tx at answer
begun_told {status = status} fits number next tx at {new_tx = new_tx} {new_at = new_at} answer told same =
    subst (λ (s : ℤ). (s, (new_tx, new_at)) ≡ begun next tx at answer) (sym (to_z-of_z fits)) (told ∙ begun_same number next tx at answer same)

-- an answer whose status is 0 is a reply
pub replied : {P : Type 0} (answer : Result Reply Stop) {r : Reply} → code answer ≡ pos 0 → P → IfOk answer (λ s. P → s ≡ r) → answer ≡ Ok r
replied (Ok s) done p given = ap Ok (given p)
replied (Err stop.Down) done p given = grind arith
replied (Err stop.Disk) done p given = grind arith
replied (Err stop.Memory) done p given = grind arith

-- the room of a transaction is told, where there is one
pub room_is : (was : ℕ) (t : Option Live) {n : ℕ} → Some n ≡ option_map (λ t. MAX_ACCESSES - length t.accesses) t → (pos 0, n) ≡ room_told was t
room_is was (Some t) same = ap (λ (m : ℕ). (pos 0, m)) (cc same)
room_is was None same = absurd (cc same)

pub no_room : (was : ℕ) (t : Option Live) → None ≡ option_map (λ t. MAX_ACCESSES - length t.accesses) t → (pos 23, was) ≡ room_told was t
no_room was (Some t) same = absurd (cc same)
no_room was None same = refl

-- the counts that a reply has, with the log's size, the form and who holds the floor, are those of the world
pub counts_told : (W : World) {n base trim live used versions : ℕ} {g : Geometry} {first : Option ℕ} → reply.Numbers n base trim live used versions ≡ numbers W → g ≡ W.geometry
    → first ≡ option_map (λ t. t.number) (oldest_of W)
    → record { last = n; base = base; trim = trim; versions = versions; oldest = number_in first; live = live; used = used; log = g.log; form = g.form } ≡ counts W
unfolding numbers
counts_told W {n = n} {base = base} {trim = trim} {live = live} {used = used} {versions = kept} {g = g} {first = first} told sizes oldest =
    let a : n ≡ last W.history = cc told in
    let b : base ≡ W.base = cc told in
    let c : trim ≡ W.trim = cc told in
    let d : live ≡ length W.live = cc told in
    let e : used ≡ bytes_used W = cc told in
    let f : kept ≡ versions W = cc told in
    λ i. record { last = a i; base = b i; trim = c i; versions = f i; oldest = number_in (oldest i); live = d i; used = e i; log = (sizes i).log; form = (sizes i).form }

-- all is asked for where the slice is no longer than a number
pub all_asked : (into : List ℕ) → length into ≤ 4294967295 → length into ≡ length_asked into
all_asked into most = sym (min-eq_left most)

-- what is told of a read into a slice is what is told of an answer that shows its bytes
pub told_into : (answer : Result Reply Stop) (old new : List ℕ) → IsFilled answer old new → (code answer, new) ≡ shown old (with_bytes answer new)
told_into (Ok reply.Done) old new filled = rw (eq-eqb (length new) (length old) filled) refl
told_into (Ok (reply.Shown bytes)) old new filled = absurd filled
told_into (Ok r) old new filled = ap (λ (l : List ℕ). (code (Ok r), l)) filled
told_into (Err why) old new filled = ap (λ (l : List ℕ). (code (Err why), l)) filled
