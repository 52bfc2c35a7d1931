-- How what a crash may leave goes on over a run of calls.
use Rattle.std.proofs.{Common.{◌≡◌, ◌≤◌, inl, inr, ⊎_elim, ℕ, List, Some, refl, sym, ◌∙◌, ap, subst, arith}, lemmas.Option.same_Some}
use Rattle.iso_disk.specs.Disk.{DiskState, IsLawful, IsSettled, Elapses, LeavesOnly, WritesNothing, SinceBind, IsBoundTo}

-- before the first call, where each image of this moment has P
pub started : {d : DiskState} {P : List ℕ → Type 0} → IsLawful d → ((c : List ℕ) → d.now c → P c) → LeavesOnly d d P
started laws here = record {
  same_size = refl;
  same_bound = refl;
  same_binds = refl;
  later = omega arith;
  each = λ c since. here c (laws.only_now c since);
  before = λ t c le since. inl since;
  keeps = λ t c le since. since;
}

-- one call more, whose images have P
pub goes_on : {old mid new : DiskState} {P images : List ℕ → Type 0} → LeavesOnly old mid P → Elapses mid new images → ((c : List ℕ) → images c → P c) → LeavesOnly old new P
goes_on {old = old} so_far call here = record {
  same_size = call.same_size ∙ so_far.same_size;
  same_bound = call.same_bound ∙ so_far.same_bound;
  same_binds = call.same_binds ∙ so_far.same_binds;
  later = omega (arith, so_far.later, call.later);
  each = λ c since. ⊎_elim (so_far.each c) (here c) (call.during old.clock c so_far.later since);
  before = λ t c le since. ⊎_elim (so_far.before t c le) (λ image. inr (here c image)) (call.during t c (omega (arith, le, so_far.later)) since);
  keeps = λ t c le since. call.keeps t c (omega (arith, le, so_far.later)) (so_far.keeps t c le since);
}

-- one call alone
pub called : {old new : DiskState} {P images : List ℕ → Type 0} → IsLawful old → Elapses old new images → ((c : List ℕ) → old.now c → P c) → ((c : List ℕ) → images c → P c) → LeavesOnly old new P
called laws call here there = goes_on (started laws here) call there

-- two runs, one after the other
pub joined : {old mid new : DiskState} {P : List ℕ → Type 0} → LeavesOnly old mid P → LeavesOnly mid new P → LeavesOnly old new P
joined {old = old} first second = record {
  same_size = second.same_size ∙ first.same_size;
  same_bound = second.same_bound ∙ first.same_bound;
  same_binds = second.same_binds ∙ first.same_binds;
  later = omega (arith, first.later, second.later);
  each = λ c since. ⊎_elim (first.each c) (λ p. p) (second.before old.clock c first.later since);
  before = λ t c le since. ⊎_elim (first.before t c le) inr (second.before t c (omega (arith, le, first.later)) since);
  keeps = λ t c le since. second.keeps t c (omega (arith, le, first.later)) (first.keeps t c le since);
}

-- what has P has Q
pub weakened : {old new : DiskState} {P Q : List ℕ → Type 0} → LeavesOnly old new P → ((c : List ℕ) → P c → Q c) → LeavesOnly old new Q
weakened run implies = record {
  same_size = run.same_size;
  same_bound = run.same_bound;
  same_binds = run.same_binds;
  later = run.later;
  each = λ c since. implies c (run.each c since);
  before = λ t c le since. ⊎_elim inl (λ p. inr (implies c p)) (run.before t c le since);
  keeps = run.keeps;
}

-- the images that a crash may leave at the end of a run are among those of its moments
pub at_end : {old new : DiskState} {P : List ℕ → Type 0} → IsLawful new → LeavesOnly old new P → (c : List ℕ) → new.now c → P c
at_end {old = old} laws run c image = run.each c (laws.counts_now old.clock c run.later image)

-- a run that writes nothing, before its first call
pub starts_unwritten : {d : DiskState} → IsLawful d → WritesNothing d d
starts_unwritten laws = record { same_contents = refl; moments = started laws (λ c image. image) }

-- one call more that writes nothing, as a read or a sync
pub goes_on_unwritten : {old mid new : DiskState} → IsLawful mid → WritesNothing old mid → new.contents ≡ mid.contents → Elapses mid new mid.now → WritesNothing old new
goes_on_unwritten laws so_far contents_are call = record {
  same_contents = contents_are ∙ so_far.same_contents;
  moments = goes_on so_far.moments call (at_end laws so_far.moments);
}

-- a run that writes nothing leaves what had P
pub lasts : {old mid new : DiskState} {P : List ℕ → Type 0} → IsLawful mid → LeavesOnly old mid P → WritesNothing mid new → LeavesOnly old new P
lasts laws so_far still = joined so_far (weakened still.moments (at_end laws so_far))

-- two runs that write nothing
pub joined_unwritten : {old mid new : DiskState} → IsLawful mid → WritesNothing old mid → WritesNothing mid new → WritesNothing old new
joined_unwritten laws first second = record {
  same_contents = second.same_contents ∙ first.same_contents;
  moments = lasts laws first.moments second;
}

-- one call more that writes nothing leaves what had P
pub goes_on_still : {old mid new : DiskState} {P : List ℕ → Type 0} → IsLawful mid → LeavesOnly old mid P → Elapses mid new mid.now → LeavesOnly old new P
goes_on_still laws so_far call = goes_on so_far call (at_end laws so_far)

-- over a run that writes nothing, what each image had at its start it has all the time
pub stays : {old new : DiskState} {P : List ℕ → Type 0} → WritesNothing old new → ((c : List ℕ) → old.now c → P c) → LeavesOnly old new P
stays still here = weakened still.moments here

-- a disk that was settled is settled after a run that writes nothing
pub stays_settled : {old new : DiskState} → IsLawful new → WritesNothing old new → IsSettled old → IsSettled new
stays_settled laws still settled c image = still.same_contents ∙ settled c (at_end laws still.moments c image)

-- the images left since an earlier moment, over a run whose images have P
pub since : {old new : DiskState} {P : List ℕ → Type 0} (t : ℕ) → t ≤ old.clock → LeavesOnly old new P → ((c : List ℕ) → old.left t c → P c) → (c : List ℕ) → new.left t c → P c
since t le run before c left = ⊎_elim (before c) (λ p. p) (run.before t c le left)

-- over a run that began when the disk was bound
pub since_bind : {old new : DiskState} {P : List ℕ → Type 0} (name : List ℕ) → old.bound ≡ Some (old.clock, name) → LeavesOnly old new P → SinceBind new P
since_bind {old = old} {new = new} name bound run moment is c left =
    let same = same_Some (old.clock, name) moment (sym bound ∙ sym run.same_bound ∙ is) in
    run.each c (subst (λ (t : ℕ). new.left t c) (sym (ap (λ (m : ℕ × List ℕ). m.0) same)) left)

-- the name stays
pub still_bound : {old new : DiskState} {P : List ℕ → Type 0} (name : List ℕ) → LeavesOnly old new P → IsBoundTo name old → IsBoundTo name new
still_bound name run (t, bound) = (t, run.same_bound ∙ bound)
