-- Calls that leave a disk's bytes as they were, one after the other.
use Rattle.kept_disk.proofs.Words.{⊎_elim, inl, inr, refl, ◌∙◌, arith, DiskState, Elapses}

-- no call
pub still : (d : DiskState) → Elapses d d d.now
still d = record {
  same_size = refl;
  same_bound = refl;
  same_binds = refl;
  later = omega arith;
  after = λ c image. image;
  during = λ t c le left. inl left;
  keeps = λ t c le left. left;
}

-- one more call
pub further : {old mid new : DiskState} → Elapses old mid old.now → Elapses mid new mid.now → Elapses old new old.now
further first second = record {
  same_size = second.same_size ∙ first.same_size;
  same_bound = second.same_bound ∙ first.same_bound;
  same_binds = second.same_binds ∙ first.same_binds;
  later = omega (arith, first.later, second.later);
  after = λ c image. first.after c (second.after c image);
  during = λ t c le left. ⊎_elim (λ was. first.during t c le was) (λ image. inr (first.after c image)) (second.during t c (omega (arith, le, first.later)) left);
  keeps = λ t c le left. second.keeps t c (omega (arith, le, first.later)) (first.keeps t c le left);
}
