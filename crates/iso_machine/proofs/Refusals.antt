-- Answers where a call of the core is refused.
use Rattle.iso_machine.proofs.{Words.{◌≡◌, ◌≢◌, ◌∙◌, ◌⊎◌, inl, inr, sym, refl, ap, subst, ℕ, List, Bool, true, false, cond, Err, Ok, None, Some, IsSome, arith, DiskState, IsLawful, LeavesOnly, StaysTold, started, CoreError, CoreReply, as_reply, as_step, last, Shows, World, Refuses, ShowsEither, ShowsLast, Stop, Answers, answer_to}, Accesses.same_but_shown, Quiet.no_reply}
use Rattle.iso_model.specs.declared.core_error.CoreError.TheVariants as error
use Rattle.iso_model.specs.declared.core_reply.CoreReply.TheVariants as reply
use Rattle.script_model.specs.declared.stop.Stop.TheVariants as stop
use Rattle.iso_core.specs.Calls as core

-- a reply that represents an error of a core
abbrev pub IsRefusal : CoreReply → Type 0
IsRefusal reply.TooManyTx = Unit {0}
IsRefusal (reply.LogFull need free) = Unit {0}
IsRefusal reply.Worn = Unit {0}
IsRefusal reply.ModeFixed = Unit {0}
IsRefusal r = ⊥

-- a refusal leaves the world as it was
abbrev pub KeepsRefused : World → CoreReply × World → Type 0
KeepsRefused W given = IsRefusal given.0 → given.1 ≡ W

-- what a core promises of a call that it refuses
pub record Refused (stands : World → Type 0) (old new : DiskState) (W : World) (given : CoreReply × World) (e : CoreError) : Type 0 where
  pub is : (e ≡ error.Disk) ⊎ Refuses given.0 e
  pub keeps : KeepsRefused W given
  pub same : e ≢ error.Disk → stands W
  pub told : IsSome (core.refusal_of e) → StaysTold old new
  pub moments : LeavesOnly old new (ShowsEither W given.1)
  pub unmade : e ≡ error.Memory → LeavesOnly old new (ShowsLast W)
  pub cause : core.BlamesDisk {T = Unit {0}} old.faults new.faults (Err e)

module _ {goes_on : Stop → Type 0} {stands : World → Type 0} {old new : DiskState} {W : World} {given : CoreReply × World} (fails : goes_on stop.Disk → stands W) where
  replied : (e : CoreError) (r : CoreReply) → Refused stands old new W given e → Some r ≡ core.refusal_of e → e ≢ error.Disk → r ≡ given.0 → IsRefusal r → Answers goes_on stands old new W (as_step given) (Ok (as_reply r))
  replied e r of some other is refusal = record {
    reply = λ told. ap as_reply is;
    but_shown = same_but_shown (as_reply r) (as_reply given.0) (ap as_reply is);
    told = λ told. of.told (subst IsSome some refl) told;
    world = subst stands (sym (of.keeps (subst IsRefusal is refusal))) (of.same other);
    moments = of.moments;
    unmade = λ e. absurd (cc e);
    up = λ e. absurd (cc e);
    cause = record { later = of.cause.later; failed = λ e. absurd (cc e); passed = of.cause.other other; memory = λ e. absurd (cc e) };
    stopped = tt;
  }

  pub refused : (e : CoreError) → Refused stands old new W given e → Answers goes_on stands old new W (as_step given) (answer_to e)
  refused e of = go e of of.is
    where
      go : (e : CoreError) → Refused stands old new W given e → (e ≡ error.Disk) ⊎ Refuses given.0 e → Answers goes_on stands old new W (as_step given) (answer_to e)
      go error.Down of (inl is) = absurd (cc is)
      go error.Down of (inr (inl is)) = absurd (cc is)
      go error.Down of (inr (inr is)) = absurd (cc is)
      go error.Disk of is =
          no_reply of.moments (λ e. absurd (cc e)) (λ e. absurd (cc e)) (record { later = of.cause.later; failed = λ e. of.cause.failed refl; passed = tt; memory = λ e. absurd (cc e) }) fails
      go error.Memory of is =
          no_reply of.moments (λ e. of.unmade refl) (λ e. absurd (cc e)) (record { later = of.cause.later; failed = λ e. absurd (cc e); passed = tt; memory = λ e. of.cause.other (λ e. cc e) }) (λ may. of.same (λ e. cc e))
      go error.TooManyTx of (inl is) = absurd (cc is)
      go error.TooManyTx of (inr (inl is)) = absurd (cc is)
      go error.TooManyTx of (inr (inr is)) = replied error.TooManyTx reply.TooManyTx of refl (λ e. cc e) (cc is) tt
      go (error.LogFull need free) of (inl is) = absurd (cc is)
      go (error.LogFull need free) of (inr (inl is)) = absurd (cc is)
      go (error.LogFull need free) of (inr (inr is)) = replied (error.LogFull need free) (reply.LogFull need free) of refl (λ e. cc e) (cc is) tt
      go (error.Worn at) of (inl is) = absurd (cc is)
      go (error.Worn at) of (inr (inl is)) = absurd (cc is)
      go (error.Worn at) of (inr (inr is)) = replied (error.Worn at) reply.Worn of refl (λ e. cc e) (cc is) tt
      go error.ModeFixed of (inl is) = absurd (cc is)
      go error.ModeFixed of (inr (inl is)) = absurd (cc is)
      go error.ModeFixed of (inr (inr is)) = replied error.ModeFixed reply.ModeFixed of refl (λ e. cc e) (cc is) tt

-- an error that is refused as the model refuses is no fault of the disk
not_disk : (r : CoreReply) (e : CoreError) → Refuses r e → e ≢ error.Disk
not_disk r e (inl memory) disk = cc (memory, disk)
not_disk r e (inr some) disk = absurd (none_is_not_some (ap core.refusal_of (sym disk) ∙ some))
  where
    none_is_not_some : None ≡ Some r → ⊥
    none_is_not_some is = cc is

-- a call that is refused, and leaves the disk as it was
pub refused_still : {goes_on : Stop → Type 0} {stands : World → Type 0} {d : DiskState} → IsLawful d → {W : World} → ((c : List ℕ) → d.now c → Shows c W.geometry W.history (last W.history)) → {given : CoreReply × World} (e : CoreError)
    → Refuses given.0 e → KeepsRefused W given → stands W → Answers goes_on stands d d W (as_step given) (answer_to e)
refused_still laws {W = W} here {given = given} e is keeps same = refused (λ may. same) e (record {
  is = inr is;
  keeps = keeps;
  same = λ other. same;
  told = λ some told. told;
  moments = started laws (λ c image. inl (here c image));
  unmade = λ e. started laws here;
  cause = record { later = omega arith; failed = λ disk. absurd (not_disk given.0 e is (cc disk)); passed = tt; other = λ other. refl };
})

-- an error is none of what the call answers otherwise
pub blames : {T : Type 0} {before now : ℕ} (e : CoreError) → core.BlamesDisk {T = T} before now (Err e) → core.BlamesDisk {T = Unit {0}} before now (Err e)
blames e cause = record { later = cause.later; failed = λ disk. cause.failed (ap Err (cc disk)); passed = tt; other = cause.other }

-- of two answers, each of which leaves the world where it is a refusal
pub keeps_either : (W : World) (test : Bool) (x y : CoreReply × World) → KeepsRefused W x → KeepsRefused W y → KeepsRefused W (cond test x y)
keeps_either W true x y first second = first
keeps_either W false x y first second = second
