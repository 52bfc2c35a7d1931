-- An end, by what the core answers.
use Rattle.iso_machine.proofs.{Words.{none_behind, ◌≡◌, sym, refl, ap, subst, ℕ, ◌+◌, ◌-◌, ◌≤◌, ◌==◌, Bool, true, false, cond, Option, Some, None, IsSome, Err, ◌⊎◌, inl, inr, nat_lt, arith, false≢true, up_to, Clash, EndReply, CoreError, LAST, CoreReply, as_step, clash, has_write, last, after_commit, after_leaving, commit_step, end_step, need, in_transaction, step, World, Live, attached, used, without, IsLive, IsWorld, all_weaker, IsAmong, IsCheckedOf, Writes, refusal_of, reply_of, among}, Refusals.{IsRefusal, KeepsRefused, keeps_either}}
use Rattle.iso_model.specs.declared.access.EndReply.TheVariants as ended
use Rattle.iso_model.specs.declared.core_error.CoreError.TheVariants as error
use Rattle.script_model.specs.declared.script.Op.TheVariants as op
use Rattle.iso_model.specs.declared.core_reply.CoreReply.TheVariants as reply

-- nothing was checked ahead
pub nothing_ahead : (W : World) (t : Live) (begin : ℕ) → IsWorld W → IsAmong t W.live → begin ≡ t.begin → IsCheckedOf W t (record { upto = begin; clash = None })
nothing_ahead W t begin is there same = record {
  from = omega (arith, same);
  to = omega (arith, same, among (λ u. u.begin ≤ last W.history) (λ u le. le) (λ u le. le) t W.live (all_weaker (IsLive W) (λ u. u.begin ≤ last W.history) (λ u live. live.begin) W.live is.live) there);
  clash = subst (λ (n : ℕ). None ≡ clash W.geometry (up_to W.history begin) t.mode n t.accesses) same (none_behind W.geometry W.history t.mode t.accesses begin);
}

-- an end that is refused leaves the world
commit_keeps : (W : World) (t : Live) (o : Option Clash) → KeepsRefused W (commit_step W t o)
unfolding commit_step
commit_keeps W t (Some c) = λ r. absurd r
commit_keeps W t None =
    keeps_either W (last W.history == LAST) (reply.Worn, W) _ (λ r. refl)
    (keeps_either W (nat_lt (W.geometry.log - used W) (need W t)) (reply.LogFull (need W t) (W.geometry.log - used W), W) (reply.Committed (last W.history + 1), after_commit W t)
    (λ r. refl) (λ r. absurd r))

pub end_keeps : (W : World) (t : Live) → KeepsRefused W (end_step W t)
unfolding end_step
end_keeps W t =
    keeps_either W (has_write t.accesses) (commit_step W t (clash W.geometry W.history t.mode t.begin t.accesses)) (reply.ReadOnly, after_leaving W t)
    (commit_keeps W t (clash W.geometry W.history t.mode t.begin t.accesses)) (λ r. absurd r)

-- after any other end the transaction is gone
pub record IsGone (W : World) (t : Live) (V : World) : Type 0 where
  pub live : V.live ≡ without t.number W.live
  pub geometry : V.geometry ≡ W.geometry

abbrev IsGoneUnless : World → Live → CoreReply × World → Type 0
IsGoneUnless W t given = ¬ IsRefusal given.0 → IsGone W t given.1

either : (W : World) (t : Live) (test : Bool) (x y : CoreReply × World) → IsGoneUnless W t x → IsGoneUnless W t y → IsGoneUnless W t (cond test x y)
either W t true x y first second = first
either W t false x y first second = second

commit_goes : (W : World) (t : Live) (o : Option Clash) → IsGoneUnless W t (commit_step W t o)
unfolding commit_step
commit_goes W t (Some c) = λ r. record { live = refl; geometry = refl }
commit_goes W t None =
    either W t (last W.history == LAST) (reply.Worn, W) _ (λ r. absurd (r tt))
    (either W t (nat_lt (W.geometry.log - used W) (need W t)) (reply.LogFull (need W t) (W.geometry.log - used W), W) (reply.Committed (last W.history + 1), after_commit W t)
    (λ r. absurd (r tt)) (λ r. record { live = refl; geometry = refl }))

end_goes : (W : World) (t : Live) → IsGoneUnless W t (end_step W t)
unfolding end_step
end_goes W t =
    either W t (has_write t.accesses) (commit_step W t (clash W.geometry W.history t.mode t.begin t.accesses)) (reply.ReadOnly, after_leaving W t)
    (commit_goes W t (clash W.geometry W.history t.mode t.begin t.accesses)) (λ r. record { live = refl; geometry = refl })

no_refusal : (r : EndReply) → ¬ IsRefusal (reply_of r)
no_refusal (ended.Committed number) is = is
no_refusal ended.ReadOnly is = is
no_refusal (ended.Conflict clash) is = is

pub has_gone : (W : World) (t : Live) (r : EndReply) → (end_step W t).0 ≡ reply_of r → IsGone W t (end_step W t).1
has_gone W t r is = end_goes W t (subst (λ (x : CoreReply). ¬ IsRefusal x) (sym is) (no_refusal r))

-- an end that is refused writes nothing
pub unwritten : {D : Type 0} (old new : D) (e : CoreError) → IsSome (refusal_of e) → Writes (Err e) ⊎ (new ≡ old) → new ≡ old
unwritten old new e some (inr is) = is
unwritten old new error.Disk some (inl wrote) = absurd (false≢true some)
unwritten old new e some (inl wrote) = absurd wrote

pub unwritten_for_memory : {D : Type 0} {old new : D} (e : CoreError) → e ≡ error.Memory → Writes (Err e) ⊎ (new ≡ old) → new ≡ old
unwritten_for_memory e wants (inr is) = is
unwritten_for_memory e wants (inl wrote) = absurd (subst (λ (x : CoreError). Writes (Err x)) wants wrote)

-- by who is attached to the client
pub end_is : (W : World) (c : ℕ) (o : Option Live) → attached W c ≡ o → step W c op.End ≡ in_transaction W o (λ t. as_step (end_step W t))
unfolding step
end_is W c o is = ap (λ (p : Option Live). in_transaction W p (λ t. as_step (end_step W t))) is
