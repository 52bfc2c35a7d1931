-- How an end goes, step by step.
use Rattle.iso_core.proofs.{Words.{◌≡◌, sym, refl, ap, true, false, Option, Some, None, ℕ, DiskState, Clash, clash, has_write, after_leaving, commit_step, end_step, World, Live, without, Doing, Kept, IsTx, AreOf, Becomes, IsSettledOf, MayCommit, CoreReply, subst, up}, Standings.stands_as}
use Rattle.iso_model.specs.declared.core_reply.CoreReply.TheVariants as reply

module _ (W : World) (t : Live) where
  pub ends_read_only : has_write t.accesses ≡ false → end_step W t ≡ (reply.ReadOnly, after_leaving W t)
  unfolding end_step
  ends_read_only none = rw none refl

  pub ends_by : (found : Option Clash) → has_write t.accesses ≡ true → found ≡ clash W.geometry W.history t.mode t.begin t.accesses → end_step W t ≡ commit_step W t found
  unfolding end_step
  ends_by found write is = rw write (ap (commit_step W t) (sym is))

  pub ends_in_conflict : (c : Clash) → has_write t.accesses ≡ true → Some c ≡ clash W.geometry W.history t.mode t.begin t.accesses → end_step W t ≡ (reply.Conflict c, after_leaving W t)
  unfolding commit_step
  ends_in_conflict c write is = ends_by (Some c) write is

-- the core without the transaction, where its end takes it out alone
pub left_so : (d : DiskState) (kept new : Kept) (W : World) (t : Live) {r : CoreReply} → end_step W t ≡ (r, after_leaving W t) → AreOf d kept W up → Becomes kept new (after_leaving W t)
    → ((end_step W t).0 ≡ r) × AreOf d new (end_step W t).1 up
left_so d kept new W t step of is = (
  ap (λ (x : CoreReply × World). x.0) step,
  subst (λ (x : CoreReply × World). AreOf d new x.1 up) (sym step) (stands_as d kept new W up (without t.number W.live) W.next W.trim of (record { of = is.of; half = is.half; down = is.down })),
)

-- a transaction that has a write and no clash may commit
pub may_commit : (W : World) (tx : ℕ) (t : Live) (work : Doing) → IsTx W tx t → IsSettledOf W t work → has_write t.accesses ≡ true
    → None ≡ clash W.geometry W.history t.mode t.begin t.accesses → MayCommit W tx t work
may_commit W tx t work here settled write none = record { here = here; settled = settled; write = write; none = sym none }
