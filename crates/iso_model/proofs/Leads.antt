-- The steps of one transaction lead from a sound world to a sound one.
use Rattle.iso_model.proofs.{Words.{◌≡◌, ◌-◌, Bool, true, false, ◌&&◌, ◌==◌, not, cond, length, Option, Some, None, nat_le, nat_lt, refl, AllByRecursion, leb-false, ltb-false, eqb-false, Clash, Mode, LAST, MAX_LIVE, clash, has_write, same_mode, last, after_leaving, begin_step, commit_step, end_step, need, World, Live, Place, used, AreApart, IsLive, IsPlace, IsWorld, LeadsTo}, Worlds.{begins, chosen, commits, leaves, may_have, stays}}
use Rattle.iso_model.specs.declared.core_reply.CoreReply.TheVariants as reply

pub begin_leads : (W : World) (place : Place) (mode : Mode) → IsWorld W → IsPlace place → AllByRecursion (λ u. AreApart u.place place) W.live
    → LeadsTo W (begin_step W place mode).1
unfolding begin_step
begin_leads W place mode is at apart =
    chosen W ((W.geometry.form == 1) && not (same_mode mode W.geometry.mode)) _ _ (stays W is) (λ test.
    chosen W (nat_le MAX_LIVE (length W.live)) _ _ (stays W is) (λ few.
    chosen W (nat_lt LAST W.next) _ _ (stays W is) (λ fresh.
    begins W place mode is (may_have W.geometry mode test) (leb-false MAX_LIVE (length W.live) few) (ltb-false LAST W.next fresh) at apart)))

pub commit_leads : (W : World) (t : Live) (o : Option Clash) → IsWorld W → IsLive W t → has_write t.accesses ≡ true
    → clash W.geometry W.history t.mode t.begin t.accesses ≡ o → LeadsTo W (commit_step W t o).1
unfolding commit_step
commit_leads W t (Some c) is live write found = leaves W t is
commit_leads W t None is live write none =
    chosen W (last W.history == LAST) _ _ (stays W is) (λ unworn.
    chosen W (nat_lt (W.geometry.log - used W) (need W t)) _ _ (stays W is) (λ fits.
    commits W t is live write none (eqb-false (last W.history) LAST unworn) (ltb-false (W.geometry.log - used W) (need W t) fits)))

pub end_leads : (W : World) (t : Live) → IsWorld W → IsLive W t → LeadsTo W (end_step W t).1
unfolding end_step
end_leads W t is live = go (has_write t.accesses) refl
  where
    go : (b : Bool) → has_write t.accesses ≡ b
        → LeadsTo W (cond b (commit_step W t (clash W.geometry W.history t.mode t.begin t.accesses)) (reply.ReadOnly, after_leaving W t)).1
    go true write = commit_leads W t (clash W.geometry W.history t.mode t.begin t.accesses) is live write refl
    go false none = leaves W t is
