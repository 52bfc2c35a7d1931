-- Each place of a legal list has a sound world.
use Rattle.accounts.proofs.SumWords.{all_apart_nowhere, ◌≡◌, refl, subst, ℕ, ◌==◌, ◌&&◌, Bool, true, false, not, cond, List, [], ◌∷◌, length, Some, None, nat_le, nat_lt, arith, AllByRecursion, Access, last, Live, World, IsWorld, Entry, IsLegal, Start, State, state_at, limits, begin_leads, end_leads, group_leads, leads_on, leaves, stays, switch_leads, trim_leads, Mode, CoreReply, LAST, MAX_LIVE, same_mode, leave_all, after_begin, after_leaving, after_switch, begin_step, switch_step, unattached, IsLive, LeadsTo, ends_so, loose_is, Call, Cause, Member, AreLoose, Fits, LegalFrom, MayHaveMade, after, after_all, after_fault, after_refusal, is_live, live_of, member_numbers, members_of, opened, tx_of, txs_of, live_is}
use Rattle.iso_model.specs.declared.core_reply.CoreReply.TheVariants as reply
use Rattle.iso_shared.specs.declared.entry.Call.TheVariants as call
use Rattle.iso_shared.specs.declared.entry.Cause.TheVariants as cause
use Rattle.iso_shared.specs.declared.entry.Entry.TheVariants as entry

begun_world : (W : World) (mode : Mode) (at : ℕ) → (begin_step W unattached mode).0 ≡ reply.Began at → (begin_step W unattached mode).1 ≡ after_begin W unattached mode
unfolding begin_step
begun_world W mode at e = by ((W.geometry.form == 1) && not (same_mode mode W.geometry.mode)) (nat_le MAX_LIVE (length W.live)) (nat_lt LAST W.next) e
  where
    by : (x y z : Bool) → (let r : CoreReply × World = cond x (reply.ModeFixed, W) (cond y (reply.TooManyTx, W) (cond z (reply.Worn, W) (reply.Began (last W.history), after_begin W unattached mode))) in (r.0 ≡ reply.Began at) → r.1 ≡ after_begin W unattached mode)
    by true y z e = absurd (cc e)
    by false true z e = absurd (cc e)
    by false false true e = absurd (cc e)
    by false false false e = refl

switched_world : (W : World) (form : ℕ) → (switch_step W form reply.Done).0 ≡ reply.Done → (switch_step W form reply.Done).1 ≡ after_switch W form
unfolding switch_step
switched_world W form e = by (W.generation == LAST) e
  where
    by : (b : Bool) → (let r : CoreReply × World = cond b (reply.Worn, W) (reply.Done, after_switch W form) in (r.0 ≡ reply.Done) → r.1 ≡ after_switch W form)
    by true e = absurd (cc e)
    by false e = refl

number_by : (n : ℕ) (t u : Live) (live b : Bool) → (t.number == n) ≡ b → (live ≡ true → u.number ≡ n) → cond b true live ≡ true → (cond b t u).number ≡ n
number_by n t u live true is later here = Rattle.std.proofs.Common.eqb-true t.number n is
number_by n t u live false is later here = later here

number_is : (n : ℕ) (live : List Live) → is_live n live ≡ true → (live_of n live).number ≡ n
number_is n [] is = absurd (cc is)
number_is n (t ∷ live) is = number_by n t (live_of n live) (is_live n live) (t.number == n) refl (number_is n live) is

-- a live transaction with accesses that it may have made
pub may_end : (W : World) (n : ℕ) (accesses : List Access) → IsWorld W → is_live n W.live ≡ true → MayHaveMade W accesses → IsLive W (tx_of W n accesses)
may_end W n accesses is live may =
    let l : IsLive W (live_of n W.live) = live_is (IsLive W) n W.live is.live live in
    let number = l.number in
    record { accesses = may.each; count = may.count; since = l.since; begin = l.begin; mode = l.mode; number = omega (arith, number_is n W.live live, number); place = tt }

leaves_all : (txs : List Live) (W : World) → IsWorld W → LeadsTo W (leave_all txs W)
leaves_all [] W is = stays W is
leaves_all (t ∷ txs) W is = let one = leaves W t is in leads_on W (after_leaving W t) (leave_all txs (after_leaving W t)) one (leaves_all txs (after_leaving W t) one.world)

-- so are the members of a group
pub may_end_all : (S : State) (members : List Member) → IsWorld S.world → AreLoose (member_numbers members) S → AllByRecursion (λ m. MayHaveMade S.world m.accesses) members
    → AllByRecursion (IsLive S.world) (txs_of S.world members)
may_end_all S [] is loose may = tt
may_end_all S (m ∷ members) is loose may = (may_end S.world m.number m.accesses is (loose_is m.number S loose.0).0 may.0, may_end_all S members is loose.1 may.1)

sound_fault : (S : State) (c : Call) (now : ℕ) → IsWorld S.world → IsWorld (after_fault S c now).world
sound_fault S (call.End n accesses) now is = (leaves S.world (tx_of S.world n accesses) is).world
sound_fault S (call.EndGroup members) now is = (leaves_all (txs_of S.world members) S.world is).world
sound_fault S x now is = is

sound_refusal : (S : State) (c : Call) (why : Cause) → IsWorld S.world → IsWorld (after_refusal S c why).world
sound_refusal S c (cause.Disk before now) is = sound_fault S c now is
sound_refusal S c why is = is

pub sound_next : (S : State) (e : Entry) → IsWorld S.world → Fits S e → IsWorld (after S e).world
sound_next S (entry.Begin n at mode) is fits =
    subst IsWorld (begun_world S.world mode at fits.answers.2) (begin_leads S.world unattached mode is tt (all_apart_nowhere S.world.live)).world
sound_next S (entry.Fetch n block bytes) is fits = is
sound_next S (entry.End n accesses r) is fits =
    subst IsWorld (ends_so S.world n accesses r fits.answers.2)
    (end_leads S.world (tx_of S.world n accesses) is (may_end S.world n accesses is (loose_is n S fits.takes.0).0 fits.answers.1)).world
sound_next S (entry.EndGroup ends) is fits =
    (group_leads S.world (txs_of S.world (members_of ends)) is (may_end_all S (members_of ends) is fits.takes fits.answers.1.each)).world
sound_next S (entry.Abort n) is fits = (leaves S.world (tx_of S.world n []) is).world
sound_next S (entry.Trim n) is fits = (trim_leads S.world is).world
sound_next S (entry.Compact n) is fits =
    let most = (limits S.world.geometry is.valid).largest_form in
    subst IsWorld (switched_world S.world S.world.geometry.form fits.answers.2) (switch_leads S.world S.world.geometry.form reply.Done is (omega arith) most).world
sound_next S (entry.Upgrade n) is fits =
    let most = (limits S.world.geometry is.valid).largest_form in
    subst IsWorld (switched_world S.world 2 fits.answers.2) (switch_leads S.world 2 reply.Done is most (omega arith)).world
sound_next S (entry.Stat numbers) is fits = is
sound_next S (entry.Post n text accesses) is fits = is
sound_next S (entry.Look text found) is fits = is
sound_next S (entry.Sweep None) is fits = is
sound_next S (entry.Sweep (Some n)) is fits = (leaves S.world (tx_of S.world n []) is).world
sound_next S (entry.Recent n upto) is fits = is
sound_next S (entry.Refused c why) is fits = sound_refusal S c why is

sound_from : (S : State) (es : List Entry) → IsWorld S.world → LegalFrom S es → IsWorld (after_all S es).world
sound_from S [] is legal = is
sound_from S (e ∷ es) is legal = sound_from (after S e) es (sound_next S e is legal.0) legal.1

pub sound_at : (A : Start) (es : List Entry) → IsWorld A.world → IsLegal A es → IsWorld (state_at A es).world
sound_at A es is legal = sound_from (opened A) es is legal
