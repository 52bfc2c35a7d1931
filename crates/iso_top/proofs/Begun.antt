-- The one transaction of a core that had none.
use Rattle.iso_top.proofs.DigestWords.{◌≡◌, ◌≢◌, ◌∙◌, sym, refl, ap, subst, inl, inr, ℕ, ◌+◌, ◌≤◌, Bool, true, false, ◌&&◌, ◌==◌, not, nat_le, List, [], ◌∷◌, ◌++◌, length, Some, Result, Ok, Err, OnOk, cond-false, eq-eqb, le-ltb, Core, IsAmong, IsTx, Refuses, refusal_of, StandsFor, up, DiskState, Mode, Serial, Snapshot, CoreError, LAST, MAX_LIVE, CoreReply, same_mode, last, after_begin, after_leaving, begin_step, World, Live, unattached, without}
use Rattle.iso_model.specs.declared.core_error.CoreError.TheVariants as error
use Rattle.iso_model.specs.declared.core_reply.CoreReply.TheVariants as reply

-- the transaction that began
abbrev pub begun : World → Mode → Live
begun W mode = record { number = W.next; begin = last W.history; mode = mode; accesses = []; place = unattached }

among_last : (t : Live) (live : List Live) → IsAmong t (live ++ t ∷ [])
among_last t [] = inl refl
among_last t (u ∷ live) = inr (among_last t live)

pub is_begun : (W : World) (mode : Mode) (tx : ℕ) → tx ≡ W.next → IsTx (after_begin W unattached mode) tx (begun W mode)
is_begun W mode tx same = record { number = sym same; among = among_last (begun W mode) W.live }

-- once it left, only the next number is another
none_left : (t : Live) (live : List Live) → live ≡ [] → without t.number (live ++ t ∷ []) ≡ live
none_left t [] none = rw (eq-eqb t.number t.number refl) refl
none_left t (u ∷ live) none = cc none

pub left_again : {D : Type 0} (state : D → DiskState) (core : Core D) (W : World) (mode : Mode) → W.live ≡ []
    → StandsFor state core (after_leaving (after_begin W unattached mode) (begun W mode)) up → StandsFor state core (record W { next = W.next + 1 }) up
left_again state core W mode none of =
    subst (λ (live : List Live). StandsFor state core (record W { live = live; next = W.next + 1 }) up) (none_left (begun W mode) W.live none) of

pub on_ok : {A E : Type 0} {P : Type 0} (result : Result A E) → P → OnOk result P
on_ok (Ok x) is = is
on_ok (Err e) is = tt

-- it may begin
own_mode : (mode : Mode) → same_mode mode mode ≡ true
own_mode Serial = refl
own_mode Snapshot = refl

not_other : (form : Bool) (same : Bool) → same ≡ true → (form && not same) ≡ false
not_other true same is = rw is refl
not_other false same is = refl

may_begin : (W : World) → W.live ≡ [] → W.next ≤ LAST → (begin_step W unattached W.geometry.mode).0 ≡ reply.Began (last W.history)
unfolding begin_step
may_begin W none next =
    ap (λ (r : CoreReply × World). r.0)
    (cond-false _ _ _ (not_other (W.geometry.form == 1) (same_mode W.geometry.mode W.geometry.mode) (own_mode W.geometry.mode))
    ∙ cond-false _ _ _ (ap (λ (live : List Live). nat_le MAX_LIVE (length live)) none)
    ∙ cond-false _ _ _ (le-ltb LAST W.next next))

no_refusal : (e : CoreError) (n : ℕ) → refusal_of e ≢ Some (reply.Began n)
no_refusal error.Down n same = cc same
no_refusal error.TooManyTx n same = cc same
no_refusal (error.LogFull need free) n same = cc same
no_refusal error.Disk n same = cc same
no_refusal error.Memory n same = cc same
no_refusal (error.Worn at) n same = cc same
no_refusal error.ModeFixed n same = cc same

-- where it does not, memory was wanting
pub only_memory : (W : World) (e : CoreError) → W.live ≡ [] → W.next ≤ LAST → Refuses (begin_step W unattached W.geometry.mode).0 e → e ≡ error.Memory
only_memory W e none next (inl memory) = memory
only_memory W e none next (inr refused) = absurd (no_refusal e (last W.history) (refused ∙ ap (λ (r : CoreReply). Some r) (may_begin W none next)))
