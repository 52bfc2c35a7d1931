-- A begin, by what the core answers.
use Rattle.iso_machine.proofs.{Words.{tests_passed, ◌≡◌, ◌≢◌, ◌∙◌, sym, refl, ap, ℕ, Bool, true, false, cond, ◌==◌, ◌&&◌, not, length, nat_le, nat_lt, Option, IsTrue, and_parts, Geometry, Mode, LAST, MAX_LIVE, CoreReply, as_step, is_block_size, is_valid, same_mode, last, after_begin, begin_step, mode_named, out_of_transaction, step, World, Live, Place, attached, client}, Refusals.{KeepsRefused, keeps_either}}
use Rattle.script_model.specs.declared.script.Op.TheVariants as op
use Rattle.iso_model.specs.declared.core_reply.CoreReply.TheVariants as reply

-- the reply does not depend on the place
same_either : (W : World) (test : Bool) (r : CoreReply) (x y : CoreReply × World) → x.0 ≡ y.0 → (cond test (r, W) x).0 ≡ (cond test (r, W) y).0
same_either W true r x y is = refl
same_either W false r x y is = is

pub begins_alike : (W : World) (p q : Place) (mode : Mode) → (begin_step W p mode).0 ≡ (begin_step W q mode).0
unfolding begin_step
begins_alike W p q mode =
    same_either W ((W.geometry.form == 1) && not (same_mode mode W.geometry.mode)) reply.ModeFixed _ _
    (same_either W (nat_le MAX_LIVE (length W.live)) reply.TooManyTx _ _
    (same_either W (nat_lt LAST W.next) reply.Worn _ _ refl))

-- a begin that is refused leaves the world
pub begin_keeps : (W : World) (place : Place) (mode : Mode) → KeepsRefused W (begin_step W place mode)
unfolding begin_step
begin_keeps W place mode =
    keeps_either W ((W.geometry.form == 1) && not (same_mode mode W.geometry.mode)) (reply.ModeFixed, W) _ (λ r. refl)
    (keeps_either W (nat_le MAX_LIVE (length W.live)) (reply.TooManyTx, W) _ (λ r. refl)
    (keeps_either W (nat_lt LAST W.next) (reply.Worn, W) (reply.Began (last W.history), after_begin W place mode) (λ r. refl) (λ r. absurd r)))

-- one that is not refused
next_of : (test : Bool) (W : World) (refusal : CoreReply) (next : CoreReply × World) (n : ℕ) → refusal ≢ reply.Began n → (cond test (refusal, W) next).0 ≡ reply.Began n → cond test (refusal, W) next ≡ next
next_of true W refusal next n other is = absurd (other is)
next_of false W refusal next n other is = refl

pub has_begun : (W : World) (place : Place) (mode : Mode) (n : ℕ) → (begin_step W place mode).0 ≡ reply.Began n → begin_step W place mode ≡ (reply.Began n, after_begin W place mode)
unfolding begin_step
has_begun W place mode n is =
    let first = next_of ((W.geometry.form == 1) && not (same_mode mode W.geometry.mode)) W reply.ModeFixed _ n (λ e. cc e) is in
    let second = next_of (nat_le MAX_LIVE (length W.live)) W reply.TooManyTx _ n (λ e. cc e) (sym (ap (λ (x : CoreReply × World). x.0) first) ∙ is) in
    let third = next_of (nat_lt LAST W.next) W reply.Worn (reply.Began (last W.history), after_begin W place mode) n (λ e. cc e) (sym (ap (λ (x : CoreReply × World). x.0) (first ∙ second)) ∙ is) in
    let all = first ∙ second ∙ third in
    let at : reply.Began (last W.history) ≡ reply.Began n = sym (ap (λ (x : CoreReply × World). x.0) all) ∙ is in
    all ∙ ap (λ (r : CoreReply). (r, after_begin W place mode)) at

pub began_at : (W : World) (place : Place) (mode : Mode) (n : ℕ) → (begin_step W place mode).0 ≡ reply.Began n → n ≡ last W.history
unfolding begin_step
began_at W place mode n is =
    let first = next_of ((W.geometry.form == 1) && not (same_mode mode W.geometry.mode)) W reply.ModeFixed _ n (λ e. cc e) is in
    let second = next_of (nat_le MAX_LIVE (length W.live)) W reply.TooManyTx _ n (λ e. cc e) (sym (ap (λ (x : CoreReply × World). x.0) first) ∙ is) in
    let third = next_of (nat_lt LAST W.next) W reply.Worn (reply.Began (last W.history), after_begin W place mode) n (λ e. cc e) (sym (ap (λ (x : CoreReply × World). x.0) (first ∙ second)) ∙ is) in
    let at : reply.Began (last W.history) ≡ reply.Began n = sym (ap (λ (x : CoreReply × World). x.0) (first ∙ second ∙ third)) ∙ is in
    cc at

-- by who is attached to the client
pub begin_is : (W : World) (c : ℕ) (mode : Option Mode) (o : Option Live) → attached W c ≡ o → step W c (op.Begin mode) ≡ out_of_transaction W o (as_step (begin_step W (client c) (mode_named W mode)))
unfolding step
begin_is W c mode o is = ap (λ (p : Option Live). out_of_transaction W p (as_step (begin_step W (client c) (mode_named W mode)))) is

-- the size of a block, the first of the tests that a valid geometry passes
front : (a b : Bool) → IsTrue (a && b) → IsTrue a
front a b both = (and_parts a b both).0

pub valid_block : (g : Geometry) → IsTrue (is_valid g) → IsTrue (is_block_size g.block)
valid_block g valid = (tests_passed g valid).block
