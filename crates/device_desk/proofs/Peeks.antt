-- Reads that are no accesses.
use Rattle.iso_machine.proofs.Words.{◌≡◌, ◌∙◌, sym, refl, ap, ℕ, ◌<◌, ◌≤◌, Bool, true, false, cond, drop, take, length, arith, nat_le, nat_tests, Some, Option, Result, Ok, Err, IfErr, Reply, Stop, World, Live, Doing, MAX_ACCESSES, attached, get_access, get_step, in_transaction, is_outside, shown_to, step, with_access, IsWorkOf}
use Rattle.iso_machine.proofs.Accesses.{get_is}
use Rattle.script_model.specs.declared.script.Op.TheVariants as op
use Rattle.script_model.specs.declared.script.Reply.TheVariants as reply
use Rattle.device_desk.specs.Peeked.{peek_reply, peeked}

-- where nothing refuses it
pub peek_is : (W : World) (t : Live) (block off len : ℕ) → block < W.geometry.blocks → is_outside W.geometry.block off len ≡ false → peek_reply W t block off len ≡ reply.Shown (take len (drop off (shown_to W t block)))
peek_is W t block off len inside right = let u : nat_le W.geometry.blocks block ≡ false = grind (arith, nat_tests) in rw (u, right) refl

pub bad_block : (W : World) (t : Live) (block off len : ℕ) → W.geometry.blocks ≤ block → peek_reply W t block off len ≡ reply.BadBlock
bad_block W t block off len outside = let u : nat_le W.geometry.blocks block ≡ true = grind (arith, nat_tests) in rw u refl

pub bad_range : (W : World) (t : Live) (block off len : ℕ) → block < W.geometry.blocks → is_outside W.geometry.block off len ≡ true → peek_reply W t block off len ≡ reply.BadRange
bad_range W t block off len inside wrong = let u : nat_le W.geometry.blocks block ≡ false = grind (arith, nat_tests) in rw (u, wrong) refl

shows_same : (W V : World) (answer : Reply) (outside wrong many : Bool) → many ≡ false
    → (cond {A = Reply × World} outside (reply.BadBlock, W) (cond wrong (reply.BadRange, W) (cond many (reply.TooManyAccesses, W) (answer, V)))).0 ≡ cond outside reply.BadBlock (cond wrong reply.BadRange answer)
shows_same W V answer true wrong many few = refl
shows_same W V answer false true many few = refl
shows_same W V answer false false true few = absurd (cc few)
shows_same W V answer false false false few = refl

-- a get is answered so, where the transaction may make one more access
pub get_shows : (W : World) (number block off len : ℕ) (t : Live) → attached W number ≡ Some t → length t.accesses < MAX_ACCESSES → (step W number (op.Get block off len)).0 ≡ (peeked W number block off len).0
unfolding step
get_shows W number block off len t is few =
    ap (λ (p : Option Live). (in_transaction W p (λ u. get_step W u block off len)).0) is ∙ ap (λ (x : Reply × World). x.0) (get_is W t block off len)
    ∙ shows_same W (with_access W t (get_access block off len)) (reply.Shown (take len (drop off (shown_to W t block)))) (nat_le W.geometry.blocks block) (is_outside W.geometry.block off len) (nat_le MAX_ACCESSES (length t.accesses))
    (grind (arith, nat_tests))
    ∙ sym (ap (λ (p : Option Live). (in_transaction W p (λ u. (peek_reply W u block off len, W))).0) is)

-- the work is that of the transaction, settled or not
pub settled_work : (W : World) (t : Live) (old new : Doing) (settled : Bool) → IsWorkOf W t old → new ≡ record old { settled = settled } → IsWorkOf W t new
settled_work W t old new settled work is = record {
  begin = ap (λ (w : Doing). w.begin) is ∙ work.begin;
  mode = ap (λ (w : Doing). w.mode) is ∙ work.mode;
  size = ap (λ (w : Doing). w.size) is ∙ work.size;
  blocks = ap (λ (w : Doing). w.blocks) is ∙ work.blocks;
  accesses = ap (λ (w : Doing). w.accesses) is ∙ work.accesses;
}

-- what holds in any case holds after an error
pub on_any : {P : Type 0} (result : Result Reply Stop) → P → IfErr result (λ why. P)
on_any (Ok r) is = tt
on_any (Err e) is = is
