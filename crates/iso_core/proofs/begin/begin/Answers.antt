use Rattle.iso_core.proofs.{Words.{◌≡◌, ◌∙◌, sym, ap, ◌<◌, ◌≤◌, ◌+◌, [], ◌∷◌, ◌++◌, length, arith, subst, unwrap_or, Geometry, Mode, LAST, MAX_LIVE, last, after_begin, begin_step, mode_named, unattached, all_weaker, may_have, refl, Becomes}, Begins.{begins_so, fixed, is_begun, is_fixed, is_full, is_worn}, Numbers.log_last, Stats.live_is, Transactions.kept_before}
use Rattle.iso_model.specs.declared.core_reply.CoreReply.TheVariants as reply
use Rattle.iso_core.proofs.begin.begin.Goals as goal

pub returns-then-is_refused-clause-refused : goal.returns-then-is_refused-clause-refused
returns-then-is_refused-clause-refused c W of = grind (arith, fixed, is_fixed)

pub enter-requires : goal.enter-requires
enter-requires c = grind (arith, log_last, kept_before, all_weaker)

pub returns-then-len-ge-MAX_LIVE-clause-refused : goal.returns-then-len-ge-MAX_LIVE-clause-refused
returns-then-len-ge-MAX_LIVE-clause-refused c W of = grind (arith, fixed, live_is, is_full)

pub returns-then-kept-gt-LAST-clause-refused : goal.returns-then-kept-gt-LAST-clause-refused
returns-then-kept-gt-LAST-clause-refused c W of = grind (arith, fixed, live_is, is_worn)

pub returns-clause-begun : goal.returns-clause-begun
returns-clause-begun c W of =
    let kept = c.args.kept.now in
    let mode : Mode = c.unwrap_or-mode.result in
    let named : mode ≡ mode_named W c.args.mode = c.unwrap_or-mode.ensures ∙ ap (λ (g : Geometry). unwrap_or c.args.mode g.mode) of.keeps.geometry in
    let test = sym (fixed kept W mode of c.is_refused.result c.is_refused.ensures) ∙ c.if-is_refused.false in
    let at : c.last-at.result ≡ last W.history = c.last-at.ensures ∙ log_last kept W of.world of.keeps in
    let few : length W.live < MAX_LIVE = omega (arith, c.if-len-ge-MAX_LIVE.false, c.len.ensures, live_is kept W of) in
    let fresh : W.next ≤ LAST = omega (arith, c.if-kept-gt-LAST.false, of.keeps.next) in
    let entered : c.enter.new.self ≡ kept.live ++ (kept.next, record { at = kept.log.last; mode = mode }) ∷ [] =
    c.in_default.ensures.ok ∙ (λ i. kept.live ++ (kept.next, record { at = c.last-at.ensures i; mode = mode }) ∷ []) in (
      of.keeps.next,
      named,
      subst (λ (m : Mode). (begin_step W unattached m).0 ≡ reply.Began c.last-at.result) named (is_begun kept W mode of test few fresh ∙ ap reply.Began (sym at)),
      subst (λ (m : Mode). Becomes kept (record kept { live = c.enter.new.self; next = kept.next + 1 }) (after_begin W unattached m)) named
          (record { of = begins_so kept W mode c.enter.new.self of (may_have W.geometry mode test) few fresh entered; half = refl; down = refl }),
    )
