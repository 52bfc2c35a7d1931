use Rattle.std.proofs.Common.{◌∙◌, List, Option, ℕ, ap, length, sym}
use Rattle.iso_model.{specs.Effect.effects_from, proofs.Lookups.length-effects}
use Rattle.merge_write.specs.Patch.{laid}
use Rattle.device_desk.proofs.Own.{held_here, laid_is, none_held, nothing_laid}
use Rattle.device_desk.proofs.peek.lay_own.Goals as goal

pub over-requires : goal.over-requires
over-requires c =
    let size = c.args.work.now.size in
    let effects : List (Option ℕ) = effects_from c.args.work.now.accesses c.args.block 0 size in
    let here = held_here size c.args.block c.in-Some.at c.in-Some.patch.now effects c.loop-at.at-iterator c.next.new.self c.in-Some.ensures.steps c.if-at-block.true c.loop-at.invariant.2 in
    ap length c.loop-at.invariant.3 ∙ c.requires.bytes ∙ sym (ap length here ∙ length-effects c.args.work.now.accesses c.args.block 0 size)

pub returns-then-at-block : goal.returns-then-at-block
returns-then-at-block c A is =
    let size = c.args.work.now.size in
    let effects : List (Option ℕ) = effects_from c.args.work.now.accesses c.args.block 0 size in
    let here = held_here size c.args.block c.in-Some.at c.in-Some.patch.now effects c.loop-at.at-iterator c.next.new.self c.in-Some.ensures.steps c.if-at-block.true c.loop-at.invariant.2 in
    laid_is A c.args.work.now.accesses c.args.block size c.args.into.now c.over.new.into c.requires.accesses is c.requires.bytes (c.over.ensures ∙ (λ i. laid (here i) (c.loop-at.invariant.3 i)))

pub returns : goal.returns
returns c A is =
    let size = c.args.work.now.size in
    let effects : List (Option ℕ) = effects_from c.args.work.now.accesses c.args.block 0 size in
    c.loop-at.invariant.3
    ∙ laid_is A c.args.work.now.accesses c.args.block size c.args.into.now c.args.into.now c.requires.accesses is c.requires.bytes
    (nothing_laid size effects c.args.into.now (none_held size c.args.block effects c.loop-at.at-iterator c.in-None.ensures.steps.0 c.loop-at.invariant.2) c.requires.bytes)
