use Rattle.iso_shared.proofs.{Words.{◌<◌, ℕ, ◌∙◌, sym, subst, AreTouched, Mode}, Begins.some_size, NoClash.{never, unwritten}}
use Rattle.std.proofs.lemmas.Bool.{OnTrue_at, OnTrue_from}
use Rattle.iso_model.specs.Conflict.{guarded}
use Rattle.iso_shared.specs.Ports.{CannotClash}

pub returns-then-is_empty : Rattle.iso_shared.proofs.ahead.clashes_never.Goals.returns-then-is_empty
returns-then-is_empty c =
    unwritten c.args.work.now c.writes.result.now (subst (λ (k : ℕ). 0 < k) c.block_size.ensures.size (some_size _ c.block_size.ensures.valid)) c.requires.within c.writes.ensures c.if-is_empty.ensures.none

pub returns-in-Serial : Rattle.iso_shared.proofs.ahead.clashes_never.Goals.returns-in-Serial
returns-in-Serial c =
    let work = c.args.work.now in
    let bytes = c.reads.result.now in
    OnTrue_from c.is_empty-in-Serial.result (CannotClash work) (λ is.
    never work bytes (subst (λ (m : Mode). AreTouched work.size work.blocks (guarded m) work.accesses bytes) (sym c.in-Serial.is ∙ c.mode.ensures) c.reads.ensures) (OnTrue_at is c.is_empty-in-Serial.ensures.none))
