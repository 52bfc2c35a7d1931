use Rattle.par_lines.proofs.{Words.{Geometry, ◌≤◌, ap, limits, subst, sym, ◌∙◌, Ok}, Answering.{aborted, begun, compacted, looked, posted, said, told_numbers, trimmed, upgraded}, Marking.mark_line}
use Rattle.script_model.specs.declared.script.Op.TheVariants as op
use Rattle.par_lines.proofs.client.answer.Goals as goal

pub invariant_of-known : goal.invariant_of-known
invariant_of-known g c = record {
  same = c.requires.geometry;
  valid = c.requires.valid;
  small = subst (λ (h : Geometry). h.block ≤ 4096) (sym c.requires.geometry) (limits g.O.Origin.start.world.geometry c.requires.valid).largest_block;
}

pub returns-in-Begin : goal.returns-in-Begin
returns-in-Begin g c = record { did = said c.in-Begin.is c.begun.ensures (begun g.O.Origin.start _ _ _ c.begin_tx.result c.begin_tx.ensures.did) }

pub returns-in-Abort : goal.returns-in-Abort
returns-in-Abort g c = record { did = said c.in-Abort.is c.aborted.ensures (aborted g.O.Origin.start _ _ c.abort_tx.result c.abort_tx.ensures.did) }

pub returns-in-Mark : goal.returns-in-Mark
returns-in-Mark g c = record { did = said c.in-Mark.is c.accessed.ensures (mark_line g.O.Origin.start _ _ c.args.session.now c.mark_range.new.session c.mark_range.result c.mark_range.ensures.cause c.mark_range.ensures.did) }

pub returns-in-Release : goal.returns-in-Release
returns-in-Release g c = record { did = said (c.in-Release.is ∙ ap (λ l. op.Release l) (sym c.copy.ensures)) c.posted.ensures (posted g.O.Origin.start _ _ _ c.post_tx.result c.post_tx.ensures.did) }

pub returns-in-Takeover : goal.returns-in-Takeover
returns-in-Takeover g c = record { did = said c.in-Takeover.is c.looked.ensures (looked g.O.Origin.start _ _ _ c.look_tx.result c.look_tx.ensures.did) }

pub returns-in-Trim : goal.returns-in-Trim
returns-in-Trim g c = record { did = said c.in-Trim.is c.trimmed.ensures (trimmed g.O.Origin.start _ _ c.trim.ensures.did.0 c.trim.ensures.did.1 c.trim.result c.trim.ensures.did.2 c.trim.ensures.tx) }

pub returns-in-Stat : goal.returns-in-Stat
returns-in-Stat g c = record { did = said c.in-Stat.is (ap (λ r. Ok r) c.numbers.ensures) (told_numbers g.O.Origin.start _ _ c.stat.result c.stat.ensures.did c.stat.ensures.tx) }

pub returns-in-Compact : goal.returns-in-Compact
returns-in-Compact g c = record { did = said c.in-Compact.is c.compacted.ensures (compacted g.O.Origin.start _ _ c.compact.ensures.did.0 c.compact.ensures.did.1 c.compact.result c.compact.ensures.did.2 c.compact.ensures.tx) }

pub returns-in-Upgrade : goal.returns-in-Upgrade
returns-in-Upgrade g c = record { did = said c.in-Upgrade.is c.upgraded.ensures (upgraded g.O.Origin.start _ _ c.upgrade.ensures.did.0 c.upgrade.ensures.did.1 c.upgrade.result c.upgrade.ensures.did.2 c.upgrade.ensures.tx) }
