use Rattle.std.proofs.Common.{◌≡◌, sym, subst, ℤ, SFits, rules, w32, of_z, to_z, to_z-of_z}
use Rattle.isotope_c.specs.Told.{waited_told}
use Rattle.isotope_c.proofs.Serving.{waited}
use Rattle.isotope_c.proofs.ending.isotope_c_end_waiting.Goals as goal

pub returns-clause-ends : goal.returns-clause-ends
returns-clause-ends c places most =
    let fits : SFits w32 c.waited_told.result = search rules in
    let told : (to_z w32 (of_z w32 c.waited_told.result), c.waited_told.new.places) ≡ waited_told c.args.ended.now c.end_waiting-waited.result.replies.items c.end_waiting-waited.result.stop =
    subst (λ (s : ℤ). (s, c.waited_told.new.places) ≡ waited_told c.args.ended.now c.end_waiting-waited.result.replies.items c.end_waiting-waited.result.stop) (sym (to_z-of_z fits)) c.waited_told.ensures in
    waited c.args.slot.now c.put.new.slot c.take_open-instance.ensures.there c.deref_mut.ensures.value c.in-Open.is c.put.ensures c.end_waiting-waited.ensures.did c.end_waiting-waited.ensures.down told
