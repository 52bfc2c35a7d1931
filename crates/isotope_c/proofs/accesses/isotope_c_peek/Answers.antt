use Rattle.std.proofs.Common.{◌≡◌, sym, subst, ℕ, ℤ, SFits, rules, w32, of_z, to_z, to_z-of_z}
use Rattle.iso_machine.specs.Answering.{Always}
use Rattle.device_desk.specs.Peeked.{peeked}
use Rattle.isotope_c.specs.{Exports.Steps, Told.shown}
use Rattle.isotope_c.proofs.Serving.{stepped}
use Rattle.isotope_c.proofs.accesses.isotope_c_peek.Goals as goal

pub returns-clause-peeks : goal.returns-clause-peeks
returns-clause-peeks c =
    let fits : SFits w32 c.show.result = search rules in
    let told : (to_z w32 (of_z w32 c.show.result), c.show.new.into) ≡ shown c.args.into.now c.peek-answer.result =
    subst (λ (s : ℤ). (s, c.show.new.into) ≡ shown c.args.into.now c.peek-answer.result) (sym (to_z-of_z fits)) c.show.ensures in
    subst (λ (n : ℕ). Steps c.args.slot.now c.put.new.slot Always (λ W. peeked W c.args.tx c.args.block c.args.off n) (λ W answer. (to_z w32 (of_z w32 c.show.result), c.show.new.into) ≡ shown c.args.into.now answer)) c.length_asked-len.ensures
    (stepped c.args.slot.now c.put.new.slot c.take_open-instance.ensures.there c.deref_mut.ensures.value c.in-Open.is c.put.ensures {given = λ W. peeked W c.args.tx c.args.block c.args.off c.length_asked-len.result}
    c.peek-answer.ensures.did c.peek-answer.ensures.down (λ W stands. told) (λ W down. told))
