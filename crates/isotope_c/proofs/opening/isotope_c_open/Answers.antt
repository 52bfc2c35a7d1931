use Rattle.std.proofs.Common.{◌≡◌, ◌∙◌, sym, ap, pos, rules, subst, List, Option, Some, SFits, w32, to_z-of_z, ℕ, ℤ}
use Rattle.iso_model.specs.Image.{Shows}
use Rattle.isotope_c.specs.{declared.instance.Instance.Instance, declared.slot.Slot.Slot, Exports.{HasReopened, bytes_in}, Instances.laid_in}
use Rattle.isotope_c.proofs.Made.{never_done, no_refusal}
use Rattle.isotope_c.proofs.opening.isotope_c_open.Goals as goal

-- the bytes that were taken out are those that were laid
laid_is : (s : Slot) {boxed held : Instance} {bytes b : List ℕ} → s.inner.instance ≡ Some boxed → held ≡ boxed → laid_in (Some held) ≡ Some bytes → bytes_in s ≡ Some b → b ≡ bytes
laid_is s {bytes = bytes} {b = b} there value taken laid =
    let same : Some b ≡ Some bytes = sym laid ∙ (ap laid_in there ∙ (ap (λ (i : Instance). laid_in (Some i)) (sym value) ∙ taken)) in
    cc same

pub returns-in-Ok-clause-shown : goal.returns-in-Ok-clause-shown
returns-in-Ok-clause-shown c b g H p laid shows ok =
    let same : b ≡ c.bytes_of-bytes.result.items = laid_is c.args.slot.now c.take_laid-instance.ensures.there c.deref_mut.ensures.value c.bytes_of-bytes.ensures laid in
    subst (λ (i : Option Instance). HasReopened i g H p) (sym c.put.ensures) (c.in-Ok.ensures.shown g H p (subst (λ (x : List ℕ). Shows x g H p) same shows))

pub returns-in-Err-clause-opens : goal.returns-in-Err-clause-opens
returns-in-Err-clause-opens c b g H p laid shows =
    let fits : SFits w32 c.code_of_open.result = search rules in
    let same : b ≡ c.bytes_of-bytes.result.items = laid_is c.args.slot.now c.take_laid-instance.ensures.there c.deref_mut.ensures.value c.bytes_of-bytes.ensures laid in
    subst (λ (s : ℤ). (s ≡ pos 26 → ⊥) × (s ≡ pos 35 → ⊥)) (sym (to_z-of_z fits ∙ c.code_of_open.ensures))
    (no_refusal c.in-Err.error (c.in-Err.ensures.opens g H p (subst (λ (x : List ℕ). Shows x g H p) same shows)))

pub returns-in-Err-clause-opened : goal.returns-in-Err-clause-opened
returns-in-Err-clause-opened c b laid done =
    let fits : SFits w32 c.code_of_open.result = search rules in
    absurd (never_done c.in-Err.error (sym c.code_of_open.ensures ∙ (sym (to_z-of_z fits) ∙ done)))

pub returns-in-Err-clause-shown : goal.returns-in-Err-clause-shown
returns-in-Err-clause-shown c b g H p laid shows done =
    let fits : SFits w32 c.code_of_open.result = search rules in
    absurd (never_done c.in-Err.error (sym c.code_of_open.ensures ∙ (sym (to_z-of_z fits) ∙ done)))
