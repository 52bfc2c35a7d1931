use Rattle.std.proofs.Common.{◌∙◌, sym, ap, refl, subst, ℕ, Some, replicate}
use Rattle.isotope_c.specs.{declared.instance.Instance.Instance, Exports.HasMade}
use Rattle.device_desk.specs.Device.{disk_under}
use Rattle.isotope_c.proofs.{Made.named, Serving.same_file}
use Rattle.isotope_c.proofs.instance.made.Goals as goal

pub returns-in-Ok-new : goal.returns-in-Ok-new
returns-in-Ok-new c = subst (λ (i : Instance). HasMade (Some i) c.args.geometry.now) (sym c.in-Ok-new.ensures.ok) (record {
  now = c.in-Ok-create.desk;
  there = refl;
  made = record {
    blank = c.new.result;
    zeros = c.new.ensures.given ∙ (c.in-Ok.ensures ∙ ap (λ (n : ℕ). replicate n 0) c.image_size.ensures);
    untouched = c.new.ensures.calls;
    file = same_file (disk_under c.in-Ok-create.desk) c.new.result c.in-Ok-create.ensures.moments.same_bound ∙ named c.new.result c.new.ensures.handed (c.new.ensures.given ∙ (c.in-Ok.ensures ∙ ap (λ (n : ℕ). replicate n 0) c.image_size.ensures));
    stands = c.in-Ok-create.ensures.stands;
    moments = c.in-Ok-create.ensures.moments;
  };
})
