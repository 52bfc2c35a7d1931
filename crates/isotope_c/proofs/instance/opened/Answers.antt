use Rattle.std.proofs.Common.{◌∙◌, refl, subst, List, Option, ℕ}
use Rattle.queued_disk.specs.Queued.{state_of}
use Rattle.device_desk.specs.{Device.disk_under, Opened.IsOpenedAs}
use Rattle.isotope_c.proofs.{Made.{named, tells}, Serving.same_file}
use Rattle.isotope_c.proofs.instance.opened.Goals as goal

pub returns-in-Ok-clause-opened : goal.returns-in-Ok-clause-opened
returns-in-Ok-clause-opened c = record {
  now = c.in-Ok.desk;
  there = refl;
  file = same_file (disk_under c.in-Ok.desk) c.new.result c.in-Ok.ensures.unwritten.moments.same_bound ∙ named c.new.result c.new.ensures.handed c.new.ensures.given;
  opened = subst (λ (told : Option (List ℕ)). IsOpenedAs state_of c.in-Ok.desk told) (tells c.new.result c.args.bytes.items c.new.ensures.given c.new.ensures.calls) c.in-Ok.ensures.opened;
}

pub returns-in-Ok-clause-shown : goal.returns-in-Ok-clause-shown
returns-in-Ok-clause-shown c g H p shows = record {
  now = c.in-Ok.desk;
  there = refl;
  reopened = c.in-Ok.ensures.shown c.args.bytes.items g H p (tells c.new.result c.args.bytes.items c.new.ensures.given c.new.ensures.calls) shows;
}

pub returns-in-Err-clause-opens : goal.returns-in-Err-clause-opens
returns-in-Err-clause-opens c g H p shows = c.in-Err.ensures.opens c.args.bytes.items g H p (tells c.new.result c.args.bytes.items c.new.ensures.given c.new.ensures.calls) shows
