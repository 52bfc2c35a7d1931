use Rattle.std.proofs.Common.{◌≡◌, ◌∙◌, sym}
use Rattle.isotope_c.specs.declared.records.Numbers.{Numbers}
use Rattle.isotope_c.proofs.Telling.{counts_told}
use Rattle.isotope_c.proofs.stat.count_reply.Goals as goal

pub returns : goal.returns
returns c W told sizes oldest =
    let n = c.in-Numbers in
    let named : ◌≡◌ {A = Numbers} (record { last = n.last; base = n.base; trim = n.trim; versions = n.versions; oldest = c.number_in.result; live = n.live; used = n.used; log = c.args.geometry.now.log; form = c.from.result }) _ =
    (λ i. record { last = n.last; base = n.base; trim = n.trim; versions = n.versions; oldest = c.number_in.ensures i; live = n.live; used = n.used; log = c.args.geometry.now.log; form = c.from.ensures i }) in
    named ∙ counts_told W (sym n.is ∙ told) sizes oldest
