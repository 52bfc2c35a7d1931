use Rattle.mirror_disk.proofs.{Words.{[], ◌∙◌, ap, arith, sym, subst, Marks, AreAdopted}, Adopted.stands_both, Alone.settled_both, Blank.{blank_both, blank_image, blank_now, blank_pair, blank_told}}
use Rattle.mirror_disk.proofs.bind.make_sides.Goals as goal
use Rattle.std.proofs.{Common.rules, lemmas.Grind.common_steps}

pub returns : goal.returns
returns g c =
    let new_a = g.A.Disk.state c.lay_header.new.disk in
    let new_b = g.B.Disk.state c.lay_header-2.new.disk in
    let law_a = g.met.A.Disk.lawful c.lay_header.new.disk in
    let law_b = g.met.B.Disk.lawful c.lay_header-2.new.disk in
    let settled_a = c.in_ok-lay_header.ensures.settled in
    let settled_b = c.in_ok-lay_header-2.ensures.settled in
    let size_a = c.lay_header.ensures.size ∙ c.in_ok-bind_side.ensures.binds.size in
    let size_b = c.lay_header-2.ensures.size ∙ c.in_ok-bind_side-2.ensures.binds.size in
    let image_a = blank_image (g.A.Disk.state c.bind_side.new.side) new_a c.args.size c.in_ok-bind_side.ensures.binds.blank c.in_ok-lay_header.ensures.written settled_a in
    let image_b = blank_image (g.B.Disk.state c.bind_side-2.new.side) new_b c.args.size c.in_ok-bind_side-2.ensures.binds.blank c.in_ok-lay_header-2.ensures.written settled_b in
    record {
      adopted = subst (λ (m : Marks). AreAdopted (g.A.Disk.state c.args.first.now) (g.B.Disk.state c.args.second.now) new_a new_b m) (sym c.blank.ensures) (record {
        in_use = ((λ no. cc no), (λ no. cc no));
        goes_on = λ no. cc no;
        left_first = λ no. absurd (cc no);
        left_second = λ no. absurd (cc no);
        stands = stands_both (blank_pair new_a new_b c.args.size law_a law_b settled_a settled_b size_a size_b image_a image_b) (blank_both new_a new_b c.args.size law_a law_b settled_a settled_b size_a size_b image_a image_b);
        settled = settled_both new_a new_b [] 0 0 settled_a settled_b;
      });
      bound = (_, c.lay_header.ensures.bound ∙ c.in_ok-bind_side.ensures.binds.bound);
      later = (omega (arith, c.bind_side.ensures.cause.later, c.lay_header.ensures.cause.later), omega (arith, c.bind_side-2.ensures.cause.later, c.lay_header-2.ensures.cause.later));
      made = ap (λ (m : Marks). m.used) c.blank.ensures;
      size = size_a;
      blank = blank_told new_a new_b c.args.size law_a law_b settled_a settled_b size_a size_b image_a image_b;
      blank_after_crash = blank_now new_a new_b c.args.size law_a law_b settled_a settled_b size_a size_b image_a image_b;
      existing = tt;
      told = first_of (search rules, grind (arith, common_steps));
      cause = tt;
    }
