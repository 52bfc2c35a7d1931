use Rattle.iso_log.proofs.{Handed.blames_none, Words.{◌≡◌, ◌+◌, ◌-◌, ◌++◌, ℕ, List, length, take, sym, ap, arith, rules, ◌∙◌, subst, length-contents, slice_range, take-take, StandAt}, Pieces.{range_size, stand_more}}

pub returns : Rattle.iso_log.proofs.ahead.ReadAhead.read_on.Goals.returns
returns g c =
    let have = c.self.inside.end - c.self.inside.from in
    let want = c.max-want.result in
    let count = sym (ap length c.self.view_is) ∙ range_size c.self.inside.from c.self.inside.end c.self.inside.bytes.items c.self.invariant.1 in
    let whole : want - 0 ≡ want = omega arith in
    record {
      enough = search (rules, arith);
      within = search (rules, arith);
      front = ap (λ (k : ℕ). take k (take (want - 0) c.read_more.new.bytes.items)) count
          ∙ take-take have (want - 0) c.read_more.new.bytes.items (omega (arith, c.requires.fewer, count, c.max-want.ensures))
          ∙ c.read_more.ensures.front ∙ c.move_up.ensures.front ∙ c.self.view_is;
      told = λ image told stands. (let size = length-contents (g.met.D.Disk.lawful c.args.disk.now) image told in
          subst (λ (k : ℕ). StandAt c.args.gate (take k c.read_more.new.bytes.items) image) (sym whole)
          (stand_more c.args.gate have want c.args.self.now (take want c.read_more.new.bytes.items) image count
          (omega (arith, c.requires.fewer, count, c.max-want.ensures))
          (omega (arith, size, c.requires.fits, c.requires.need, c.max-want.ensures, c.min.ensures)) stands
          (c.in_ok-read_more.ensures.told image told
          ∙ ap (λ (l : List ℕ). l ++ slice_range image (c.args.gate + have) (c.args.gate + have + (want - have))) (c.move_up.ensures.front ∙ c.self.view_is))));
      reads = record { unwritten = c.read_more.ensures.reads.unwritten; cause = blames_none _ _ _ c.in_ok-read_more.ensures.reads.cause.passed; not_full = λ need free is. cc };
      not_damaged = λ at cause is. cc;
    }
