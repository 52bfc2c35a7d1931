use Rattle.kept_disk.proofs.{Words.{ℕ, List, ◌∙◌, sym, subst, arith, rules, spliced, length-contents, Stand}, Slices.told_from}
use Rattle.kept_disk.proofs.kept.write_through.Goals as goal

pub returns : goal.returns
returns g c =
    let state = g.D.Disk.state in
    record {
      written = search rules;
      failed = search rules;
      crash = c.write.ensures.crash;
      cause = search rules;
      stand = λ x told.
          let was = told_from (λ (l : List ℕ). spliced l c.args.at c.args.bytes.now) (state c.args.disk.now).contents x (sym c.in_default.ensures.written ∙ told) in
          let size = length-contents (g.met.D.Disk.lawful c.args.disk.now) was.0 was.1 in
          subst (λ (l : List ℕ). Stand c.lay_parts.new.pages.numbers.items c.lay_parts.new.pages.ends.items c.lay_parts.new.pages.bytes.items l) was.2 (c.lay_parts.ensures was.0 (omega (arith, size, c.requires.fits)) (c.requires.stand was.0 was.1));
      forgotten = search rules;
    }
