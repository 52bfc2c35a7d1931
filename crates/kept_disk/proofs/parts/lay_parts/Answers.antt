use Rattle.kept_disk.proofs.{Words.{◌≡◌, ◌+◌, ◌-◌, ◌≤◌, ℕ, List, length, take, subst, arith, take_all, length-take-le, spliced, length-spliced, Stand}, Slices.{length-slice, laid_further}}

pub loop-done-preserved : Rattle.kept_disk.proofs.parts.lay_parts.Goals.loop-done-preserved
loop-done-preserved c =
    let done = c.loop-done.done in
    let count = c.part_len-count.result in
    let bytes = c.args.bytes.now in
    let within : done + count ≤ length bytes = omega (arith, c.part_len-count.ensures.within) in
    record {
      within = within;
      stand = λ l fits stand.
          let first : length (take done bytes) ≡ done = length-take-le done bytes (omega (arith, within)) in
          let size : length (spliced l c.args.at (take done bytes)) ≡ length l = length-spliced l c.args.at (take done bytes) (omega (arith, fits, first, within)) in
          subst (λ (d : List ℕ). Stand c.lay_part-in-loop-done.new.pages.numbers.items c.lay_part-in-loop-done.new.pages.ends.items c.lay_part-in-loop-done.new.pages.bytes.items d) (laid_further l bytes c.args.at done count (done + count - done) (omega arith) within fits)
          (c.lay_part-in-loop-done.ensures (spliced l c.args.at (take done bytes)) (omega (arith, fits, within, size, length-slice (done + count - done) done bytes)) (c.loop-done.invariant.stand l fits stand));
    }

pub returns : Rattle.kept_disk.proofs.parts.lay_parts.Goals.returns
returns c l fits stand =
    subst (λ (b : List ℕ). Stand c.loop-done.pages.numbers.items c.loop-done.pages.ends.items c.loop-done.pages.bytes.items (spliced l c.args.at b)) (take_all c.loop-done.done c.args.bytes.now c.loop-done-test.false) (c.loop-done.invariant.stand l fits stand)

pub returns-then-is_in_one_page : Rattle.kept_disk.proofs.parts.lay_parts.Goals.returns-then-is_in_one_page
returns-then-is_in_one_page c = c.lay_part.ensures
