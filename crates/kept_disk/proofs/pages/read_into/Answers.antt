use Rattle.kept_disk.proofs.{Words.{◌+◌, ◌-◌, ◌≡◌, ℕ, List, length, take, drop, sym, ◌∙◌, ap, subst, arith, on_ok_weaker, spliced, spliced_torn, take-drop-spliced, Torn}, Slices.{length-slice, part_written}}

pub returns-clause-read : Rattle.kept_disk.proofs.pages.read_into.Goals.returns-clause-read
returns-clause-read g c =
    let bytes = c.args.bytes.now in
    let from = c.args.from in
    let len = c.args.len in
    let into = c.read.new.into in
    let lent = c.as_mut_slice.result.now in
    let same = c.as_mut_slice.ensures.value in
    let count : length into ≡ len = omega (arith, c.read.auto.into, length-slice (from + len - from) from lent, ap length same, c.requires.within) in
    let part = part_written from len bytes.len bytes.items lent into bytes.ok.0 same count c.requires.within in
    record {
      read = on_ok_weaker c.read.result
          (λ read x told.
          ap (λ (l : List ℕ). take len (drop from l)) part
          ∙ ap (λ (k : ℕ). take k (drop from (spliced bytes.items from into))) (sym count)
          ∙ take-drop-spliced bytes.items from into (omega (arith, count, c.requires.within))
          ∙ read x told
          ∙ (let size : c.args.at + length (take (from + len - from) (drop from lent)) - c.args.at ≡ len = omega (arith, c.read.auto.into, count) in ap (λ (k : ℕ). take k (drop c.args.at x)) size))
          c.read.ensures.bytes;
      others = subst (λ (l : List ℕ). Torn from len bytes.items l) (sym part)
          (subst (λ (k : ℕ). Torn from k bytes.items (spliced bytes.items from into)) count (spliced_torn bytes.items from into (omega (arith, count, c.requires.within))));
      looked = record { contents = c.read.ensures.contents; crash = c.read.ensures.crash; cause = c.read.ensures.cause };
    }
