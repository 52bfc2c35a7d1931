use Rattle.iso_fs.proofs.{Words.{◌≡◌, ◌∙◌, ◌++◌, ◌∷◌, [], sym, ap, subst, arith, ℕ, map, range_with_len, length-map-range_with_len, entry_at}, Sizing.{adds_more, one_more}}
use Rattle.iso_fs.specs.Grows.{AddsEntries}

pub loop-i-preserved : Rattle.iso_fs.proofs.sized.add_old.Goals.loop-i-preserved
loop-i-preserved c =
    let f = entry_at c.args.file.now in
    let i = c.loop-i.i in
    record {
      laid = adds_more c.args.into.now c.loop-i.into c.add_entry.new.into (map f (range_with_len 0 i)) (c.entry_at.result ∷ []) _ 0 i (omega (arith, length-map-range_with_len f 0 i)) c.loop-i.invariant.long
          (one_more f i ∙ ap (λ (n : ℕ). map f (range_with_len 0 i) ++ n ∷ []) (sym c.entry_at.ensures)) c.loop-i.invariant.laid c.add_entry.ensures;
      long = c.add_entry.auto.into ∙ c.loop-i.invariant.long;
    }

pub returns : Rattle.iso_fs.proofs.sized.add_old.Goals.returns
returns c =
    let e : c.loop-i.i ≡ c.args.count = omega (arith, c.loop-i.auto.i-end, c.loop-i-test.false) in
    subst (λ (n : ℕ). AddsEntries 0 c.args.into.now c.loop-i.into (map (entry_at c.args.file.now) (range_with_len 0 n))) e c.loop-i.invariant.laid
