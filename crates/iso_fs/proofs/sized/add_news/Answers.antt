use Rattle.iso_fs.proofs.{Words.{◌∙◌, ◌∷◌, [], ◌+◌, arith, take, get_or, take_at_read, length-take-le}, Sizing.adds_more}

pub loop-i-preserved : Rattle.iso_fs.proofs.sized.add_news.Goals.loop-i-preserved
loop-i-preserved c =
    let news = c.args.news.now in
    let i = c.loop-i.i in
    record {
      laid = adds_more c.args.into.now c.loop-i.into c.add_entry.new.into (take i news) (get_or news i 0 ∷ []) _ c.args.count (c.args.count + i) (omega (arith, length-take-le i news (omega (arith, c.loop-i-test.true)))) c.loop-i.invariant.long
          (take_at_read news i 0 (omega (arith, c.loop-i-test.true))).1 c.loop-i.invariant.laid c.add_entry.ensures;
      long = c.add_entry.auto.into ∙ c.loop-i.invariant.long;
    }
