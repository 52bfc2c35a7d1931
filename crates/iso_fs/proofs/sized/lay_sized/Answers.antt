use Rattle.iso_fs.proofs.{Words.{◌≡◌, ◌∙◌, ◌++◌, [], sym, ap, refl, arith, ℕ, length, map, range_with_len, length-map-range_with_len, entry_at, file_block}, Sizing.adds_more}

pub returns : Rattle.iso_fs.proofs.sized.lay_sized.Goals.returns
returns c =
    let bytes = c.args.bytes in
    let count = c.args.file.now.count in
    let news = c.args.news.now in
    let old = map (entry_at c.args.file.now.bytes.now) (range_with_len 0 count) in
    let one : c.start_file.new.into ≡ file_block (length c.start_file.new.into) bytes [] = c.start_file.ensures ∙ ap (λ (n : ℕ). file_block n bytes []) (sym c.start_file.auto.into) in
    adds_more c.start_file.new.into c.add_old.new.into c.add_news.new.into old news (old ++ news) 0 count (omega (arith, length-map-range_with_len (entry_at c.args.file.now.bytes.now) 0 count)) c.add_old.auto.into refl c.add_old.ensures c.add_news.ensures bytes [] refl one
    ∙ (λ k. file_block ((c.start_file.auto.into ∙ c.requires.into) k) bytes (map (entry_at c.args.file.now.bytes.now) (range_with_len 0 (c.args.file.now.counted k)) ++ news))
