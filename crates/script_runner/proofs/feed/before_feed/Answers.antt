use Rattle.script_runner.proofs.Words.{inl, inr, ◌≡◌, ◌≢◌, ℕ, eqb, Bool, true, false, w8, sym, ap, ◌∙◌, arith, List, length, ◌+◌, ◌≤◌, not, map, replicate, cond, ◌%◌, ◌^◌, false≢true, eqb_tells, length-chunk, bitmask_splat, trailing_mask_l, run_in_chunk_fails, run_in_chunk_le, run_in_chunk_stops, none_from_empty_mask, prefix_len, count_trailing_zeros, chunk, mask_l, top, zip2}

abbrev is_feed : ℕ → Bool
is_feed b = eqb b 10

-- a byte at which the test fails is no line feed
other : (b : ℕ) → is_feed b ≡ false → b ≢ 10
other b test is = false≢true (sym test ∙ ap is_feed is)

same : (b : ℕ) → is_feed b ≡ true → b ≡ 10
same b test = elim (eqb_tells b 10) [ inl is ↦ is.1 | inr unlike ↦ absurd (false≢true (sym unlike.0 ∙ test)) ]

-- how many come before the first
counted : (text : List ℕ) (at mask : ℕ) → at + 16 ≤ length text → mask ≢ 0 → mask ≡ mask_l (map is_feed (chunk at 16 text))
    → count_trailing_zeros 64 mask ≡ prefix_len (λ b. not (is_feed b)) (chunk at 16 text)
counted text at mask room some is =
    let long = length-chunk at 16 text room in
    ap (count_trailing_zeros 64) is ∙ trailing_mask_l is_feed 64 (chunk at 16 text) (omega arith) (omega arith)

-- the mask of the sixteen bytes
feeds : (text : List ℕ) (at : ℕ) → at + 16 ≤ length text
    → mask_l (map (top 7) (zip2 (λ a b. cond (eqb a b) 255 0) (chunk at 16 text) (replicate 16 10))) % 2 ^ 64 ≡ mask_l (map is_feed (chunk at 16 text))
feeds text at room = bitmask_splat w8 eqb (chunk at 16 text) 16 10 (length-chunk at 16 text room) (omega arith)

pub returns-then-feeds-eq0-clause-before : Rattle.script_runner.proofs.feed.before_feed.Goals.returns-then-feeds-eq0-clause-before
returns-then-feeds-eq0-clause-before c k from to =
    let text = c.args.text.now in
    other _ (none_from_empty_mask is_feed text c.args.at 16 0 c.requires (sym (feeds text c.args.at c.requires) ∙ c.if-feeds-eq0.true) k from to)

pub returns-else-feeds-eq0-clause-within : Rattle.script_runner.proofs.feed.before_feed.Goals.returns-else-feeds-eq0-clause-within
returns-else-feeds-eq0-clause-within c =
    let text = c.args.text.now in
    run_in_chunk_le is_feed text c.args.at 16 _ 0 c.requires (counted text c.args.at _ c.requires c.if-feeds-eq0.false (feeds text c.args.at c.requires))

pub returns-else-feeds-eq0-clause-before : Rattle.script_runner.proofs.feed.before_feed.Goals.returns-else-feeds-eq0-clause-before
returns-else-feeds-eq0-clause-before c k from to =
    let text = c.args.text.now in
    other _ (run_in_chunk_fails is_feed text c.args.at 16 _ 0 c.requires
    (counted text c.args.at _ c.requires c.if-feeds-eq0.false (feeds text c.args.at c.requires)) k from to)

pub returns-else-feeds-eq0-clause-feed : Rattle.script_runner.proofs.feed.before_feed.Goals.returns-else-feeds-eq0-clause-feed
returns-else-feeds-eq0-clause-feed c short =
    let text = c.args.text.now in
    same _ (run_in_chunk_stops is_feed text c.args.at 16 _ 0 c.requires
    (counted text c.args.at _ c.requires c.if-feeds-eq0.false (feeds text c.args.at c.requires)) short)
