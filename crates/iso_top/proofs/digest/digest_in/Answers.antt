use Rattle.iso_top.proofs.{DigestWords.{◌≡◌, ◌∙◌, ap, subst, ℕ, List, Option, arith, ForSome, disk_of, up, joined_unwritten, array_at, block_at, sha256}, Blocks.{all_held, block_count, more_held}}

pub returns-in-Err-clause-same : Rattle.iso_top.proofs.digest.digest_in.Goals.returns-in-Err-clause-same
returns-in-Err-clause-same g c W of = c.fetch.ensures.same W up (c.loop-number.invariant.stands W of)

pub returns-in-Err-clause-unwritten : Rattle.iso_top.proofs.digest.digest_in.Goals.returns-in-Err-clause-unwritten
returns-in-Err-clause-unwritten g c = joined_unwritten (g.met.D.Disk.lawful c.loop-number.core.disk) c.loop-number.invariant.still c.fetch.ensures.unwritten

pub loop-number-preserved : Rattle.iso_top.proofs.digest.digest_in.Goals.loop-number-preserved
loop-number-preserved g c = record {
  size = omega (arith, c.loop-number.invariant.size, c.fetch.auto.into);
  stands = λ W of. c.fetch.ensures.same W up (c.loop-number.invariant.stands W of);
  still = joined_unwritten (g.met.D.Disk.lawful c.loop-number.core.disk) c.loop-number.invariant.still c.fetch.ensures.unwritten;
  faults = c.in_default.ensures.cause.passed ∙ c.loop-number.invariant.faults;
  holds = λ W t of here blocks.
      let still = c.loop-number.invariant.still in
      let shown = subst (λ (contents : Option (List ℕ)). ForSome contents (λ _. c.fetch.new.into ≡ block_at (array_at W.history t.begin) c.loop-number.number)) still.same_contents
      (c.in_default.ensures.block W t (c.loop-number.invariant.stands W of) here) in
      more_held (g.D.Disk.state (disk_of c.args.core.now)).contents W t c.loop-number.number c.loop-number.hasher c.update.new.self c.fetch.new.into
      (omega (arith, block_count g.D.Disk.state c.args.core.now W t of, blocks, c.loop-number-test.true)) shown c.update.ensures
      (c.loop-number.invariant.holds W t of here blocks);
}

pub returns-clause-digest : Rattle.iso_top.proofs.digest.digest_in.Goals.returns-clause-digest
returns-clause-digest g c W t of here blocks bytes told =
    let held = c.loop-number.invariant.holds W t of here blocks in
    let whole = all_held (g.D.Disk.state (disk_of c.args.core.now)).contents W t c.loop-number.number c.loop-number.hasher
    (omega (arith, block_count g.D.Disk.state c.args.core.now W t of, blocks, c.loop-number-test.false)) held in
    c.finalize.ensures held.message held.holds ∙ ap sha256 (whole bytes told)
