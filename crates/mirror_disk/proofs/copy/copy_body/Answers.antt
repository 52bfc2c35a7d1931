use Rattle.mirror_disk.proofs.{Words.{◌≡◌, ◌≤◌, ◌+◌, ℕ, length, take, drop, sym, ◌∙◌, subst, arith, length-append, length-drop, length-take-le, joined_unwritten, lasts, body}, Copying.{copied_all, copied_more, copies_more, length-body, torn_stays}, Done.{by_done, rose_behind}, Handed.synced}
use Rattle.std.proofs.{Common.rules, lemmas.Grind.common_steps}
use Rattle.mirror_disk.proofs.copy.copy_body.Goals as goal

pub returns-in_err-copy_piece : goal.returns-in_err-copy_piece
returns-in_err-copy_piece g c =
    let so_far = c.loop-done.invariant in
    let len = length-take-le c.min-len.result c.loop-done.piece (omega (arith, c.min-len.ensures, so_far.size)) in
    let piece = c.in_err-copy_piece.ensures in
    let part = copies_more c.loop-done.done (g.met.C.Disk.lawful c.loop-done.from) (g.met.O.Disk.lawful c.loop-done.to) (omega (arith, len, c.min-len.ensures, so_far.within)) (record { unwritten = so_far.unwritten; moments = so_far.moments; torn = so_far.torn; still = so_far.still }) piece in
    record {
      cause = first_of (search rules, grind (arith, common_steps));
      unwritten = part.unwritten;
      moments = part.moments;
      torn = part.torn;
      still = part.still;
      later = omega (arith, so_far.later, piece.later);
      failed = search rules;
      copied = search rules;
    }

pub returns-then-not-branch : goal.returns-then-not-branch
returns-then-not-branch g c =
    let so_far = c.loop-done.invariant in
    let len = length-take-le c.min-len.result c.loop-done.piece (omega (arith, c.min-len.ensures, so_far.size)) in
    let piece = c.in_ok-copy_piece.ensures in
    let part = copies_more c.loop-done.done (g.met.C.Disk.lawful c.loop-done.from) (g.met.O.Disk.lawful c.loop-done.to) (omega (arith, len, c.min-len.ensures, so_far.within)) (record { unwritten = so_far.unwritten; moments = so_far.moments; torn = so_far.torn; still = so_far.still }) piece in
    record {
      cause = record { later = omega (arith, so_far.faults, piece.cause.later); failed = λ is. absurd (cc is); passed = piece.cause.passed ∙ so_far.faults };
      unwritten = part.unwritten;
      moments = part.moments;
      torn = part.torn;
      still = part.still;
      later = omega (arith, so_far.later, piece.later);
      failed = λ is. rose_behind _ _ _ so_far.later (c.in_ok-copy_piece.ensures.failed c.if-not-branch.true);
      copied = search rules;
    }

pub loop-done-preserved : goal.loop-done-preserved
loop-done-preserved g c =
    let so_far = c.loop-done.invariant in
    let done = c.loop-done.done in
    let n = c.min-len.result in
    let len : length (take n c.loop-done.piece) ≡ n = length-take-le n c.loop-done.piece (omega (arith, c.min-len.ensures, so_far.size)) in
    let fits : done + n ≤ c.args.count = omega (arith, c.min-len.ensures, so_far.within) in
    let part = copies_more done (g.met.C.Disk.lawful c.loop-done.from) (g.met.O.Disk.lawful c.loop-done.to) (omega (arith, len, fits)) (record { unwritten = so_far.unwritten; moments = so_far.moments; torn = so_far.torn; still = so_far.still }) c.copy_piece.ensures in
    record {
      within = fits;
      size = omega (arith, length-append c.copy_piece.new.piece (drop n c.loop-done.piece), length-drop n c.loop-done.piece, c.copy_piece.auto.piece, len, c.min-len.ensures, so_far.size);
      room = omega (arith, length-append c.copy_piece.new.there (drop n c.loop-done.there), length-drop n c.loop-done.there, c.copy_piece.auto.there, length-take-le n c.loop-done.there (omega (arith, c.min-len.ensures, so_far.room)), c.min-len.ensures, so_far.room);
      unwritten = part.unwritten;
      moments = part.moments;
      torn = part.torn;
      alike = λ x y told told'.
          let z = c.in_ok-copy_piece.ensures.copied c.if-not-branch.false x y (so_far.unwritten.same_contents ∙ told) told' in
          copied_more (body x) (body z.0) (body y) done n z.2 (so_far.alike x z.0 told z.1) (subst (λ (m : ℕ). take m (drop done (body y)) ≡ take m (drop done (body x))) len z.3);
      still = part.still;
      faults = c.in_ok-copy_piece.ensures.cause.passed ∙ so_far.faults;
      later = omega (arith, so_far.later, c.copy_piece.ensures.later);
    }

pub returns : goal.returns
returns g c =
    let so_far = c.loop-done.invariant in
    let law_to = g.met.O.Disk.lawful c.loop-done.to in
    let stable = synced law_to c.sync.ensures.contents c.sync.ensures.crash in
    record {
      unwritten = so_far.unwritten;
      moments = lasts law_to so_far.moments stable;
      torn = torn_stays so_far.torn stable.same_contents;
      still = λ x y told told' same. joined_unwritten law_to (so_far.still x y told told' same) stable;
      cause = record { later = omega (arith, so_far.faults); failed = λ is. absurd (cc is); passed = so_far.faults };
      later = omega (arith, so_far.later, c.sync.ensures.cause.later);
      failed = first_of (search rules, grind (arith, common_steps));
      copied = λ done. record {
        settled = by_done c.sync.result (sym c.is_ok.ensures.value ∙ done) c.sync.ensures.settled;
        alike = λ x y told told'.
            let all : c.loop-done.done ≡ c.args.count = omega (arith, so_far.within, c.loop-done-test.false) in
            let here = sym c.sync.ensures.contents ∙ told' in
            let one = length-body c.args.count (g.met.C.Disk.lawful c.args.from.now) c.requires.from x told in
            let two = length-body c.args.count law_to (so_far.moments.same_size ∙ c.requires.to) y here in
            copied_all (body x) (body y) c.args.count one two (subst (λ (m : ℕ). take m (body y) ≡ take m (body x)) all (so_far.alike x y told here));
      };
    }

pub copy_piece-requires-clause-to : goal.copy_piece-requires-clause-to
copy_piece-requires-clause-to g c =
    let so_far = c.loop-done.invariant in
    let n = c.min-len.result in
    let len : length (take n c.loop-done.piece) ≡ n = length-take-le n c.loop-done.piece (omega (arith, c.min-len.ensures, so_far.size)) in
    let room : length (take n c.loop-done.there) ≡ n = length-take-le n c.loop-done.there (omega (arith, c.min-len.ensures, so_far.room)) in
    record { fits = omega (arith, len, c.min-len.ensures, so_far.within, so_far.moments.same_size, c.requires.to); there = room ∙ sym len }
