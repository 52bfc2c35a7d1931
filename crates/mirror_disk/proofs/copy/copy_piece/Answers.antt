use Rattle.mirror_disk.proofs.{Words.{◌≡◌, ◌+◌, ◌≤◌, ℕ, List, Option, length, take, drop, refl, sym, ◌∙◌, ap, arith, started, starts_unwritten, called, spliced, subst, torn_from_old, torn_same, torn_whole, Becomes, body}, Asked.told_of, Copying.{piece_copied, piece_of, read_torn, torn_behind, written_behind}, Done.{rose_behind, rose_of, written_of}, Handed.{later_twice, synced}}
use Rattle.mirror_disk.proofs.copy.copy_piece.Goals as goal
use Rattle.std.proofs.{Common.rules, lemmas.Grind.common_steps}

pub returns-in_err-read : goal.returns-in_err-read
returns-in_err-read g c = record {
  unwritten = synced (g.met.C.Disk.lawful c.args.from.now) c.read.ensures.contents c.read.ensures.crash;
  moments = started (g.met.O.Disk.lawful c.args.to.now) (λ x now. torn_from_old (64 + c.args.at) _ x now);
  torn = read_torn (64 + c.args.at) _ refl;
  still = λ x y told told' same. starts_unwritten (g.met.O.Disk.lawful c.args.to.now);
  cause = search rules;
  later = search rules;
  failed = search rules;
  copied = search rules;
}

pub returns-in_default : goal.returns-in_default
returns-in_default g c =
    let read = c.read-2.ensures in
    let law = g.met.O.Disk.lawful c.args.to.now in
    piece_copied c.args.at (length c.args.piece.now) c.read.new.into _ law c.requires.to.fits c.read.auto.into (synced (g.met.C.Disk.lawful c.args.from.now) c.read.ensures.contents c.read.ensures.crash) c.in_ok-read.ensures.cause.passed c.in_ok-read.ensures.bytes
    (record {
      crash = called law read.crash (λ x now. torn_from_old (64 + c.args.at) _ x now) (λ x now. torn_from_old (64 + c.args.at) _ x now);
      torn = read_torn (64 + c.args.at) _ read.contents;
      did = λ is. absurd (cc is);
      later = read.cause.later;
      failed = first_of (search rules, grind (arith, common_steps));
    })
    (λ y told is. synced law read.contents read.crash)

pub returns-then-are_same : goal.returns-then-are_same
returns-then-are_same g c =
    let read = c.read-2.ensures in
    let law = g.met.O.Disk.lawful c.args.to.now in
    piece_copied c.args.at (length c.args.piece.now) c.read.new.into _ law c.requires.to.fits c.read.auto.into (synced (g.met.C.Disk.lawful c.args.from.now) c.read.ensures.contents c.read.ensures.crash) c.in_ok-read.ensures.cause.passed c.in_ok-read.ensures.bytes
    (record {
      crash = called law read.crash (λ x now. torn_from_old (64 + c.args.at) _ x now) (λ x now. torn_from_old (64 + c.args.at) _ x now);
      torn = read_torn (64 + c.args.at) _ read.contents;
      -- the piece is there already
      did = λ done. record {
        told = λ x told.
            let there = c.in-Ok.ensures.bytes x told ∙ piece_of x c.args.at (length c.args.there.now) in
            let here = ap (λ (m : ℕ). take m (drop c.args.at (body x))) (c.read.auto.into ∙ sym c.requires.to.there) ∙ sym there ∙ sym (c.are_same.ensures.0 c.if-are_same.true) in
            (x, read.contents ∙ told, torn_whole c.read.new.into (torn_same c.args.at (length c.read.new.into) (body x)) here);
        untold = λ untold. read.contents ∙ untold;
      };
      later = read.cause.later;
      failed = λ is. absurd (cc is);
    })
    (λ y told is. synced law read.contents read.crash)

pub returns : goal.returns
returns g c =
    let read = c.read-2.ensures in
    let mid = g.O.Disk.state c.read-2.new.self in
    let new = g.O.Disk.state c.write.new.self in
    let law = g.met.O.Disk.lawful c.read-2.new.self in
    let bytes = c.read.new.into in
    let within : 64 + c.args.at + length bytes ≤ mid.size = omega (arith, c.requires.to.fits, c.read.auto.into, read.crash.same_size) in
    piece_copied c.args.at (length c.args.piece.now) bytes _ (g.met.O.Disk.lawful c.args.to.now) c.requires.to.fits c.read.auto.into (synced (g.met.C.Disk.lawful c.args.from.now) c.read.ensures.contents c.read.ensures.crash) c.in_ok-read.ensures.cause.passed c.in_ok-read.ensures.bytes
    (record {
      crash = written_behind (64 + c.args.at) (length bytes) (g.met.O.Disk.lawful c.args.to.now) read.crash c.write.ensures.crash;
      torn = torn_behind (64 + c.args.at) (length bytes) read.contents (told_of mid new (64 + c.args.at) bytes law within c.write.result c.write.ensures.written c.write.ensures.failed);
      did = λ done. subst (λ (o : Option (List ℕ)). Becomes (λ x y. y ≡ spliced x c.args.at bytes) o new.contents) read.contents (written_of mid new c.args.at bytes law within c.write.result c.write.ensures.written (sym c.is_ok.ensures.value ∙ done));
      later = later_twice _ _ _ read.cause.later c.write.ensures.cause.later;
      failed = λ no. rose_behind _ _ _ read.cause.later (rose_of c.write.result (sym c.is_ok.ensures.value ∙ no) c.write.ensures.cause);
    })
    (λ y told is. absurd (cc (c.if-are_same.false, c.are_same.ensures.1 (sym (c.in-Ok.ensures.bytes y told ∙ piece_of y c.args.at (length c.args.there.now) ∙ ap (λ (m : ℕ). take m (drop c.args.at (body y))) (c.requires.to.there ∙ sym c.read.auto.into) ∙ is)))))
