use Rattle.mirror_disk.proofs.{Words.{◌≤◌, ℕ, Option, Some, None, IfSome, arith, length-contents, Mark}, Fronts.{read_mark_of, read_none_of}}

some_of : (n : ℕ) (o : Option Mark) → 64 ≤ n → IfSome o (λ m. 64 ≤ n)
some_of n (Some m) room = room
some_of n None room = tt

pub returns-then-size-lt-HEADER-clause-header : Rattle.mirror_disk.proofs.header.read_header.Goals.returns-then-size-lt-HEADER-clause-header
returns-then-size-lt-HEADER-clause-header g c = record {
  size = tt;
  mark = tt;
  none = λ none x told header.
      let len = length-contents (g.met.D.Disk.lawful c.args.disk.now) x told in
      absurd (let no : ⊥ = omega (arith, len, header.size, c.size.ensures, c.if-size-lt-HEADER.true) in no);
}

pub returns-clause-header : Rattle.mirror_disk.proofs.header.read_header.Goals.returns-clause-header
returns-clause-header g c =
    let d = g.D.Disk.state c.args.disk.now in
    let room : 64 ≤ d.size = omega (arith, c.size.ensures, c.if-size-lt-HEADER.false) in
    record {
      size = some_of d.size c.read_mark.result room;
      mark = read_mark_of d c.read.new.into (g.met.D.Disk.lawful c.args.disk.now) c.requires room c.in_ok-read.ensures.bytes c.read_mark.result c.read_mark.ensures.mark;
      none = λ none x told. read_none_of x c.read.new.into (c.in_ok-read.ensures.bytes x told) c.read_mark.result c.read_mark.ensures.none none;
    }
