use Rattle.kept_disk.proofs.{Words.arith, Paging.to_end}

pub returns-clause-part : Rattle.kept_disk.proofs.parts.part_len.Goals.returns-clause-part
returns-clause-part c = record {
  some = omega (arith, c.min.ensures, c.left_in_page.ensures, to_end c.args.at, c.requires);
  inside = omega (arith, c.min.ensures, c.left_in_page.ensures);
}
