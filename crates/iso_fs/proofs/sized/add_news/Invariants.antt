use Rattle.iso_fs.proofs.Words.{◌≡◌, length, take}
use Rattle.iso_fs.specs.Grows.{AddsEntries}

-- the first numbers are laid
abbrev pub invariant-loop-i : Rattle.iso_fs.proofs.sized.add_news.Given.invariant-loop-i
invariant-loop-i l = record {
  laid : AddsEntries l.count l.fn.into l.into (take l.i l.news);
  long : length l.into ≡ length l.fn.into;
}
