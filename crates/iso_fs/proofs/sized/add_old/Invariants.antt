use Rattle.iso_fs.proofs.Words.{◌≡◌, length, map, range_with_len, entry_at}
use Rattle.iso_fs.specs.Grows.{AddsEntries}

-- the first numbers are laid
abbrev pub invariant-loop-i : Rattle.iso_fs.proofs.sized.add_old.Given.invariant-loop-i
invariant-loop-i l = record {
  laid : AddsEntries 0 l.fn.into l.into (map (entry_at l.file) (range_with_len 0 l.i));
  long : length l.into ≡ length l.fn.into;
}
