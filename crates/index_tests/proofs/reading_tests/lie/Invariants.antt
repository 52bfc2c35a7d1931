-- The versions so far lie on the disk.
use Rattle.std.proofs.Common.{◌<◌, ℕ, get_or}
use Rattle.mv_index.specs.{Shown.Lies, Versions.no_version}

abbrev pub invariant-loop-version : Rattle.index_tests.proofs.reading_tests.lie.Given.invariant-loop-version
invariant-loop-version l = (i : ℕ) → i < l.version-index → Lies 64 512 (get_or l.versions i no_version)
