-- How many bytes the parts of versions take in their records.
use Rattle.std.specs.{Prelude.{ℕ, ◌+◌, List, nat_lt, sum_by}, List.filter}
use Rattle.mv_index.specs.{declared.version.Version.Version, Versions.BlockVersions}

-- how many bytes the parts of those with a number above n take: each its bytes, and 8 before them
abbrev pub part_bytes_above : ℕ → List Version → ℕ
part_bytes_above n versions = sum_by (λ v. 8 + v.len) (filter (λ v. nat_lt n v.number) versions)

-- how many bytes the parts of the versions of all blocks take, of those with a number above n
abbrev pub bytes_above : ℕ → List BlockVersions → ℕ
bytes_above n index = sum_by (λ row. part_bytes_above n row.versions) index
