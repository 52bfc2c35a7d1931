-- What a tape leaves of a file, in words of bytes.
use Rattle.std.specs.Prelude.{ℕ, List, take, drop}
use Rattle.iso_memdisk.specs.{declared.record.Call.Call, Record.{NoSync, TornBy, written}}

-- A file had these bytes, all of them stable, and these calls were done to it in order. Then it stopped, by a crash of the
-- machine or of the program, and this is what it holds: up to some call each write stays, among these all that a sync came
-- after; each later write has left any bytes in its range, and nothing outside.
pub record IsLeftBy (calls : List Call) (first image : List ℕ) : Type 0 where
  pub stable : ℕ
  pub no_sync : NoSync (drop stable calls)
  pub torn : TornBy (drop stable calls) (written (take stable calls) first) image
