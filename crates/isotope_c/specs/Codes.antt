-- The numbers of statuses.
use Rattle.std.specs.Prelude.{ℤ, pos}
use Rattle.device_desk.specs.declared.status.Status.{Status}
use Rattle.device_desk.specs.declared.status.Status.TheVariants as status
use Rattle.iso_image.specs.declared.open_error.OpenError.{OpenError}
use Rattle.iso_image.specs.declared.open_error.OpenError.TheVariants as image

abbrev pub code_of : Status → ℤ
code_of status.Done = pos 0
code_of status.Conflict = pos 1
code_of status.Missing = pos 2
code_of status.Exists = pos 3
code_of status.LogFull = pos 4
code_of status.TooManyTransactions = pos 5
code_of status.ModeFixed = pos 6
code_of status.BadBlock = pos 7
code_of status.BadRange = pos 8
code_of status.NoAccess = pos 9
code_of status.TooManyMarks = pos 10
code_of status.TooManyAccesses = pos 11
code_of status.NoStore = pos 12
code_of status.StoreMode = pos 13
code_of status.BadKey = pos 14
code_of status.BadValue = pos 15
code_of status.BadName = pos 16
code_of status.NoBlocks = pos 17
code_of status.Broken = pos 18
code_of status.Worn = pos 19
code_of status.Memory = pos 20
code_of status.Disk = pos 21
code_of status.Down = pos 22
code_of status.NoTransaction = pos 23

-- and of an image that did not open: 26 for bytes that are no image of this project, 35 for one that is refused
abbrev pub code_of_open : OpenError → ℤ
code_of_open image.NotIsotope = pos 26
code_of_open image.Disk = pos 21
code_of_open image.Memory = pos 20
code_of_open error = pos 35
