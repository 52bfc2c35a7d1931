-- What a failed test of a record tells: its number, and where in the record its field is.
use Rattle.std.specs.Prelude.{ℕ}
use Rattle.iso_format.specs.{declared.format_error.FormatError.FormatError, declared.format_error.FormatError.TheVariants.{Short, Kind, NotZero, Count, Order, Range, Length, Number}}

abbrev pub test_number : FormatError → ℕ
test_number (Short at) = 1
test_number (Kind at) = 2
test_number (NotZero at) = 3
test_number (Count at) = 4
test_number (Order at) = 5
test_number (Range at) = 6
test_number (Length at) = 7
test_number (Number at) = 8

abbrev pub offset_of : FormatError → ℕ
offset_of (Short at) = at
offset_of (Kind at) = at
offset_of (NotZero at) = at
offset_of (Count at) = at
offset_of (Order at) = at
offset_of (Range at) = at
offset_of (Length at) = at
offset_of (Number at) = at
