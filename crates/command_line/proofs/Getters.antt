-- What clap's getters read, in the rows that its specs speak of.
use Rattle.command_line.proofs.Words.{◌≡◌, Text, first_of, first_value, found_of, rows_of, ArgMatches, first_value-rows}

pub first_value_is : (m : ArgMatches) (id : Text) → first_value (found_of m) id ≡ first_of id (rows_of (found_of m))
first_value_is m id = first_value-rows (found_of m) id
