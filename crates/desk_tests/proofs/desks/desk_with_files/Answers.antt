use Rattle.std.proofs.Common.{refl}
use Rattle.iso_model.specs.Geometry.{is_valid}

pub desk_on-requires : Rattle.desk_tests.proofs.desks.desk_with_files.Goals.desk_on-requires
unfolding is_valid
desk_on-requires c = refl
