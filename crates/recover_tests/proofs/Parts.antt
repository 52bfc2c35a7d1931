-- The parts that the tests write lie in their small image.
use Rattle.std.proofs.Common.{List, [], ◌∷◌, inl, inr, refl, arith}
use Rattle.iso_model.specs.{Geometry.is_valid, declared.access.Run.Run}
use Rattle.iso_format.specs.Writing.{LieInAnImage}
use Rattle.recover_tests.specs.Records.{put}
use Rattle.test_cores.specs.Small.{small}

pub put_lies : LieInAnImage put
unfolding is_valid
put_lies = (small, refl, record { block = omega arith; some = omega arith; fits = omega arith })

abbrev pub five : List Run
five =
    record { block = 0; off = 0; bytes = 1 ∷ [] } ∷ record { block = 0; off = 2; bytes = 2 ∷ 3 ∷ [] } ∷ record { block = 1; off = 60; bytes = 4 ∷ 5 ∷ 6 ∷ 7 ∷ [] }
    ∷ record { block = 2; off = 0; bytes = 8 ∷ [] } ∷ record { block = 3; off = 63; bytes = 9 ∷ [] } ∷ []

pub five_lie : LieInAnImage five
unfolding is_valid
five_lie = (
  small,
  refl,
  (
    record { block = omega arith; some = omega arith; fits = omega arith },
    inr (refl, omega arith),
    (
      record { block = omega arith; some = omega arith; fits = omega arith },
      inl (omega arith),
      (
        record { block = omega arith; some = omega arith; fits = omega arith },
        inl (omega arith),
        (
          record { block = omega arith; some = omega arith; fits = omega arith },
          inl (omega arith),
          record { block = omega arith; some = omega arith; fits = omega arith },
        ),
      ),
    ),
  ),
)
