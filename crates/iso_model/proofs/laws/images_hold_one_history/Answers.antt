use Rattle.iso_model.proofs.OneHistory.{image_tells_one}

pub returns-clause-geometry : Rattle.iso_model.proofs.laws.images_hold_one_history.Goals.returns-clause-geometry
returns-clause-geometry _ = λ bytes g f m n H G is also. (image_tells_one bytes g f m n H G is also).0

pub returns-clause-generation : Rattle.iso_model.proofs.laws.images_hold_one_history.Goals.returns-clause-generation
returns-clause-generation _ = λ bytes g f m n H G is also. (image_tells_one bytes g f m n H G is also).1

pub returns-clause-history : Rattle.iso_model.proofs.laws.images_hold_one_history.Goals.returns-clause-history
returns-clause-history _ = λ bytes g f m n H G is also. (image_tells_one bytes g f m n H G is also).2
