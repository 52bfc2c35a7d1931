use Rattle.iso_format.proofs.{Words.{arith, sym, refl}, HalfLaws.{unclean_front, unclean_back, all_clean}}

pub returns-in-Some-clause-clean : Rattle.iso_format.proofs.half.unclean_place.Goals.returns-in-Some-clause-clean
returns-in-Some-clause-clean c = (λ _. unclean_front c.args.input.now c.in-Some.i (sym c.in-Some.ensures), λ _. refl)

pub returns-in-Some-first_not_zero-clause-clean : Rattle.iso_format.proofs.half.unclean_place.Goals.returns-in-Some-first_not_zero-clause-clean
returns-in-Some-first_not_zero-clause-clean c = search (arith, unclean_back)

pub returns-in-None-clause-clean : Rattle.iso_format.proofs.half.unclean_place.Goals.returns-in-None-clause-clean
returns-in-None-clause-clean c = grind (arith, all_clean)
