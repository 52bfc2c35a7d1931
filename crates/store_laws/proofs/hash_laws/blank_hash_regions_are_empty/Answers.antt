use Rattle.store_laws.proofs.{Words.{zeros}, HashBlank.{blank_map, blank_region}, Zeros.zeros_blank}

pub returns-clause-blank : Rattle.store_laws.proofs.hash_laws.blank_hash_regions_are_empty.Goals.returns-clause-blank
returns-clause-blank _ = λ a A area blank. (blank_region a A area blank, blank_map a A area blank)

pub returns-clause-made : Rattle.store_laws.proofs.hash_laws.blank_hash_regions_are_empty.Goals.returns-clause-made
returns-clause-made _ = λ a n area fits. (blank_region a (zeros a.size n) area (zeros_blank a n fits), blank_map a (zeros a.size n) area (zeros_blank a n fits))
