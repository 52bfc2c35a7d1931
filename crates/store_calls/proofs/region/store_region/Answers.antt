use Rattle.store_calls.proofs.Words.{arith, limits}

pub file_blocks-requires-clause-least : Rattle.store_calls.proofs.region.store_region.Goals.file_blocks-requires-clause-least
file_blocks-requires-clause-least c = (limits c.args.geometry.now c.requires.valid).least_block

pub file_blocks-requires-clause-most : Rattle.store_calls.proofs.region.store_region.Goals.file_blocks-requires-clause-most
file_blocks-requires-clause-most c = (limits c.args.geometry.now c.requires.valid).largest_block

pub file_blocks-requires-clause-regions : Rattle.store_calls.proofs.region.store_region.Goals.file_blocks-requires-clause-regions
file_blocks-requires-clause-regions c = (limits c.args.geometry.now c.requires.valid).regions

pub overflow_add-result : Rattle.store_calls.proofs.region.store_region.Goals.overflow_add-result
overflow_add-result c = let bounds = limits c.args.geometry.now c.requires.valid in omega (arith, bounds.regions, bounds.most_blocks)
