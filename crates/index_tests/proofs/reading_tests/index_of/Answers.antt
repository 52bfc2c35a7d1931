-- The parts are those of runs, and the index has none yet.
use Rattle.std.proofs.{Common.{List, length, map, ap, arith, refl}, lemmas.List.length-map}
use Rattle.iso_model.specs.declared.access.Run.{Run}
use Rattle.version_read.specs.Parts.{part_of}
use Rattle.index_tests.proofs.Indexes.{few_parts}

pub take_parts-requires : Rattle.index_tests.proofs.reading_tests.index_of.Goals.take_parts-requires
take_parts-requires c =
    let runs = c.args.view.now.parts in
    few_parts (map part_of runs) runs c.number.result c.args.gate c.in_ok-index.index refl c.requires.runs c.in_ok-index.ensures.blocks c.in_ok-index.ensures.none c.in_ok-index.ensures.count
    (omega (arith, length-map runs part_of, c.loop-part.invariant.2, c.loop-part.invariant.3, ap (λ (l : List Run). length l) c.in-None.ensures.steps.0)) c.requires.gate
