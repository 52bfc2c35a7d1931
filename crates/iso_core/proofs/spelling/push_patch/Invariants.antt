-- The pieces so far are pushed, and the others follow.
use Rattle.iso_core.proofs.{Words.{◌≡◌, ◌++◌, map, AllByRecursion, runs_from, run_of, part_of}, Spellings.IsWhole}

abbrev pub invariant-loop-span : Rattle.iso_core.proofs.spelling.push_patch.Given.invariant-loop-span
invariant-loop-span l =
    (Rattle.iso_core.proofs.spelling.push_patch.Given.iterator-loop-span).can_next l.span-iterator × (Rattle.iso_core.proofs.spelling.push_patch.Given.iterator-loop-span).is_finite l.span-iterator
    × (l.buffer.records ≡ l.fn.buffer.records)
    × (l.buffer.parts ++ map (run_of l.block) l.span-iterator ≡ l.fn.buffer.parts ++ runs_from l.block 0 l.patch)
    × (l.parts.items ++ map part_of (map (run_of l.block) l.span-iterator) ≡ l.fn.parts.items ++ map part_of (runs_from l.block 0 l.patch))
    × AllByRecursion IsWhole l.span-iterator
