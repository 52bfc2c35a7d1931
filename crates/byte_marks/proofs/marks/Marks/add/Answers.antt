-- A span that begins after the last run is one run more.
use Rattle.byte_marks.proofs.{Words.{arith}, Apart.AreApartFrom-append}

pub invariant_of-self-then-next_free-added : Rattle.byte_marks.proofs.marks.Marks.add.Goals.invariant_of-self-then-next_free-added
invariant_of-self-then-next_free-added c = grind (arith, AreApartFrom-append)
