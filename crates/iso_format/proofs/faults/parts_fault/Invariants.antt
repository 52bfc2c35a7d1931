use Rattle.iso_format.proofs.Words.{◌≡◌, ◌+◌, ◌-◌, None, length, parts_fault}

abbrev pub invariant-loop : Rattle.iso_format.proofs.faults.parts_fault.Given.invariant-loop
invariant-loop l =
    record {
      same : parts_fault l.geometry l.before l.at (l.count - l.counter) l.rest ≡ parts_fault l.geometry None 20 l.count l.body;
      place : l.at + length l.rest ≡ 20 + length l.body;
    }
