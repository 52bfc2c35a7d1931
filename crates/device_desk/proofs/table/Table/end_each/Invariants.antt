-- The ends so far were made, and there is room for the replies to the others.
use Rattle.iso_machine.proofs.Words.{◌+◌, ◌≤◌, World, drop, length}
use Rattle.std.specs.Prelude.{vec_capacity, vec_len}
use Rattle.device_desk.specs.Seats.{IsTableOf}
use Rattle.device_desk.proofs.Waitings.{GoneOn}

abbrev pub invariant-loop-number : Rattle.device_desk.proofs.table.Table.end_each.Given.invariant-loop-number
invariant-loop-number g l =
    (vec_len l.replies + length (drop l.number-index l.numbers) ≤ vec_capacity l.replies)
    × ((W : World) → IsTableOf g.D.Disk.state l.fn.self W → GoneOn g.D.Disk.state l.fn.self l.self W l.numbers (drop l.number-index l.numbers) l.fn.replies.items l.replies.items)
