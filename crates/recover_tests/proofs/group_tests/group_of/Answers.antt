use Rattle.std.proofs.Common.{refl, None}
use Rattle.iso_memdisk.specs.MemDisk.{state_of}
use Rattle.iso_model.specs.{Step.after_begin, World.{World, unattached}}
use Rattle.recover_tests.proofs.Groups.{may_group}

pub end_group-answer-requires-clause-ready : Rattle.recover_tests.proofs.group_tests.group_of.Goals.end_group-answer-requires-clause-ready
end_group-answer-requires-clause-ready c =
    let W = c.requires.idle.world in
    let stands = c.requires.idle.stands in
    let one = c.in-Ok.ensures.begun W stands in
    let V : World = after_begin W unattached W.geometry.mode in
    let two = c.in-Ok-begin.ensures.begun V one.3 in
    may_group state_of c.begin-2.new.self W two.3 c.requires.idle.live c.geometry-geometry.result (c.geometry-geometry.ensures W _ stands) c.in-Ok.first.at c.in-Ok-begin.second.at one.2 two.2
    (record { tx = c.in-Ok.first.tx; work = c.in_ok-one.one; reply = None }) (record { tx = c.in-Ok-begin.second.tx; work = c.in_ok-two.two; reply = None })
    one.0 two.0 refl refl c.in_ok-one.ensures c.in_ok-two.ensures
