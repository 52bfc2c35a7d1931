use Rattle.iso_machine.proofs.Words.{◌∙◌, disk_of, Ok, shows, subst}
use Rattle.device_desk.specs.{Seats.IsTableOf, Waiting.{HasTried, after_ends}}
use Rattle.device_desk.proofs.Waitings.{failed_together, made_together, tried_first, wants_room}
use Rattle.device_desk.proofs.table.Table.end_waiting.Goals as goal

pub returns-in-Err : goal.returns-in-Err
returns-in-Err g c W of =
    wants_room c.args.numbers.now c.reserve.new.self.items (c.reserve.ensures.items ∙ c.new-replies.ensures.items) (g.met.D.Disk.lawful (disk_of c.args.self.now.core)) (shows g.D.Disk.state c.args.self.now.core W of.core_of) of

pub returns-in-Err-end_together : goal.returns-in-Err-end_together
returns-in-Err-end_together g c W of =
    failed_together c.args.numbers.now c.reserve.new.self.items c.end_together.new.replies.items c.in-Err-end_together.why (c.reserve.ensures.items ∙ c.new-replies.ensures.items)
    (g.met.D.Disk.lawful (disk_of c.end_together.new.self.core)) (c.in-Err-end_together.ensures.tried W of)

pub returns-then-made : goal.returns-then-made
returns-then-made g c W of =
    let state = g.D.Disk.state in
    let is =
    subst (λ b. HasTried (IsTableOf state c.end_together.new.self) (state (disk_of c.args.self.now.core)) (state (disk_of c.end_together.new.self.core)) W c.args.numbers.now c.reserve.new.self.items c.end_together.new.replies.items (Ok b)) c.if-made.true
    (c.in-Ok.ensures.tried W of) in
    made_together c.args.numbers.now c.reserve.new.self.items c.end_together.new.replies.items (c.reserve.ensures.items ∙ c.new-replies.ensures.items)
    (shows state c.end_together.new.self.core (after_ends W c.args.numbers.now) is.1.core_of) is

pub returns : goal.returns
returns g c W of =
    let state = g.D.Disk.state in
    let is =
    subst (λ b. HasTried (IsTableOf state c.end_together.new.self) (state (disk_of c.args.self.now.core)) (state (disk_of c.end_together.new.self.core)) W c.args.numbers.now c.reserve.new.self.items c.end_together.new.replies.items (Ok b)) c.if-made.false
    (c.in-Ok.ensures.tried W of) in
    let (more, pushed, waits) = c.end_each-stop.ensures W is.1 in
    tried_first (IsTableOf state c.end_together.new.self) c.args.numbers.now c.reserve.new.self.items c.end_together.new.replies.items c.end_each-stop.new.replies.items more c.end_each-stop.result (c.reserve.ensures.items ∙ c.new-replies.ensures.items)
    (g.met.D.Disk.lawful (disk_of c.end_together.new.self.core)) (shows state c.args.self.now.core W of.core_of) is pushed waits
