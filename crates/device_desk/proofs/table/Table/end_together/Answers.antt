use Rattle.iso_machine.proofs.Words.{◌≡◌, ◌++◌, ◌∙◌, ap, arith, disk_of, length, List, map, reply_in, subst, sym, take, ℕ}
use Rattle.device_desk.specs.{Lent.{StandAt, items_at}, Seats.IsTableOf, Waiting.{Fit, told_in}}
use Rattle.device_desk.proofs.{Fitting.stand_count, Gathered.{ends_together, tried_fails, tried_ok}}
use Rattle.device_desk.proofs.table.Table.end_together.Goals as goal

pub put_first-requires-clause-within : goal.put_first-requires-clause-within
put_first-requires-clause-within g c = omega (arith, c.len.ensures, c.in-Some.ensures.few.2, c.group_at.ensures.ends)

pub put_first-requires-clause-room : goal.put_first-requires-clause-room
put_first-requires-clause-room g c =
    omega (arith, c.len.ensures, c.requires.room, stand_count c.args.numbers.now c.in-Some.places.items c.places_for.new.self.live.items c.in-Some.ensures.stand)

pub returns-in-Ok-clause-tried : goal.returns-in-Ok-clause-tried
returns-in-Ok-clause-tried g c W of =
    let numbers = c.args.numbers.now in
    let places : List ℕ = c.deref.result.now in
    let after = c.places_for.ensures.same W of in
    let stand = subst (λ (l : List ℕ). StandAt c.places_for.new.self.live.items numbers l) (sym c.deref.ensures.value) c.in-Some.ensures.stand in
    let fit = subst (λ (l : List ℕ). Fit W (items_at l W.live)) (sym c.deref.ensures.value) (c.in-Some.ensures.fit W of) in
    let both = ends_together after numbers places stand fit in
    let count : c.len.result ≡ length places = omega (arith, c.len.ensures, ap length c.deref.ensures.value) in
    tried_ok c.places_for.ensures.core (IsTableOf g.D.Disk.state c.group_at.new.self) numbers (items_at places W.live) both.1 (take (length places) c.group_at.new.self.ends.items) c.args.replies.now.items c.put_first.new.replies.items (c.in-Ok.ensures.ended W after) both.0
    (c.put_first.ensures ∙ ap (λ (n : ℕ). c.args.replies.now.items ++ map told_in (map reply_in (take n c.group_at.new.self.ends.items))) count) (c.in-Ok.ensures.ok W after)

pub returns-clause-tried : goal.returns-clause-tried
returns-clause-tried g c W of =
    let numbers = c.args.numbers.now in
    let places : List ℕ = c.deref.result.now in
    let after = c.places_for.ensures.same W of in
    let stand = subst (λ (l : List ℕ). StandAt c.places_for.new.self.live.items numbers l) (sym c.deref.ensures.value) c.in-Some.ensures.stand in
    let fit = subst (λ (l : List ℕ). Fit W (items_at l W.live)) (sym c.deref.ensures.value) (c.in-Some.ensures.fit W of) in
    let both = ends_together after numbers places stand fit in
    tried_fails c.places_for.ensures.core (IsTableOf g.D.Disk.state c.group_at.new.self) numbers (items_at places W.live) both.1 (take (length places) c.group_at.new.self.ends.items) c.args.replies.now.items c.in-Err.error c.tried.result (c.in-Err.ensures.ended W after)
    (g.met.D.Disk.lawful (disk_of c.args.self.now.core)) (c.in-Err.ensures.err W after) c.tried.ensures.memory c.tried.ensures.other
