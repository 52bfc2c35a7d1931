use Rattle.iso_machine.proofs.Words.{◌≡◌, ◌+◌, ◌∙◌, ℕ, List, ap, arith, AllByRecursion, AreDistinct, AreEach, GroupEnd, IsMember, length, Live, map, Ok, Err, subst, sym, take, with_items_is}
use Rattle.device_desk.specs.{declared.seat.Seat.Seat, Lent.{ArePlaces, HasEnded, doing_of, items_at}, Numbers.{left_of, member_of}, Seats.{AreOf, IsSized, live_of}}
use Rattle.device_desk.proofs.{Fitting.stand_places, Gathered.{left_behind, members_ready, settled_same}, Lendings.{same_live, same_sized}, Tables.distinct}
use Rattle.device_desk.proofs.table.Table.group_at.Goals as goal

pub end_lent-requires-clause-ready : goal.end_lent-requires-clause-ready
end_lent-requires-clause-ready g c =
    let (W, of) = c.requires.stands in
    let members = items_at c.args.places.now W.live in
    (W, members, of.core_of, subst (λ (l : List Seat). AreEach (IsMember W) (map member_of (items_at c.args.places.now l)) members) (sym c.deref_mut.ensures.value) (members_ready of c.args.numbers.now c.args.places.now c.requires.at))

pub end_lent-requires-clause-places : goal.end_lent-requires-clause-places
end_lent-requires-clause-places g c =
    subst (λ (l : List Seat). ArePlaces (length l) c.args.places.now) (sym c.deref_mut.ensures.value) (stand_places c.args.numbers.now c.args.places.now c.args.self.now.live.items c.requires.at)

pub leave-requires : goal.leave-requires
leave-requires g c =
    let live = c.args.self.now.live.items in
    let lives = with_items_is c.args.self.now.live c.end_lent.new.live (c.end_lent.auto.live ∙ c.deref_mut.ensures.len) in
    let same = c.end_lent.ensures.live ∙ ap (λ (l : List Seat). map doing_of l) c.deref_mut.ensures.value in
    subst (λ (l : List Seat). AreDistinct (map live_of l)) (sym lives) (subst (λ (l : List Live). AreDistinct l) (sym (same_live c.end_lent.new.live live same)) (distinct c.requires.stands.1))

pub returns-in-Ok-clause-ended : goal.returns-in-Ok-clause-ended
returns-in-Ok-clause-ended g c W of =
    let members = items_at c.args.places.now W.live in
    let ready = subst (λ (l : List Seat). AreEach (IsMember W) (map member_of (items_at c.args.places.now l)) members) (sym c.deref_mut.ensures.value) (members_ready of c.args.numbers.now c.args.places.now c.requires.at) in
    let ends = with_items_is c.args.self.now.ends c.end_lent.new.ends (c.end_lent.auto.ends ∙ c.deref_mut-2.ensures.len) in
    let n : 0 + length c.args.places.now ≡ length c.args.places.now = omega arith in
    subst (λ (l : List GroupEnd). HasEnded {T = Unit {0}} g.D.Disk.state c.args.self.now.core c.end_lent.new.core W members (take (length c.args.places.now) l) (Ok tt)) (sym ends)
    (subst (λ (k : ℕ). HasEnded {T = Unit {0}} g.D.Disk.state c.args.self.now.core c.end_lent.new.core W members (take k c.end_lent.new.ends) (Ok tt)) n (c.in-Ok.ensures.group W members of.core_of ready))

pub returns-in-Ok-clause-ok : goal.returns-in-Ok-clause-ok
returns-in-Ok-clause-ok g c W of =
    let live = c.args.self.now.live.items in
    let members = items_at c.args.places.now W.live in
    let ready = subst (λ (l : List Seat). AreEach (IsMember W) (map member_of (items_at c.args.places.now l)) members) (sym c.deref_mut.ensures.value) (members_ready of c.args.numbers.now c.args.places.now c.requires.at) in
    let lives = with_items_is c.args.self.now.live c.end_lent.new.live (c.end_lent.auto.live ∙ c.deref_mut.ensures.len) in
    let same = c.end_lent.ensures.live ∙ ap (λ (l : List Seat). map doing_of l) c.deref_mut.ensures.value in
    left_behind of c.args.numbers.now c.args.places.now c.requires.at c.end_lent.new.live c.leave.new.live.items same
    (c.leave.ensures.live ∙ ap (λ (l : List Seat). left_of c.args.numbers.now (map live_of l)) lives)
    (c.leave.ensures.sized W.geometry (subst (λ (l : List Seat). AllByRecursion (IsSized W.geometry) l) (sym lives) (same_sized W.geometry c.end_lent.new.live live same of.sized)))
    (c.in-Ok.ensures.group W members of.core_of ready).ended.1

pub returns-in-Err-clause-ended : goal.returns-in-Err-clause-ended
returns-in-Err-clause-ended g c W of =
    let members = items_at c.args.places.now W.live in
    let ready = subst (λ (l : List Seat). AreEach (IsMember W) (map member_of (items_at c.args.places.now l)) members) (sym c.deref_mut.ensures.value) (members_ready of c.args.numbers.now c.args.places.now c.requires.at) in
    let ends = with_items_is c.args.self.now.ends c.end_lent.new.ends (c.end_lent.auto.ends ∙ c.deref_mut-2.ensures.len) in
    let n : 0 + length c.args.places.now ≡ length c.args.places.now = omega arith in
    subst (λ (l : List GroupEnd). HasEnded {T = Unit {0}} g.D.Disk.state c.args.self.now.core c.end_lent.new.core W members (take (length c.args.places.now) l) (Err c.in-Err.error)) (sym ends)
    (subst (λ (k : ℕ). HasEnded {T = Unit {0}} g.D.Disk.state c.args.self.now.core c.end_lent.new.core W members (take k c.end_lent.new.ends) (Err c.in-Err.error)) n (c.in-Err.ensures.group W members of.core_of ready))

pub returns-in-Err-clause-err : goal.returns-in-Err-clause-err
returns-in-Err-clause-err g c W of other =
    let members = items_at c.args.places.now W.live in
    let ready = subst (λ (l : List Seat). AreEach (IsMember W) (map member_of (items_at c.args.places.now l)) members) (sym c.deref_mut.ensures.value) (members_ready of c.args.numbers.now c.args.places.now c.requires.at) in
    let lives = with_items_is c.args.self.now.live c.end_lent.new.live (c.end_lent.auto.live ∙ c.deref_mut.ensures.len) in
    let same = c.end_lent.ensures.live ∙ ap (λ (l : List Seat). map doing_of l) c.deref_mut.ensures.value in
    subst (λ (l : List Seat). AreOf g.D.Disk.state c.end_lent.new.core l W) (sym lives) (settled_same of same ((c.in-Err.ensures.group W members of.core_of ready).same other))

pub returns-in-Ok-clause-ends : goal.returns-in-Ok-clause-ends
returns-in-Ok-clause-ends g c =
    ap length (with_items_is c.args.self.now.ends c.end_lent.new.ends (c.end_lent.auto.ends ∙ c.deref_mut-2.ensures.len)) ∙ c.end_lent.auto.ends ∙ ap length c.deref_mut-2.ensures.value

pub returns-in-Err-clause-ends : goal.returns-in-Err-clause-ends
returns-in-Err-clause-ends g c =
    ap length (with_items_is c.args.self.now.ends c.end_lent.new.ends (c.end_lent.auto.ends ∙ c.deref_mut-2.ensures.len)) ∙ c.end_lent.auto.ends ∙ ap length c.deref_mut-2.ensures.value
