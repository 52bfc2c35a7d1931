-- The transactions at places of a table, as the members of a group.
use Rattle.iso_machine.proofs.{Words.{◌≡◌, ◌∙◌, ◌+◌, ◌<◌, ◌≤◌, ◌≢◌, ◌⊎◌, inl, inr, Bool, true, false, Result, Ok, Err, IsLawful, LeavesOnly, ShowsEither, Stop, CoreError, disk_of, arith, length, last, used, LAST, Some, GroupEnd, GroupReply, Reply, reply_in, sym, refl, ap, subst, ℕ, zero, suc, List, [], ◌∷◌, ◌++◌, map, take, drop, map-append, AllByRecursion, DiskState, World, Live, Core, IsAmong, StandsFor, AreEach, IsMember, group, up}, Groups.{AreOther, all_among, group_geometry, group_live}}
use Rattle.std.proofs.lemmas.List.{length-append, length-map}
use Rattle.iso_disk.proofs.Moments.{starts_unwritten}
use Rattle.iso_model.specs.declared.core_error.CoreError.TheVariants as error
use Rattle.script_model.specs.declared.stop.Stop.TheVariants as stop
use Rattle.iso_model.proofs.Worlds.{all_append}
use Rattle.device_desk.specs.{declared.seat.Seat.Seat, Lent.{HasEnded, StandAt, doing_of, items_at}, Numbers.{left_of, member_of}, Seats.{AreOf, IsSized, live_of}, Waiting.{Fit, HasTried, after_ends, end_replies, needs, told_in, told_of}}
use Rattle.device_desk.proofs.{Fitting.{AreMembers, ArePlaced, as_ends, members_all, members_leave, members_other, placed_all, stand_members}, Lendings.{same_live, same_sized}, Members.each_of, Tables.distinct}

item_mapped : {X Y : Type 0} (f : X → Y) (i : ℕ) (xs : List X) → map f (take 1 (drop i xs)) ≡ take 1 (drop i (map f xs))
item_mapped f zero [] = refl
item_mapped f zero (x ∷ xs) = refl
item_mapped f (suc i) [] = refl
item_mapped f (suc i) (x ∷ xs) = item_mapped f i xs

pub items_mapped : {X Y : Type 0} (f : X → Y) (places : List ℕ) (xs : List X) → map f (items_at places xs) ≡ items_at places (map f xs)
items_mapped f [] xs = refl
items_mapped f (i ∷ places) xs = map-append f (take 1 (drop i xs)) (items_at places xs) ∙ (λ k. item_mapped f i xs k ++ items_mapped f places xs k)

item_all : {X : Type 0} (P : X → Type 0) (i : ℕ) (xs : List X) → AllByRecursion P xs → AllByRecursion P (take 1 (drop i xs))
item_all P zero [] all = tt
item_all P zero (x ∷ xs) all = (all.0, tt)
item_all P (suc i) [] all = tt
item_all P (suc i) (x ∷ xs) all = item_all P i xs all.1

items_all : {X : Type 0} (P : X → Type 0) (places : List ℕ) (xs : List X) → AllByRecursion P xs → AllByRecursion P (items_at places xs)
items_all P [] xs all = tt
items_all P (i ∷ places) xs all = all_append P (take 1 (drop i xs)) (items_at places xs) (item_all P i xs all) (items_all P places xs all)

module _ {D : Type 0} {state : D → DiskState} {core : Core D} {live : List Seat} {W : World} (of : AreOf state core live W) (numbers places : List ℕ) (stand : StandAt live numbers places) where
  pub members_here : AreMembers W.live numbers (items_at places W.live)
  members_here = subst (λ (l : List Live). AreMembers l numbers (items_at places l)) of.live_are (stand_members numbers places live (distinct of) stand)

  pub placed_here : ArePlaced W.live
  placed_here = subst (λ (l : List Live). ArePlaced l) of.live_are (placed_all live)

  pub members_ready : AreEach (IsMember W) (map member_of (items_at places live)) (items_at places W.live)
  members_ready =
      let mapped : map live_of (items_at places live) ≡ items_at places W.live = items_mapped live_of places live ∙ ap (λ (l : List Live). items_at places l) of.live_are in
      subst (λ (ms : List Live). AreEach (IsMember W) (map member_of (items_at places live)) ms) mapped
      (each_of W (items_at places live) (items_all (IsSized W.geometry) places live of.sized)
      (subst (λ (ms : List Live). AllByRecursion (λ t. IsAmong t W.live) ms) (sym mapped) (members_all (λ t. IsAmong t W.live) W.live numbers (items_at places W.live) (all_among W.live) members_here))
      (subst (λ (ms : List Live). AreOther ms) (sym mapped) (members_other W.live numbers (items_at places W.live) placed_here members_here)))

  -- they have ended and left
  pub left_behind : {new : Core D} (lent left : List Seat) → map doing_of lent ≡ map doing_of live → map live_of left ≡ left_of numbers (map live_of lent) → AllByRecursion (IsSized W.geometry) left
      → StandsFor state new (group W (items_at places W.live)).1 up → AreOf state new left (group W (items_at places W.live)).1
  left_behind lent left same leaves sized stands = record {
    core_of = stands;
    live_are = leaves ∙ ap (left_of numbers) (same_live lent live same ∙ of.live_are) ∙ members_leave W.live numbers (items_at places W.live) placed_here members_here ∙ sym (group_live W (items_at places W.live));
    sized = subst (λ g. AllByRecursion (IsSized g) left) (sym (group_geometry W (items_at places W.live))) sized;
  }

-- transactions that are only settled stand for the same world
pub settled_same : {D : Type 0} {state : D → DiskState} {core new : Core D} {live now : List Seat} {W : World} → AreOf state core live W → map doing_of now ≡ map doing_of live → StandsFor state new W up → AreOf state new now W
settled_same {live = live} {now = now} {W = W} of same stands = record {
  core_of = stands;
  live_are = same_live now live same ∙ of.live_are;
  sized = same_sized W.geometry now live same of.sized;
}

item_count : {X : Type 0} (i : ℕ) (xs : List X) → i < length xs → length (take 1 (drop i xs)) ≡ 1
item_count zero [] inside = absurd (omega (arith, inside))
item_count zero (x ∷ xs) inside = refl
item_count (suc i) [] inside = absurd (omega (arith, inside))
item_count (suc i) (x ∷ xs) inside = item_count i xs (omega (arith, inside))

-- there is one at each place
pub items_count : {X : Type 0} (places : List ℕ) (xs : List X) → AllByRecursion (λ i. i < length xs) places → length (items_at places xs) ≡ length places
items_count [] xs all = refl
items_count (i ∷ places) xs all =
    let one = item_count i xs all.0 in
    let others = items_count places xs all.1 in
    omega (arith, one, others, length-append (take 1 (drop i xs)) (items_at places xs))

-- all of them have room
pub all_have_room : (W : World) (live : List Seat) (places : List ℕ) (room last_number used_bytes log count : ℕ) → map live_of live ≡ W.live → AllByRecursion (λ i. i < length live) places
    → needs W.geometry (items_at places (map live_of live)) ≤ room → (room + used_bytes + 1 ≡ log) × (last_number + count ≤ LAST) → last_number ≡ last W.history → used_bytes ≡ used W → log ≡ W.geometry.log → count ≡ length places
    → Fit W (items_at places W.live)
all_have_room W live places room last_number used_bytes log count live_are within fits behind last_is used_is log_is count_is =
    let same : needs W.geometry (items_at places (map live_of live)) ≡ needs W.geometry (items_at places W.live) = ap (λ (l : List Live). needs W.geometry (items_at places l)) live_are in
    let long : length (items_at places W.live) ≡ length places =
    sym (ap length (items_mapped live_of places live ∙ ap (λ (l : List Live). items_at places l) live_are)) ∙ length-map (items_at places live) live_of ∙ items_count places live within in
    record { room = omega (arith, same, fits, behind.0, used_is, log_is); numbers = omega (arith, long, behind.1, last_is, count_is) }

-- a group of members that all have room is as many ends
pub ends_together : {D : Type 0} {state : D → DiskState} {core : Core D} {live : List Seat} {W : World} → AreOf state core live W → (numbers places : List ℕ) → StandAt live numbers places → Fit W (items_at places W.live)
    → (map told_of (group W (items_at places W.live)).0 ≡ end_replies W numbers) × ((group W (items_at places W.live)).1 ≡ after_ends W numbers)
ends_together {W = W} of numbers places stand fit = as_ends numbers (items_at places W.live) W of.core_of.kept_of.world (placed_here of numbers places stand) (members_here of numbers places stand) fit

told_each : (rs : List GroupReply) → map told_in (map Some rs) ≡ map told_of rs
told_each [] = refl
told_each (r ∷ rs) = ap (λ (l : List Reply). told_of r ∷ l) (told_each rs)

-- the replies of the members are those of the ends
pub told_together : (ends : List GroupEnd) (rs : List GroupReply) (wanted : List Reply) → map reply_in ends ≡ map Some rs → map told_of rs ≡ wanted → map told_in (map reply_in ends) ≡ wanted
told_together ends rs wanted are same = ap (map told_in) are ∙ told_each rs ∙ same

-- what a try came to, whose core was this one
module _ {D : Type 0} {state : D → DiskState} {old mid new : Core D} (kept : mid ≡ old) (stands : World → Type 0) {W : World} (numbers : List ℕ) (members : List Live) (is_all : (group W members).1 ≡ after_ends W numbers) where
  pub tried_ok : {T : Type 0} {answer : T} (ends : List GroupEnd) (before after : List Reply) → HasEnded state mid new W members ends (Ok answer) → map told_of (group W members).0 ≡ end_replies W numbers
      → after ≡ before ++ map told_in (map reply_in ends) → stands (group W members).1 → HasTried stands (state (disk_of old)) (state (disk_of new)) W numbers before after (Ok true)
  tried_ok ends before after is replies pushed stand =
      subst (λ (core : Core D). HasTried stands (state (disk_of core)) (state (disk_of new)) W numbers before after (Ok true)) kept (
        pushed ∙ ap (λ (l : List Reply). before ++ l) (told_together ends (group W members).0 (end_replies W numbers) is.ended.0 replies),
        subst stands is_all stand,
        subst (λ (V : World). LeavesOnly (state (disk_of mid)) (state (disk_of new)) (ShowsEither W V)) is_all is.moments,
        is.told,
        is.cause.passed,
      )

  pub tried_fails : {T : Type 0} (ends : List GroupEnd) (before : List Reply) (e : CoreError) (result : Result Bool Stop) → HasEnded {T = T} state mid new W members ends (Err e) → IsLawful (state (disk_of old)) → (e ≢ error.Disk → stands W)
      → (e ≡ error.Memory → result ≡ Ok false) → (e ≢ error.Memory → result ≡ Err stop.Disk) → HasTried stands (state (disk_of old)) (state (disk_of new)) W numbers before before result
  tried_fails ends before e result is laws stand memory other = go is.only
    where
      go : (e ≡ error.Disk) ⊎ (e ≡ error.Memory) → HasTried stands (state (disk_of old)) (state (disk_of new)) W numbers before before result
      go (inl disk) =
          let no : e ≢ error.Memory = λ m. cc (disk, m) in
          subst (λ r. HasTried stands (state (disk_of old)) (state (disk_of new)) W numbers before before r) (sym (other no))
          (subst (λ (core : Core D). HasTried stands (state (disk_of core)) (state (disk_of new)) W numbers before before (Err stop.Disk)) kept (
            refl,
            refl,
            subst (λ (V : World). LeavesOnly (state (disk_of mid)) (state (disk_of new)) (ShowsEither W V)) is_all is.moments,
            is.cause.later,
            is.cause.failed (ap Err disk),
          ))
      go (inr wants) =
          let no : e ≢ error.Disk = λ d. cc (wants, d) in
          let still : disk_of new ≡ disk_of old = is.untouched no ∙ ap disk_of kept in
          subst (λ r. HasTried stands (state (disk_of old)) (state (disk_of new)) W numbers before before r) (sym (memory wants))
          (subst (λ (disk : D). HasTried stands (state (disk_of old)) (state disk) W numbers before before (Ok false)) (sym still) (refl, stand no, starts_unwritten laws, refl))
