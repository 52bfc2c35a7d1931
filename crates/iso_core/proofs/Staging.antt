-- The commits of a plan are taken in, and their transactions leave.
use Rattle.iso_core.proofs.{Words.{Bool, true, false, IsSome, nat_eq, remove_entry, begin_of, Begun, leave_all, ◌≡◌, ◌≢◌, ◌∙◌, inl, inr, sym, refl, ap, ℕ, ◌+◌, ◌-◌, ◌<◌, ◌≤◌, ◌==◌, cond, List, [], ◌∷◌, ◌++◌, length, map, take, drop, arith, subst, eq-eqb, ne_eqb, Result, OnOk, transport, AllByRecursion, cases_eq, append_assoc, length-append, length_push, take-append-le, take_all, drop-append-le, drop_all, map-append, length-map, sum_by-append, AreNotes, AreNotesAfter, Held, Note, RisesFrom, above, dropped_after, notes_rise, Half, MayFollow, half_of_world, last_told, next_gate, told_bytes, with_records, Commit, Geometry, first_after, record_length, log_place, all_own, array_at, last, IsRecord, Written, written, after_leaving, World, Live, floor, without, IsWorld, floor_above, floor_below, length-records, floor_between, IsIndexOf, BlockVersions, PartSpan, HasRoom, HasTaken, MayTake, parts_in, index_more, may_take, GroupEnd, Kept, Plan, Staged, IsAmong, ahead, IsOf, IsMember, AreEach, IsGrownWith, IsLiveMember, IsReady, MayTakeAll, all_parts, parts_of, LogExtent, extent_of, on_ok_weaker}, Commits.held_records, Leaves.{is_live, leaves_so}, Judging.staged_count, Numbers.last_is, Standings.kept_with}
use Rattle.std.proofs.lemmas.List.{length-drop}

-- parts of both lists
pub parts_both : (b : ℕ) (xs ys : List PartSpan) → parts_in b (xs ++ ys) ≡ parts_in b xs + parts_in b ys
parts_both b xs ys = sum_by-append (λ (part : PartSpan). cond (part.block == b) 1 0) xs ys

pub room_first : (xs ys : List PartSpan) (index : List BlockVersions) → HasRoom (xs ++ ys) index → HasRoom xs index
room_first xs ys index room b = let both = parts_both b xs ys in omega (arith, both, room b)

pub room_rest : (xs ys : List PartSpan) (number gate : ℕ) (old new : List BlockVersions) → HasRoom (xs ++ ys) old → HasTaken number gate xs old new → HasRoom ys new
room_rest xs ys number gate old new room taken b = let both = parts_both b xs ys in omega (arith, both, room b, taken.room b)

-- the bytes with one record more
pub bytes_one : (g : Geometry) (x : Half) (w : Written) → length (told_bytes g (with_records (w ∷ []) x)) ≡ length (told_bytes g x) + record_length w.parts
bytes_one g x w = grind (arith, length-records, sum_by-append)

pub gate_one : (g : Geometry) (x : Half) (w : Written) → next_gate g (with_records (w ∷ []) x) ≡ next_gate g x + record_length w.parts
gate_one g x w = let all = bytes_one g x w in omega (arith, all)

with_both : (x : Half) (w : Written) (ws : List Written) → with_records ws (with_records (w ∷ []) x) ≡ with_records (w ∷ ws) x
with_both x w ws = let e = append_assoc x.told (w ∷ []) ws in λ i. record x { told = e i }

pub follow_first : (g : Geometry) (x : Half) (w : Written) (ws : List Written) → MayFollow g x (w ∷ ws) → MayFollow g x (w ∷ [])
follow_first g x w ws may =
    let first = length-records g (x.base + 1) (x.told ++ w ∷ []) in
    let all = length-records g (x.base + 1) (x.told ++ w ∷ ws) in
    let split = sum_by-append (λ (v : Written). record_length v.parts) x.told (w ∷ []) in
    let whole = sum_by-append (λ (v : Written). record_length v.parts) x.told (w ∷ ws) in
    let rest = sum_by-append (λ (v : Written). record_length v.parts) (w ∷ []) ws in
    let numbers = may.numbers in
    let room = may.room in
    record { each = (may.each.0, tt); numbers = omega (arith, numbers); room = omega (arith, first, all, split, whole, rest, room) }

pub follow_rest : (g : Geometry) (x : Half) (w : Written) (ws : List Written) → MayFollow g x (w ∷ ws) → MayFollow g (with_records (w ∷ []) x) ws
follow_rest g x w ws may =
    let numbers = may.numbers in
    record {
      each = may.each.1;
      numbers = omega (arith, length_push x.told w, numbers);
      room = subst (λ (h : Half). length (told_bytes g h) + 1 ≤ g.log) (sym (with_both x w ws)) may.room;
    }

all_push : (g : Geometry) (told : List Written) (w : Written) → AllByRecursion (IsRecord g) told → IsRecord g w → AllByRecursion (IsRecord g) (told ++ w ∷ [])
all_push g [] w all is = (is, tt)
all_push g (v ∷ told) w all is = (all.0, all_push g told w all.1 is)

parted_at : (n : ℕ) (all xs ys : List PartSpan) → all ≡ xs ++ ys → n ≡ length xs → (take n all ≡ xs) × (drop n all ≡ ys)
parted_at n all xs ys is count = (
  ap (take n) is ∙ take-append-le n xs ys (omega (arith, count)) ∙ take_all n xs (omega (arith, count)),
  ap (drop n) is ∙ drop-append-le n xs ys (omega (arith, count)) ∙ ap (λ (l : List PartSpan). l ++ ys) (drop_all n xs (omega (arith, count))),
)

module _ (g : Geometry) (x : Half) (t at : ℕ) (c : Commit) (commits : List Commit) (number gate : ℕ) (s : Staged) (staged : List Staged) (parts : List PartSpan) (index : List BlockVersions)
    (may : MayTakeAll g x t at (c ∷ commits) number gate (s ∷ staged) parts index) where
  here : gate + s.at ≡ next_gate g x
  here = omega (arith, may.gate_is, may.are.0)

  both : (take s.count parts ≡ parts_of g c) × (drop s.count parts ≡ all_parts g commits)
  both = parted_at s.count parts (parts_of g c) (all_parts g commits) may.parts_are may.are.1

  pub enough : s.count ≤ length parts
  enough = omega (arith, ap (λ (l : List PartSpan). length l) may.parts_are, length-append (parts_of g c) (all_parts g commits), may.are.1)

  pub takes_first : (own : List PartSpan) → own ≡ take s.count parts → MayTake number (gate + s.at) own index
  takes_first own own_is =
      let number_is = sym may.number_is in
      let gate_is = sym here in
      let is = sym (own_is ∙ both.0) in
      transport (λ i. MayTake (number_is i) (gate_is i) (is i) index)
      (may_take g x t (written g c) index may.valid may.half may.each (follow_first g x (written g c) (map (written g) commits) may.follow) may.is)

  pub takes_rest : (own others : List PartSpan) (new : List BlockVersions) → own ≡ take s.count parts → others ≡ drop s.count parts → HasTaken number (gate + s.at) own index new
      → MayTakeAll g (with_records (written g c ∷ []) x) t (at + record_length (written g c).parts) commits (number + 1) gate staged others new
  takes_rest own others new own_is others_are taken =
      let number_is = may.number_is in
      let count = length_push x.told (written g c) in
      let trim : t ≤ last_told x = may.trim in
      let first : number ≡ x.base + 1 + length x.told = omega (arith, number_is) in
      let is = own_is ∙ both.0 in
      record {
        valid = may.valid;
        half = may.half;
        each = all_push g x.told (written g c) may.each may.follow.each.0;
        follow = follow_rest g x (written g c) (map (written g) commits) may.follow;
        trim = omega (arith, trim, count);
        is = index_more g (x.base + 1) (log_place g x.at) t x.told (written g c) index new may.is (omega (arith, trim))
            (transport (λ i. HasTaken (first i) (here i) (is i) index new) taken);
        are = may.are.2;
        parts_are = others_are ∙ both.1;
        number_is = omega (arith, number_is, count);
        gate_is = omega (arith, may.gate_is, gate_one g x (written g c));
      }

-- the half of a world with commits ahead
pub half_ahead : (W : World) (more : List Commit) (at : ℕ) → IsWorld W → half_of_world (ahead W more) at ≡ with_records (map (written W.geometry) more) (half_of_world W at)
half_ahead W more at is =
    let base : W.base ≤ W.trim = is.base in
    let first : 0 < W.history.first = is.history.first in
    let n : W.base + 1 - W.history.first ≤ length W.history.commits = omega arith in
    let array : array_at (ahead W more).history W.base ≡ array_at W.history W.base = ap (all_own W.history.base) (take-append-le (W.base + 1 - W.history.first) W.history.commits more n) in
    let told : map (written W.geometry) (drop (W.base + 1 - W.history.first) (W.history.commits ++ more)) ≡ map (written W.geometry) (drop (W.base + 1 - W.history.first) W.history.commits) ++ map (written W.geometry) more =
    ap (map (written W.geometry)) (drop-append-le (W.base + 1 - W.history.first) W.history.commits more n) ∙ map-append (written W.geometry) (drop (W.base + 1 - W.history.first) W.history.commits) more in
    λ i. record { at = at; generation = W.generation; base = W.base; array = array i; told = told i }

-- notes of commits, and of those that follow
pub notes_joined : (g : Geometry) (k n : ℕ) (notes others : List Note) (commits more : List Commit) → AreNotes g k notes commits → n ≡ k + length commits → AreNotes g n others more
    → AreNotes g k (notes ++ others) (commits ++ more)
notes_joined g k n [] others [] more are is next = subst (λ (m : ℕ). AreNotes g m others more) (omega (arith, is)) next
notes_joined g k n [] others (c ∷ commits) more are is next = absurd are
notes_joined g k n (x ∷ notes) others [] more are is next = absurd are
notes_joined g k n (x ∷ notes) others (c ∷ commits) more are is next = (are.0, are.1, notes_joined g (k + 1) n notes others commits more are.2 (omega (arith, is)) next)

pub notes_ahead : (W : World) (more : List Commit) (from : ℕ) (notes others : List Note) → IsWorld W → from ≤ last W.history → AreNotesAfter W.geometry W.history from notes
    → AreNotes W.geometry (last W.history + 1) others more → AreNotesAfter W.geometry (ahead W more).history from (notes ++ others)
notes_ahead W more from notes others is low are next =
    let first : 0 < W.history.first = is.history.first in
    let inside : from + 1 - W.history.first ≤ length W.history.commits = omega (arith, low, first) in
    let number : last W.history + 1 ≡ first_after W.history from + length (drop (from + 1 - W.history.first) W.history.commits) = (let n = length-drop (from + 1 - W.history.first) W.history.commits in omega (arith, n, low, first)) in
    subst (λ (l : List Commit). AreNotes W.geometry (first_after W.history from) (notes ++ others) l) (sym (drop-append-le (from + 1 - W.history.first) W.history.commits more inside))
    (notes_joined W.geometry (first_after W.history from) (last W.history + 1) notes others (drop (from + 1 - W.history.first) W.history.commits) more are number next)

-- the floor does not fall as commits come
pub floor_ahead : (W : World) (more : List Commit) → IsWorld W → floor W ≤ floor (ahead W more)
floor_ahead W more is =
    let count = length-append W.history.commits more in
    floor_above (floor W) (last (ahead W more).history) W.live (omega (arith, (floor_between W is).1, count)) (floor_below (last W.history) W.live)

-- a transaction is among the others still, once one with another number has left
among_left : (n : ℕ) (u : Live) (live : List Live) → u.number ≢ n → IsAmong u live → IsAmong u (without n live)
among_left n u [] other there = absurd there
among_left n u (v ∷ live) other (inl same) = grind arith
among_left n u (v ∷ live) other (inr there) = elim (cases_eq v.number n) [
  | inl e ↦ rw (eq-eqb v.number n e) (among_left n u live other there)
  | inr e ↦ rw (ne_eqb v.number n e) (inr (among_left n u live other there))
]

pub members_left : (W : World) (t : Live) (members : List GroupEnd) (ts : List Live) → AllByRecursion (λ (u : Live). u.number ≢ t.number) ts → AreEach (IsLiveMember W) members ts
    → AreEach (IsLiveMember (after_leaving W t)) members ts
members_left W t [] [] other each = tt
members_left W t [] (u ∷ ts) other each = absurd each
members_left W t (m ∷ members) [] other each = absurd each
members_left W t (m ∷ members) (u ∷ ts) other each = (
  record { number = each.0.number; among = among_left t.number u W.live other.0 each.0.among },
  each.1,
  members_left W t members ts other.1 each.2,
)

shorter : (tx : ℕ) (live : List (ℕ × Begun)) → IsSome (begin_of tx live) → length (remove_entry (nat_eq tx) live) + 1 ≡ length live
shorter tx [] some = absurd (cc)
shorter tx (e ∷ live) some = by (nat_eq tx e.0) refl (λ there. shorter tx live there)
  where
    by : (b : Bool) → nat_eq tx e.0 ≡ b → (IsSome (begin_of tx live) → length (remove_entry (nat_eq tx) live) + 1 ≡ length live)
        → length (remove_entry (nat_eq tx) (e ∷ live)) + 1 ≡ length (e ∷ live)
    by true is later = rw is (omega arith)
    by false is later = let rest = later (rw is at some) in rw is (omega (arith, rest))

-- where as many leave as are live, none is left
pub none_left : (kept : Kept) (W : World) (group : List GroupEnd) (members : List Live) → IsOf kept W → AreEach (IsLiveMember W) group members → length group ≡ length kept.live
    → IsOf (record kept { live = [] }) (leave_all members W)
none_left kept W [] [] of each as_many = subst (λ (l : List (ℕ × Begun)). IsOf (record kept { live = l }) W) (no_entry kept.live (sym as_many)) of
  where
    no_entry : (live : List (ℕ × Begun)) → length live ≡ 0 → live ≡ []
    no_entry [] none = refl
    no_entry (e ∷ live) none = absurd (omega (arith, none))
none_left kept W [] (t ∷ ts) of each as_many = absurd each
none_left kept W (m ∷ group) [] of each as_many = absurd each
none_left kept W (m ∷ group) (t ∷ ts) of each as_many =
    let rest = remove_entry (nat_eq m.tx) kept.live in
    let fewer = shorter m.tx kept.live (is_live kept W m.tx t of each.0) in
    none_left (record kept { live = rest }) (after_leaving W t) group ts (leaves_so kept W m.tx t of each.0 rest refl) (members_left W t group ts each.1 each.2) (omega (arith, as_many, fewer))

rises_low : (a b : ℕ) (notes : List Note) → a ≤ b → RisesFrom b notes → RisesFrom a notes
rises_low a b [] le rises = tt
rises_low a b (note ∷ notes) le rises = (omega (arith, le, rises.0), rises.1)

-- what is kept, with the commits of a plan taken in
module _ (W : World) (more : List Commit) (plan : Plan) (kept : Kept) (gate : ℕ) (grown : IsGrownWith W more plan kept gate) where
  pub number_first : (first count : ℕ) → count ≡ length plan.staged.items → first ≡ kept.log.last - count + 1 → first ≡ last_told (half_of_world W kept.half) + 1
  number_first first count count_is first_is =
      let all : kept.log.last ≡ last_told (with_records (map (written W.geometry) more) (half_of_world W kept.half)) = ap (λ (e : LogExtent). e.last) grown.log in
      let told = length-append (half_of_world W kept.half).told (map (written W.geometry) more) in
      omega (arith, all, told, length-map more (written W.geometry), staged_count W.geometry 0 plan.staged.items more grown.ahead_of.staged, count_is, first_is)

  pub few_first : (count : ℕ) → count ≡ length plan.staged.items → count ≤ kept.log.last
  few_first count count_is =
      let all : kept.log.last ≡ last_told (with_records (map (written W.geometry) more) (half_of_world W kept.half)) = ap (λ (e : LogExtent). e.last) grown.log in
      let told = length-append (half_of_world W kept.half).told (map (written W.geometry) more) in
      omega (arith, all, told, length-map more (written W.geometry), staged_count W.geometry 0 plan.staged.items more grown.ahead_of.staged, count_is)

  pub takes_all : (first : ℕ) → first ≡ last_told (half_of_world W kept.half) + 1
      → MayTakeAll W.geometry (half_of_world W kept.half) W.trim 0 more first gate plan.staged.items plan.parts.items kept.index
  takes_all first first_is =
      let of = grown.was.keeps in
      let trim : W.trim ≤ last W.history = grown.was.world.trim in
      record {
        valid = grown.was.world.valid;
        half = of.half;
        each = held_records W kept.half grown.was.world;
        follow = grown.follows;
        trim = omega (arith, trim, last_is W kept.half grown.was.world);
        is = of.index;
        are = grown.ahead_of.staged;
        parts_are = grown.ahead_of.parts;
        number_is = first_is;
        gate_is = omega (arith, grown.gate_is);
      }

  pub rising_notes : RisesFrom 0 (kept.notes.notes ++ plan.notes.notes)
  rising_notes = grind (arith, floor_between, rises_low, notes_rise, notes_ahead)

  pub taken_in : (index : List BlockVersions) (notes : Held) → IsIndexOf W.geometry (W.base + 1) (log_place W.geometry kept.half) W.trim ((half_of_world W kept.half).told ++ map (written W.geometry) more) index
      → notes.notes ≡ kept.notes.notes ++ plan.notes.notes → IsOf (record kept { index = index; notes = notes }) (ahead W more)
  taken_in index notes index_is notes_are =
      let of = grown.was.keeps in
      let low : floor W ≤ last W.history = (floor_between W grown.was.world).1 in
      record {
        world = grown.ahead_of.world;
        keeps = record {
          geometry = of.geometry;
          half = of.half;
          generation = of.generation;
          base = of.base;
          trim = of.trim;
          next = of.next;
          log = grown.log ∙ ap (extent_of W.geometry) (sym (half_ahead W more kept.half grown.was.world));
          index = subst (λ (l : List Written). IsIndexOf W.geometry (W.base + 1) (log_place W.geometry kept.half) W.trim l index)
              (sym (ap (λ (h : Half). h.told) (half_ahead W more kept.half grown.was.world))) index_is;
          notes = record {
            from = of.notes.from;
            before = omega (arith, of.notes.before, floor_ahead W more grown.was.world);
            notes = subst (λ (l : List Note). AreNotesAfter W.geometry (ahead W more).history of.notes.from l) (sym notes_are)
                (notes_ahead W more of.notes.from kept.notes.notes plan.notes.notes grown.was.world (omega (arith, low, of.notes.before)) of.notes.notes grown.ahead_of.notes);
          };
          live = of.live;
        };
      }

-- the first of what is staged, and the others
pub record FirstStaged (g : Geometry) (x : Half) (t at : ℕ) (commits : List Commit) (number gate : ℕ) (s : Staged) (staged : List Staged) (parts : List PartSpan) (index : List BlockVersions) : Type 0 where
  pub first : Commit
  pub others : List Commit
  pub are : commits ≡ first ∷ others
  pub may : MayTakeAll g x t at (first ∷ others) number gate (s ∷ staged) parts index

pub staged_parted : (g : Geometry) (x : Half) (t at : ℕ) (commits : List Commit) (number gate : ℕ) (s : Staged) (all staged : List Staged) (parts : List PartSpan) (index : List BlockVersions)
    → all ≡ s ∷ staged → MayTakeAll g x t at commits number gate all parts index → FirstStaged g x t at commits number gate s staged parts index
staged_parted g x t at commits number gate s all staged parts index are may = go commits (subst (λ (l : List Staged). MayTakeAll g x t at commits number gate l parts index) are may)
  where
    go : (commits : List Commit) → MayTakeAll g x t at commits number gate (s ∷ staged) parts index → FirstStaged g x t at commits number gate s staged parts index
    go [] may = absurd may.are
    go (c ∷ commits) may = record { first = c; others = commits; are = refl; may = may }

pub none_staged : (g : Geometry) (x : Half) (t at : ℕ) (commits : List Commit) (number gate : ℕ) (parts : List PartSpan) (index : List BlockVersions) → MayTakeAll g x t at commits number gate [] parts index → commits ≡ []
none_staged g x t at [] number gate parts index may = refl
none_staged g x t at (c ∷ commits) number gate parts index may = absurd may.are

-- the notes above the floor are all that is needed
pub notes_dropped : (kept : Kept) (W : World) (notes : Held) (to : ℕ) → IsOf kept W → to ≡ floor W → notes.notes ≡ above to kept.notes.notes → IsOf (record kept { notes = notes }) W
notes_dropped kept W notes to of to_is is = kept_with kept (record kept { notes = notes }) W of of.keeps.index (record {
  from = floor W;
  before = omega arith;
  notes = subst (λ (l : List Note). AreNotesAfter W.geometry W.history (floor W) l) (sym (is ∙ ap (λ (n : ℕ). above n kept.notes.notes) to_is))
      (dropped_after W.geometry W.history of.keeps.notes.from (floor W) kept.notes.notes of.keeps.notes.before of.keeps.notes.notes);
})

-- the first member's work is settled, and those of the others
pub ready_more : {A E : Type 0} (r : Result A E) (W : World) (m n : GroupEnd) (rest others : List GroupEnd) (members : List Live) → ((t : Live) → IsMember W m t → IsReady W n t)
    → ((ts : List Live) → AreEach (IsMember W) rest ts → OnOk r (AreEach (IsReady W) others ts)) → AreEach (IsMember W) (m ∷ rest) members → OnOk r (AreEach (IsReady W) (n ∷ others) members)
ready_more r W m n rest others [] first more each = absurd each
ready_more r W m n rest others (t ∷ members) first more each = on_ok_weaker r (λ all. (first t each.0, each.1, all)) (more members each.2)

pub none_member : (W : World) (members : List Live) → AreEach (IsMember W) [] members → AreEach (IsReady W) [] members
none_member W [] each = tt
none_member W (t ∷ members) each = absurd each
