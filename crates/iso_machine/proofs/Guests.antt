-- A guest after one more call on its transaction.
use Rattle.iso_machine.proofs.BlockWords.{◌≡◌, ◌∙◌, sym, refl, ap, subst, false, Bool, ℕ, ◌+◌, ◌≤◌, List, [], ◌∷◌, ◌++◌, length, Option, Some, None, Result, Ok, Err, OnOk, arith, IsSome, ForSome, length_push, Rose, one_more, DiskState, IsLawful, WritesNothing, joined_unwritten, starts_unwritten, Access, MarkError, Array, mark_fault, marked, World, Doing, span_at, Core, StandsFor, disk_of, up, Counts, IsGuest, IsSameWork, tx_of, AreLimits, length-marked}

same_work : (a b c : Doing) → IsSameWork a b → IsSameWork b c → IsSameWork a c
same_work a b c first second = record {
  begin = second.begin ∙ first.begin;
  mode = second.mode ∙ first.mode;
  size = second.size ∙ first.size;
  blocks = second.blocks ∙ first.blocks;
}

-- the limits of a transaction that is the same but for its accesses
same_limits : (array : Option Array) (old new : Doing) → IsSameWork old new → length new.accesses ≤ 4096 → AreLimits (tx_of array old) → AreLimits (tx_of array new)
same_limits array old new same few is = record {
  least = omega (arith, same.size, is.least);
  most = omega (arith, same.size, is.most);
  few = omega (arith, same.blocks, is.few);
  base = λ A told.
      let shape = is.base A told in
      record { blocks = shape.blocks ∙ sym same.blocks; bytes = λ b below. shape.bytes b (omega (arith, same.blocks, below)) ∙ sym same.size };
  count = few;
}

module _ {D : Type 0} (state : D → DiskState) (stood : World → Type 0) (before : DiskState) (begun : Doing) (array : Option Array) (core new : Core D) (tx : ℕ) (old doing : Doing)
    (failures count : ℕ) (is : IsGuest state stood before begun array core tx old failures) where
  -- a call of the core that writes nothing
  pub goes_on : IsLawful (state (disk_of core)) → ((W : World) → StandsFor state core W up → StandsFor state new W up) → WritesNothing (state (disk_of core)) (state (disk_of new))
      → Counts count before.faults (state (disk_of new)).faults → IsSameWork old doing → length doing.accesses ≤ 4096 → IsGuest state stood before begun array new tx doing count
  goes_on laws stands unwritten counts same few = record {
    world = is.world;
    live = is.live;
    was = is.was;
    here = is.here;
    size = is.size;
    blocks = is.blocks;
    stands = λ W stood_for. stands W (is.stands W stood_for);
    unwritten = joined_unwritten laws is.unwritten unwritten;
    counts = counts;
    same = same_work begun old doing is.same same;
    told = is.told;
    shown = is.shown;
    limits = same_limits array old doing same few is.limits;
  }

-- no call of the core
pub works_on : {D : Type 0} (state : D → DiskState) (stood : World → Type 0) (before : DiskState) (begun : Doing) (array : Option Array) (core : Core D) (tx : ℕ) (old doing : Doing) (failures : ℕ)
    → IsGuest state stood before begun array core tx old failures → IsLawful (state (disk_of core)) → IsSameWork old doing → length doing.accesses ≤ 4096 → IsGuest state stood before begun array core tx doing failures
works_on state stood before begun array core tx old doing failures is laws same few =
    goes_on state stood before begun array core core tx old doing failures failures is laws (λ W stands. stands) (starts_unwritten laws) is.counts same few

-- faults after a call of the core that was Ok, and after one that failed
pub counts_ok : (failures before mid now : ℕ) → Counts failures before mid → now ≡ mid → Counts failures before now
counts_ok failures before mid now counts same = subst (λ (n : ℕ). Counts failures before n) (sym same) counts

pub counts_failed : (failures count before mid now : ℕ) → Counts failures before mid → count ≡ one_more failures → Rose mid now → mid ≤ now → Counts count before now
counts_failed failures count before mid now counts is rose later = record {
  later = omega (arith, counts.later, later);
  none = λ zero. absurd (raised failures (sym is ∙ zero));
  some = λ more. higher before mid now counts.later rose;
}
  where
    raised : (n : ℕ) → one_more n ≡ 0 → ⊥
    raised n e = omega (arith, e)

    higher : (a b c : ℕ) → a ≤ b → Rose b c → Rose a c
    higher a b c below rose = omega (arith, below, rose)

-- what changes the accesses alone, and what is ready and settled
changed : (old new : Doing) (accesses : List Access) (ready : Option ℕ) (settled : Bool) → new ≡ record old { accesses = accesses; ready = ready; settled = settled } → IsSameWork old new × (length new.accesses ≡ length accesses)
changed old new accesses ready settled is = (
  record {
    begin = ap (λ (w : Doing). w.begin) is;
    mode = ap (λ (w : Doing). w.mode) is;
    size = ap (λ (w : Doing). w.size) is;
    blocks = ap (λ (w : Doing). w.blocks) is;
  },
  ap (λ (w : Doing). length w.accesses) is,
)

-- a mark, taken or refused
pub mark_keeps : (old new : Doing) (off len : ℕ) (result : Result (Unit {0}) MarkError)
    → OnOk result ((mark_fault old.size off len old.accesses ≡ None) × (new ≡ record old { accesses = marked (span_at off len) old.accesses; settled = false }))
    → ((fault : MarkError) → result ≡ Err fault → (mark_fault old.size off len old.accesses ≡ Some fault) × (new ≡ old)) → IsSameWork old new × (length new.accesses ≡ length old.accesses)
mark_keeps old new off len (Ok x) ok err =
    let is = changed old new (marked (span_at off len) old.accesses) old.ready false ok.1 in (is.0, is.1 ∙ length-marked (span_at off len) old.accesses)
mark_keeps old new off len (Err fault) ok err = changed old new old.accesses old.ready old.settled (err fault refl).1

-- one more access
pub access_keeps : (old mid new : Doing) (block : ℕ) (a : Access) → mid ≡ record old { ready = Some block } → new ≡ record mid { accesses = mid.accesses ++ a ∷ []; ready = None; settled = false }
    → IsSameWork old new × (length new.accesses ≡ length old.accesses + 1)
access_keeps old mid new block a prepared is =
    let made = changed old new (old.accesses ++ a ∷ []) None false (is ∙ ap (λ (w : Doing). let v : Doing = record w { accesses = w.accesses ++ a ∷ []; ready = None; settled = false } in v) prepared) in
    (made.0, made.1 ∙ length_push old.accesses a)

pub ready_keeps : (old new : Doing) (block : ℕ) → new ≡ record old { ready = Some block } → IsSameWork old new × (length new.accesses ≡ length old.accesses)
ready_keeps old new block is = changed old new old.accesses (Some block) old.settled is

-- the disk tells its bytes still
pub told_still : (array : Option Array) (A : Array) (before now : DiskState) → (IsSome array → IsSome before.contents) → array ≡ Some A → now.contents ≡ before.contents → IsSome now.contents
told_still array A before now told is same =
    subst (λ (o : Option (List ℕ)). IsSome o) (sym same) (told (subst (λ (o : Option Array). IsSome o) (sym is) refl))

pub if_told : {P : Type 0} (o : Option (List ℕ)) → IsSome o → ForSome o (λ c. P) → P
if_told None told each = absurd (cc told)
if_told (Some c) told each = each c refl
