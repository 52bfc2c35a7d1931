-- The mirrored bytes of one side are copied to the other, a piece at a time.
use Rattle.mirror_disk.proofs.{Words.{◌≡◌, ◌≤◌, ◌+◌, ◌-◌, ℕ, List, ◌++◌, Bool, Ok, Result, length, take, drop, Some, subst, sym, ◌∙◌, ap, arith, length-drop, slice_range, take-add, take-length, drop-drop, DiskState, Elapses, IsLawful, LeavesOnly, TellsTorn, TornFrom, WritesNothing, called, spliced, take-drop-spliced, take-spliced, torn_from_old, torn_same, torn_twice, torn_wider, joined_unwritten, length-contents, runs_inside, Copies, IsCopiedIn, SideCalled, WhereSame, body}, Telling.came_from}
use Rattle.iso_disk.proofs.{Images.torn_from_wider, Moments.goes_on}

-- a range of a side is one of its mirrored bytes
pub piece_of : (x : List ℕ) (at n : ℕ) → slice_range x (64 + at) (64 + at + n) ≡ take n (drop at (body x))
piece_of x at n =
    let count : 64 + at + n - (64 + at) ≡ n = omega arith in
    ap (λ (m : ℕ). take m (drop (64 + at) x)) count ∙ ap (take n) (sym (drop-drop at 64 x))

-- one piece more, in the range
pub torn_more : {old mid new : DiskState} (from len at n : ℕ) → from ≤ at → at + n ≤ from + len → TellsTorn from len old mid → TellsTorn at n mid new → TellsTorn from len old new
torn_more from len at n starts ends one two = record {
  told = λ c is. let d = one.told c is in let e = two.told d.0 d.1 in (e.0, e.1, torn_twice d.2 (torn_wider e.2 from len starts ends));
  untold = λ is. two.untold (one.untold is);
}

-- the bytes that are copied so far, after one piece more
pub copied_more : (x z y : List ℕ) (done n : ℕ) → take done y ≡ take done z → take done z ≡ take done x → take n (drop done y) ≡ take n (drop done x) → take (done + n) y ≡ take (done + n) x
copied_more x z y done n kept before piece =
    take-add done n y ∙ (λ i. (kept ∙ before) i ++ piece i) ∙ sym (take-add done n x)

-- all are
pub copied_all : (x y : List ℕ) (count : ℕ) → length x ≡ count → length y ≡ count → take count y ≡ take count x → y ≡ x
copied_all x y count one two same =
    sym (whole y count two) ∙ same ∙ whole x count one
  where
    whole : (l : List ℕ) (n : ℕ) → length l ≡ n → take n l ≡ l
    whole l n is = ap (λ (m : ℕ). take m l) (sym is) ∙ take-length l

pub length-body : {d : DiskState} (count : ℕ) → IsLawful d → d.size ≡ 64 + count → (x : List ℕ) → d.contents ≡ Some x → length (body x) ≡ count
length-body count laws size x told = let len = length-contents laws x told in omega (arith, length-drop 64 x, len, size)

-- a piece that a write has laid
pub piece_laid : (c : List ℕ) (at : ℕ) (bytes y : List ℕ) → at + length bytes ≤ length c → y ≡ spliced c at bytes → (take at y ≡ take at c) × (take (length bytes) (drop at y) ≡ bytes)
piece_laid c at bytes y inside is =
    (ap (take at) is ∙ take-spliced c at bytes inside at (omega arith), ap (λ (l : List ℕ). take (length bytes) (drop at l)) is ∙ take-drop-spliced c at bytes inside)

-- a side that was only read tells what it told, which is torn in any range
pub read_torn : {old new : DiskState} (at n : ℕ) → new.contents ≡ old.contents → TellsTorn at n old new
read_torn at n same = record { told = λ c is. (c, same ∙ is, torn_same at n c); untold = λ is. same ∙ is }

-- and a call after it that changes nothing
pub torn_stays : {old mid new : DiskState} {at n : ℕ} → TellsTorn at n old mid → new.contents ≡ mid.contents → TellsTorn at n old new
torn_stays torn same = record { told = λ c is. let d = torn.told c is in (d.0, same ∙ d.1, d.2); untold = λ is. same ∙ torn.untold is }

-- and a write after the read is one from before it
pub torn_behind : {old mid new : DiskState} (at n : ℕ) → mid.contents ≡ old.contents → TellsTorn at n mid new → TellsTorn at n old new
torn_behind at n same tells = record { told = λ c is. tells.told c (same ∙ is); untold = λ is. tells.untold (same ∙ is) }

pub written_behind : {old mid new : DiskState} (at n : ℕ) → IsLawful old → Elapses old mid old.now → Elapses mid new (TornFrom at n mid.now) → LeavesOnly old new (TornFrom at n old.now)
written_behind at n laws read write =
    goes_on (called laws read (λ c now. torn_from_old at n c now) (λ c now. torn_from_old at n c now)) write (λ c t. torn_from_wider t at n (omega arith) (omega arith) (λ d now. read.after d now))

-- The piece was read of one side, and the other one was called: a piece was copied. Where the same bytes were there, nothing was written.
pub piece_copied : {E : Type 0} {from to new_from new_to : DiskState} (at n : ℕ) (piece : List ℕ) (done : Bool) → IsLawful to → 64 + at + n ≤ to.size → length piece ≡ n → WritesNothing from new_from → new_from.faults ≡ from.faults
    → ((x : List ℕ) → from.contents ≡ Some x → piece ≡ slice_range x (64 + at) (64 + at + n)) → SideCalled at (length piece) (λ c. spliced c at piece) to new_to done
    → ((y : List ℕ) → to.contents ≡ Some y → take (length piece) (drop at (body y)) ≡ piece → WritesNothing to new_to)
    → Copies {E = E} from to new_from new_to (64 + at) n (IsCopiedIn from to at n) (Ok done)
piece_copied {from = from} {to = to} {new_to = new_to} at n piece done law fits len unwritten passed bytes called still = record {
  unwritten = unwritten;
  moments = subst (λ (m : ℕ). LeavesOnly to new_to (TornFrom (64 + at) m to.now)) len called.crash;
  torn = subst (λ (m : ℕ). TellsTorn (64 + at) m to new_to) len called.torn;
  still = λ x y told told' same. still y told' (ap (λ (m : ℕ). take m (drop at (body y))) len ∙ ap (λ (l : List ℕ). take n (drop at l)) (sym same) ∙ sym (bytes x told ∙ piece_of x at n));
  cause = record { later = omega (arith, passed); failed = λ is. absurd (cc is); passed = passed };
  later = called.later;
  failed = called.failed;
  copied = λ is x y told told'.
      let z = came_from to.contents new_to.contents (called.did is) y told' in
      let inside : at + length piece ≤ length (body z.0) = (let long = length-contents law z.0 z.1 in omega (arith, length-drop 64 z.0, long, fits, len)) in
      let parts = piece_laid (body z.0) at piece (body y) inside z.2 in
      (z.0, z.1, parts.0, ap (λ (m : ℕ). take m (drop at (body y))) (sym len) ∙ parts.1 ∙ bytes x told ∙ piece_of x at n);
}

-- a copy so far, whose pieces lie in the first `count` of the mirrored bytes
pub record CopiesInside (from to new_from new_to : DiskState) (count : ℕ) : Type 0 where
  pub unwritten : WritesNothing from new_from
  pub moments : LeavesOnly to new_to (TornFrom 64 count to.now)
  pub torn : TellsTorn 64 count to new_to
  pub still : WhereSame from to (WritesNothing to new_to)

-- and one piece more
pub copies_more : {E : Type 0} {from to mid_from mid_to new_from new_to : DiskState} {count n : ℕ} {Has : DiskState → Type 0} {result : Result Bool E} (done : ℕ) → IsLawful mid_from → IsLawful mid_to → done + n ≤ count → CopiesInside from to mid_from mid_to count
    → Copies mid_from mid_to new_from new_to (64 + done) n Has result → CopiesInside from to new_from new_to count
copies_more {count = count} {n = n} done law_from law_to fits so_far piece =
    let ends : 64 + done + n ≤ 64 + count = omega (arith, fits) in
    record {
      unwritten = joined_unwritten law_from so_far.unwritten piece.unwritten;
      moments = runs_inside 64 count (64 + done) n (omega arith) ends law_to so_far.moments piece.moments;
      torn = torn_more 64 count (64 + done) n (omega arith) ends so_far.torn piece.torn;
      still = λ x y told told' same.
          let nothing = so_far.still x y told told' same in
          joined_unwritten law_to nothing (piece.still x y (so_far.unwritten.same_contents ∙ told) (nothing.same_contents ∙ told') same);
    }
