-- Records that follow the last one of a core.
use Rattle.iso_core.proofs.{Words.{◌≡◌, ◌∙◌, sym, ap, ℕ, ◌+◌, ◌≤◌, List, [], ◌∷◌, ◌++◌, length, arith, subst, Half, MayFollow, half_of_world, last_told, told_bytes, with_records, world_bytes, records-append, HasTold, IsNext, LogExtent, extent_of, DiskState, held_log, AreOf, up, MayAppend, LAST, last, Written, records, World, used, IsWorld, Kept, AreNextRecords, IsOf}, Numbers.{last_is, log_last}}
use Rattle.std.proofs.Common.{length-append}

-- records that follow what is kept, with a closed gate after them
pub next_all : (kept : Kept) (W : World) (more : List Written) (all : List ℕ) → IsOf kept W → AreNextRecords W more all → (bytes : List ℕ) → bytes ≡ all ++ 0 ∷ [] → IsNext kept.log W.geometry more bytes
next_all kept W more all of next bytes is = grind (arith, log_last)

-- the log of the images of a core
pub told_so : (d : DiskState) (kept : Kept) (W : World) → AreOf d kept W up → HasTold kept.log W.geometry (W.base + 1) (half_of_world W kept.half).told d.now
told_so d kept W of = grind (arith, held_log)

-- what is to be appended follows the log
module _ (d : DiskState) (log : LogExtent) (kept : Kept) (W : World) (more : List Written) (bytes : List ℕ) (may : MayAppend d log kept W more bytes) where
  pub log_of : log ≡ extent_of W.geometry (half_of_world W kept.half)
  log_of = may.log_is ∙ may.of.kept_of.keeps.log

  pub next_of : IsNext log W.geometry more bytes
  next_of = subst (λ (l : LogExtent). IsNext l W.geometry more bytes) (sym may.log_is) (next_all kept W more may.all may.of.kept_of may.next bytes may.bytes_are)

  pub log_told : HasTold log W.geometry (W.base + 1) (half_of_world W kept.half).told d.now
  log_told = subst (λ (l : LogExtent). HasTold l W.geometry (W.base + 1) (half_of_world W kept.half).told d.now) (sym may.log_is) (told_so d kept W may.of)

-- with them the records take `length bytes` more bytes
pub more_bytes : (W : World) (at : ℕ) (more : List Written) (bytes : List ℕ) → IsWorld W → AreNextRecords W more bytes
    → length (told_bytes W.geometry (with_records more (half_of_world W at))) ≡ used W + length bytes
more_bytes W at more bytes is next =
    let x : Half = half_of_world W at in
    let first : W.base + 1 + length x.told ≡ last W.history + 1 = omega (arith, last_is W at is) in
    let whole : length (records W.geometry (W.base + 1) (x.told ++ more)) ≡ length (records W.geometry (W.base + 1) x.told) + length (records W.geometry (W.base + 1 + length x.told) more) =
    ap (λ (l : List ℕ). length l) (records-append W.geometry (W.base + 1) x.told more) ∙ length-append (records W.geometry (W.base + 1) x.told) (records W.geometry (W.base + 1 + length x.told) more) in
    omega (arith, whole, world_bytes W at, (λ i. length (records W.geometry (first i) more)) ∙ ap (λ (l : List ℕ). length l) (sym next.bytes_are))

-- so they may follow where they fit
pub may_follow : (W : World) (at : ℕ) (more : List Written) (bytes : List ℕ) → IsWorld W → AreNextRecords W more bytes → used W + length bytes + 1 ≤ W.geometry.log
    → MayFollow W.geometry (half_of_world W at) more
may_follow W at more bytes is next fits =
    let number : last_told (half_of_world W at) ≡ last W.history = last_is W at is in
    record {
      each = next.each;
      numbers = subst (λ (n : ℕ). n + length more ≤ LAST) (sym number) next.numbers;
      room = omega (arith, more_bytes W at more bytes is next, fits);
    }
