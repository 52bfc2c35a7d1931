-- The records and the disks of the tests.
use Rattle.std.{proofs.Common.{◌≡◌, ◌<◌, ◌≤◌, ◌+◌, ℕ, List, [], ◌∷◌, ◌++◌, Result, Ok, Err, OnOk, length, get_or, replicate, refl, sym, ◌∙◌, ap, arith, subst}, proofs.lemmas.List.{get_or-replicate, length-replicate, append-nil}, specs.Option.ForSome}
use Rattle.iso_disk.specs.Disk.{DiskState, LeavesOnly}
use Rattle.iso_image.proofs.Logs.{has_log}
use Rattle.iso_memdisk.specs.{MemDisk.{Starts, state_of}, Record.images_after, declared.disk.MemDisk.MemDisk, declared.record.Call.Call}
use Rattle.iso_model.specs.{Image.{IsRecord, Written, spell}, declared.access.Mode.TheVariants.Serial, declared.limits.TheConstants.LAST}
use Rattle.iso_log.specs.{Extent.{Extent, next_place}, Log.{HasTold, IsNext}, Scan.StandAt}
use Rattle.recover_tests.specs.{Ready.IsReady, Records.put}
use Rattle.test_cores.specs.Small.{small}

-- ---- the records

abbrev pub one : Written
one = record { mode = Serial; parts = put }

one_is : IsRecord small one
one_is = record { some = omega arith; runs = record { block = omega arith; some = omega arith; fits = omega arith }; mode = λ form. refl }

pub one_next : (log : Extent) (bytes : List ℕ) → log.last < LAST → bytes ≡ spell 1 1 (log.last + 1) put ++ 0 ∷ [] → IsNext log small (one ∷ []) bytes
one_next log bytes below is = record {
  some = omega arith;
  each = (one_is, tt);
  numbers = omega arith;
  bytes_are = is ∙ ap (λ (l : List ℕ). l ++ 0 ∷ []) (sym (append-nil (spell 1 1 (log.last + 1) put)));
}

pub two_next : (log : Extent) (bytes : List ℕ) → log.last + 2 ≤ LAST → bytes ≡ (spell 1 1 (log.last + 1) put ++ spell 1 1 (log.last + 2) put) ++ 0 ∷ [] → IsNext log small (one ∷ one ∷ []) bytes
two_next log bytes below is =
    let number : log.last + 2 ≡ log.last + 1 + 1 = omega arith in
    record {
      some = omega arith;
      each = (one_is, (one_is, tt));
      numbers = omega arith;
      bytes_are = is ∙ (λ i. (spell 1 1 (log.last + 1) put ++ sym (append-nil (spell 1 1 (number i) put)) i) ++ 0 ∷ []);
    }

-- ---- the disk

pub blank_ready : (room : ℕ) → 1 ≤ room → (d : MemDisk) (bytes : List ℕ) → Starts d bytes → bytes ≡ replicate (16 + room) 0 → IsReady small (record { place = 16; room = room; used = 0; last = 0 }) (state_of d)
blank_ready room some d bytes starts zeros =
    let first : d.first.items ≡ replicate (16 + room) 0 = starts.first ∙ zeros in
    let size : length d.first.items ≡ 16 + room = ap length first ∙ length-replicate {A = ℕ} (16 + room) 0 in
    record {
      fits = omega (arith, size);
      first = 1;
      told = [];
      has = record {
        used = refl;
        last = omega arith;
        each = λ c image.
            let is : c ≡ d.first.items = subst (λ (calls : List Call). images_after calls d.first.items (λ (l : List ℕ). l ≡ d.first.items) c) starts.history image in
            let long : length c ≡ 16 + room = ap length is ∙ size in
            let zero : get_or c 16 0 ≡ 0 = ap (λ (l : List ℕ). get_or l 16 0) (is ∙ first) ∙ get_or-replicate {A = ℕ} (16 + room) 16 0 0 (omega (arith, some)) in
            has_log 16 room small 1 [] c (omega (arith, long)) (omega (arith, some)) refl (λ opens. omega (arith, zero, opens));
      };
    }

-- after an append the log may be appended to again
pub still_ready : {T E : Type 0} (r : Result T E) (log new : Extent) (d e : DiskState) (first used last : ℕ) (told : List Written) {P : List ℕ → Type 0} → LeavesOnly d e P → IsReady small log d
    → OnOk r (HasTold new small first told e.now) → OnOk r (new ≡ record log { used = used; last = last }) → OnOk r (IsReady small new e)
still_ready (Ok x) log new d e first used last told run ready has grown =
    record { fits = omega (arith, ready.fits, run.same_size, ap (λ (l : Extent). l.place) grown, ap (λ (l : Extent). l.room) grown); first = first; told = told; has = has }
still_ready (Err x) log new d e first used last told run ready has grown = tt

-- ---- a scan

-- the log may be scanned on
pub record IsScanned (log : Extent) (ahead : List ℕ) (d : DiskState) : Type 0 where
  pub fits : log.place + log.room ≤ d.size
  pub left : log.used < log.room
  pub number : log.last ≤ LAST
  pub within : log.used + length ahead ≤ log.room
  pub stands : ForSome d.contents (StandAt (next_place log) ahead)
