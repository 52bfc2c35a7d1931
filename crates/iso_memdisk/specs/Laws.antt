-- A disk whose calls are replayed keeps the laws of a disk, and so does a memory disk.
use Rattle.std.{specs.Prelude.{◌≡◌, ◌<◌, ◌≤◌, ℕ, List, length, take, slice_index, Option, Some, refl}, proofs.Common.{ap, subst, sym, ◌∙◌}, proofs.Math.Nat.{le_refl, le_trans}, proofs.lemmas.List.take_all, proofs.lemmas.Option.same_Some}
use Rattle.iso_disk.specs.Disk.{IsLawful}
use Rattle.iso_memdisk.specs.{declared.disk.MemDisk.MemDisk, declared.record.Call.Call, Record.{AllFit, images_after, written}, Replayed.{images, images_since, replayed}, MemDisk.{bound_of, contents_of, state_of}, Replay.{written-image, length-images_after, AllFit-take}}

module _ (first : List ℕ) (calls : List Call) (fit : AllFit (length first) calls) where
  reads_as_image : (c : List ℕ) → Some (written calls first) ≡ Some c → images first calls c
  reads_as_image c told = subst (images first calls) (same_Some (written calls first) c told) (written-image calls first (λ b. b ≡ first) fit refl)

  counts_now : (t : ℕ) (c : List ℕ) → t ≤ length calls → images first calls c → images_since first calls t c
  counts_now t c le now = (length calls, le, le_refl (length calls), subst (λ (l : List Call). images first l c) (sym (take_all (length calls) calls (le_refl (length calls)))) now)

  only_now : (c : List ℕ) → images_since first calls (length calls) c → images first calls c
  only_now c left = subst (λ (l : List Call). images first l c) (take_all left.0 calls left.1) left.3

  counts_later : (t u : ℕ) (c : List ℕ) → t ≤ u → images_since first calls u c → images_since first calls t c
  counts_later t u c le left = (left.0, le_trans le left.1, left.2, left.3)

  image_size : (t : ℕ) (c : List ℕ) → images_since first calls t c → length c ≡ length first
  image_size t c left =
      length-images_after (take left.0 calls) first (λ b. b ≡ first) (AllFit-take (length first) left.0 calls fit) (λ b is. ap length is) c left.3

  pub replayed_is_lawful : ((i : ℕ) → slice_index (written calls first) i < 256) → (faults binds : ℕ) (bound : Option (ℕ × List ℕ)) (named : List ℕ → Option (List ℕ)) → IsLawful (replayed first calls faults binds bound named)
  replayed_is_lawful bytes faults binds bound named = record {
    reads_as_image = reads_as_image;
    counts_now = counts_now;
    only_now = only_now;
    counts_later = counts_later;
    image_size = image_size;
    told_bytes = λ c told i. subst (λ (l : List ℕ). slice_index l i < 256) (same_Some (written calls first) c told) (bytes i);
  }

pub lawful : (d : MemDisk) → IsLawful (state_of d)
lawful d =
    let bytes = λ (i : ℕ). subst (λ (l : List ℕ). slice_index l i < 256) d.holds (d.told_bytes i) in
    replayed_is_lawful d.first.items d.history.items d.writes_fit bytes d.failures.faults d.failures.binds (bound_of d) (λ _. contents_of d)
