-- What a crash may leave after a write and after a sync.
use Rattle.std.{proofs.Common.{◌≡◌, ◌≤◌, ◌+◌, ℕ, List, length, Option, Some, None, refl, ◌∙◌, ap, arith}, specs.Option.option_map}
use Rattle.iso_disk.{specs.Disk.{DiskState, IsLawful, spliced, TornFrom, Splices, TellsTorn, IsSettled}, proofs.Bytes.{spliced_torn, torn_same, torn_wider, torn_twice}}

-- an image of before counts among the torn outcomes of a write
pub torn_from_old : {images : List ℕ → Type 0} (at n : ℕ) (c : List ℕ) → images c → TornFrom at n images c
torn_from_old at n c image = record { old = c; was = image; torn = torn_same at n c }

-- a wider range, and more images
pub torn_from_wider : {images more : List ℕ → Type 0} {at n : ℕ} {c : List ℕ} → TornFrom at n images c → (from len : ℕ) → from ≤ at → at + n ≤ from + len → ((d : List ℕ) → images d → more d) → TornFrom from len more c
torn_from_wider t from len starts ends more = record { old = t.old; was = more t.old t.was; torn = torn_wider t.torn from len starts ends }

-- two writes in one range, with no sync between them
pub torn_from_twice : {images : List ℕ → Type 0} {at n : ℕ} {c : List ℕ} → TornFrom at n (TornFrom at n images) c → TornFrom at n images c
torn_from_twice t = record { old = t.was.old; was = t.was.was; torn = torn_twice t.was.torn t.torn }

-- after a write and a sync a crash leaves the old contents with the bytes
pub settled_write : (old new : DiskState) (at : ℕ) (bytes : List ℕ) → Splices at bytes old new → IsSettled new → (c : List ℕ) → new.now c → (d : List ℕ) × (old.contents ≡ Some d) × (c ≡ spliced d at bytes)
settled_write old new at bytes written settled c image = of_told old.contents refl
  where
    of_told : (o : Option (List ℕ)) → old.contents ≡ o → (d : List ℕ) × (old.contents ≡ Some d) × (c ≡ spliced d at bytes)
    of_told (Some d) is = (d, is, cc (written, settled c image, ap (option_map (λ (l : List ℕ). spliced l at bytes)) is))
    of_told None is = absurd (cc (written, settled c image, ap (option_map (λ (l : List ℕ). spliced l at bytes)) is))

-- a write that is done tells one of its torn outcomes
pub tells_spliced : (old new : DiskState) (at : ℕ) (bytes : List ℕ) → Splices at bytes old new → ((c : List ℕ) → old.contents ≡ Some c → at + length bytes ≤ length c) → TellsTorn at (length bytes) old new
tells_spliced old new at bytes written fits = record {
  told = λ c is. (spliced c at bytes, written ∙ ap (option_map (λ (l : List ℕ). spliced l at bytes)) is, spliced_torn c at bytes (fits c is));
  untold = λ is. written ∙ ap (option_map (λ (l : List ℕ). spliced l at bytes)) is;
}

-- each image that a crash now may leave has the disk's size
pub length-image : {d : DiskState} → IsLawful d → (c : List ℕ) → d.now c → length c ≡ d.size
length-image {d = d} laws c image = laws.image_size d.clock c (laws.counts_now d.clock c (omega arith) image)

-- so has what the disk tells
pub length-contents : {d : DiskState} → IsLawful d → (c : List ℕ) → d.contents ≡ Some c → length c ≡ d.size
length-contents laws c told = length-image laws c (laws.reads_as_image c told)
