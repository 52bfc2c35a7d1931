-- What is put of a digest.
use Rattle.iso_top.proofs.Words.{◌≡◌, ◌⊎◌, inl, inr, ℕ, ◌-◌, List, Option, Some, None, IsSome, Result, Ok, Err, IfOk, IsErrOf, refl, ForSome, sha256, DigestError, DiskState, SinkState, array_bytes, History, array_at, last, PrintedDigest, Printed, WasCut, WroteWhole, disk_fault_text, memory_text, recover_text}
use Rattle.iso_top.specs.declared.digest.DigestError.TheVariants as error

pub some_of : (o : Option (List ℕ)) → IsSome o → (c : List ℕ) × (o ≡ Some c)
some_of (Some c) is = (c, refl)
some_of None is = absurd cc

pub printed_digest : (status : ℕ) (disk : DiskState) (H : History) (old new : SinkState) (told : Result (List ℕ) DigestError) (number base : ℕ)
    → number ≡ last H → base ≡ H.first - 1
    → IfOk told (λ digest. ForSome disk.contents (λ c. digest ≡ sha256 (array_bytes (array_at H (last H)))))
    → IfOk told (λ digest. ((status ≡ 0) × WroteWhole old new (recover_text number base digest)) ⊎ ((status ≡ 7) × WasCut old new (recover_text number base digest)))
    → (IsErrOf told error.Disk → (status ≡ 5) × Printed old new disk_fault_text) → (IsErrOf told error.Memory → (status ≡ 8) × Printed old new memory_text)
    → PrintedDigest status (IsSome disk.contents) H old new
printed_digest status disk H old new (Ok digest) number base number_is base_is sum put failed memory =
    inl (recover_text number base digest, (λ told. let (c, is) = some_of disk.contents told in λ i. recover_text (number_is i) (base_is i) (sum c is i)), put)
printed_digest status disk H old new (Err error.Disk) number base number_is base_is sum put failed memory = inr (inl (failed refl))
printed_digest status disk H old new (Err error.Memory) number base number_is base_is sum put failed memory = inr (inr (memory refl))
