-- What a run of clients over a core comes to, in the whole call.
use Rattle.iso_top.proofs.{Words.{◌≡◌, ◌⊎◌, inl, inr, ℕ, Bool, true, false, List, ◌++◌, Option, Some, None, refl, subst, arith, list_any, Rose, Core, StandsFor, disk_of, DiskState, SinkState, shows, Commit, Line, World, Entry, Holds, standing_of, Start, State, state_at, ParEnd, Ends, HasEnded, status_of, stopped, wants, Part, IsFront, IsOutput, PrintedClients, ShowsBehind, ShowsState, WereRun, Printed, WasCut, WroteWhole, PutOf, memory_text}, Rising.{fault_rose, status_by}}

-- ---- the images of now

images_by : {D : Type 0} (state : D → DiskState) (core : Core D) (W : World) (lost : Option (List Commit)) → StandsFor state core W (standing_of lost)
    → (image : List ℕ) → (state (disk_of core)).now image → ShowsBehind lost W image
images_by state core W None stands image here = shows state core W stands image here
images_by state core W (Some lost) stands image here = stands.images image here

pub images_shown : {D : Type 0} (state : D → DiskState) (core : Core D) (S : State) → Holds state core S → (image : List ℕ) → (state (disk_of core)).now image → ShowsState S image
images_shown state core S holds image here = images_by state core S.world S.lost holds.world image here

-- ---- what was put

-- the status of a run whose whole text was made is 0, 5 or 8
by_status : (v s : Bool) (P : ℕ → Type 0) → (status_by v s ≡ 0 → P 0) → (status_by v s ≡ 5 → P 5) → (status_by v s ≡ 8 → P 8) → P (status_by v s)
by_status true s P zero five eight = eight refl
by_status false true P zero five eight = five refl
by_status false false P zero five eight = zero refl

module _ (status : ℕ) (parts : List Part) (text : List ℕ) (old new : SinkState) where
  put_whole : IsOutput parts text → PutOf (status_of parts) text status old new → PrintedClients status parts old new
  put_whole output put =
      (by_status (list_any (λ (p : Part). wants p.stop) parts) (list_any (λ (p : Part). stopped p.stop) parts) (λ n. PutOf n text status old new → PrintedClients status parts old new)
      (λ zero put. put_done zero (put.done refl))
      (λ five put. let (is, printed) = put.disk refl in (text, inr (inr (inl (is, five, output, printed)))))
      (λ eight put. let (is, printed) = put.memory refl in (text, inr (inr (inr (is, inl (eight, output), printed)))))) put
    where
      put_done : status_of parts ≡ 0 → ((status ≡ 0) × WroteWhole old new text) ⊎ ((status ≡ 7) × WasCut old new text) → PrintedClients status parts old new
      put_done zero (inl (is, whole)) = (text, inl (is, zero, output, whole))
      put_done zero (inr (is, cut)) = (text, inr (inl (is, zero, output, cut)))

  put_front : IsFront parts text → PutOf 8 text status old new → PrintedClients status parts old new
  put_front front put = let (is, printed) = put.memory refl in (text, inr (inr (inr (is, inr front, printed))))

put_parts : (status : ℕ) (parts : List Part) (end : ParEnd) (old new : SinkState) → Ends parts end → PutOf end.status end.text status old new → PrintedClients status parts old new
put_parts status parts end old new (inl (is, output)) put = put_whole status parts end.text old new output (subst (λ (n : ℕ). PutOf n end.text status old new) is put)
put_parts status parts end old new (inr (is, front)) put = put_front status parts end.text old new front (subst (λ (n : ℕ). PutOf n end.text status old new) is put)

pub were_run : (A : Start) (lines : List (ℕ × Line)) (entries : List Entry) (status : ℕ) (end : ParEnd) (old new : SinkState) → HasEnded A lines end entries
    → PutOf end.status end.text status old new → WereRun A lines entries status old new
were_run A lines entries status end old new (inl (parts, told, ends)) put = inl (parts, told, put_parts status parts end old new ends put)
were_run A lines entries status end old new (inr (eight, none, seen)) put =
    let (is, printed) = (subst (λ (n : ℕ). PutOf n end.text status old new) eight put).memory refl in
    inr (seen, is, subst (λ (xs : List ℕ). Printed old new (xs ++ memory_text)) none printed)

-- ---- why the status is 5

stopped_5 : (status : ℕ) (parts : List Part) (old new : SinkState) → status ≡ 5 → PrintedClients status parts old new → status_of parts ≡ 5
stopped_5 status parts old new five (text, inl (is, none, output, put)) = absurd (omega (arith, is, five))
stopped_5 status parts old new five (text, inr (inl (is, none, output, put))) = absurd (omega (arith, is, five))
stopped_5 status parts old new five (text, inr (inr (inl (is, stop, output, put)))) = stop
stopped_5 status parts old new five (text, inr (inr (inr (is, whole, put)))) = absurd (omega (arith, is, five))

pub failed_run : (A : Start) (lines : List (ℕ × Line)) (entries : List Entry) (status : ℕ) (old new : SinkState) → WereRun A lines entries status old new → status ≡ 5
    → Rose A.faults (state_at A entries).faults
failed_run A lines entries status old new (inl (parts, told, printed)) five = fault_rose A lines parts entries told (stopped_5 status parts old new five printed)
failed_run A lines entries status old new (inr (none, is, printed)) five = absurd (omega (arith, is, five))
