-- A side while its epoch is raised.
use Rattle.mirror_disk.proofs.{Words.{◌≡◌, inl, inr, ⊎_elim, ℕ, ◌+◌, ◌<◌, ◌≤◌, List, length, take, drop, get_or, Option, Some, None, Result, Ok, Err, OnOk, OnErr, refl, sym, ◌∙◌, ap, arith, option_map, same_Some, drop-drop, drop-take, get_or-take, take-take, slice_index, ◌^◌, w64, from_be_bytes, from_be_bytes-to_be_bytes_8, DiskState, IsLawful, IsSettled, LeavesOnly, Splices, TellsTorn, TornFrom, spliced, spliced_torn, length-contents, at_end, IsClosed, IsOpen, Slot, body, number_at, slot_body, last_epoch, HasEpoch, KeepsBody, Raising, Still, HoldsEpoch, place, other}, Epochs.{body-torn, body_stays, body_written, gate_written, open_raises, shut_stays}}

-- nothing is written
pub keeps_same : {old new : DiskState} → new.contents ≡ old.contents → KeepsBody old new
keeps_same same = record { told = λ c is. (c, same ∙ is, refl); untold = λ is. same ∙ is }

pub keeps_twice : {first second third : DiskState} → KeepsBody first second → KeepsBody second third → KeepsBody first third
keeps_twice one two = record {
  told = λ c is. let d = one.told c is in let e = two.told d.0 d.1 in (e.0, e.1, e.2 ∙ d.2);
  untold = λ is. two.untold (one.untold is);
}

-- a write in the header that failed, or was done
pub keeps_torn : {old new : DiskState} (k n : ℕ) → k + n ≤ 64 → TellsTorn k n old new → KeepsBody old new
keeps_torn k n within tells = record { told = λ c is. let d = tells.told c is in (d.0, d.1, body-torn d.2 within); untold = tells.untold }

pub keeps_spliced : {old new : DiskState} (k : ℕ) (bytes : List ℕ) → IsLawful old → 64 ≤ old.size → k + length bytes ≤ 64 → Splices k bytes old new → KeepsBody old new
keeps_spliced {old = old} k bytes laws room within written = record {
  told = λ c is. (spliced c k bytes, written ∙ ap (option_map (λ (l : List ℕ). spliced l k bytes)) is, body-torn (spliced_torn c k bytes (let len = length-contents laws c is in omega (arith, len, room, within))) within);
  untold = λ is. written ∙ ap (option_map (λ (l : List ℕ). spliced l k bytes)) is;
}

pub by_result : {T E C P Q : Type 0} (r : Result T E) → OnOk r P → OnErr r Q → (P → C) → (Q → C) → C
by_result (Ok x) p q done failed = done p
by_result (Err e) p q done failed = failed q

pub ok_weaker : {T E P Q : Type 0} (r : Result T E) → (P → Q) → OnOk r P → OnOk r Q
ok_weaker (Ok x) then p = then p
ok_weaker (Err e) then p = tt

-- the images of now are of before
pub still_here : {d : DiskState} (slot : Slot) (e : ℕ) → ((x : List ℕ) → d.now x → HasEpoch slot e x) → (x : List ℕ) → d.now x → Still slot e d x
still_here slot e each x now = record { marked = each x now; was = x; is_old = now; same = refl }

-- images of a later run, whose mirrored bytes are those of images at its start
pub still_on : {old mid : DiskState} (slot : Slot) (e : ℕ) → IsLawful mid → LeavesOnly old mid (Still slot e old) → (x : List ℕ) → Still slot e mid x → Still slot e old x
still_on slot e laws run x s = let t = at_end laws run s.was s.is_old in record { marked = s.marked; was = t.was; is_old = t.is_old; same = s.same ∙ t.same }

-- the gate that stood open in all is shut
pub shut_image : {old : DiskState} (slot : Slot) (e : ℕ) → ((x : List ℕ) → old.now x → HasEpoch slot e x) → ((x : List ℕ) → old.now x → IsOpen (place (other slot)) x)
    → (x : List ℕ) → TornFrom (place (other slot)) 1 old.now x → Still slot e old x
shut_image slot e each is_open x t = record { marked = shut_stays slot e (each t.old t.was) (is_open t.old t.was) t.torn; was = t.old; is_old = t.was; same = body_stays slot e t.torn (omega arith) (omega arith) }

-- the body is written
pub body_image : {old : DiskState} (slot : Slot) (e : ℕ) → ((x : List ℕ) → old.now x → HasEpoch slot e x) → (x : List ℕ) → IsClosed (place (other slot)) x → TornFrom (place (other slot) + 1) 15 old.now x → Still slot e old x
body_image slot e each x closed t = record { marked = body_written slot e (each t.old t.was) closed t.torn; was = t.old; is_old = t.was; same = body_stays slot e t.torn (omega arith) (omega arith) }

-- the gate is opened over a settled disk
pub open_image : (old : DiskState) (slot : Slot) (e next : ℕ) → IsSettled old → ((x : List ℕ) → old.now x → HasEpoch slot e x) → e ≤ next → next ≤ last_epoch → ((x : List ℕ) → old.now x → HoldsEpoch (place (other slot)) next x)
    → (x : List ℕ) → TornFrom (place (other slot)) 1 old.now x → Raising e next old x
open_image old slot e next settled each le last holds x t =
    let same = body_stays slot e t.torn (omega arith) (omega arith) in
    ⊎_elim
    (λ (stays : HasEpoch slot e x). (stays.header, inl (stays.epoch_is, (t.old, t.was, same))))
    (λ (raised : HasEpoch (other slot) next x). (raised.header, inr (raised.epoch_is, (t.old, settled t.old t.was, same))))
    (gate_written slot e next (each t.old t.was) le last (holds t.old t.was) t.torn)

-- and is open then
pub raised_image : (old : DiskState) (slot : Slot) (e next : ℕ) → ((x : List ℕ) → old.now x → HasEpoch slot e x) → e ≤ next → next ≤ last_epoch → ((x : List ℕ) → old.now x → HoldsEpoch (place (other slot)) next x)
    → (x : List ℕ) → TornFrom (place (other slot)) 1 old.now x → IsOpen (place (other slot)) x → HasEpoch (other slot) next x
raised_image old slot e next each le last holds x t is_open = open_raises slot e next (each t.old t.was) le last (holds t.old t.was) t.torn is_open

-- a told disk whose later contents are told was told before
pub told_before : {old mid : DiskState} → KeepsBody old mid → (c : List ℕ) → mid.contents ≡ Some c → (d : List ℕ) × (old.contents ≡ Some d) × (body c ≡ body d)
told_before {old = old} {mid = mid} keeps c is = by_cases old.contents refl
  where
    by_cases : (o : Option (List ℕ)) → old.contents ≡ o → (d : List ℕ) × (old.contents ≡ Some d) × (body c ≡ body d)
    by_cases (Some d) told = let e = keeps.told d told in (d, told, ap body (same_Some c e.0 (sym is ∙ e.1)) ∙ e.2)
    by_cases None told = absurd (cc (is, keeps.untold told))

-- what is raised from a later state is raised from an earlier one
pub raising_on : {old mid : DiskState} (slot : Slot) (e next : ℕ) → IsLawful mid → LeavesOnly old mid (Still slot e old) → KeepsBody old mid → (x : List ℕ) → Raising e next mid x → Raising e next old x
raising_on {old = old} {mid = mid} slot e next laws run keeps x r = elim r.1 [
  | inl k ↦ let t = at_end laws run k.1.0 k.1.1 in (r.0, inl (k.0, (t.was, t.is_old, k.1.2 ∙ t.same)))
  | inr k ↦ let d = told_before keeps k.1.0 k.1.1 in (r.0, inr (k.0, (d.0, d.1, k.1.2 ∙ d.2)))
]

-- before the gate is opened the epoch is the old one
pub raising_still : {old : DiskState} (slot : Slot) (e next : ℕ) → (x : List ℕ) → Still slot e old x → Raising e next old x
raising_still slot e next x s = (s.marked.header, inl (s.marked.epoch_is, (s.was, s.is_old, s.same)))

-- a byte of the header, by the header of what is told
pub gate_of_front : (x c : List ℕ) (k : ℕ) → take 64 x ≡ take 64 c → k < 64 → slice_index x k ≡ slice_index c k
gate_of_front x c k same within = sym (get_or-take 64 x k 0 within) ∙ ap (λ (l : List ℕ). get_or l k 0) same ∙ get_or-take 64 c k 0 within

-- two facts of all images
pub both_hold : {old new : DiskState} {P Q : List ℕ → Type 0} → LeavesOnly old new P → LeavesOnly old new Q → LeavesOnly old new (λ c. P c × Q c)
both_hold one two = record {
  same_size = one.same_size;
  same_bound = one.same_bound;
  same_binds = one.same_binds;
  later = one.later;
  each = λ c since. (one.each c since, two.each c since);
  before = λ t c le since. ⊎_elim inl (λ p. ⊎_elim inl (λ q. inr (p, q)) (two.before t c le since)) (one.before t c le since);
  keeps = one.keeps;
}

-- the number that is after a gate
pub number_of_body : (gate next : ℕ) (x : List ℕ) → next < 2 ^ 64 → take 15 (drop (gate + 1) x) ≡ slot_body next → number_at (gate + 8) x ≡ next
number_of_body gate next x fits is =
    ap (from_be_bytes w64) (
    (let far : gate + 8 ≡ gate + 1 + 7 = omega arith in ap (λ (m : ℕ). take 8 (drop m x)) far)
    ∙ ap (take 8) (sym (drop-drop 7 (gate + 1) x))
    ∙ sym (drop-take 7 8 (drop (gate + 1) x))
    ∙ ap (drop 7) is)
    ∙ from_be_bytes-to_be_bytes_8 next fits

-- what is after a gate, by the bytes that were put there
pub holds_body : (gate next : ℕ) (x : List ℕ) → next < 2 ^ 64 → take 15 (drop (gate + 1) x) ≡ slot_body next → HoldsEpoch gate next x
holds_body gate next x fits is = record {
  zeros = sym (take-take 7 15 (drop (gate + 1) x) (omega arith)) ∙ ap (take 7) is;
  number = number_of_body gate next x fits is;
}
