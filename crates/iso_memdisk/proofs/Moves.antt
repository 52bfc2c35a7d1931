-- What a call does to the moments of a disk whose calls are replayed: nothing, or one more call in the record.
use Rattle.iso_memdisk.proofs.{Words.{◌≡◌, ◌⊎◌, inl, inr, ⊎_elim, ◌≤◌, ◌+◌, ℕ, List, [], ◌∷◌, ◌++◌, length, take, Option, Some, Vec, refl, sym, ◌∙◌, ap, subst, arith, length-append, take_all, take-append-le, option_map, Global, spliced, TornFrom, Elapses, IsSettled, Call, Write, Sync, MemDisk, AllFit, written, images_after, images, images_since, replayed, bytes_of, contents_of, now_of, state_of, IsUntouched, Appends, written-image}, Calls.{written-append, images_after-append, images_after-join}}

-- nothing was done
pub elapses_same : {first first' : List ℕ} {calls calls' : List Call} {bound bound' : Option (ℕ × List ℕ)} {binds binds' faults faults' : ℕ} {named named' : List ℕ → Option (List ℕ)} {among : List ℕ → Type 0}
    → first' ≡ first → calls' ≡ calls → bound' ≡ bound → binds' ≡ binds → ((c : List ℕ) → images first calls c → among c)
    → Elapses (replayed first calls faults binds bound named) (replayed first' calls' faults' binds' bound' named') among
elapses_same {first = first} {first' = first'} {calls = calls} {calls' = calls'} same same_calls same_bound same_binds within = record {
  same_size = ap length same;
  same_bound = same_bound;
  same_binds = same_binds;
  later = omega (arith, ap length same_calls);
  after = λ c image. within c (subst (λ (f : List ℕ). images f calls c) same (subst (λ (l : List Call). images first' l c) same_calls image));
  during = λ t c le left. inl (subst (λ (f : List ℕ). images_since f calls t c) same (subst (λ (l : List Call). images_since first' l t c) same_calls left));
  keeps = λ t c le left. subst (λ (l : List Call). images_since first' l t c) (sym same_calls) (subst (λ (f : List ℕ). images_since f calls t c) (sym same) left);
}

module _ {first first' : List ℕ} {calls' : List Call} (calls : List Call) (call : Call) (same : first' ≡ first) (more : calls' ≡ calls ++ call ∷ []) where
  longer : length calls' ≡ length calls + 1
  longer = ap length more ∙ length-append calls (call ∷ [])

  -- the images now, by the record of before
  pub images_now : (c : List ℕ) → images first' calls' c → images_after (call ∷ []) (written calls first) (images first calls) c
  images_now c image =
      images_after-append calls (call ∷ []) first (λ b. b ≡ first) c
      (subst (λ (f : List ℕ). images f (calls ++ call ∷ []) c) same (subst (λ (l : List Call). images first' l c) more image))

  pub images_then : (c : List ℕ) → images_after (call ∷ []) (written calls first) (images first calls) c → images first' calls' c
  images_then c image =
      subst (λ (l : List Call). images first' l c) (sym more) (subst (λ (f : List ℕ). images f (calls ++ call ∷ []) c) (sym same) (images_after-join calls (call ∷ []) first (λ b. b ≡ first) c image))

  -- the images of an earlier moment are those of before
  earlier : (k : ℕ) → k ≤ length calls → take k calls' ≡ take k calls
  earlier k le = ap (take k) more ∙ take-append-le k calls (call ∷ []) le

  pub elapses_call : {bound bound' : Option (ℕ × List ℕ)} {binds binds' faults faults' : ℕ} {named named' : List ℕ → Option (List ℕ)} {among : List ℕ → Type 0}
      → bound' ≡ bound → binds' ≡ binds → ((c : List ℕ) → images_after (call ∷ []) (written calls first) (images first calls) c → among c)
      → Elapses (replayed first calls faults binds bound named) (replayed first' calls' faults' binds' bound' named') among
  elapses_call same_bound same_binds within = record {
    same_size = ap length same;
    same_bound = same_bound;
    same_binds = same_binds;
    later = omega (arith, longer);
    after = λ c image. within c (images_now c image);
    during = λ t c le left. ⊎_elim
        (λ (below : left.0 ≤ length calls). inl (left.0, left.1, below, subst (λ (f : List ℕ). images f (take left.0 calls) c) same (subst (λ (l : List Call). images first' l c) (earlier left.0 below) left.3)))
        (λ (last : length calls' ≤ left.0). inr (within c (images_now c (subst (λ (l : List Call). images first' l c) (take_all left.0 calls' last) left.3))))
        (let cases : (left.0 ≤ length calls) ⊎ (length calls' ≤ left.0) = grind (arith, longer) in cases);
    keeps = λ t c le left. (left.0, left.1, omega (arith, left.2, longer), subst (λ (l : List Call). images first' l c) (sym (earlier left.0 left.2)) (subst (λ (f : List ℕ). images f (take left.0 calls) c) (sym same) left.3));
  }

  pub bytes_call : written calls' first' ≡ written (call ∷ []) (written calls first)
  bytes_call = (λ i. written (more i) (same i)) ∙ written-append calls (call ∷ []) first

-- a crash after a sync leaves what was written
pub synced_image : (calls : List Call) (first : List ℕ) → AllFit (length first) calls → (c : List ℕ) → images_after (Sync ∷ []) (written calls first) (images first calls) c → images first calls c
synced_image calls first fit c is = subst (images first calls) (sym is) (written-image calls first (λ b. b ≡ first) fit refl)

-- a memory disk is bound as before where its name is the same
same_bound : (old new : MemDisk) → new.name ≡ old.name → (state_of new).bound ≡ (state_of old).bound
same_bound old new named = ap (option_map (λ (name : Vec ℕ Global). (0, name.items))) named

pub elapses_untouched : {old new : MemDisk} {among : List ℕ → Type 0} → IsUntouched old new → new.name ≡ old.name → new.failures.binds ≡ old.failures.binds → ((c : List ℕ) → now_of old c → among c) → Elapses (state_of old) (state_of new) among
elapses_untouched {old = old} {new = new} same named binds within = elapses_same same.first same.history (same_bound old new named) binds within

pub elapses_write : {old new : MemDisk} (at : ℕ) (put : Vec ℕ Global) (bytes : List ℕ) → Appends old new (Write at put) → put.items ≡ bytes → new.name ≡ old.name → new.failures.binds ≡ old.failures.binds → Elapses (state_of old) (state_of new) (TornFrom at (length bytes) (now_of old))
elapses_write {old = old} {new = new} at put bytes more is named binds = elapses_call old.history.items (Write at put) more.first more.history (same_bound old new named) binds (λ c torn. subst (λ (b : List ℕ). TornFrom at (length b) (now_of old) c) is torn)

pub contents_write : {old new : MemDisk} (at : ℕ) (put : Vec ℕ Global) (bytes : List ℕ) → Appends old new (Write at put) → put.items ≡ bytes → contents_of new ≡ Some (spliced (bytes_of old) at bytes)
contents_write {old = old} at put bytes more is = ap Some (bytes_call old.history.items (Write at put) more.first more.history ∙ ap (spliced (bytes_of old) at) is)

pub elapses_sync : {old new : MemDisk} → Appends old new Sync → new.name ≡ old.name → new.failures.binds ≡ old.failures.binds → Elapses (state_of old) (state_of new) (now_of old)
elapses_sync {old = old} {new = new} more named binds = elapses_call old.history.items Sync more.first more.history (same_bound old new named) binds (synced_image old.history.items old.first.items old.writes_fit)

pub contents_sync : {old new : MemDisk} → Appends old new Sync → contents_of new ≡ contents_of old
contents_sync {old = old} more = ap Some (bytes_call old.history.items Sync more.first more.history)

pub settled_sync : {old new : MemDisk} → Appends old new Sync → IsSettled (state_of new)
settled_sync {old = old} more c image = ap Some (bytes_call old.history.items Sync more.first more.history ∙ sym (images_now old.history.items Sync more.first more.history c image))

-- any bytes in the range of a write may be left
pub torn_now : {old new : MemDisk} (at : ℕ) (put : Vec ℕ Global) (bytes : List ℕ) → Appends old new (Write at put) → put.items ≡ bytes → (c : List ℕ) → TornFrom at (length bytes) (now_of old) c → now_of new c
torn_now {old = old} at put bytes more is c torn = images_then old.history.items (Write at put) more.first more.history c (subst (λ (b : List ℕ). TornFrom at (length b) (now_of old) c) (sym is) torn)
