-- What a get answers where its walk ends.
use Rattle.iso_hash.proofs.{Words.{◌≡◌, ◌≢◌, ◌∙◌, refl, ap, subst, ℕ, ◌+◌, ◌*◌, ◌≤◌, Bool, true, false, cond, List, [], take, drop, Option, Some, None, Result, Ok, Err, Area, Spot, StoreError, own, value_mark, keys_end, is_part, text_of, get_program, got, walk, is_key, IsHashArea, IsHashRegion, hash_map, get_op, Done, then_do, bytes_in, Tx, Device, IsLater, HasRead, IsStoreCause, Behaves, refused_so, store_cause, Ran, HasEnded, IsLocalCall, ran_at, ran_done, at_start, at_then, run_local, cut_then, HasWalked, HasRun, Program, IsAt, ended_from, sym}, Gets.get_local}
use Rattle.store_model.specs.declared.stores.StoreError.TheVariants as store
use Rattle.store_model.specs.HashCalls as hash
use Rattle.iso_hash.specs.declared.walk.Walked as code

get_ran : (a : Area) (key : List ℕ) (t u : Tx) (w : hash.Walked) → is_key key ≡ true → Ran (walk a key true) t u w → Ran (get_program a key) t u (got a w)
unfolding get_program
get_ran a key t u w is ran =
    let whole = then_do (walk a key true) (λ x. Done (got a x)) in
    rw is (ran_at whole t u (got a w) (at_then whole (walk a key true) (λ x. Done (got a x)) t t u w (at_start whole t) ran))

pub bad_key : (a : Area) (key : List ℕ) (t : Tx) → is_key key ≡ false → Ran (get_program a key) t t (Err store.BadKey)
unfolding get_program
bad_key a key t not = rw not (ran_done (Err store.BadKey) t)

-- the walk's end is a variable of the code's
walked_as : (a : Area) (key : List ℕ) (with_value : Bool) (t u : Tx) (buffer : List ℕ) (w x : code.Walked) → HasWalked a key with_value t u buffer (Ok w) → w ≡ x → HasWalked a key with_value t u buffer (Ok x)
walked_as a key with_value t u buffer w x walked is = subst (λ (y : code.Walked). HasWalked a key with_value t u buffer (Ok y)) is walked

pub walked_cell : (a : Area) (key : List ℕ) (with_value : Bool) (t u : Tx) (buffer : List ℕ) (w : code.Walked) (spot : Spot) (before : ℕ) → HasWalked a key with_value t u buffer (Ok w) → w ≡ code.TheVariants.AtCell spot before
    → Ran (walk a key with_value) t u (hash.AtCell spot before (take (keys_end a.size) buffer) (cond with_value (bytes_in (value_mark a.size spot.cell) buffer) []))
walked_cell a key with_value t u buffer w spot before walked is = walked_as a key with_value t u buffer w (code.TheVariants.AtCell spot before) walked is

pub walked_end : (a : Area) (key : List ℕ) (with_value : Bool) (t u : Tx) (buffer : List ℕ) (w : code.Walked) (spare : Option Spot) (last position : ℕ) → HasWalked a key with_value t u buffer (Ok w) → w ≡ code.TheVariants.AtEnd spare last position
    → Ran (walk a key with_value) t u (hash.AtEnd spare last position)
walked_end a key with_value t u buffer w spare last position walked is = walked_as a key with_value t u buffer w (code.TheVariants.AtEnd spare last position) walked is

pub get_at_end : (a : Area) (key : List ℕ) (t u : Tx) (spare : Option Spot) (last position : ℕ) → is_key key ≡ true → Ran (walk a key true) t u (hash.AtEnd spare last position) → Ran (get_program a key) t u (Ok None)
get_at_end a key t u spare last position is ran = get_ran a key t u (hash.AtEnd spare last position) is ran

-- a walk that is refused or finds a block that is not well formed ends the call
pub walk_error : {X : Type 0} (a : Area) (key : List ℕ) (with_value : Bool) (f : hash.Walked → Program (Result X StoreError)) (t u : Tx) (buffer : List ℕ) (e : StoreError)
    → ((block : ℕ) → f (hash.AtBroken block) ≡ Done (Err (store.Broken block))) → HasWalked a key with_value t u buffer (Err e) → HasRun (then_do (walk a key with_value) f) t u (Err e)
walk_error a key with_value f t u buffer store.BadKey broken walked = absurd walked
walk_error a key with_value f t u buffer store.BadValue broken walked = absurd walked
walk_error a key with_value f t u buffer (store.NoBlocks need free) broken walked = absurd walked
walk_error a key with_value f t u buffer (store.Broken block) broken walked =
    let whole = then_do (walk a key with_value) f in
    let now = at_then whole (walk a key with_value) f t t u (hash.AtBroken block) (at_start whole t) walked in
    ran_at whole t u (Err (store.Broken block)) (subst (λ (p : Program (Result _ StoreError)). IsAt whole p t u) (broken block) now)
walk_error a key with_value f t u buffer (store.Tx e) broken walked = cut_then (walk a key with_value) f t u e walked
walk_error a key with_value f t u buffer store.Memory broken walked = absurd walked

-- a refusal of the walk is one of the call
pub get_error : (a : Area) (key : List ℕ) (t u : Tx) (buffer : List ℕ) (e : StoreError) → is_key key ≡ true → HasWalked a key true t u buffer (Err e) → HasEnded (get_program a key) t u (Err e)
unfolding get_program
get_error a key t u buffer e is walked =
    let next = λ (w : hash.Walked). Done (got a w) in
    subst (λ (b : Bool). HasEnded (cond b (then_do (walk a key true) next) (Done (Err store.BadKey))) t u (Err e)) (sym is) (ended_from (then_do (walk a key true) next) t u (Err e) (walk_error a key true next t u buffer e (λ block. refl) walked))

-- the walk does not answer that the key is wrong
pub walk_known : (a : Area) (key : List ℕ) (with_value : Bool) (t u : Tx) (buffer : List ℕ) (e : StoreError) → HasWalked a key with_value t u buffer (Err e) → (e ≢ store.BadKey) × (e ≢ store.BadValue)
walk_known a key with_value t u buffer store.BadKey walked = absurd walked
walk_known a key with_value t u buffer store.BadValue walked = absurd walked
walk_known a key with_value t u buffer (store.NoBlocks need free) walked = absurd walked
walk_known a key with_value t u buffer (store.Broken block) walked = (λ x. cc, λ x. cc)
walk_known a key with_value t u buffer (store.Tx e) walked = (λ x. cc, λ x. cc)
walk_known a key with_value t u buffer store.Memory walked = absurd walked

-- and refuses the call with it
pub walk_refuses : {R : Type 0} {t u : Tx} {writes : ℕ} {before now : Device} (a : Area) (key buffer : List ℕ) (e : StoreError) → HasWalked a key false t u buffer (Err e) → HasRead t u
    → IsStoreCause u 1 before now e → IsLater before now → 1 ≤ writes → Behaves {R = R} t u writes before now (Err e)
walk_refuses {t = t} {u = u} {writes = writes} {before = before} {now = now} a key buffer e walked read cause later le =
    refused_so t u writes before now e read (store_cause u 1 writes before now e le cause) (walk_known a key false t u buffer e walked) later

pub call_local : (a : Area) (key : List ℕ) (t u : Tx) (r : Option (List ℕ)) → IsHashArea a → is_key key ≡ true → Ran (get_program a key) t u (Ok r) → IsLocalCall (IsHashRegion a) (hash_map a) (get_op key) t u r
call_local a key t u r area is ran =
    run_local (IsHashRegion a) (hash_map a) (get_op key) (get_program a key) t u (Ok r) (λ A x told answer. get_local a key (own A t.accesses) x area is answer) ran

-- the value part that the code tests
pub part_is : (a : Area) (buffer part : List ℕ) (n i : ℕ) → n ≡ Rattle.store_model.specs.Cells.cell_count a.size → part ≡ take 33 (drop (64 + 31 * n + 33 * i) buffer) → part ≡ bytes_in (value_mark a.size i) buffer
part_is a buffer part n i count is = is ∙ ap (λ (m : ℕ). take 33 (drop (64 + 31 * m + 33 * i) buffer)) count

pub answers_value : (a : Area) (key : List ℕ) (t u : Tx) (spot : Spot) (before : ℕ) (ks part text : List ℕ) → is_key key ≡ true → Ran (walk a key true) t u (hash.AtCell spot before ks part) → is_part 32 part ≡ true → text ≡ text_of part
    → Ran (get_program a key) t u (Ok (Some text))
answers_value a key t u spot before ks part text is_it ran good is =
    let e : got a (hash.AtCell spot before ks part) ≡ Ok (Some text) = rw (good, is) refl in
    subst (λ (r : Result (Option (List ℕ)) StoreError). Ran (get_program a key) t u r) e (get_ran a key t u (hash.AtCell spot before ks part) is_it ran)

pub answers_broken : (a : Area) (key : List ℕ) (t u : Tx) (spot : Spot) (before : ℕ) (ks part : List ℕ) → is_key key ≡ true → Ran (walk a key true) t u (hash.AtCell spot before ks part) → is_part 32 part ≡ false
    → Ran (get_program a key) t u (Err (store.Broken (a.start + spot.block)))
answers_broken a key t u spot before ks part is_it ran bad =
    let e : got a (hash.AtCell spot before ks part) ≡ Err (store.Broken (a.start + spot.block)) = rw bad refl in
    subst (λ (r : Result (Option (List ℕ)) StoreError). Ran (get_program a key) t u r) e (get_ran a key t u (hash.AtCell spot before ks part) is_it ran)
