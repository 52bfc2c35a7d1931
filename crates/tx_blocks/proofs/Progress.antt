-- How far a call that follows a program has come.
use Rattle.tx_blocks.proofs.{Words.{◌≡◌, ◌∙◌, sym, refl, ap, subst, ℕ, zero, suc, ◌+◌, ◌-◌, ◌<◌, ◌≤◌, Bool, true, false, cond, List, [], ◌∷◌, ◌++◌, length, take, Option, Some, None, arith, nat_le, append_assoc, length-append, append-nil, take_at, drop_at, ForSome, nat_tests, Access, Span, Array, put, own, is_write, block_at, Program, Done, Look, LookWhole, Reserve, Store, bytes_in, further_bytes, with_further, look_access, store_access, accesses_of, answer_of, after, outcome, then_do, Tx, with_accesses, added, room_of, Began, Ends, Ran, Stopped, take-nil}, Programs.accesses_then, Outcomes.{IsWhole, outcome_whole, outcome_then, outcome_cut}}

pub own_append : (A : Array) (xs ys : List Access) → own A (xs ++ ys) ≡ own (own A xs) ys
own_append A [] ys = refl
own_append A (x ∷ xs) ys = own_append (cond (is_write x) (put A x) A) xs ys

-- The call that began at t and is now at u has the rest of its program before it.
pub record IsAt {R : Type 0} (whole rest : Program R) (t u : Tx) : Type 0 where
  pub done : List Access
  pub is : u ≡ with_accesses t done
  pub told : ForSome t.base (λ A. outcome (room_of t) whole (own A t.accesses) ≡ after done (outcome (room_of u) rest (own A u.accesses)))
  pub all : ForSome t.base (λ A. accesses_of whole (own A t.accesses) ≡ done ++ accesses_of rest (own A u.accesses))

with_none : (t : Tx) → with_accesses t [] ≡ t
with_none t = ap (λ accesses. record t { accesses = accesses }) (append-nil t.accesses)

pub with_more : (t : Tx) (xs ys : List Access) → with_accesses (with_accesses t xs) ys ≡ with_accesses t (xs ++ ys)
with_more t xs ys = ap (λ accesses. record t { accesses = accesses }) (append_assoc t.accesses xs ys)

pub at_start : {R : Type 0} (p : Program R) (t : Tx) → IsAt p p t t
at_start p t = record { done = []; is = sym (with_none t); told = λ A is. refl; all = λ A is. refl }

-- what is left may be said in another way
pub at_as : {R : Type 0} (whole p q : Program R) (t u : Tx) → p ≡ q → IsAt whole p t u → IsAt whole q t u
at_as whole p q t u e now = subst (λ (r : Program _). IsAt whole r t u) e now

pub same_base : {R : Type 0} (whole rest : Program R) (t u : Tx) → IsAt whole rest t u → u.base ≡ t.base
same_base whole rest t u now = ap (λ (w : Tx). w.base) now.is

-- after some accesses more, where what is left follows
at_more : {R : Type 0} (whole rest next : Program R) (t u v : Tx) (more : List Access) → IsAt whole rest t u → v ≡ with_accesses u more
    → ForSome t.base (λ A. outcome (room_of u) rest (own A u.accesses) ≡ after more (outcome (room_of v) next (own A v.accesses)))
    → ForSome t.base (λ A. accesses_of rest (own A u.accesses) ≡ more ++ accesses_of next (own A v.accesses)) → IsAt whole next t v
at_more whole rest next t u v more now is goes all = record {
  done = now.done ++ more;
  is = is ∙ ap (λ (w : Tx). with_accesses w more) now.is ∙ with_more t now.done more;
  told = λ A told.
      now.told A told ∙ ap (after now.done) (goes A told)
      ∙ ap (λ xs. (xs, (outcome (room_of v) next (own A v.accesses)).1)) (sym (append_assoc now.done more (outcome (room_of v) next (own A v.accesses)).0));
  all = λ A told. now.all A told ∙ ap (λ xs. now.done ++ xs) (all A told) ∙ sym (append_assoc now.done more (accesses_of next (own A v.accesses)));
}

-- one part after another
pub at_join : {R : Type 0} (whole rest next : Program R) (t u v : Tx) → IsAt whole rest t u → IsAt rest next u v → IsAt whole next t v
at_join whole rest next t u v now more =
    at_more whole rest next t u v more.done now more.is (λ A told. more.told A (same_base whole rest t u now ∙ told)) (λ A told. more.all A (same_base whole rest t u now ∙ told))

pub room_after : (u v : Tx) (a : Access) → v ≡ with_accesses u (a ∷ []) → length v.accesses ≤ 4096 → room_of u ≡ suc (room_of v)
room_after u v a is fits =
    let long : length v.accesses ≡ length u.accesses + 1 = ap (λ (w : Tx). length w.accesses) is ∙ length-append u.accesses (a ∷ []) in
    omega arith

array_after : (u v : Tx) (a : Access) (A : Array) → v ≡ with_accesses u (a ∷ []) → own A v.accesses ≡ own (own A u.accesses) (a ∷ [])
array_after u v a A is = ap (λ (w : Tx). own A w.accesses) is ∙ own_append A u.accesses (a ∷ [])

-- after a read, whose bytes decide what is left
pub at_look : {R : Type 0} (whole : Program R) (b : ℕ) (mark : Span) (further : List ℕ → Option Span) (next : List ℕ → List ℕ → Program R) (t u v : Tx) (bytes : List ℕ)
    → IsAt whole (Look b mark further next) t u → ForSome u.base (λ A. bytes ≡ block_at (own A u.accesses) b) → length v.accesses ≤ 4096
    → v ≡ with_accesses u (look_access b (mark ∷ with_further (further (bytes_in mark bytes))) ∷ [])
    → IsAt whole (next (bytes_in mark bytes) (further_bytes (further (bytes_in mark bytes)) bytes)) t v
at_look {R = R} whole b mark further next t u v bytes now bytes_are fits is =
    let access : List ℕ → Access = λ x. look_access b (mark ∷ with_further (further (bytes_in mark x))) in
    let rest : List ℕ → Program R = λ x. next (bytes_in mark x) (further_bytes (further (bytes_in mark x)) x) in
    at_more whole (Look b mark further next) (rest bytes) t u v (access bytes ∷ []) now is (λ A told.
    let B = own A u.accesses in
    ap (λ n. outcome n (Look b mark further next) B) (room_after u v (access bytes) is fits)
    ∙ ap (λ (x : List ℕ). after (access x ∷ []) (outcome (room_of v) (rest x) B)) (sym (bytes_are A (same_base whole (Look b mark further next) t u now ∙ told)))
    ∙ ap (λ (C : Array). after (access bytes ∷ []) (outcome (room_of v) (rest bytes) C)) (sym (array_after u v (access bytes) A is)))
    (λ A told.
    ap (λ (x : List ℕ). access x ∷ accesses_of (rest x) (own A u.accesses)) (sym (bytes_are A (same_base whole (Look b mark further next) t u now ∙ told)))
    ∙ ap (λ (C : Array). access bytes ∷ accesses_of (rest bytes) C) (sym (array_after u v (access bytes) A is)))

pub at_look_whole : {R : Type 0} (whole : Program R) (b : ℕ) (next : List ℕ → Program R) (t u v : Tx) (bytes : List ℕ)
    → IsAt whole (LookWhole b next) t u → ForSome u.base (λ A. bytes ≡ block_at (own A u.accesses) b) → length v.accesses ≤ 4096
    → v ≡ with_accesses u (look_access b [] ∷ []) → IsAt whole (next bytes) t v
at_look_whole whole b next t u v bytes now bytes_are fits is =
    at_more whole (LookWhole b next) (next bytes) t u v (look_access b [] ∷ []) now is (λ A told.
    let B = own A u.accesses in
    ap (λ n. outcome n (LookWhole b next) B) (room_after u v (look_access b []) is fits)
    ∙ ap (λ (x : List ℕ). after (look_access b [] ∷ []) (outcome (room_of v) (next x) B)) (sym (bytes_are A (same_base whole (LookWhole b next) t u now ∙ told)))
    ∙ ap (λ (C : Array). after (look_access b [] ∷ []) (outcome (room_of v) (next bytes) C)) (sym (array_after u v (look_access b []) A is)))
    (λ A told.
    ap (λ (x : List ℕ). look_access b [] ∷ accesses_of (next x) (own A u.accesses)) (sym (bytes_are A (same_base whole (LookWhole b next) t u now ∙ told)))
    ∙ ap (λ (C : Array). look_access b [] ∷ accesses_of (next bytes) C) (sym (array_after u v (look_access b []) A is)))

-- after a write
pub at_store : {R : Type 0} (whole : Program R) (b : ℕ) (spans : List Span) (bytes : List ℕ) (next : Program R) (t u v : Tx)
    → IsAt whole (Store b spans bytes next) t u → length v.accesses ≤ 4096 → v ≡ with_accesses u (store_access b spans bytes ∷ []) → IsAt whole next t v
at_store whole b spans bytes next t u v now fits is =
    at_more whole (Store b spans bytes next) next t u v (store_access b spans bytes ∷ []) now is (λ A told.
    ap (λ n. outcome n (Store b spans bytes next) (own A u.accesses)) (room_after u v (store_access b spans bytes) is fits)
    ∙ ap (λ (C : Array). after (store_access b spans bytes ∷ []) (outcome (room_of v) next C)) (sym (array_after u v (store_access b spans bytes) A is)))
    (λ A told. ap (λ (C : Array). store_access b spans bytes ∷ accesses_of next C) (sym (array_after u v (store_access b spans bytes) A is)))

-- after a reservation that fits
pub at_reserve : {R : Type 0} (whole : Program R) (count : ℕ) (next : Program R) (t u : Tx) → IsAt whole (Reserve count next) t u → count ≤ room_of u → IsAt whole next t u
at_reserve whole count next t u now fits = record {
  done = now.done;
  is = now.is;
  told = λ A told.
      let test : nat_le count (room_of u) ≡ true = grind (arith, nat_tests) in
      now.told A told ∙ ap (λ (b : Bool). after now.done (cond b (outcome (room_of u) next (own A u.accesses)) ([], None))) test;
  all = now.all;
}

-- after a part that is a program itself
pub at_then : {R S : Type 0} (whole : Program S) (p : Program R) (f : R → Program S) (t u v : Tx) (r : R) → IsAt whole (then_do p f) t u → Ran p u v r → IsAt whole (f r) t v
at_then whole p f t u v r now ran =
    at_more whole (then_do p f) (f r) t u v ran.done now ran.is (λ A told.
    let B = own A u.accesses in
    let told_is = ran.told A (same_base whole (then_do p f) t u now ∙ told) in
    let long : length v.accesses ≡ length u.accesses + length ran.done = ap (λ (w : Tx). length w.accesses) ran.is ∙ length-append u.accesses ran.done in
    let room : room_of u - length ran.done ≡ room_of v = omega arith in
    let array : own B ran.done ≡ own A v.accesses = sym (ap (λ (w : Tx). own A w.accesses) ran.is ∙ own_append A u.accesses ran.done) in
    outcome_then (room_of u) p f B r (ap (λ x. x.1) told_is)
    ∙ ap (λ (xs : List Access). after xs (outcome (room_of u - length xs) (f r) (own B xs))) (ap (λ x. x.0) told_is)
    ∙ ap (λ (n : ℕ). after ran.done (outcome n (f r) (own B ran.done))) room
    ∙ ap (λ (C : Array). after ran.done (outcome (room_of v) (f r) C)) array)
    (λ A told.
    let B = own A u.accesses in
    let told_is = ran.told A (same_base whole (then_do p f) t u now ∙ told) in
    let ended = outcome_whole (room_of u) p B r (ap (λ x. x.1) told_is) in
    let made : accesses_of p B ≡ ran.done = ended.accesses_are ∙ ap (λ x. x.0) told_is in
    let array : own B ran.done ≡ own A v.accesses = sym (ap (λ (w : Tx). own A w.accesses) ran.is ∙ own_append A u.accesses ran.done) in
    accesses_then p f B ∙ ap (λ xs. xs ++ accesses_of (f (answer_of p B)) (own B xs)) made ∙ ap (λ x. ran.done ++ accesses_of (f x) (own B ran.done)) ended.answer_is
    ∙ ap (λ (C : Array). ran.done ++ accesses_of (f r) C) array)

-- at the end
pub ran_at : {R : Type 0} (whole : Program R) (t u : Tx) (r : R) → IsAt whole (Done r) t u → Ran whole t u r
ran_at whole t u r now = record {
  done = now.done;
  is = now.is;
  told = λ A told. now.told A told ∙ ap (λ xs. (xs, Some r)) (append-nil now.done);
}

-- what is done has no access
pub ran_done : {R : Type 0} (r : R) (t : Tx) → Ran (Done r) t t r
ran_done r t = ran_at (Done r) t t r (at_start (Done r) t)

cut_at : {R : Type 0} (whole rest : Program R) (t u v : Tx) → IsAt whole rest t u → v ≡ u → ForSome t.base (λ A. outcome (room_of u) rest (own A u.accesses) ≡ ([], None)) → Ends whole t v None
cut_at whole rest t u v now same none = record {
  done = now.done;
  is = same ∙ now.is;
  told = λ A told. now.told A told ∙ ap (after now.done) (none A told) ∙ ap (λ xs. (xs, None)) (append-nil now.done);
}

-- where a read or a write does not fit
pub full_at_look : {R : Type 0} (whole : Program R) (b : ℕ) (mark : Span) (further : List ℕ → Option Span) (next : List ℕ → List ℕ → Program R) (t u v : Tx)
    → IsAt whole (Look b mark further next) t u → v ≡ u → 4096 ≤ length u.accesses → Ends whole t v None
full_at_look whole b mark further next t u v now same full =
    let none : room_of u ≡ 0 = omega arith in
    cut_at whole (Look b mark further next) t u v now same (λ A told. ap (λ n. outcome n (Look b mark further next) (own A u.accesses)) none)

pub full_at_store : {R : Type 0} (whole : Program R) (b : ℕ) (spans : List Span) (bytes : List ℕ) (next : Program R) (t u v : Tx)
    → IsAt whole (Store b spans bytes next) t u → v ≡ u → 4096 ≤ length u.accesses → Ends whole t v None
full_at_store whole b spans bytes next t u v now same full =
    let none : room_of u ≡ 0 = omega arith in
    cut_at whole (Store b spans bytes next) t u v now same (λ A told. ap (λ n. outcome n (Store b spans bytes next) (own A u.accesses)) none)

pub full_at_whole : {R : Type 0} (whole : Program R) (b : ℕ) (next : List ℕ → Program R) (t u v : Tx) → IsAt whole (LookWhole b next) t u → v ≡ u → 4096 ≤ length u.accesses → Ends whole t v None
full_at_whole whole b next t u v now same full =
    let none : room_of u ≡ 0 = omega arith in
    cut_at whole (LookWhole b next) t u v now same (λ A told. ap (λ n. outcome n (LookWhole b next) (own A u.accesses)) none)

-- where a reservation does not fit
pub full_at_reserve : {R : Type 0} (whole : Program R) (count : ℕ) (next : Program R) (t u v : Tx) → IsAt whole (Reserve count next) t u → v ≡ u → room_of u < count → Ends whole t v None
full_at_reserve whole count next t u v now same few =
    let test : nat_le count (room_of u) ≡ false = grind (arith, nat_tests) in
    cut_at whole (Reserve count next) t u v now same (λ A told. ap (λ (b : Bool). cond b (outcome (room_of u) next (own A u.accesses)) ([], None)) test)

pub full_then : {R S : Type 0} (whole : Program S) (p : Program R) (f : R → Program S) (t u v : Tx) → IsAt whole (then_do p f) t u → Ends p u v None → Ends whole t v None
full_then whole p f t u v now ended = record {
  done = now.done ++ ended.done;
  is = ended.is ∙ ap (λ (w : Tx). with_accesses w ended.done) now.is ∙ with_more t now.done ended.done;
  told = λ A told.
      let told_is = ended.told A (same_base whole (then_do p f) t u now ∙ told) in
      now.told A told ∙ ap (after now.done) (outcome_cut (room_of u) p f (own A u.accesses) (ap (λ x. x.1) told_is) ∙ ap (λ (xs : List Access). (xs, None)) (ap (λ x. x.0) told_is));
}

-- where the transaction refuses for another cause
abbrev pub began_at : {R : Type 0} (whole rest : Program R) (t u v : Tx) → IsAt whole rest t u → v ≡ u → Began whole t v
began_at whole rest t u v now same = record {
  done = now.done;
  is = same ∙ now.is;
  told = λ A told. (length now.done, sym (ap (λ x. take (length now.done) x.0) (now.told A told) ∙ take_at now.done (outcome (room_of u) rest (own A u.accesses)).0 (length now.done) refl));
}

-- what is left has an access yet, on every array
abbrev pub HasAccess : {R : Type 0} → Program R → Type 0
HasAccess p = (A : Array) → 0 < length (accesses_of p A)

pub stopped_at : {R : Type 0} (whole rest : Program R) (t u v : Tx) → IsAt whole rest t u → v ≡ u → HasAccess rest → Stopped whole t v
stopped_at whole rest t u v now same more = record {
  began = began_at whole rest t u v now same;
  fewer = λ A told.
      let left = accesses_of rest (own A u.accesses) in
      let long : length (accesses_of whole (own A t.accesses)) ≡ length now.done + length left = ap (λ xs. length xs) (now.all A told) ∙ length-append now.done left in
      omega (arith, long, more (own A u.accesses));
}

pub take_within : {X : Type 0} (n : ℕ) (xs ys : List X) → (m : ℕ) × (take m (xs ++ ys) ≡ take n xs)
take_within n [] ys = (0, sym (take-nil n))
take_within zero (x ∷ xs) ys = (0, refl)
take_within (suc n) (x ∷ xs) ys = let rest = take_within n xs ys in (suc rest.0, ap (λ r. x ∷ r) rest.1)

pub prefix_then : {R S : Type 0} (room : ℕ) (p : Program R) (f : R → Program S) (A : Array) (n : ℕ) → (m : ℕ) × (take m (outcome room (then_do p f) A).0 ≡ take n (outcome room p A).0)
prefix_then room p f A n =
    elim (outcome room p A).1 as (λ o. (outcome room p A).1 ≡ o → (m : ℕ) × (take m (outcome room (then_do p f) A).0 ≡ take n (outcome room p A).0)) [
      | Some r ↦ λ e.
          let rest = outcome (room - length (outcome room p A).0) (f r) (own A (outcome room p A).0) in
          let part = take_within n (outcome room p A).0 rest.0 in
          (part.0, ap (λ x. take part.0 x.0) (outcome_then room p f A r e) ∙ part.1)
      | None ↦ λ e. (n, ap (λ x. take n x.0) (outcome_cut room p f A e))
    ] refl

abbrev pub began_then : {R S : Type 0} (p : Program R) (f : R → Program S) (t u : Tx) → Began p t u → Began (then_do p f) t u
began_then p f t u began = record {
  done = began.done;
  is = began.is;
  told = λ A told.
      let first = began.told A told in
      let more = prefix_then (room_of t) p f (own A t.accesses) first.0 in
      (more.0, first.1 ∙ sym more.1);
}

-- a call that stopped in its first part
pub stopped_then : {R S : Type 0} (p : Program R) (f : R → Program S) (t u : Tx) → Stopped p t u → Stopped (then_do p f) t u
stopped_then p f t u stopped = record {
  began = began_then p f t u stopped.began;
  fewer = λ A told.
      let B = own A t.accesses in
      let rest = accesses_of (f (answer_of p B)) (own B (accesses_of p B)) in
      let long : length (accesses_of (then_do p f) B) ≡ length (accesses_of p B) + length rest = ap (λ xs. length xs) (accesses_then p f B) ∙ length-append (accesses_of p B) rest in
      omega (arith, long, stopped.fewer A told);
}

-- the accesses that came are those that the call made
pub added_is : (t u : Tx) (done : List Access) → u ≡ with_accesses t done → added t u ≡ done
added_is t u done is = ap (added t) is ∙ drop_at t.accesses done (length t.accesses) refl

-- a call that ran made the accesses of its program, and answered as it does
pub whole_run : {R : Type 0} (p : Program R) (t u : Tx) (r : R) → Ran p t u r → ForSome t.base (λ A. IsWhole p (own A t.accesses) (added t u) r)
whole_run p t u r ran = λ A told.
    let is = ran.told A told in
    subst (λ (xs : List Access). IsWhole p (own A t.accesses) xs r) (ap (λ x. x.0) is ∙ sym (added_is t u ran.done ran.is))
    (outcome_whole (room_of t) p (own A t.accesses) r (ap (λ x. x.1) is))
