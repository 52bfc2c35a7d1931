-- Transactions under labels: what they have kept, and what is under the lock after a call on labels.
use Rattle.iso_shared.proofs.{Words.{clock_of, ◌≡◌, ℕ, ◌+◌, ◌<◌, ◌≤◌, ◌==◌, Bool, true, false, cond, List, [], ◌∷◌, ◌++◌, Option, Some, None, refl, sym, ap, ◌∙◌, subst, arith, bytes_eq, drop, option_map, lookup, remove_entry, AllByRecursion, lookup-map_values, Core, DiskState, Geometry, last, World, Live, IsLive, hit, times, hit_same, Entry, Posting, Posted, Call, Cause, Fits, LegalFrom, IsOwn, IsOn, StandsAt, posting_in, Start, State, after, after_all, after_refusal, is_live, live_of, opened, posting_of, racked, state_at, inl, Ok, Err, is_some, slice_get, map-append, held_after, PostError, Answers, handed, returned, Holds, postings, post_entry}, Follows.{Follows, follows_all, follows_next}, Giving.{fault_keeps, Lends, live_lent}, Standings.{sound_at, MayLeave, Moved, stands_next}, Trace.{IsSound, loose_is, opened_sound, sound_next}, Cores.Did}
use Rattle.iso_shared.specs.declared.entry.Entry.TheVariants as entry
use Rattle.iso_shared.specs.declared.entry.Cause.TheVariants as cause
use Rattle.tx_table.specs.declared.rack.PostError.TheVariants as post

-- it has the begin and the mode that it began with, in as far as it is still live
pub record IsPosting (S : State) (p : Posting) : Type 0 where
  pub number : p.number < S.world.next
  pub begin : is_live p.number S.world.live ≡ true → (live_of p.number S.world.live).begin ≡ p.begin
  pub mode : is_live p.number S.world.live ≡ true → (live_of p.number S.world.live).mode ≡ p.mode

abbrev pub AreKnown : State → List (List ℕ × Posting) → Type 0
AreKnown S rack = AllByRecursion (λ e. IsPosting S e.1) rack

pub known_on : (S T : State) (p : Posting) → Follows S T → IsPosting S p → IsPosting T p
known_on S T p f is = grind arith

all_on : (S T : State) (rack : List (List ℕ × Posting)) → Follows S T → AreKnown S rack → AreKnown T rack
all_on S T [] f all = tt
all_on S T (e ∷ rack) f all = (known_on S T e.1 f all.0, all_on S T rack f all.1)

module _ {X : Type 0} (P : List ℕ × X → Type 0) where
  removed_by : (test : List ℕ → Bool) (e : List ℕ × X) (es : List (List ℕ × X)) (b : Bool) → P e → AllByRecursion P es → AllByRecursion P (remove_entry test es) → AllByRecursion P (cond b es (e ∷ remove_entry test es))
  removed_by test e es true h all ih = all
  removed_by test e es false h all ih = (h, ih)

  all_removed : (test : List ℕ → Bool) (es : List (List ℕ × X)) → AllByRecursion P es → AllByRecursion P (remove_entry test es)
  all_removed test [] all = tt
  all_removed test (e ∷ es) all = removed_by test e es (test e.0) all.0 all.1 (all_removed test es all.1)

  all_rest : (es : List (List ℕ × X)) → AllByRecursion P es → AllByRecursion P (drop 1 es)
  all_rest [] all = tt
  all_rest (e ∷ es) all = all.1

  all_snoc : (es : List (List ℕ × X)) (e : List ℕ × X) → AllByRecursion P es → P e → AllByRecursion P (es ++ e ∷ [])
  all_snoc [] e all h = (h, tt)
  all_snoc (x ∷ es) e all h = (all.0, all_snoc es e all.1 h)

found_by : {X : Type 0} → (P : X → Type 0) (test : List ℕ → Bool) (e : List ℕ × X) (es : List (List ℕ × X)) (x : X) (b : Bool) → P e.1 → (lookup test es ≡ Some x → P x) → cond b (Some e.1) (lookup test es) ≡ Some x → P x
found_by P test e es x true h ih is = subst P (cc is) h
found_by P test e es x false h ih is = ih is

-- what holds of all holds of the one that is found
pub found_in : {X : Type 0} → (P : X → Type 0) (test : List ℕ → Bool) (es : List (List ℕ × X)) (x : X) → AllByRecursion (λ e. P e.1) es → lookup test es ≡ Some x → P x
found_in P test [] x all is = absurd (cc is)
found_in P test (e ∷ es) x all is = found_by P test e es x (test e.0) all.0 (found_in P test es x all.1) is

refusal_keeps : (S : State) (c : Call) (why : Cause) → (after_refusal S c why).rack ≡ S.rack
refusal_keeps S c (cause.Disk before now) = fault_keeps S c now
refusal_keeps S c why = refl

-- an entry that leaves the labels
kept_next : (S : State) (e : Entry) → (after S e).rack ≡ S.rack → AreKnown S S.rack → AreKnown (after S e) (after S e).rack
kept_next S e same all = subst (AreKnown (after S e)) (sym same) (all_on S (after S e) S.rack (follows_next S e) all)

swept_next : (S : State) (found : Option ℕ) → AreKnown S S.rack → AreKnown (after S (entry.Sweep found)) (after S (entry.Sweep found)).rack
swept_next S None all = all
swept_next S (Some n) all = all_on S (after S (entry.Sweep (Some n))) (drop 1 S.rack) (follows_next S (entry.Sweep (Some n))) (all_rest (λ e. IsPosting S e.1) S.rack all)

known_next : (S : State) (e : Entry) → IsSound S → Fits S e → AreKnown S S.rack → AreKnown (after S e) (after S e).rack
known_next S (entry.Begin k at mode) s fits all = kept_next S (entry.Begin k at mode) refl all
known_next S (entry.End k accesses r) s fits all = kept_next S (entry.End k accesses r) refl all
known_next S (entry.EndGroup ends) s fits all = kept_next S (entry.EndGroup ends) refl all
known_next S (entry.Abort k) s fits all = kept_next S (entry.Abort k) refl all
known_next S (entry.Trim k) s fits all = kept_next S (entry.Trim k) refl all
known_next S (entry.Compact k) s fits all = kept_next S (entry.Compact k) refl all
known_next S (entry.Upgrade k) s fits all = kept_next S (entry.Upgrade k) refl all
known_next S (entry.Post k label accesses) s fits all =
    let live = (loose_is k S fits.takes.0).0 in
    let e : Entry = entry.Post k label accesses in
    all_on S (after S e) (S.rack ++ (label, posting_of S.world k accesses) ∷ []) (follows_next S e)
    (all_snoc (λ i. IsPosting S i.1) S.rack (label, posting_of S.world k accesses) all (record { number = s.below k live; begin = λ is. refl; mode = λ is. refl }))
known_next S (entry.Look label found) s fits all =
    all_on S (after S (entry.Look label found)) (remove_entry (bytes_eq label) S.rack) (follows_next S (entry.Look label found)) (all_removed (λ e. IsPosting S e.1) (bytes_eq label) S.rack all)
known_next S (entry.Sweep found) s fits all = swept_next S found all
known_next S (entry.Refused c why) s fits all = kept_next S (entry.Refused c why) (refusal_keeps S c why) all
known_next S e s fits all = all

known_all : (S : State) (es : List Entry) → IsSound S → LegalFrom S es → AreKnown S S.rack → AreKnown (after_all S es) (after_all S es).rack
known_all S [] s legal all = all
known_all S (e ∷ es) s legal all = known_all (after S e) es (sound_next S e s legal.0) legal.1 (known_next S e s legal.0 all)

begins_by : (W : World) (n : ℕ) (t : Live) (live : List Live) (b : Bool) → cond b true (is_live n live) ≡ true → t.begin ≤ last W.history → (is_live n live ≡ true → (live_of n live).begin ≤ last W.history) → (cond b t (live_of n live)).begin ≤ last W.history
begins_by W n t live true is h ih = h
begins_by W n t live false is h ih = ih is

-- a live transaction began at a commit
begins_within : (W : World) (n : ℕ) (live : List Live) → AllByRecursion (IsLive W) live → is_live n live ≡ true → (live_of n live).begin ≤ last W.history
begins_within W n [] all is = absurd (cc is)
begins_within W n (t ∷ live) all is = begins_by W n t live (t.number == n) is all.0.begin (begins_within W n live all.1)

looked_by : (test : List ℕ → Bool) (e : List ℕ × Posting) (es : List (List ℕ × Posting)) (p : Posting) (b : Bool) → cond b (Some e.1) (lookup test es) ≡ Some p → (lookup test es ≡ Some p → 0 < times p.number (racked es)) → 0 < hit e.1.number p.number + times p.number (racked es)
looked_by test e es p true is ih = let found : e.1 ≡ p = cc is in let same : e.1.number ≡ p.number = ap (λ (v : Posting). v.number) found in let h = hit_same e.1.number p.number same in omega arith
looked_by test e es p false is ih = let h = ih is in omega arith

looked_number : (test : List ℕ → Bool) (es : List (List ℕ × Posting)) (p : Posting) → lookup test es ≡ Some p → 0 < times p.number (racked es)
looked_number test [] p is = absurd (cc is)
looked_number test (e ∷ es) p is = looked_by test e es p (test e.0) is (looked_number test es p)

-- what is known of a transaction that a look finds
pub record IsFound (g : Geometry) (S : State) (p : Posted) : Type 0 where
  pub own : IsOwn S p.number p.work
  pub on : IsOn g p.work
  pub within : p.work.begin ≤ last S.world.history
  pub first : 0 < S.world.history.first

pub found_own : {D : Type 0} → (disk : D → DiskState) {first : DiskState} {ms : List ℕ} (A : Start) (core : Core D) (items : List (List ℕ × Posted)) (es : List Entry) (test : List ℕ → Bool) (p : Posted)
    → StandsAt disk A first core items es ms → lookup test items ≡ Some p → IsFound A.world.geometry (state_at A es) p
found_own disk A core items es test p s is =
    let S : State = state_at A es in
    let at : lookup test S.rack ≡ Some (posting_in p) = sym (ap (lookup test) s.rack) ∙ lookup-map_values posting_in test items ∙ ap (option_map posting_in) is in
    let known = known_all (opened A) es (opened_sound A s.start) s.legal tt in
    let posting = found_in (IsPosting S) test S.rack (posting_in p) known at in
    let on = found_in (λ (q : Posted). IsOn A.world.geometry q.work) test items p s.works is in
    let live = (sound_at disk A core items es s).racked p.number (looked_number test S.rack (posting_in p) at) in
    let f = follows_all (opened A) es in
    let world = s.core.world.kept_of.world in
    let begin : (live_of p.number S.world.live).begin ≡ p.work.begin = posting.begin live in
    let within : (live_of p.number S.world.live).begin ≤ last S.world.history = begins_within S.world p.number S.world.live world.live live in
    grind arith

-- ---- what is under the lock after a call on labels

postings_removed_by : (test : List ℕ → Bool) (e : List ℕ × Posted) (items : List (List ℕ × Posted)) (b : Bool) → postings (remove_entry test items) ≡ remove_entry test (postings items)
    → postings (cond b items (e ∷ remove_entry test items)) ≡ cond b (postings items) ((e.0, posting_in e.1) ∷ remove_entry test (postings items))
postings_removed_by test e items true ih = refl
postings_removed_by test e items false ih = ap (λ l. (e.0, posting_in e.1) ∷ l) ih

-- what is taken out from under a label is taken out of the list
postings_removed : (test : List ℕ → Bool) (items : List (List ℕ × Posted)) → postings (remove_entry test items) ≡ remove_entry test (postings items)
postings_removed test [] = refl
postings_removed test (e ∷ items) = postings_removed_by test e items (test e.0) (postings_removed test items)

postings_rest : (items : List (List ℕ × Posted)) → postings (drop 1 items) ≡ drop 1 (postings items)
postings_rest [] = refl
postings_rest (e ∷ items) = refl

postings_first : (items : List (List ℕ × Posted)) → option_map (λ e. e.1.number) (slice_get (postings items) 0) ≡ option_map (λ e. e.1.number) (slice_get items 0)
postings_first [] = refl
postings_first (e ∷ items) = refl

pub first_is : (p : Posted) (o : Option (List ℕ × Posted)) → Some p ≡ option_map (λ e. e.1) o → Some p.number ≡ option_map (λ e. e.1.number) o
first_is p None is = absurd (cc is)
first_is p (Some e) is = let same : p ≡ e.1 = cc is in ap (λ (v : Posted). Some v.number) same

first_number : (n : ℕ) (items : List (List ℕ × Posted)) → Some n ≡ option_map (λ e. e.1.number) (slice_get items 0) → 0 < times n (racked (postings items))
first_number n [] e = absurd (cc e)
first_number n (i ∷ items) e = let same : i.1.number ≡ n = cc e in let h = hit_same i.1.number n same in omega arith

post_refused : {D : Type 0} (disk : D → DiskState) (S : State) (core : Core D) (label : List ℕ) (p : Posted) (e : PostError) → Holds disk core S → (e ≡ post.LabelTaken → is_some (lookup (bytes_eq label) S.rack) ≡ true) → (e ≡ post.Memory → lookup (bytes_eq label) S.rack ≡ None)
    → Answers S (post_entry label p (Err e)) × Holds disk core (after S (post_entry label p (Err e))) × ((after S (post_entry label p (Err e))).rack ≡ S.rack)
post_refused disk S core label p post.LabelTaken h taken free = ((tt, taken refl), record { world = h.world; counts = h.counts; told = h.told }, refl)
post_refused disk S core label p post.Memory h taken free = ((tt, free refl), record { world = h.world; counts = h.counts; told = h.told }, refl)

pub post_may : (label : List ℕ) (p : Posted) (e : PostError) (holds : List ℕ) → 0 < times p.number holds → MayLeave holds (post_entry label p (Err e))
post_may label p post.LabelTaken holds h = ((h, tt), tt)
post_may label p post.Memory holds h = ((h, tt), tt)

module _ {D : Type 0} {disk : D → DiskState} {A : Start} {first : DiskState} {lent : Core D} {items : List (List ℕ × Posted)} {es : List Entry} {ms : List ℕ} {holds : List ℕ} (l : Lends disk A first lent items es ms holds) where
  abbrev S : State
  S = state_at A es

  -- a call of the labels, of which the core knows nothing
  stands_kept : (left : List (List ℕ × Posted)) (e : Entry) → MayLeave holds e → Answers S e → Holds disk lent (after S e) → postings left ≡ (after S e).rack → AllByRecursion (λ i. IsOn A.world.geometry i.1.work) left
      → StandsAt disk A first lent left (es ++ e ∷ []) (ms ++ clock_of disk lent ∷ [])
  stands_kept left e may answers core rack works = stands_next disk A lent lent items left es e holds l.at l.out may (inl refl) answers core rack works

  pub stands_look : (left : List (List ℕ × Posted)) (label : List ℕ) (found : Option Posted) → found ≡ lookup (bytes_eq label) items → left ≡ remove_entry (bytes_eq label) items
      → StandsAt disk A first lent left (es ++ entry.Look label (option_map posting_in found) ∷ []) (ms ++ clock_of disk lent ∷ [])
  stands_look left label found is rest =
      let test = bytes_eq label in
      let h = l.at.core in
      stands_kept left (entry.Look label (option_map posting_in found)) (tt, tt)
      (ap (option_map posting_in) is ∙ sym (lookup-map_values posting_in test items) ∙ ap (lookup test) l.at.rack)
      (record { world = h.world; counts = h.counts; told = h.told })
      (ap postings rest ∙ postings_removed test items ∙ ap (remove_entry test) l.at.rack)
      (subst (AllByRecursion (λ i. IsOn A.world.geometry i.1.work)) (sym rest) (all_removed (λ i. IsOn A.world.geometry i.1.work) test items l.at.works))

  pub swept_live : (n : ℕ) → Some n ≡ option_map (λ e. e.1.number) (slice_get items 0) → is_live n S.world.live ≡ true
  swept_live n is =
      let some : 0 < times n (racked (postings items)) = first_number n items is in
      (sound_at disk A lent items es l.at).racked n (subst (λ r. 0 < times n (racked r)) l.at.rack some)

  pub stands_sweep : (new : Core D) (left : List (List ℕ × Posted)) (n : ℕ) → Some n ≡ option_map (λ e. e.1.number) (slice_get items 0) → left ≡ drop 1 items → Moved disk A es (entry.Sweep (Some n)) lent new → Did disk S new (entry.Abort n)
      → StandsAt disk A first new left (es ++ entry.Sweep (Some n) ∷ []) (ms ++ clock_of disk new ∷ [])
  stands_sweep new left n is rest moved did =
      let h = did.1 in
      stands_next disk A lent new items left es (entry.Sweep (Some n)) holds l.at l.out (tt, tt) moved
      (is ∙ sym (postings_first items) ∙ ap (λ r. option_map (λ e. e.1.number) (slice_get r 0)) l.at.rack)
      (record { world = h.world; counts = h.counts; told = h.told })
      (ap postings rest ∙ postings_rest items ∙ ap (drop 1) l.at.rack)
      (subst (AllByRecursion (λ i. IsOn A.world.geometry i.1.work)) (sym rest) (all_rest (λ i. IsOn A.world.geometry i.1.work) items l.at.works))

  pub stands_unswept : (left : List (List ℕ × Posted)) → None ≡ option_map (λ e. e.1) (slice_get items 0) → left ≡ drop 1 items → StandsAt disk A first lent left (es ++ entry.Sweep None ∷ []) (ms ++ clock_of disk lent ∷ [])
  stands_unswept left is rest =
      let none : items ≡ [] = none_first items is in
      let r : left ≡ items = rest ∙ ap (drop 1) none ∙ sym none in
      stands_kept left (entry.Sweep None) (tt, tt)
      (ap (λ k. option_map (λ e. e.1.number) (slice_get (postings k) 0)) (sym none) ∙ ap (λ k. option_map (λ e. e.1.number) (slice_get k 0)) l.at.rack) l.at.core (ap postings r ∙ l.at.rack)
      (subst (AllByRecursion (λ i. IsOn A.world.geometry i.1.work)) (sym r) l.at.works)
    where
      none_first : (items : List (List ℕ × Posted)) → None ≡ option_map (λ e. e.1) (slice_get items 0) → items ≡ []
      none_first [] is = refl
      none_first (i ∷ items) is = absurd (cc is)

  pub stands_post : (left : List (List ℕ × Posted)) (label : List ℕ) (p : Posted) → 0 < times p.number holds → IsOwn S p.number p.work → lookup (bytes_eq label) items ≡ None → left ≡ items ++ (label, p) ∷ []
      → StandsAt disk A first lent left (es ++ post_entry label p (Ok tt) ∷ []) (ms ++ clock_of disk lent ∷ [])
  stands_post left label p held own free put =
      let test = bytes_eq label in
      let live = live_lent l p.number held in
      let posting : posting_in p ≡ posting_of S.world p.number p.work.accesses = λ i. record { number = p.number; begin = sym (own.begin live) i; mode = sym (own.mode live) i; accesses = p.work.accesses } in
      let g = follows_all (opened A) es in
      let h = l.at.core in
      stands_kept left (entry.Post p.number label p.work.accesses) (tt, (held, tt))
      (sym (ap (lookup test) l.at.rack) ∙ lookup-map_values posting_in test items ∙ ap (option_map posting_in) free)
      (record { world = h.world; counts = h.counts; told = h.told })
      (ap postings put ∙ map-append (λ (e : List ℕ × Posted). (e.0, posting_in e.1)) items ((label, p) ∷ []) ∙ ap (λ r. r ++ (label, posting_in p) ∷ []) l.at.rack ∙ ap (λ v. S.rack ++ (label, v) ∷ []) posting)
      (subst (AllByRecursion (λ i. IsOn A.world.geometry i.1.work)) (sym put)
      (all_snoc (λ i. IsOn A.world.geometry i.1.work) items (label, p) l.at.works (record { size = own.on.size ∙ g.block; blocks = own.on.blocks ∙ g.blocks })))

  pub stands_unposted : (left : List (List ℕ × Posted)) (label : List ℕ) (p : Posted) (e : PostError) → 0 < times p.number holds → left ≡ items
      → (e ≡ post.LabelTaken → is_some (lookup (bytes_eq label) items) ≡ true) → (e ≡ post.Memory → lookup (bytes_eq label) items ≡ None)
      → StandsAt disk A first lent left (es ++ post_entry label p (Err e) ∷ []) (ms ++ clock_of disk lent ∷ [])
  stands_unposted left label p e held same taken free =
      let test = bytes_eq label in
      let looked : lookup test S.rack ≡ option_map posting_in (lookup test items) = sym (ap (lookup test) l.at.rack) ∙ lookup-map_values posting_in test items in
      let r = post_refused disk S lent label p e l.at.core (λ is. ap (λ o. is_some o) looked ∙ still (lookup test items) (taken is)) (λ is. looked ∙ ap (option_map posting_in) (free is)) in
      stands_kept left (post_entry label p (Err e)) (post_may label p e holds held) r.0 r.1 (ap postings same ∙ l.at.rack ∙ sym r.2) (subst (AllByRecursion (λ i. IsOn A.world.geometry i.1.work)) (sym same) l.at.works)
    where
      still : (o : Option Posted) → is_some o ≡ true → is_some (option_map posting_in o) ≡ true
      still None is = is
      still (Some p) is = refl

pub post_holds : (label : List ℕ) (p : Posted) (e : PostError) (holds : List ℕ) → held_after handed returned (post_entry label p (Err e)) holds ≡ holds
post_holds label p post.LabelTaken holds = refl
post_holds label p post.Memory holds = refl

-- a label is held exactly where the rack says so
pub none_by : {X : Type 0} → (o : Option X) → (is_some o ≡ true → ⊥) → o ≡ None
none_by None never = refl
none_by (Some x) never = absurd (never refl)

pub taken_by : {X : Type 0} → (o : Option X) (e : PostError) → (o ≡ None → e ≡ post.Memory) → e ≡ post.LabelTaken → is_some o ≡ true
taken_by None e wanted is = absurd (cc (wanted refl, is))
taken_by (Some x) e wanted is = refl

pub free_by : {X : Type 0} → (o : Option X) (e : PostError) → (is_some o ≡ true → e ≡ post.LabelTaken) → e ≡ post.Memory → o ≡ None
free_by None e held is = refl
free_by (Some x) e held is = absurd (cc (held refl, is))
