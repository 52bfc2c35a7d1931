-- What leads from one sound world to another.
use Rattle.iso_model.proofs.{Words.{◌≡◌, ◌≢◌, ◌∙◌, sym, refl, ap, ℕ, ◌+◌, ◌-◌, ◌<◌, ◌≤◌, Bool, true, false, ◌&&◌, ◌==◌, not, cond, List, [], ◌∷◌, ◌++◌, length, filter, drop, Some, None, sum_by, arith, eq-eqb, subst, AllByRecursion, eqb-false, length-append, length_push, drop-append-le, drop-drop, sum_by-append, sum_by-take-drop, Access, Commit, Geometry, Mode, Serial, Snapshot, LAST, MAX_ACCESSES, MAX_LIVE, CoreReply, clash, has_write, runs, record_length, same_mode, History, last, IsRecord, written, AreAccesses, switch_step, with_accesses, placed, after_leaving, after_commit, after_begin, after_trim, need, commit_from, World, Live, Place, used, fresh, attached, floor, without, with, is_at_client, MayHave, IsLive, AreRecords, AreApart, AreTwo, AreDistinct, IsPlace, Extends, KeepsGeometry, IsWorld, LeadsTo}, Bounds.limits, Distinct.{all_filter, all_find, length-filter, distinct_filter, distinct_push, distinct_with, length-with}, Floors.{floor_above, floor_below, floor_under}, Forms.{in_form, valid_in, accesses_in, history_in, isolated_in, records_in, lengths_in}, Places.distinct_placed, Growth.{both_of, all_push, all_weaker, appended_is}, Isolation.stays_isolated, Maximal.are_runs, Written.runs_where_write}
use Rattle.std.proofs.lemmas.List.{append_assoc, append-nil}

-- a commit with a write may be a record
pub commit_is_record : (g : Geometry) (c : Commit) → 0 < g.block → AreAccesses g c.accesses → has_write c.accesses ≡ true → MayHave g c.mode → IsRecord g (written g c)
commit_is_record g c size all write mode = record { some = runs_where_write g c.accesses size all write; runs = are_runs g c.accesses; mode = mode }

records_push : (g : Geometry) (commits : List Commit) (c : Commit) → AreRecords g commits → IsRecord g (written g c) → AreRecords g (commits ++ c ∷ [])
records_push g [] c all is = (is, tt)
records_push g (d ∷ commits) c all is = (all.0, records_push g commits c all.1 is)

all_with : (P : Live → Type 0) (t : Live) (live : List Live) → P t → AllByRecursion P live → AllByRecursion P (with t live)
all_with P t [] is all = tt
all_with P t (u ∷ live) is all =
    (elim (u.number == t.number) as (λ v. P (cond v t u)) [ true ↦ is | false ↦ all.0 ], all_with P t live is all.1)

same_mode_true : (a b : Mode) → same_mode a b ≡ true → a ≡ b
same_mode_true Serial Serial e = refl
same_mode_true Snapshot Snapshot e = refl
same_mode_true Serial Snapshot e = cc
same_mode_true Snapshot Serial e = cc

pub extends_itself : (H : History) → Extends H H
extends_itself H = record { first = refl; base = refl; more = []; commits = sym (append-nil H.commits) }

pub extends_on : (H G K : History) → Extends H G → Extends G K → Extends H K
extends_on H G K first second = record {
  first = second.first ∙ first.first;
  base = second.base ∙ first.base;
  more = first.more ++ second.more;
  commits = second.commits ∙ ap (λ xs. xs ++ second.more) first.commits ∙ append_assoc H.commits first.more second.more;
}

pub same_geometry : (g : Geometry) → KeepsGeometry g g
same_geometry g = record { same = refl; form = omega arith }

keeps_on : (g f h : Geometry) → KeepsGeometry g f → KeepsGeometry f h → KeepsGeometry g h
keeps_on g f h first second = grind arith

pub leads_on : (W V U : World) → LeadsTo W V → LeadsTo V U → LeadsTo W U
leads_on W V U first second = grind (arith, keeps_on, extends_on)

-- the last commit's number does not fall
pub longer : (W V : World) → LeadsTo W V → last W.history ≤ last V.history
longer W V leads = omega (arith, leads.history.first, ap length leads.history.commits, length-append W.history.commits leads.history.more)

pub stays : (W : World) → IsWorld W → LeadsTo W W
stays W is = record { world = is; geometry = same_geometry W.geometry; history = extends_itself W.history }

-- a live transaction of a later world
pub live_on : (W V : World) (t : Live) → W.geometry ≡ V.geometry → V.trim ≤ W.trim → last W.history ≤ last V.history → W.next ≤ V.next → IsLive W t → IsLive V t
live_on W V t same trim longer later is = grind arith

-- other live transactions, and another next number
pub with_lives : (W : World) (live : List Live) (next : ℕ) → IsWorld W → AllByRecursion (IsLive (record W { live = live; next = next })) live → AreDistinct live
    → length live ≤ MAX_LIVE → next ≤ LAST + 1 → IsWorld (record W { live = live; next = next })
with_lives W live next is all distinct count bound = grind arith

lives_on : (W : World) (live : List Live) (next : ℕ) → IsWorld W → AllByRecursion (IsLive (record W { live = live; next = next })) live → AreDistinct live
    → length live ≤ MAX_LIVE → next ≤ LAST + 1 → LeadsTo W (record W { live = live; next = next })
lives_on W live next is all distinct count bound = record { world = with_lives W live next is all distinct count bound; geometry = same_geometry W.geometry; history = extends_itself W.history }

-- those of the world without some
fewer : (W : World) (live : List Live) (next : ℕ) → W.next ≤ next → AllByRecursion (IsLive W) W.live → (test : Live → Bool)
    → AllByRecursion (IsLive (record W { live = live; next = next })) (filter test W.live)
fewer W live next later all test = grind (arith, all_filter, all_weaker, live_on)

pub leaves : (W : World) (t : Live) → IsWorld W → LeadsTo W (after_leaving W t)
leaves W t is =
    let test = λ (u : Live). not (u.number == t.number) in
    lives_on W (without t.number W.live) W.next is (fewer W (without t.number W.live) W.next (omega arith) is.live test) (distinct_filter test W.live is.distinct)
    (omega (arith, length-filter test W.live)) is.next

-- the transaction of a client with other accesses
pub accesses_are : (W : World) (c : ℕ) (t : Live) (accesses : List Access) → IsWorld W → attached W c ≡ Some t → IsLive W t → length accesses ≤ MAX_ACCESSES
    → AreAccesses W.geometry accesses → LeadsTo W (with_accesses W t accesses)
accesses_are W c t accesses is found live few all = grind (arith, live_on, lives_on, all_with, all_weaker, distinct_with, length-with)

pub all_append : {X : Type 0} (P : X → Type 0) (xs ys : List X) → AllByRecursion P xs → AllByRecursion P ys → AllByRecursion P (xs ++ ys)
all_append P [] ys first second = second
all_append P (x ∷ xs) ys first second = (first.0, all_append P xs ys first.1 second)

-- a transaction in another place, at which no other is
pub places : (W : World) (t : Live) (place : Place) → IsWorld W → IsLive W t → IsPlace place → AllByRecursion (λ u. AreApart u.place place) W.live
    → LeadsTo W (placed W t place)
places W t place is live at apart =
    let u : Live = record t { place = place } in
    let V = placed W t place in
    let on = λ (v : Live) (old : IsLive W v). live_on W V v refl (omega arith) (omega arith) (omega arith) old in
    let was = on t live in
    let count : length W.live ≤ MAX_LIVE = is.count in
    lives_on W (with u W.live) W.next is
    (all_with (IsLive V) u W.live
    (record { accesses = was.accesses; count = was.count; since = was.since; begin = was.begin; mode = was.mode; number = was.number; place = at })
    (all_weaker (IsLive W) (IsLive V) on W.live is.live))
    (distinct_placed u W.live is.distinct apart)
    (omega (arith, length-with u W.live)) is.next

pub may_have : (g : Geometry) (mode : Mode) → ((g.form == 1) && not (same_mode mode g.mode)) ≡ false → MayHave g mode
may_have g mode test form =
    let one : (g.form == 1) ≡ true = eq-eqb g.form 1 form in
    same_mode_true mode g.mode (go (same_mode mode g.mode) (rw one at test))
  where
    go : (t : Bool) → not t ≡ false → t ≡ true
    go true e = refl
    go false e = cc

-- what a choice leads to
pub chosen : {R : Type 0} → (W : World) (test : Bool) (x y : R × World) → LeadsTo W x.1 → (test ≡ false → LeadsTo W y.1) → LeadsTo W (cond test x y).1
chosen W true x y first second = first
chosen W false x y first second = second refl

-- numbers that were not given out yet
new_numbers : (W : World) (place : Place) (t : Live) (live : List Live) → t.number ≡ W.next → t.place ≡ place → AllByRecursion (IsLive W) live
    → AllByRecursion (λ u. AreApart u.place place) live → AllByRecursion (λ u. AreTwo u t) live
new_numbers W place t [] number at all apart = tt
new_numbers W place t (u ∷ live) number at all apart =
    (record { numbers = λ e. absurd (omega arith); places = subst (AreApart u.place) (sym at) apart.0 }, new_numbers W place t live number at all.1 apart.1)

pub begins : (W : World) (place : Place) (mode : Mode) → IsWorld W → MayHave W.geometry mode → length W.live < MAX_LIVE → W.next ≤ LAST → IsPlace place
    → AllByRecursion (λ u. AreApart u.place place) W.live → LeadsTo W (after_begin W place mode)
begins W place mode is may few fresh at apart =
    let new : Live = record { number = W.next; begin = last W.history; mode = mode; accesses = []; place = place } in
    let V = after_begin W place mode in
    lives_on W (W.live ++ new ∷ []) (W.next + 1) is
    (all_push (IsLive V) W.live new
    (all_weaker (IsLive W) (IsLive V) (λ t old. live_on W V t refl (omega arith) (omega arith) (omega arith) old) W.live is.live)
    (record { accesses = tt; count = omega arith; since = omega arith; begin = omega arith; mode = may; number = omega arith; place = at }))
    (distinct_push W.live new is.distinct (new_numbers W place new W.live refl refl is.live apart))
    (omega (arith, length_push W.live new)) (omega arith)

pub used_more : (W : World) (t : Live) → IsWorld W → used (after_commit W t) ≡ used W + record_length (runs W.geometry t.accesses)
used_more W t is =
    let f = λ (c : Commit). record_length (runs W.geometry c.accesses) in
    let n : W.base + 1 - W.history.first ≤ length W.history.commits = omega arith in
    ap (sum_by f) (drop-append-le (W.base + 1 - W.history.first) W.history.commits (commit_from t ∷ []) n)
    ∙ sum_by-append f (drop (W.base + 1 - W.history.first) W.history.commits) (commit_from t ∷ [])
    ∙ omega arith

-- a base that has risen leaves no more records in the log
pub used_less : (W : World) (form base : ℕ) → W.base ≤ base
    → used (record W { geometry = in_form W.geometry form; base = base; trim = floor W }) ≤ used W
used_less W form base more =
    let f = λ (c : Commit). record_length (runs W.geometry c.accesses) in
    let same = lengths_in W.geometry form (drop (base + 1 - W.history.first) W.history.commits) in
    let n = W.base + 1 - W.history.first in
    let m : ℕ = base + 1 - W.history.first - n in
    let sum : base + 1 - W.history.first ≡ n + m = omega (arith, more) in
    let parts = sum_by-take-drop f (drop n W.history.commits) m in
    let rest : drop m (drop n W.history.commits) ≡ drop (base + 1 - W.history.first) W.history.commits = drop-drop m n W.history.commits ∙ ap (λ (k : ℕ). drop k W.history.commits) (sym sum) in
    omega (arith, same, parts, ap (sum_by f) rest)

pub commits : (W : World) (t : Live) → IsWorld W → IsLive W t → has_write t.accesses ≡ true
    → clash W.geometry W.history t.mode t.begin t.accesses ≡ None → last W.history ≢ LAST → need W t ≤ W.geometry.log - used W
    → LeadsTo W (after_commit W t)
commits W t is live write none unworn fits =
    let count : length (W.history.commits ++ commit_from t ∷ []) ≡ length W.history.commits + 1 = length_push W.history.commits (commit_from t) in
    let first : 0 < W.history.first = is.history.first in
    let size : 64 ≤ W.geometry.block = (limits W.geometry is.valid).least_block in
    let more : used (after_commit W t) ≡ used W + record_length (runs W.geometry t.accesses) = used_more W t is in
    let since : W.history.first ≤ W.base + 1 = is.since in
    let kept : W.base ≤ W.trim = is.base in
    let trim : W.trim ≤ last W.history = is.trim in
    let began : W.trim ≤ t.begin = live.since in
    let room : used W + 1 ≤ W.geometry.log = is.room in
    let most : length W.live ≤ MAX_LIVE = is.count in
    let V = after_commit W t in
    let others = λ (u : Live). not (u.number == t.number) in
    record {
      world = record {
        valid = is.valid;
        history = appended_is W.geometry W.history (commit_from t) is.history live.accesses;
        isolated = stays_isolated W.geometry W.history (commit_from t) is.history is.isolated live.accesses (omega arith) live.begin write none;
        records = records_push W.geometry W.history.commits (commit_from t) is.records (commit_is_record W.geometry (commit_from t) (omega arith) live.accesses write live.mode);
        numbers = below_last (last W.history) is.numbers unworn (omega arith);
        since = is.since;
        base = is.base;
        trim = omega arith;
        generation = is.generation;
        room = omega arith;
        live = all_filter (IsLive V) others W.live
            (all_weaker (IsLive W) (IsLive V) (λ u old. live_on W V u refl (omega arith) (omega arith) (omega arith) old) W.live is.live);
        distinct = distinct_filter others W.live is.distinct;
        count = omega (arith, length-filter others W.live);
        next = is.next;
      };
      geometry = same_geometry W.geometry;
      history = record { first = refl; base = refl; more = commit_from t ∷ []; commits = refl };
    }
  where
    below_last : (n : ℕ) → n ≤ LAST → n ≢ LAST → {m : ℕ} → m ≡ n + 1 → m ≤ LAST
    below_last n below other same = omega arith

pub live_at : (W : World) (c : ℕ) (t : Live) → IsWorld W → attached W c ≡ Some t → IsLive W t
live_at W c t is found = all_find (IsLive W) (λ u. is_at_client c u.place) W.live t is.live found

-- the floor lies between the trim number and the last commit
pub floor_between : (W : World) → IsWorld W → (W.trim ≤ floor W) × (floor W ≤ last W.history)
floor_between W is = search (arith, floor_above, all_weaker, floor_under)

-- a live transaction, once the base, the trim number and the form have risen to what it still allows
live_switched : (W : World) (form base generation : ℕ) (t : Live) → 1 ≤ W.geometry.form → W.geometry.form ≤ form → floor W ≤ t.begin → IsLive W t
    → IsLive (record W { geometry = in_form W.geometry form; base = base; trim = floor W; generation = generation }) t
live_switched W form base generation t least rises since is = record {
  accesses = accesses_in W.geometry form t.accesses is.accesses;
  count = is.count;
  since = since;
  begin = is.begin;
  mode = λ one. is.mode (omega (arith, one, least, rises));
  number = is.number;
  place = is.place;
}

-- the base and the trim number at what the floor allows, in this form
pub switched : (W : World) (form base generation : ℕ) → IsWorld W → W.geometry.form ≤ form → form ≤ 2 → W.base ≤ base → base ≤ floor W → generation ≤ LAST
    → LeadsTo W (record W { geometry = in_form W.geometry form; base = base; trim = floor W; generation = generation })
switched W form base generation is rises largest more low few =
    let V = record W { geometry = in_form W.geometry form; base = base; trim = floor W; generation = generation } in
    let least : 1 ≤ W.geometry.form = (limits W.geometry is.valid).least_form in
    let between = floor_between W is in
    let since : W.history.first ≤ W.base + 1 = is.since in
    let room : used W + 1 ≤ W.geometry.log = is.room in
    let kept : used V ≤ used W = used_less W form base more in
    record {
      world = record {
        valid = valid_in W.geometry form is.valid (omega (arith, least, rises)) largest;
        history = history_in W.geometry form W.history is.history;
        isolated = isolated_in W.geometry form W.history is.isolated;
        records = records_in W.geometry form W.history.commits least rises is.records;
        numbers = is.numbers;
        since = omega (arith, since, more);
        base = low;
        trim = between.1;
        generation = few;
        room = omega (arith, room, kept);
        live = both_of (λ t. floor W ≤ t.begin) (IsLive W) (IsLive V) (λ t from old. live_switched W form base generation t least rises from old) W.live
            (floor_below (last W.history) W.live) is.live;
        distinct = is.distinct;
        count = is.count;
        next = is.next;
      };
      geometry = record { same = refl; form = rises };
      history = extends_itself W.history;
    }

pub trim_leads : (W : World) → IsWorld W → LeadsTo W (after_trim W)
trim_leads W is =
    let between = floor_between W is in
    let kept : W.base ≤ W.trim = is.base in
    switched W W.geometry.form W.base W.generation is (omega arith) ((limits W.geometry is.valid).largest_form) (omega arith) (omega (arith, between.0, kept)) is.generation

pub switch_leads : (W : World) (form : ℕ) (answer : CoreReply) → IsWorld W → W.geometry.form ≤ form → form ≤ 2 → LeadsTo W (switch_step W form answer).1
unfolding switch_step
switch_leads W form answer is rises largest =
    chosen W (W.generation == LAST) _ _ (stays W is) (λ unworn.
    let between = floor_between W is in
    let kept : W.base ≤ W.trim = is.base in
    switched W form (floor W) (W.generation + 1) is rises largest (omega (arith, between.0, kept)) (omega arith)
    (not_last W.generation is.generation (eqb-false W.generation LAST unworn)))
  where
    not_last : (n : ℕ) → n ≤ LAST → n ≢ LAST → n + 1 ≤ LAST
    not_last n below other = omega arith
