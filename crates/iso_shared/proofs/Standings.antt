-- What lies under the lock, with one entry more.
use Rattle.iso_shared.proofs.{Words.{◌≡◌, ◌⊎◌, inl, inr, ℕ, ◌<◌, ◌≤◌, true, List, [], ◌∷◌, ◌++◌, Option, Some, None, refl, sym, ap, ◌∙◌, subst, arith, option_to_list, AllByRecursion, Core, StandsFor, disk_of, up, shows_world, last, World, DiskState, IsLawful, LeavesOnly, joined, started, starts_unwritten, weakened, times, AreDistinct, AreFree, AreHeld, IsOut, Call, Cause, Entry, Posted, AreLoose, Answers, IsCall, IsLegal, ended, ended_by, handed, needed, returned, Came, Holds, IsOn, ShowsFrom, ShowsSince, StandsAt, WasAt, HaveEnded, clock_of, length, append-nil, length-append, IsPrefix, postings, start_at, Start, State, after, is_live, opened, state_at}, Growing.{from_front, from_next, shows_now, since_next}, Trace.{NotLoose, after_snoc, legal_last, legal_snoc, loose_is, not_loose, opened_sound, out_is, sound_all, IsSound}}
use Rattle.iso_shared.specs.declared.entry.Call.TheVariants as call
use Rattle.iso_shared.specs.declared.entry.Cause.TheVariants as cause
use Rattle.iso_shared.specs.declared.entry.Entry.TheVariants as entry

-- each number that a pass holds is out
abbrev pub HoldsOut : List ℕ → List Entry → Type 0
HoldsOut holds es = (n : ℕ) → 0 < times n holds → IsOut handed returned n es

-- a pass that holds these numbers may leave the entry
abbrev pub MayLeave : List ℕ → Entry → Type 0
MayLeave holds e = AreHeld (needed e) holds × AreHeld (returned e) holds

-- the disk of the core is the same, or a crash at any moment of the call leaves an image that shows the history of the list with the
-- entry, and of it no commit before the last one of the list
abbrev pub Moved : {D : Type 0} → (disk : D → DiskState) → Start → List Entry → Entry → (old new : Core D) → Type 0
Moved disk A es e old new = (disk_of new ≡ disk_of old) ⊎ LeavesOnly (disk (disk_of old)) (disk (disk_of new)) (ShowsFrom A es (es ++ e ∷ []))

free_by : (A : Start) (es : List Entry) → A.world.live ≡ [] → IsLegal A es → (h : Option ℕ) → NotLoose h (state_at A es) → AreFree handed returned (option_to_list h) es
free_by A es none legal None not = tt
free_by A es none legal (Some n) not = (out_is A es n none legal ∙ not, tt)

-- a fault ends no transaction twice
ended_distinct : (W : World) (c : Call) → IsCall W c → AreDistinct (ended c)
ended_distinct W (call.End n accesses) is = (refl, tt)
ended_distinct W (call.EndGroup members) is = is.distinct
ended_distinct W c is = tt

refused_distinct : (W : World) (c : Call) (why : Cause) → IsCall W c → AreDistinct (ended_by c why)
refused_distinct W c (cause.Disk before now) is = ended_distinct W c is
refused_distinct W c why is = tt

-- nor does an entry that is legal take one back twice
returned_distinct : (S : State) (e : Entry) → Answers S e → AreDistinct (returned e)
returned_distinct S (entry.End n accesses r) a = (refl, tt)
returned_distinct S (entry.EndGroup ends) a = a.1.distinct
returned_distinct S (entry.Abort n) a = (refl, tt)
returned_distinct S (entry.Post n label accesses) a = (refl, tt)
returned_distinct S (entry.Refused c why) a = refused_distinct S.world c why a.0
returned_distinct S e a = tt

some_entry : (es : List Entry) (e : Entry) → es ++ e ∷ [] ≡ [] → ⊥
some_entry [] e is = cc is
some_entry (x ∷ es) e is = cc is

-- a front of a list with one entry more is one of the list, or all of it
pub prefix_snoc : {T : Type 0} (xs ys : List T) (y : T) → IsPrefix xs (ys ++ y ∷ []) → IsPrefix xs ys ⊎ (xs ≡ ys ++ y ∷ [])
prefix_snoc [] ys y p = inl (ys, refl)
prefix_snoc (x ∷ []) [] y p = inr (let same : x ≡ y = cc (p.1) in λ i. same i ∷ [])
prefix_snoc (x ∷ z ∷ xs) [] y p = absurd (cc (p.1))
prefix_snoc (x ∷ xs) (z ∷ ys) y p =
    let same : x ≡ z = cc (p.1) in
    let rest : xs ++ p.0 ≡ ys ++ y ∷ [] = cc (p.1) in
    longer same (prefix_snoc xs ys y (p.0, rest))
  where
    longer : x ≡ z → IsPrefix xs ys ⊎ (xs ≡ ys ++ y ∷ []) → IsPrefix (x ∷ xs) (z ∷ ys) ⊎ (x ∷ xs ≡ z ∷ ys ++ y ∷ [])
    longer same (inl q) = inl (q.0, λ i. same i ∷ q.1 i)
    longer same (inr all) = inr (λ i. same i ∷ all i)

-- lists with one element more
last_same : {T : Type 0} (xs ys : List T) (x y : T) → xs ++ x ∷ [] ≡ ys ++ y ∷ [] → x ≡ y
last_same [] [] x y e = cc e
last_same [] (z ∷ []) x y e = absurd (cc e)
last_same [] (z ∷ w ∷ ys) x y e = absurd (cc e)
last_same (z ∷ []) [] x y e = absurd (cc e)
last_same (z ∷ w ∷ xs) [] x y e = absurd (cc e)
last_same (z ∷ xs) (w ∷ ys) x y e = let tails : xs ++ x ∷ [] ≡ ys ++ y ∷ [] = cc e in last_same xs ys x y tails

as_long : {T : Type 0} (xs ys : List T) (x y : T) → xs ++ x ∷ [] ≡ ys ++ y ∷ [] → length xs ≡ length ys
as_long xs ys x y e = let a = ap length e in let b = length-append xs (x ∷ []) in let c = length-append ys (y ∷ []) in omega (arith, a, b, c)

shorter : {T : Type 0} (xs ys : List T) (x : T) → IsPrefix (xs ++ x ∷ []) ys → length xs < length ys
shorter xs ys x p = let a = ap length p.1 in let b = length-append (xs ++ x ∷ []) p.0 in let c = length-append xs (x ∷ []) in omega (arith, a, b, c)

module _ {D : Type 0} (disk : D → DiskState) {first : DiskState} (A : Start) where
  -- a number that the last entry hands out was not out before it
  pub free_before : {ms : List ℕ} → (core : Core D) (items : List (List ℕ × Posted)) (es : List Entry) (e : Entry) → StandsAt disk A first core items (es ++ e ∷ []) ms → AreFree handed returned (option_to_list (handed e)) es
  free_before core items es e s =
      let l = legal_last (opened A) es e s.legal in
      let sound = sound_all (opened A) es (opened_sound A s.start) l.0 in
      free_by A es s.start l.0 (handed e) (not_loose (state_at A es) e sound l.1.answers)

  -- nor does it take a number back twice
  pub distinct_back : {ms : List ℕ} → (core : Core D) (items : List (List ℕ × Posted)) (es : List Entry) (e : Entry) → StandsAt disk A first core items (es ++ e ∷ []) ms → AreDistinct (returned e)
  distinct_back core items es e s = returned_distinct (state_at A es) e (legal_last (opened A) es e s.legal).1.answers

  -- numbers that are held are loose
  pub held_loose : {ms : List ℕ} → (core : Core D) (items : List (List ℕ × Posted)) (es : List Entry) (holds : List ℕ) → StandsAt disk A first core items es ms → HoldsOut holds es → (ns : List ℕ) → AreHeld ns holds → AreLoose ns (state_at A es)
  held_loose core items es holds s out [] held = tt
  held_loose core items es holds s out (n ∷ ns) held = (sym (out_is A es n s.start s.legal) ∙ out n held.0, held_loose core items es holds s out ns held.1)

  pub held_live : {ms : List ℕ} → (core : Core D) (items : List (List ℕ × Posted)) (es : List Entry) (holds : List ℕ) → StandsAt disk A first core items es ms → HoldsOut holds es → (n : ℕ) → 0 < times n holds → is_live n (state_at A es).world.live ≡ true
  held_live core items es holds s out n held = (loose_is n (state_at A es) (held_loose core items es holds s out (n ∷ []) (held, tt)).0).0

  pub sound_at : {ms : List ℕ} → (core : Core D) (items : List (List ℕ × Posted)) (es : List Entry) → StandsAt disk A first core items es ms → IsSound (state_at A es)
  sound_at core items es s = sound_all (opened A) es (opened_sound A s.start) s.legal

  came_next : (old new : Core D) (es : List Entry) (e : Entry) → Came A first (disk (disk_of old)) es → IsLegal A es → 0 < (state_at A es).world.history.first
      → Moved disk A es e old new → Answers (state_at A es) e → Came A first (disk (disk_of new)) (es ++ e ∷ [])
  came_next old new es e came legal some moved answers = record { moments = by moved; unwritten = λ none. absurd (some_entry es e none) }
    where
      grown : LeavesOnly first (disk (disk_of old)) (ShowsSince A (es ++ e ∷ []))
      grown = weakened came.moments (λ c shown. since_next A es e legal some answers c shown)

      by : Moved disk A es e old new → LeavesOnly first (disk (disk_of new)) (ShowsSince A (es ++ e ∷ []))
      by (inl same) = subst (λ (d : D). LeavesOnly first (disk d) (ShowsSince A (es ++ e ∷ []))) (sym same) grown
      by (inr run) = joined grown (weakened run (λ c shown. from_front A es e legal some answers [] (es, refl) c shown))

  module _ (old new : Core D) (es : List Entry) (e : Entry) (legal : IsLegal A es) (some : 0 < (state_at A es).world.history.first) (moved : Moved disk A es e old new) (answers : Answers (state_at A es) e) where
    -- a disk that was there at a front of the list was there at it before one entry more
    pub was_next : (before : List Entry) (mid : D) → IsPrefix before es → WasAt disk A first (disk (disk_of old)) es before mid → WasAt disk A first (disk (disk_of new)) (es ++ e ∷ []) before mid
    was_next before mid front w = record { until = w.until; here = w.here; since = by moved; tells = w.tells }
      where
        by : Moved disk A es e old new → LeavesOnly (disk mid) (disk (disk_of new)) (ShowsFrom A before (es ++ e ∷ []))
        by (inl same) = subst (λ (d : D). LeavesOnly (disk mid) (disk d) (ShowsFrom A before (es ++ e ∷ []))) (sym same) (weakened w.since (λ c at. from_next A es e legal some answers before c at))
        by (inr run) = joined (weakened w.since (λ c at. from_next A es e legal some answers before c at)) (weakened run (λ c at. from_front A es e legal some answers before front c at))

  -- the disk of a core that represents the list is there at the whole of it
  pub was_last : (core : Core D) (es : List Entry) → IsLawful (disk (disk_of core)) → Holds disk core (state_at A es) → Came A first (disk (disk_of core)) es → WasAt disk A first (disk (disk_of core)) es es (disk_of core)
  was_last core es laws holds came = let shown = shows_now disk core (state_at A es) holds in record { until = came.moments; here = shown; since = started laws shown; tells = holds.told }

  -- each turn of the list has ended at its moment, and one more: that of the entry, at the moment of now
  module _ (old new : Core D) (es : List Entry) (e : Entry) (ms : List ℕ) (lawful : (d : D) → IsLawful (disk d)) (ended : HaveEnded disk A first (disk (disk_of old)) es ms) (legal : IsLegal A es)
      (some : 0 < (state_at A es).world.history.first) (moved : Moved disk A es e old new) (answers : Answers (state_at A es) e) (came : Came A first (disk (disk_of new)) (es ++ e ∷ []))
      (holds : Holds disk new (state_at A (es ++ e ∷ []))) where
    abbrev t : ℕ
    t = clock_of disk new

    each_next : (before : List Entry) (x : Entry) (past : List ℕ) (m : ℕ) → length past ≡ length before → IsPrefix (before ++ x ∷ []) es ⊎ (before ++ x ∷ [] ≡ es ++ e ∷ [])
        → IsPrefix (past ++ m ∷ []) ms ⊎ (past ++ m ∷ [] ≡ ms ++ t ∷ []) → (mid : D) × ((disk mid).clock ≡ m) × WasAt disk A first (disk (disk_of new)) (es ++ e ∷ []) (before ++ x ∷ []) mid
    each_next before x past m same (inl front) (inl gone) =
        let (mid, at, w) = ended.each before x past m front gone same in (mid, at, was_next old new es e legal some moved answers (before ++ x ∷ []) mid front w)
    each_next before x past m same (inl front) (inr all) = let a = shorter before es x front in let b = as_long past ms m t all in let c = ended.many in absurd (omega (arith, a, b, c, same))
    each_next before x past m same (inr whole) (inl gone) = let a = as_long before es x e whole in let b = shorter past ms m gone in let c = ended.many in absurd (omega (arith, a, b, c, same))
    each_next before x past m same (inr whole) (inr all) = (
      disk_of new,
      sym (last_same past ms m t all),
      subst (λ (b : List Entry). WasAt disk A first (disk (disk_of new)) (es ++ e ∷ []) b (disk_of new)) (sym whole) (was_last new (es ++ e ∷ []) (lawful (disk_of new)) holds came),
    )

    ended_next : HaveEnded disk A first (disk (disk_of new)) (es ++ e ∷ []) (ms ++ t ∷ [])
    ended_next = record {
      many = let a = length-append ms (t ∷ []) in let b = length-append es (e ∷ []) in let c = ended.many in omega (arith, a, b, c);
      each = λ before x past m front gone same. each_next before x past m same (prefix_snoc (before ++ x ∷ []) es e front) (prefix_snoc (past ++ m ∷ []) ms t gone);
      last_is = λ past m is. sym (last_same ms past t m is);
    }

  -- what stood for the list represents it with one entry more
  pub stands_next : {ms : List ℕ} (old new : Core D) (items left : List (List ℕ × Posted)) (es : List Entry) (e : Entry) (holds : List ℕ)
      → StandsAt disk A first old items es ms → HoldsOut holds es → MayLeave holds e
      → Moved disk A es e old new → Answers (state_at A es) e → Holds disk new (after (state_at A es) e) → postings left ≡ (after (state_at A es) e).rack → AllByRecursion (λ i. IsOn A.world.geometry i.1.work) left
      → StandsAt disk A first new left (es ++ e ∷ []) (ms ++ clock_of disk new ∷ [])
  stands_next {ms} old new items left es e holds s out may moved answers core rack works =
      let step = after_snoc (opened A) es e in
      let some = s.core.world.kept_of.world.history.first in
      let came' : Came A first (disk (disk_of new)) (es ++ e ∷ []) = came_next old new es e s.came s.legal some moved answers in
      let core' : Holds disk new (state_at A (es ++ e ∷ [])) = subst (Holds disk new) (sym step) core in record {
        start = s.start;
        legal = legal_snoc (opened A) es e s.legal (record { needs = held_loose old items es holds s out (needed e) may.0; takes = held_loose old items es holds s out (returned e) may.1; answers = answers });
        core = core';
        rack = rack ∙ sym (ap (λ S. S.rack) step);
        works = works;
        came = came';
        lawful = s.lawful;
        ended = ended_next old new es e ms s.lawful s.ended s.legal some moved answers came' core';
      }

-- where a list begins, the core represents its start
pub holds_first : {D : Type 0} (disk : D → DiskState) (core : Core D) (W : World) → StandsFor disk core W up → Holds disk core (opened (start_at W (disk (disk_of core))))
holds_first disk core W stands = record { world = stands; counts = omega arith; told = λ is tells. tells }

-- where a list begins, before its first entry
pub came_first : {D : Type 0} (disk : D → DiskState) (core : Core D) (W : World) → IsLawful (disk (disk_of core)) → StandsFor disk core W up
    → Came (start_at W (disk (disk_of core))) (disk (disk_of core)) (disk (disk_of core)) []
came_first disk core W laws stands = record {
  moments = started laws (λ c here. record { at = last W.history; from = omega arith; to = omega arith; shows = shows_world W core.kept.half stands.kept_of.world c (stands.images.each c here) });
  unwritten = λ none. starts_unwritten laws;
}

-- where a list begins, no turn has ended
pub ended_none : {D : Type 0} (disk : D → DiskState) (first d : DiskState) (A : Start) → HaveEnded disk A first d [] []
ended_none disk first d A = record { many = refl; each = λ before e past t front gone same. absurd (no_more before e front); last_is = λ past t is. absurd (some_more past t (sym is)) }
  where
    some_more : {T : Type 0} (xs : List T) (x : T) → xs ++ x ∷ [] ≡ [] → ⊥
    some_more [] x is = cc is
    some_more (y ∷ xs) x is = cc is

    no_more : {T : Type 0} (xs : List T) (x : T) → IsPrefix (xs ++ x ∷ []) [] → ⊥
    no_more [] x p = cc (p.1)
    no_more (y ∷ xs) x p = cc (p.1)

-- from the moment at which a turn ended on, no image shows a commit before the last one of the list up to its entry
pub told_since : {D : Type 0} {disk : D → DiskState} {A : Start} {first d : DiskState} {es : List Entry} {moments : List ℕ} → HaveEnded disk A first d es moments → (before : List Entry) (e : Entry) (past : List ℕ) (t : ℕ)
    → IsPrefix (before ++ e ∷ []) es → IsPrefix (past ++ t ∷ []) moments → length past ≡ length before → (t ≤ d.clock) × ((c : List ℕ) → d.left t c → ShowsFrom A (before ++ e ∷ []) es c)
told_since {disk = disk} {A} {first} {d} {es} have before e past t front gone same =
    let (mid, at, w) = have.each before e past t front gone same in (subst (λ (k : ℕ). k ≤ d.clock) at w.since.later, λ c left. w.since.each c (subst (λ (k : ℕ). d.left k c) (sym at) left))

last_of : (m : ℕ) (ms : List ℕ) → (past : List ℕ) × (t : ℕ) × (m ∷ ms ≡ past ++ t ∷ [])
last_of m [] = ([], m, refl)
last_of m (n ∷ ms) = let (past, t, is) = last_of n ms in (m ∷ past, t, ap (λ (l : List ℕ). m ∷ l) is)

-- So each image of now shows the last commit of the whole list: a store that syncs a commit only at its close, or as the next turn
-- begins, has an image that does not, and cannot give its turn back.
pub told_now : {D : Type 0} {disk : D → DiskState} {A : Start} {first d : DiskState} (es : List Entry) (e : Entry) (moments : List ℕ) → IsLawful d → HaveEnded disk A first d (es ++ e ∷ []) moments
    → (c : List ℕ) → d.now c → ShowsFrom A (es ++ e ∷ []) (es ++ e ∷ []) c
told_now es e [] laws have c here = let a = length-append es (e ∷ []) in let b = have.many in absurd (omega (arith, a, b))
told_now {disk = disk} es e (m ∷ ms) laws have c here =
    let (past, t, is) = last_of m ms in
    let a = length-append es (e ∷ []) in
    let b = have.many in
    let k = length-append past (t ∷ []) in
    let l = ap length is in
    let (mid, at, w) = have.each es e past t ([], append-nil (es ++ e ∷ [])) ([], append-nil (past ++ t ∷ []) ∙ sym is) (omega (arith, a, b, k, l)) in
    w.since.each c (laws.counts_now (disk mid).clock c w.since.later here)
