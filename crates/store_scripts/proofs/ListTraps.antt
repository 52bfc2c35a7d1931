-- What no commit of a list answers whose calls answer in order.
use Rattle.store_scripts.proofs.EntryWords.{◌≡◌, ◌∙◌, sym, ap, subst, AnswersByOne, IsInPlace, MapStore, MemberEnd, World, commits_as, ends_bare, ℕ, ◌-◌, List, [], ◌∷◌, ◌++◌, map, Option, Some, None, Access, Committed, ReadOnly, History, array_at, Entry, Start, get_op, First, IsOfBoth, firsts, StorePart, Get, Got, StoreAnswer, answers_in, calls_in, run, image_hash, image_tree, AreByCalls, AreCallsInOrderAt, array_at_begin, commit_at, world_at}
use Rattle.iso_shared.specs.declared.entry.Entry.TheVariants as entry

-- the value that the first answer gives
first_got : List StoreAnswer → Option (List ℕ)
first_got [] = None
first_got (Got value ∷ answers) = value
first_got (answer ∷ answers) = None

-- one look-up that found nothing
abbrev missed : List ℕ → List Access → List StorePart
missed key done = First (Get key) done (Got None) ∷ []

none_is_not : (o : Option (List ℕ)) (value : List ℕ) → o ≡ None → o ≡ Some value → ⊥
none_is_not o value none some = cc (sym none ∙ some)

module _ (A : Start) (es before later : List Entry) (n : ℕ) (accesses : List Access) (key value : List ℕ) (done : List Access) (is : AreCallsInOrderAt (image_tree A.world.geometry) A es) where
  abbrev s : MapStore
  s = image_hash A.world.geometry

  abbrev t : MapStore
  t = image_tree A.world.geometry

  abbrev W : World
  W = world_at A before

  -- A look-up in the place of a commit misses no key that the map directly before the commit has: it did not read an older map.
  misses_none : (parts : List StorePart) (k : ℕ) → IsInPlace t A es k parts → parts ≡ missed key done
      → let H : History = (world_at A es).history in (get_op key (s.map_of (array_at H (k - 1)))).0 ≡ Some value → ⊥
  unfolding first_got
  misses_none parts k in_place parts_are has =
      let H : History = (world_at A es).history in
      let m = s.map_of (array_at H (k - 1)) in
      let said : (run s m (calls_in (firsts (missed key done)))).0 ≡ answers_in (firsts (missed key done)) =
      subst (λ (ps : List StorePart). (run s m (calls_in (firsts ps))).0 ≡ answers_in (firsts ps)) parts_are in_place.first.answers in
      none_is_not (get_op key m).0 value (ap first_got said) has

  -- so the commit of an end, and that of a member of a group
  not_an_older_map : (k : ℕ) → es ≡ before ++ entry.End n accesses (Committed k) ∷ later → (of : IsOfBoth s t W.history (commit_at W n accesses)) → of.parts ≡ missed key done
      → let H : History = (world_at A es).history in (get_op key (s.map_of (array_at H (k - 1)))).0 ≡ Some value → ⊥
  not_an_older_map k are of parts_are has = misses_none of.parts k (is.commits before later n k accesses are of) parts_are has

  not_an_older_map_in_a_group : (first others : List MemberEnd) (k : ℕ) → es ≡ before ++ entry.EndGroup (first ++ commits_as n k accesses ∷ others) ∷ later
      → (of : IsOfBoth s t W.history (commit_at W n accesses)) → of.parts ≡ missed key done
      → let H : History = (world_at A es).history in (get_op key (s.map_of (array_at H (k - 1)))).0 ≡ Some value → ⊥
  not_an_older_map_in_a_group first others k are of parts_are has = misses_none of.parts k (is.group_commits before later first others n k accesses are of) parts_are has

  -- nor does a look-up that answers by the map at a begin miss a key that this map has
  misses_none_by : (parts : List StorePart) → AnswersByOne t A parts (array_at_begin W n) → parts ≡ missed key done → (get_op key (s.map_of (array_at_begin W n))).0 ≡ Some value → ⊥
  unfolding first_got
  misses_none_by parts by_one parts_are has =
      let m = s.map_of (array_at_begin W n) in
      let said : answers_in (firsts (missed key done)) ≡ Got (get_op key m).0 ∷ [] =
      subst (λ (ps : List StorePart). answers_in (firsts ps) ≡ map (λ call. (s.act call m).0) (calls_in (firsts ps))) parts_are by_one.first in
      none_is_not (get_op key m).0 value (ap first_got (sym said)) has

  -- so that of a transaction that ended without a write, alone or in a group
  not_a_later_map : es ≡ before ++ entry.End n accesses ReadOnly ∷ later → (by : AreByCalls t A.world.geometry (array_at_begin W n) accesses) → by.parts ≡ missed key done
      → (get_op key (s.map_of (array_at_begin W n))).0 ≡ Some value → ⊥
  not_a_later_map are by parts_are has = misses_none_by by.parts (is.read_only before later n accesses are by) parts_are has

  not_a_later_map_in_a_group : (first others : List MemberEnd) → es ≡ before ++ entry.EndGroup (first ++ ends_bare n accesses ∷ others) ∷ later
      → (by : AreByCalls t A.world.geometry (array_at_begin W n) accesses) → by.parts ≡ missed key done → (get_op key (s.map_of (array_at_begin W n))).0 ≡ Some value → ⊥
  not_a_later_map_in_a_group first others are by parts_are has = misses_none_by by.parts (is.group_read_only before later first others n accesses are by) parts_are has
