-- What accesses and marks of one transaction are answered, and its work after them.
use Rattle.iso_machine.proofs.Words.{◌≡◌, ◌∙◌, sym, refl, ap, subst, ℕ, ◌+◌, ◌<◌, ◌≤◌, ◌==◌, not, IsTrue, take, drop, replicate, slice_index, Bool, true, false, List, [], ◌∷◌, ◌++◌, length, arith, Option, Some, None, nat_le, take-append_seam, nat_tests, DiskState, Access, MarkError, MAX_ACCESSES, Reply, is_block_size, is_outside, mark_fault, marked, access_step, fill_step, get_step, mark_refused, mark_step, marked_step, put_step, read_step, with_access, write_step, get_access, put_access, read_access, shown_to, with_accesses, with_live, write_access, World, Live, Doing, span_at, IsWorkOf, IsSameWork, IfTold, SameButShown, IsActive, IsGiven, IsShown, IsWorkedTo}
use Rattle.iso_model.specs.declared.access.MarkError.TheVariants as mark
use Rattle.script_model.specs.declared.script.Reply.TheVariants as reply

-- bytes that are not outside
pub within : (size off len : ℕ) → is_outside size off len ≡ false → (0 < len) × (off + len ≤ size)
within size off len is = (grind (arith, nat_tests), grind (arith, nat_tests))

module _ (W : World) (t : Live) (block : ℕ) (is_wrong : Bool) (answer : Reply) (a : Access) where
  pub bad_block : W.geometry.blocks ≤ block → access_step W t block is_wrong answer a ≡ (reply.BadBlock, W)
  bad_block outside = let u : nat_le W.geometry.blocks block ≡ true = grind (arith, nat_tests) in rw u refl

  pub bad_range : block < W.geometry.blocks → is_wrong ≡ true → access_step W t block is_wrong answer a ≡ (reply.BadRange, W)
  bad_range inside wrong = let u : nat_le W.geometry.blocks block ≡ false = grind (arith, nat_tests) in rw (u, wrong) refl

  pub too_many : block < W.geometry.blocks → is_wrong ≡ false → MAX_ACCESSES ≤ length t.accesses → access_step W t block is_wrong answer a ≡ (reply.TooManyAccesses, W)
  too_many inside right many =
      let u : nat_le W.geometry.blocks block ≡ false = grind (arith, nat_tests) in
      let v : nat_le MAX_ACCESSES (length t.accesses) ≡ true = grind (arith, nat_tests) in
      rw (u, right, v) refl

  pub allowed : block < W.geometry.blocks → is_wrong ≡ false → length t.accesses < MAX_ACCESSES → access_step W t block is_wrong answer a ≡ (answer, with_access W t a)
  allowed inside right few =
      let u : nat_le W.geometry.blocks block ≡ false = grind (arith, nat_tests) in
      let v : nat_le MAX_ACCESSES (length t.accesses) ≡ false = grind (arith, nat_tests) in
      rw (u, right, v) refl

module _ (W : World) (t : Live) (old : Doing) (active : IsActive W t old) where
  unchanged : IsWorkedTo W t W old
  unchanged = record {
    world = sym (ap (λ (l : List Access). with_accesses W t l) active.is_work.accesses ∙ ap (λ (l : List Live). with_live W l) active.here);
    is_work = record { begin = active.is_work.begin; mode = active.is_work.mode; size = active.is_work.size; blocks = active.is_work.blocks; accesses = refl };
  }

  pub refused : (given : Reply × World) (r : Reply) → given ≡ (r, W) → IsGiven W t given old r
  refused given r is = subst (λ (g : Reply × World). IsGiven W t g old r) (sym is) (record { reply = refl; worked = unchanged })

  pub worked : (given : World) (accesses : List Access) (new : Doing) (ready : Option ℕ) (settled : Bool) → given ≡ with_accesses W t accesses
      → new ≡ record old { accesses = accesses; ready = ready; settled = settled } → IsWorkedTo W t given new
  worked given accesses new ready settled given_is new_is = record {
    world = given_is ∙ ap (λ (l : List Access). with_accesses W t l) (sym (ap (λ (w : Doing). w.accesses) new_is));
    is_work = record {
      begin = ap (λ (w : Doing). w.begin) new_is ∙ active.is_work.begin;
      mode = ap (λ (w : Doing). w.mode) new_is ∙ active.is_work.mode;
      size = ap (λ (w : Doing). w.size) new_is ∙ active.is_work.size;
      blocks = ap (λ (w : Doing). w.blocks) new_is ∙ active.is_work.blocks;
      accesses = refl;
    };
  }

  -- a work that is only prepared differently
  pub prepared : (new : Doing) (settled : Bool) → new ≡ record old { settled = settled } → IsWorkedTo W t W new
  prepared new settled is = worked W old.accesses new old.ready settled unchanged.world is

  pub readied : (new : Doing) → new ≡ record old { ready = new.ready } → IsWorkedTo W t W new
  readied new is = worked W old.accesses new new.ready old.settled unchanged.world is

  pub one_more : (a : Access) (new : Doing) (ready : Option ℕ) (settled : Bool) → new ≡ record old { accesses = old.accesses ++ a ∷ []; ready = ready; settled = settled }
      → IsWorkedTo W t (with_access W t a) new
  one_more a new ready settled is =
      worked (with_access W t a) (old.accesses ++ a ∷ []) new ready settled (ap (λ (l : List Access). with_accesses W t (l ++ a ∷ [])) (sym active.is_work.accesses)) is

  pub accessed : (given : Reply × World) (answer : Reply) (a : Access) (new : Doing) (ready : Option ℕ) (settled : Bool) → given ≡ (answer, with_access W t a)
      → new ≡ record old { accesses = old.accesses ++ a ∷ []; ready = ready; settled = settled } → IsGiven W t given new answer
  accessed given answer a new ready settled given_is is =
      subst (λ (g : Reply × World). IsGiven W t g new answer) (sym given_is) (record { reply = refl; worked = one_more a new ready settled is })

  pub step_refused : (given : Reply × World) (block : ℕ) (wrong tested : Bool) (answer : Reply) (a : Access) (r : Reply) → given ≡ access_step W t block wrong answer a → tested ≡ wrong
      → access_step W t block tested answer a ≡ (r, W) → IsGiven W t given old r
  step_refused given block wrong tested answer a r given_is same is =
      refused given r (given_is ∙ ap (λ (b : Bool). access_step W t block b answer a) (sym same) ∙ is)

  pub step_is : (block : ℕ) (wrong : Bool) (answer : Reply) (a : Access) → wrong ≡ false → block < old.blocks → length old.accesses < 4096
      → access_step W t block wrong answer a ≡ (answer, with_access W t a)
  step_is block wrong answer a right inside few =
      allowed W t block wrong answer a (omega (arith, active.is_work.blocks, inside)) right (omega (arith, ap (λ (l : List Access). length l) active.is_work.accesses, few))

  pub step_allowed : (given : Reply × World) (block : ℕ) (wrong : Bool) (answer : Reply) (a : Access) (new : Doing) (ready : Option ℕ) (settled : Bool)
      → given ≡ access_step W t block wrong answer a → wrong ≡ false → block < old.blocks → length old.accesses < 4096
      → new ≡ record old { accesses = old.accesses ++ a ∷ []; ready = ready; settled = settled } → IsGiven W t given new answer
  step_allowed given block wrong answer a new ready settled given_is right inside few is =
      accessed given answer a new ready settled (given_is ∙ step_is block wrong answer a right inside few) is

pub small_block : (size : ℕ) → IsTrue (is_block_size size) → size ≤ 4096
small_block size is = grind (arith, nat_tests)

-- each operation is an access
module _ (W : World) (t : Live) (block : ℕ) where
  pub put_is : (off : ℕ) (bytes : List ℕ) → put_step W t block off bytes ≡ access_step W t block (is_outside W.geometry.block off (length bytes)) reply.Done (put_access W.geometry.block block off bytes)
  unfolding put_step
  put_is off bytes = refl

  pub write_is : (bytes : List ℕ) → write_step W t block bytes ≡ access_step W t block (not (length bytes == W.geometry.block)) reply.Done (write_access block bytes)
  unfolding write_step
  write_is bytes = refl

  pub fill_is : (bytes : List ℕ) → fill_step W t block bytes ≡ access_step W t block (not (length bytes == 1)) reply.Done (write_access block (replicate W.geometry.block (slice_index bytes 0)))
  unfolding fill_step
  fill_is bytes = refl

  pub read_is : read_step W t block ≡ access_step W t block false (reply.Shown (shown_to W t block)) (read_access block)
  unfolding read_step
  read_is = refl

  pub get_is : (off len : ℕ) → get_step W t block off len
      ≡ access_step W t block (is_outside W.geometry.block off len) (reply.Shown (take len (drop off (shown_to W t block)))) (get_access block off len)
  unfolding get_step
  get_is off len = refl

-- a mark
module _ (W : World) (t : Live) (old : Doing) (active : IsActive W t old) (off len : ℕ) where
  fault_same : mark_fault W.geometry.block off len t.accesses ≡ mark_fault old.size off len old.accesses
  fault_same = λ i. mark_fault (sym active.is_work.size i) off len (sym active.is_work.accesses i)

  pub mark_refused_is : (fault : MarkError) → mark_fault old.size off len old.accesses ≡ Some fault → IsGiven W t (mark_step W t off len) old (mark_refused fault)
  unfolding mark_step
  mark_refused_is fault is =
      refused W t old active (mark_step W t off len) (mark_refused fault) (ap (λ (o : Option MarkError). marked_step W t (span_at off len) o) (fault_same ∙ is))

  pub mark_done : (new : Doing) (ready : Option ℕ) (settled : Bool) → mark_fault old.size off len old.accesses ≡ None
      → new ≡ record old { accesses = marked (span_at off len) old.accesses; ready = ready; settled = settled } → IsGiven W t (mark_step W t off len) new reply.Done
  unfolding mark_step
  mark_done new ready settled none is =
      subst (λ (g : Reply × World). IsGiven W t g new reply.Done) (sym (ap (λ (o : Option MarkError). marked_step W t (span_at off len) o) (fault_same ∙ none)))
      (record {
        reply = refl;
        worked = worked W t old active (with_accesses W t (marked (span_at off len) t.accesses)) (marked (span_at off len) old.accesses) new ready settled
            (ap (λ (l : List Access). with_accesses W t (marked (span_at off len) l)) (sym active.is_work.accesses)) is;
      })

  pub mark_outside : is_outside old.size off len ≡ true → IsGiven W t (mark_step W t off len) old reply.BadRange
  mark_outside outside = mark_refused_is mark.BadRange (rw outside refl)

pub same_but_shown : (r s : Reply) → r ≡ s → SameButShown r s
same_but_shown r s is = subst (λ (x : Reply). SameButShown r x) is (itself r)
  where
    itself : (x : Reply) → SameButShown x x
    itself (reply.Shown bytes) = tt
    itself x = refl

-- what the disk does not tell is not claimed
module _ (d : DiskState) (W : World) (t : Live) where
  pub shown_given : (given : Reply × World) (work : Doing) (r : Reply) → IsGiven W t given work r → IsShown d W t given work r
  shown_given given work r is = record { reply = λ told. is.reply; but_shown = same_but_shown r given.0 is.reply; worked = is.worked }

  pub shown_bytes : (given : Reply × World) (bytes shown : List ℕ) (V : World) (work : Doing) → given ≡ (reply.Shown shown, V) → IfTold d (bytes ≡ shown) → IsWorkedTo W t V work
      → IsShown d W t given work (reply.Shown bytes)
  shown_bytes given bytes shown V work given_is told worked_to =
      subst (λ (g : Reply × World). IsShown d W t g work (reply.Shown bytes)) (sym given_is)
      (record { reply = λ is_told. ap reply.Shown (told is_told); but_shown = tt; worked = worked_to })

pub still_work : (W : World) (t : Live) (old new : Doing) (ready : Option ℕ) → new ≡ record old { ready = ready } → IsWorkOf W t old → IsWorkOf W t new
still_work W t old new ready is work = record {
  begin = ap (λ (w : Doing). w.begin) is ∙ work.begin;
  mode = ap (λ (w : Doing). w.mode) is ∙ work.mode;
  size = ap (λ (w : Doing). w.size) is ∙ work.size;
  blocks = ap (λ (w : Doing). w.blocks) is ∙ work.blocks;
  accesses = ap (λ (w : Doing). w.accesses) is ∙ work.accesses;
}

pub take_front : (n : ℕ) (xs ys : List ℕ) → length xs ≡ n → take n (xs ++ ys) ≡ xs
take_front n xs ys same = rw (← same) (take-append_seam xs ys)

-- the transaction has the accesses of the work
pub has_worked : {W : World} {t : Live} {old_work work : Doing} → IsActive W t old_work → IsSameWork old_work work → IsWorkedTo W t (with_accesses W t work.accesses) work
has_worked active same = record {
  world = refl;
  is_work = record {
    begin = same.begin ∙ active.is_work.begin;
    mode = same.mode ∙ active.is_work.mode;
    size = same.size ∙ active.is_work.size;
    blocks = same.blocks ∙ active.is_work.blocks;
    accesses = refl;
  };
}
