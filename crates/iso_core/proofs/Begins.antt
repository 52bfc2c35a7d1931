-- A core with one more live transaction.
use Rattle.iso_core.proofs.{Words.{all_apart_nowhere, ◌≡◌, ◌∙◌, sym, refl, ap, ℕ, ◌+◌, ◌<◌, ◌≤◌, Bool, true, false, ◌&&◌, ◌==◌, not, List, [], ◌∷◌, ◌++◌, length, map, arith, le-leb, lt-leb, le-ltb, lt-ltb, map-append, Mode, LAST, MAX_LIVE, last, same_mode, after_begin, begin_step, World, Live, unattached, floor, IsWorld, MayHave, floor_above, floor_below, all_push, all_weaker, begins, floor_between, at_work, Begun, Kept, bare, IsOf, NotesSince}, Standings.kept_live, Numbers.log_last}
use Rattle.iso_model.specs.declared.core_reply.CoreReply.TheVariants as reply

-- the transaction that begins
abbrev pub begun : World → Mode → Live
begun W mode = record { number = W.next; begin = last W.history; mode = mode; accesses = []; place = unattached }

pub notes_on : (W : World) (mode : Mode) (kept : Kept) → IsWorld W → NotesSince W kept.notes → NotesSince (after_begin W unattached mode) kept.notes
notes_on W mode kept is since =
    let from : since.from ≤ floor W = since.before in
    let to : floor W ≤ last W.history = (floor_between W is).1 in
    record {
      from = since.from;
      before = floor_above since.from (last W.history) (W.live ++ begun W mode ∷ []) (omega arith)
          (all_push (λ t. since.from ≤ t.begin) W.live (begun W mode)
          (all_weaker (λ t. floor W ≤ t.begin) (λ t. since.from ≤ t.begin) (λ t le. omega (arith, from)) W.live (floor_below (last W.history) W.live))
          (omega arith));
      notes = since.notes;
    }

-- what is kept is that of the world with the transaction
pub begins_so : (kept : Kept) (W : World) (mode : Mode) (live : List (ℕ × Begun)) → IsOf kept W → MayHave W.geometry mode
    → length W.live < MAX_LIVE → W.next ≤ LAST → live ≡ kept.live ++ (kept.next, record { at = kept.log.last; mode = mode }) ∷ []
    → IsOf (record kept { live = live; next = kept.next + 1 }) (after_begin W unattached mode)
begins_so kept W mode live of may few fresh entered =
    let number : kept.next ≡ W.next = of.keeps.next in
    let at : kept.log.last ≡ last W.history = log_last kept W of.world of.keeps in
    kept_live kept W live (kept.next + 1) (W.next + 1) (W.live ++ begun W mode ∷ []) of (begins W unattached mode of.world may few fresh tt (all_apart_nowhere W.live)).world
    (notes_on W mode kept of.world of.keeps.notes) (ap (λ (n : ℕ). n + 1) number)
    (ap (λ (l : List (ℕ × Begun)). map at_work l) entered ∙ map-append at_work kept.live _
    ∙ (λ i. of.keeps.live i ++ record { number = number i; begin = at i; mode = mode; accesses = []; place = unattached } ∷ [])
    ∙ sym (map-append bare W.live (begun W mode ∷ [])))

-- the refusals of a begin, in their order
module _ (kept : Kept) (W : World) (mode : Mode) (of : IsOf kept W) where
  pub fixed : (test : Bool) → test ≡ ((kept.geometry.form == 1) && not (same_mode mode kept.geometry.mode)) → test ≡ ((W.geometry.form == 1) && not (same_mode mode W.geometry.mode))
  fixed test is = is ∙ (λ i. ((of.keeps.geometry i).form == 1) && not (same_mode mode (of.keeps.geometry i).mode))

  pub is_fixed : ((W.geometry.form == 1) && not (same_mode mode W.geometry.mode)) ≡ true → (begin_step W unattached mode).0 ≡ reply.ModeFixed
  unfolding begin_step
  is_fixed is = rw is refl

  pub is_full : ((W.geometry.form == 1) && not (same_mode mode W.geometry.mode)) ≡ false → MAX_LIVE ≤ length W.live → (begin_step W unattached mode).0 ≡ reply.TooManyTx
  unfolding begin_step
  is_full is full = rw (is, le-leb MAX_LIVE (length W.live) full) refl

  pub is_worn : ((W.geometry.form == 1) && not (same_mode mode W.geometry.mode)) ≡ false → length W.live < MAX_LIVE → LAST < W.next → (begin_step W unattached mode).0 ≡ reply.Worn
  unfolding begin_step
  is_worn is few worn = rw (is, lt-leb MAX_LIVE (length W.live) few, lt-ltb LAST W.next worn) refl

  pub is_begun : ((W.geometry.form == 1) && not (same_mode mode W.geometry.mode)) ≡ false → length W.live < MAX_LIVE → W.next ≤ LAST → (begin_step W unattached mode).0 ≡ reply.Began (last W.history)
  unfolding begin_step
  is_begun is few more = rw (is, lt-leb MAX_LIVE (length W.live) few, le-ltb LAST W.next more) refl
