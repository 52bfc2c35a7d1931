-- A core without one of its transactions, and what its transactions began with.
use Rattle.iso_core.proofs.{Words.{◌≡◌, ◌∙◌, sym, refl, ap, ℕ, ◌<◌, ◌≤◌, ◌==◌, not, List, map, Some, IsSome, arith, nat_eq, AllByRecursion, lookup, remove_entry, last, after_leaving, World, Live, floor, without, IsLive, IsWorld, MayHave, all_filter, floor_above, floor_below, all_weaker, floor_between, leaves, at_work, begin_of, Begun, Kept, IsTx, bare, IsOf, NotesSince}, Standings.kept_live, Transactions.{among, kept_tx, kept_without}}

-- what a live transaction began with
pub record HasBegun (W : World) (t : Live) : Type 0 where
  pub floor : floor W ≤ t.begin
  pub since : W.trim ≤ t.begin
  pub begin : t.begin ≤ last W.history
  pub mode : MayHave W.geometry t.mode
  pub number : t.number < W.next

pub has_begun : (W : World) (tx : ℕ) (t : Live) → IsWorld W → IsTx W tx t → HasBegun W t
has_begun W tx t is here =
    let lives : AllByRecursion (λ u. (W.trim ≤ u.begin) × (u.begin ≤ last W.history) × MayHave W.geometry u.mode × (u.number < W.next)) W.live =
    all_weaker (IsLive W) (λ u. (W.trim ≤ u.begin) × (u.begin ≤ last W.history) × MayHave W.geometry u.mode × (u.number < W.next)) (λ u live. (live.since, live.begin, live.mode, live.number)) W.live is.live in
    let all = among (λ u. (W.trim ≤ u.begin) × (u.begin ≤ last W.history) × MayHave W.geometry u.mode × (u.number < W.next)) (λ u same. same) (λ u same. same) t W.live lives here.among in
    record {
      floor = among (λ u. floor W ≤ u.begin) (λ u same. same) (λ u same. same) t W.live (floor_below (last W.history) W.live) here.among;
      since = all.0;
      begin = all.1;
      mode = all.2;
      number = all.3;
    }

module _ (kept : Kept) (W : World) (tx : ℕ) (t : Live) (of : IsOf kept W) (here : IsTx W tx t) where
  pub begun_at : lookup (nat_eq tx) kept.live ≡ Some (record { at = t.begin; mode = t.mode })
  begun_at = kept_tx tx t kept.live W.live of.keeps.live here.number of.world.distinct here.among

  pub is_live : IsSome (begin_of tx kept.live)
  is_live = rw begun_at refl

  pub begins_at : begin_of tx kept.live ≡ Some t.begin
  begins_at = rw begun_at refl

  -- the notes serve still
  pub notes_left : NotesSince (after_leaving W t) kept.notes
  notes_left =
      let since = of.keeps.notes in
      let from : since.from ≤ floor W = since.before in
      record {
        from = since.from;
        before = floor_above since.from (last W.history) (without t.number W.live) (omega (arith, from, (floor_between W of.world).1))
            (all_filter (λ u. since.from ≤ u.begin) (λ u. not (u.number == t.number)) W.live
            (all_weaker (λ u. floor W ≤ u.begin) (λ u. since.from ≤ u.begin) (λ u le. omega (arith, from, le)) W.live (floor_below (last W.history) W.live)));
        notes = since.notes;
      }

  -- what is kept without the transaction is that of the world without it
  pub leaves_so : (live : List (ℕ × Begun)) → live ≡ remove_entry (nat_eq tx) kept.live → IsOf (record kept { live = live }) (after_leaving W t)
  leaves_so live left =
      kept_live kept W live kept.next W.next (without t.number W.live) of (leaves W t of.world).world notes_left of.keeps.next
      (ap (λ (l : List (ℕ × Begun)). map at_work l) left ∙ kept_without tx kept.live W.live of.keeps.live of.world.distinct
      ∙ ap (λ (n : ℕ). map bare (without n W.live)) (sym here.number))
