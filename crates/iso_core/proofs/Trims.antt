-- A core whose versions are trimmed to the floor.
use Rattle.iso_core.proofs.{Words.{arith, ◌≡◌, ◌<◌, ℕ, Bool, true, false, cond, nat_lt, List, [], ◌∷◌, refl, subst, sym, AllByRecursion, Held, Note, above, length, map, after_trim, World, floor, floor_of, floor_between, trim_leads, BlockVersions, shown_since, versions_in, shown_again, at_work, Kept, AreNeeded, IsOf}, Numbers.log_last, Transactions.kept_floor}
use Rattle.std.proofs.lemmas.Bool.{ltb-true}

-- of the notes above a number, each is above it
above_all : (n : ℕ) (notes : List Note) → AllByRecursion (λ note. n < note.0) (above n notes)
above_all n [] = tt
above_all n (x ∷ notes) = by (nat_lt n x.0) refl (above_all n notes)
  where
    by : (b : Bool) → nat_lt n x.0 ≡ b → AllByRecursion (λ note. n < note.0) (above n notes) → AllByRecursion (λ note. n < note.0) (cond b (x ∷ above n notes) (above n notes))
    by true is rest = (ltb-true n x.0 is, rest)
    by false is rest = rest

-- once those at or below the floor are dropped, the others are needed
pub are_needed : (W : World) (to : ℕ) (old : List Note) (held : Held) → to ≡ floor W → held.notes ≡ above to old → AreNeeded W held
are_needed W to old held floor_of is =
    subst (AllByRecursion (λ note. floor W < note.0)) (sym is) (subst (λ (n : ℕ). AllByRecursion (λ note. n < note.0) (above to old)) floor_of (above_all to old))

module _ (kept : Kept) (W : World) (of : IsOf kept W) where
  -- the floor of what is kept is that of the world
  pub floor_is : (n : ℕ) → n ≡ kept.log.last → floor_of n (map at_work kept.live) ≡ floor W
  floor_is n is = grind (arith, log_last, kept_floor)

  pub trims_so : (index : List BlockVersions) (to : ℕ) → to ≡ floor W → length index ≡ length kept.index
      → ((b : ℕ) → versions_in index b ≡ shown_since to (versions_in kept.index b)) → IsOf (record kept { index = index; trim = to }) (after_trim W)
  trims_so index to to_is same shown = grind (arith, floor_between, trim_leads, shown_again)
