-- What a call on both sides comes to in the state of the mirror.
use Rattle.mirror_disk.proofs.{Words.{arith, ◌≡◌, ◌≢◌, ◌⊎◌, inl, inr, ⊎_elim, ℕ, List, ◌∷◌, Result, Ok, Err, OnErr, refl, sym, ◌∙◌, ap, subst, option_map, DiskState, Torn, TornFrom, TellsTorn, Elapses, Slot, Used, Plain, Both, OnlyFirst, OnlySecond, Broken, Unbound, MirrorBecomes, HasEnded, chosen_told, mirrored, IsPair, Stands, state_in}}

-- these are the states of a pair
pub of_pair : {used : Used} → (used ≡ Both) ⊎ ((used ≡ OnlyFirst) ⊎ ((used ≡ OnlySecond) ⊎ (used ≡ Broken))) → IsPair used
of_pair {used = used} is = (λ plain. not Plain plain (λ e. cc e) (λ e. cc e) (λ e. cc e) (λ e. cc e), λ unbound. not Unbound unbound (λ e. cc e) (λ e. cc e) (λ e. cc e) (λ e. cc e))
  where
    not : (other : Used) → used ≡ other → other ≢ Both → other ≢ OnlyFirst → other ≢ OnlySecond → other ≢ Broken → ⊥
    not other same both first second broken = ⊎_elim (λ e. both (sym same ∙ e)) (⊎_elim (λ e. first (sym same ∙ e)) (⊎_elim (λ e. second (sym same ∙ e)) (λ e. broken (sym same ∙ e)))) is

-- what holds of what is chosen of both sides holds of the mirror
pub state_pair : (used : Used) → IsPair used → (a b : DiskState) (past : List (ℕ × ℕ)) (f m : ℕ) (P : DiskState → Type 0) → P (mirrored a b past f m) → P (state_in used a b past f m)
state_pair Both is a b past f m P p = p
state_pair OnlyFirst is a b past f m P p = p
state_pair OnlySecond is a b past f m P p = p
state_pair Broken is a b past f m P p = p
state_pair Plain is a b past f m P p = absurd (is.0 refl)
state_pair Unbound is a b past f m P p = absurd (is.1 refl)

pub told_pair : (used : Used) → IsPair used → (a b : DiskState) (past : List (ℕ × ℕ)) (f m : ℕ) → (state_in used a b past f m).contents ≡ chosen_told a.contents b.contents
told_pair used is a b past f m = state_pair used is a b past f m (λ (d : DiskState). d.contents ≡ chosen_told a.contents b.contents) refl

-- more images
pub elapses_more : {old new : DiskState} {P Q : List ℕ → Type 0} → Elapses old new P → ((c : List ℕ) → P c → Q c) → Elapses old new Q
elapses_more e more = record {
  same_size = e.same_size;
  same_bound = e.same_bound;
  same_binds = e.same_binds;
  later = e.later;
  after = λ c now. more c (e.after c now);
  during = λ t c le left. ⊎_elim inl (λ p. inr (more c p)) (e.during t c le left);
  keeps = e.keeps;
}

module _ {used used' : Used} {a b new_a new_b : DiskState} {past past' : List (ℕ × ℕ)} {e : ℕ} {one two : Slot} {at n : ℕ} (is : IsPair used) (is' : past' ≡ (a.clock, b.clock) ∷ past) (ended : HasEnded a b new_a new_b used' past e one two at n) where
  pub parts_stand : Stands new_a new_b used' past' e one two
  parts_stand = subst (λ (l : List (ℕ × ℕ)). Stands new_a new_b used' l e one two) (sym is') ended.stands

  module _ (f g m : ℕ) where
    pub parts_elapse : Elapses (state_in used a b past f m) (state_in used' new_a new_b past' g m) (TornFrom at n (state_in used a b past f m).now)
    parts_elapse =
        state_pair used is a b past f m (λ (d : DiskState). Elapses d (state_in used' new_a new_b past' g m) (TornFrom at n d.now))
        (state_pair used' ended.is_pair new_a new_b past' g m (λ (d : DiskState). Elapses (mirrored a b past f m) d (TornFrom at n (mirrored a b past f m).now))
        (subst (λ (l : List (ℕ × ℕ)). Elapses (mirrored a b past f m) (mirrored new_a new_b l g m) (TornFrom at n (mirrored a b past f m).now)) (sym is') (ended.elapses f g m)))

    old_told : (state_in used a b past f m).contents ≡ chosen_told a.contents b.contents
    old_told = told_pair used is a b past f m

    new_told : (state_in used' new_a new_b past' g m).contents ≡ chosen_told new_a.contents new_b.contents
    new_told = told_pair used' ended.is_pair new_a new_b past' g m

    pub parts_turn : (turn : List ℕ → List ℕ) → chosen_told new_a.contents new_b.contents ≡ option_map turn (chosen_told a.contents b.contents) → (state_in used' new_a new_b past' g m).contents ≡ option_map turn (state_in used a b past f m).contents
    parts_turn turn turned = new_told ∙ turned ∙ ap (option_map turn) (sym old_told)

    pub parts_tear : (k l : ℕ) → MirrorBecomes (Torn k l) (chosen_told a.contents b.contents) (chosen_told new_a.contents new_b.contents) → TellsTorn k l (state_in used a b past f m) (state_in used' new_a new_b past' g m)
    parts_tear k l becomes = grind (arith, old_told, new_told)

pub on_err : {T E P Q : Type 0} (r : Result T E) → (P → Q) → OnErr r P → OnErr r Q
on_err (Ok x) then p = tt
on_err (Err e) then p = then p
