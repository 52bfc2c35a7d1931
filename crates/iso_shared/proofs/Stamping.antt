-- What a pass knows of entries with their moments, and what that says of the entries alone.
use Rattle.iso_shared.proofs.{Words.{◌≡◌, ℕ, ◌+◌, Bool, true, false, cond, nat_lt, List, [], ◌∷◌, ◌++◌, length, map, refl, sym, ap, ◌∙◌, subst, length-map, map-append, both, longer, AreFree, Core, DiskState, Entry, IsOut, IsPrefix, Posted, Stamped, StandsAt, Start, View, entries_in, handed, moments_in, out_from, out_next, returned, shown}}
use Rattle.turn_lock.specs.{Lists.{AllBelow, merge}, Pass.PassOf}
use Rattle.iso_shared.specs.Turns.{HasNoTurn}

pub prefix_map : {X Y : Type 0} (f : X → Y) (xs ys : List X) → IsPrefix xs ys → IsPrefix (map f xs) (map f ys)
prefix_map f xs ys p = (map f p.0, sym (map-append f xs p.0) ∙ ap (map f) p.1)

-- the same entries are seen
pub entries_prefix : (xs ys : List Stamped) → IsPrefix xs ys → IsPrefix (entries_in xs) (entries_in ys)
entries_prefix xs ys p = prefix_map (λ (s : Stamped). s.entry) xs ys p

pub moments_prefix : (xs ys : List Stamped) → IsPrefix xs ys → IsPrefix (moments_in xs) (moments_in ys)
moments_prefix xs ys p = prefix_map (λ (s : Stamped). s.moment) xs ys p

pub entries_many : (xs : List Stamped) → length (entries_in xs) ≡ length xs
entries_many xs = length-map xs (λ (s : Stamped). s.entry)

-- each entry that was seen has its moment
pub moments_many : (xs : List Stamped) → length (moments_in xs) ≡ length (entries_in xs)
moments_many xs = length-map xs (λ (s : Stamped). s.moment) ∙ sym (entries_many xs)

pub entries_snoc : (xs : List Stamped) (s : Stamped) → entries_in (xs ++ s ∷ []) ≡ entries_in xs ++ s.entry ∷ []
entries_snoc xs s = map-append (λ (s : Stamped). s.entry) xs (s ∷ [])

pub moments_snoc : (xs : List Stamped) (s : Stamped) → moments_in (xs ++ s ∷ []) ≡ moments_in xs ++ s.moment ∷ []
moments_snoc xs s = map-append (λ (s : Stamped). s.moment) xs (s ∷ [])

-- a pass without a turn
pub rests_shown : {X : Type 0} (p : PassOf X Stamped) → Rattle.turn_lock.specs.Pass.HasNoTurn p → HasNoTurn p
rests_shown p r = (r.0, r.1, (r.2.0, subst (λ (n : ℕ). AllBelow n p.me.0.mine) (sym (entries_many p.me.0.seen)) r.2.1))

pub rests_raw : {X : Type 0} (p : PassOf X Stamped) → HasNoTurn p → Rattle.turn_lock.specs.Pass.HasNoTurn p
rests_raw p r = (r.0, r.1, (r.2.0, subst (λ (n : ℕ). AllBelow n p.me.0.mine) (entries_many p.me.0.seen) r.2.1))

-- which numbers are out, the entries alone say
out_shown : (n : ℕ) (b : Bool) (xs : List Stamped) → out_from (λ (s : Stamped). handed s.entry) (λ (s : Stamped). returned s.entry) n b xs ≡ out_from handed returned n b (entries_in xs)
out_shown n b [] = refl
out_shown n b (x ∷ xs) = out_shown n (out_next handed returned n b x.entry) xs

pub is_out_shown : (n : ℕ) (xs : List Stamped) → IsOut (λ (s : Stamped). handed s.entry) (λ (s : Stamped). returned s.entry) n xs → IsOut handed returned n (entries_in xs)
is_out_shown n xs is = sym (out_shown n false xs) ∙ is

pub are_free : (ns : List ℕ) (xs : List Stamped) → AreFree handed returned ns (entries_in xs) → AreFree (λ (s : Stamped). handed s.entry) (λ (s : Stamped). returned s.entry) ns xs
are_free [] xs free = tt
are_free (n ∷ ns) xs free = (out_shown n false xs ∙ free.0, are_free ns xs free.1)

-- two passes in one
longer_shown : (xs ys : List Stamped) → entries_in (longer xs ys) ≡ longer (entries_in xs) (entries_in ys)
longer_shown xs ys = by_test (nat_lt (length xs) (length ys)) ∙ (λ i. cond (nat_lt (sym (entries_many xs) i) (sym (entries_many ys) i)) (entries_in ys) (entries_in xs))
  where
    by_test : (b : Bool) → entries_in (cond b ys xs) ≡ cond b (entries_in ys) (entries_in xs)
    by_test true = refl
    by_test false = refl

pub both_shown : (v w : View Stamped) → shown (both v w) ≡ both (shown v) (shown w)
both_shown v w = λ i. record {
  seen = longer_shown v.seen w.seen i;
  mine = merge w.mine v.mine;
  stage = v.stage;
  holds = w.holds ++ v.holds;
  units = v.units + w.units;
  left = entries_in v.seen;
  right = entries_in w.seen;
}

-- what represents the list with an entry and a moment represents it with the two in one
pub stands_stamped : {D : Type 0} {disk : D → DiskState} {A : Start} {first : DiskState} {core : Core D} {items : List (List ℕ × Posted)} (xs : List Stamped) (s : Stamped)
    → StandsAt disk A first core items (entries_in xs ++ s.entry ∷ []) (moments_in xs ++ s.moment ∷ []) → StandsAt disk A first core items (entries_in (xs ++ s ∷ [])) (moments_in (xs ++ s ∷ []))
stands_stamped {D} {disk} {A} {first} {core} {items} xs s is =
    subst (λ (es : List Entry). StandsAt disk A first core items es (moments_in (xs ++ s ∷ []))) (sym (entries_snoc xs s))
    (subst (λ (ms : List ℕ). StandsAt disk A first core items (entries_in xs ++ s.entry ∷ []) ms) (sym (moments_snoc xs s)) is)
