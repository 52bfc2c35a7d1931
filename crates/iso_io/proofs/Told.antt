-- Known bytes, one piece after another.
use Rattle.std.{proofs.Common.{◌≡◌, ℕ, ◌+◌, ◌-◌, ◌≤◌, length-drop, length-append, List, ◌++◌, [], Option, None, Some, take, drop, length, refl, ap, sym, ◌∙◌, append_assoc, append-nil, arith}, proofs.lemmas.List.{take_all, take-append-drop, drop-drop}, proofs.Math.Seq.take-add, specs.Io.KnownBytes.{append_known, prepend_known}}
use Rattle.iso_io.specs.Source.{SourceState, Took, TookAtMost}

-- two pieces put one after the other
pub append_known-append : (known : Option (List ℕ)) (xs ys : List ℕ) → append_known (append_known known xs) ys ≡ append_known known (xs ++ ys)
append_known-append None xs ys = refl
append_known-append (Some zs) xs ys = ap (λ bytes. Some bytes) (append_assoc zs xs ys)

pub append_known-nil : (known : Option (List ℕ)) → append_known known [] ≡ known
append_known-nil None = refl
append_known-nil (Some zs) = ap (λ bytes. Some bytes) (append-nil zs)

-- two pieces taken one after the other
pub prepend_known-append : (known : Option (List ℕ)) (xs ys : List ℕ) → prepend_known xs (prepend_known ys known) ≡ prepend_known (xs ++ ys) known
prepend_known-append None xs ys = refl
prepend_known-append (Some zs) xs ys = ap (λ bytes. Some bytes) (sym (append_assoc xs ys zs))

pub prepend_known-nil : (known : Option (List ℕ)) → prepend_known [] known ≡ known
prepend_known-nil None = refl
prepend_known-nil (Some zs) = refl

-- a sink that took the front of a piece up to i, and then n bytes of what is after
pub put_more : (known next after : Option (List ℕ)) (piece : List ℕ) (i n : ℕ) → next ≡ append_known known (take i piece)
    → after ≡ append_known next (take n (take (length piece - i) (drop i piece))) → after ≡ append_known known (take (i + n) piece)
put_more known next after piece i n before more =
    let behind : take (length piece - i) (drop i piece) ≡ drop i piece = take_all (length piece - i) (drop i piece) (omega (arith, length-drop i piece)) in
    more ∙ ap (λ bytes. append_known next (take n bytes)) behind ∙ ap (λ k. append_known k (take n (drop i piece))) before
    ∙ append_known-append known (take i piece) (take n (drop i piece)) ∙ ap (append_known known) (sym (take-add i n piece))

-- bytes that were taken, and then more
pub taken_more : (known next after : Option (List ℕ)) (bytes more all : List ℕ) → known ≡ prepend_known bytes next
    → next ≡ prepend_known more after → all ≡ bytes ++ more → known ≡ prepend_known all after
taken_more known next after bytes more all before gives joined =
    before ∙ ap (prepend_known bytes) gives ∙ prepend_known-append after bytes more ∙ ap (λ xs. prepend_known xs after) (sym joined)

-- bytes that were taken and then a few others are lost together
pub lost_after : (old mid new : SourceState) (bytes : List ℕ) (room limit : ℕ) → Took old mid bytes → length bytes + room ≤ limit → TookAtMost mid new room → TookAtMost old new limit
lost_after old mid new bytes room limit before fits lost = record {
  bytes = bytes ++ lost.bytes;
  few = simp length-append (omega (arith, fits, lost.few));
  took = taken_more old.rest mid.rest new.rest bytes lost.bytes (bytes ++ lost.bytes) before lost.took refl;
}

-- what is after a place is the n bytes that were given from there, and then what is after those
pub given_front : (xs given : List ℕ) (i n : ℕ) → given ≡ take n (take (length xs - i) (drop i xs)) → given ++ drop (i + n) xs ≡ drop i xs
given_front xs given i n copied =
    let behind : take (length xs - i) (drop i xs) ≡ drop i xs = take_all (length xs - i) (drop i xs) (omega (arith, length-drop i xs)) in
    ap (λ front. front ++ drop (i + n) xs) (copied ∙ ap (take n) behind) ∙ ap (λ back. take n (drop i xs) ++ back) (sym (drop-drop n i xs))
    ∙ take-append-drop n (drop i xs)

pub ruleset steps = (put_more, taken_more, append_known-append, append_known-nil, prepend_known-append, prepend_known-nil)
