-- Of the pieces of a block those that have a byte of a range.
use Rattle.mv_index.proofs.{Words.{◌≡◌, ◌⊎◌, inl, inr, ◌∙◌, sym, refl, ap, ℕ, suc, ◌+◌, ◌-◌, ◌<◌, ◌≤◌, cond, List, [], ◌∷◌, None, Option, Some, length, get_or, take, drop, arith, length-drop, length-take-le, get_or-take, get_or-drop, take-append-drop, drop_split, slice_range, or_else, Version, byte_in, no_version}, Layers.{byte_in-append, or_else_none}, Orders.has_not}

none_in : (image : List ℕ) (p : ℕ) (versions : List Version) → ((k : ℕ) → k < length versions → (p < (get_or versions k no_version).off) ⊎ ((get_or versions k no_version).off + (get_or versions k no_version).len ≤ p)) → byte_in image versions p ≡ None
none_in image p [] off = refl
none_in image p (v ∷ versions) off =
    λ i. or_else (none_in image p versions (λ k lt. off (suc k) (omega (arith, lt))) i) (cond (has_not p v (off 0 (omega arith)) i) (Some (get_or image (v.place + (p - v.off)) 0)) None)

module _ (pieces : List Version) (first last : ℕ) (order : first ≤ last) (inside : last ≤ length pieces) where
  -- what it leaves out has no byte of the range
  pub meeting_same : (image : List ℕ) (p : ℕ) → ((k : ℕ) → k < first → (get_or pieces k no_version).off + (get_or pieces k no_version).len ≤ p) → ((k : ℕ) → last ≤ k → k < length pieces → p < (get_or pieces k no_version).off)
      → byte_in image (slice_range pieces first last) p ≡ byte_in image pieces p
  meeting_same image p before behind =
      let front : byte_in image (take first pieces) p ≡ None = none_in image p (take first pieces) (λ k lt.
      let below : k < first = omega (arith, lt, length-take-le first pieces (omega arith)) in
      inr (omega (arith, before k below, ap (λ (v : Version). v.off + v.len) (get_or-take first pieces k no_version below)))) in
      let back : byte_in image (drop last pieces) p ≡ None = none_in image p (drop last pieces) (λ k lt.
      inl (omega (arith, behind (last + k) (omega arith) (omega (arith, lt, length-drop last pieces)), ap (λ (v : Version). v.off) (get_or-drop last pieces k no_version)))) in
      let part : byte_in image (drop first pieces) p ≡ byte_in image (slice_range pieces first last) p =
      ap (λ (l : List Version). byte_in image l p) (drop_split pieces first last order) ∙ byte_in-append image (slice_range pieces first last) (drop last pieces) p
      ∙ ap (λ (o : Option ℕ). or_else o (byte_in image (slice_range pieces first last) p)) back in
      sym (ap (λ (l : List Version). byte_in image l p) (sym (take-append-drop first pieces)) ∙ byte_in-append image (take first pieces) (drop first pieces) p ∙ (λ i. or_else (part i) (front i)) ∙ or_else_none (byte_in image (slice_range pieces first last) p))
