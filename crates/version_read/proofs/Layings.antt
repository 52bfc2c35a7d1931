-- Versions laid over bytes of a block one after the other, from the oldest version on.
use Rattle.version_read.proofs.{Words.{◌≡◌, ◌∙◌, inl, inr, sym, refl, ap, ℕ, ◌+◌, ◌-◌, ◌<◌, ◌≤◌, Bool, true, false, cond, List, [], ◌∷◌, take, max, min, Option, Some, None, length, get_or, unwrap_or, arith, cases_lt, take_more, or_else, Version, Lies, byte_in, has, no_version, byte_in-append, in_is, in_over, in_under, IsLaidIn, IsOverIn}, Overlays.{before, behind, with_part, within}}

under : (x y : Option ℕ) (z : ℕ) → unwrap_or x (unwrap_or y z) ≡ unwrap_or (or_else x y) z
under x y z = grind arith

here : (image : List ℕ) (v : Version) (p y : ℕ) (b : Bool) → has p v ≡ b → unwrap_or (byte_in image (v ∷ []) p) y ≡ cond b (get_or image (v.place + (p - v.off)) 0) y
here image v p y true is = ap (λ (t : Bool). unwrap_or (cond t (Some (get_or image (v.place + (p - v.off)) 0)) None) y) is
here image v p y false is = ap (λ (t : Bool). unwrap_or (cond t (Some (get_or image (v.place + (p - v.off)) 0)) None) y) is

module _ (from to : ℕ) (image : List ℕ) where
  module _ (v : Version) (old : List ℕ) (first last : ℕ) (first_is : first ≡ max from v.off) (last_is : last ≡ min to (v.off + v.len)) where
    -- what one version has of the range
    pub laid_one : (size : ℕ) → to ≤ length old → Lies (length old) size v → length image ≡ size → first < last → IsLaidIn from to image (v ∷ []) old (with_part image (v.place + (first - v.off)) first (last - first) old)
    laid_one size range lies long some p above below =
        let place : ℕ = v.place + (first - v.off) in
        let fits : first + (last - first) ≤ length old = omega (arith, some, range, last_is) in
        let inside : place + (last - first) ≤ length image = omega (arith, some, lies.inside, long, first_is, last_is) in
        elim (cases_lt p v.off) [
          | inl lt ↦ before image old place first (last - first) fits inside p (omega (arith, lt, first_is)) ∙ sym (here image v p (get_or old p 0) false (in_under v.off v.len p lt))
          | inr le ↦ elim (cases_lt p (v.off + v.len)) [
            | inl lt ↦
                let there : place + (p - first) ≡ v.place + (p - v.off) = omega (arith, above, le, first_is) in
                within image old place first (last - first) fits inside p (omega (arith, above, le, first_is)) (omega (arith, below, lt, some, last_is)) ∙ ap (λ (k : ℕ). get_or image k 0) there
                ∙ sym (here image v p (get_or old p 0) true (in_is v.off v.len p le lt))
            | inr over ↦ behind image old place first (last - first) fits inside p (omega (arith, over, some, last_is)) ∙ sym (here image v p (get_or old p 0) false (in_over v.off v.len p over))
          ]
        ]

    -- one that has nothing of it
    pub laid_none : last ≤ first → IsLaidIn from to image (v ∷ []) old old
    laid_none none p above below = grind (arith, in_under, in_over)

  module _ (versions : List Version) where
    -- the next version
    pub laid_more : (k : ℕ) (old now new : List ℕ) → k < length versions → IsLaidIn from to image (take k versions) old now → IsLaidIn from to image (get_or versions k no_version ∷ []) now new
        → IsLaidIn from to image (take (k + 1) versions) old new
    laid_more k old now new inside laid more p above below =
        let v : Version = get_or versions k no_version in
        more p above below ∙ ap (unwrap_or (byte_in image (v ∷ []) p)) (laid p above below) ∙ under (byte_in image (v ∷ []) p) (byte_in image (take k versions) p) (get_or old p 0)
        ∙ ap (λ (o : Option ℕ). unwrap_or o (get_or old p 0)) (sym (byte_in-append image (take k versions) (v ∷ []) p) ∙ ap (λ (l : List Version). byte_in image l p) (sym (take_more versions k no_version inside)))

    -- over the base
    pub laid_over : (base : ℕ) (old mid now : List ℕ) → from ≤ to → to ≤ length old → base + length old ≤ length image → mid ≡ with_part image (base + from) from (to - from) old → IsLaidIn from to image versions mid now
        → IsOverIn from to image base versions now
    laid_over base old mid now order range inside is laid p above below =
        let there : base + from + (p - from) ≡ base + p = omega (arith, above) in
        laid p above below
        ∙ ap (unwrap_or (byte_in image versions p))
        (ap (λ (l : List ℕ). get_or l p 0) is ∙ within image old (base + from) from (to - from) (omega (arith, order, range)) (omega (arith, order, range, inside)) p above (omega (arith, below)) ∙ ap (λ (k : ℕ). get_or image k 0) there)

whole_step : (rest : Option ℕ) (here : Bool) (x y z : ℕ) → here ≡ true → unwrap_or (or_else rest (cond here (Some x) None)) y ≡ unwrap_or (or_else rest (cond here (Some x) None)) z
whole_step (Some w) here x y z is = refl
whole_step None true x y z is = refl
whole_step None false x y z is = cc

-- where the first one has all of the range, the base shows nowhere
pub laid_whole : (from to : ℕ) (image : List ℕ) (base : ℕ) (versions : List Version) (old now : List ℕ) → 0 < length versions → (get_or versions 0 no_version).off ≤ from → to ≤ (get_or versions 0 no_version).off + (get_or versions 0 no_version).len
    → IsLaidIn from to image versions old now → IsOverIn from to image base versions now
laid_whole from to image base [] old now some first last laid p above below = absurd (omega (arith, some))
laid_whole from to image base (v ∷ rest) old now some first last laid p above below = grind (arith, whole_step, in_is)
