-- A walk from the newest version back: where a byte is seen, it is the one that the versions show.
use Rattle.version_read.proofs.Words.{◌≡◌, ◌∙◌, sym, refl, ap, ℕ, zero, suc, ◌==◌, ◌+◌, ◌-◌, ◌/◌, ◌%◌, ◌<◌, ◌≤◌, Bool, true, false, ◌&&◌, ◌||◌, not, cond, List, [], ◌∷◌, drop, take, replicate, Option, Some, None, length, get_or, unwrap_or, arith, bit_at, list_any, bit_at-zero, drop_all, drop_more, take-append-drop, or_else, Version, is_seen, byte_in, has, in_bytes, no_version, byte_in-append, in_is, IsOver, IsFilled}

-- the bytes of the versions looked at are seen
abbrev pub AreDone : List Version → List ℕ → Type 0
AreDone looked seen = (p : ℕ) → p < 4096 → is_seen seen p ≡ list_any (has p) looked

-- and these bytes are right
abbrev pub AreRight : List ℕ → List Version → (seen into : List ℕ) → Type 0
AreRight image looked seen into = (p : ℕ) → p < length into → is_seen seen p ≡ true → byte_in image looked p ≡ Some (get_or into p 0)

none_step : (x : ℕ) (rest : Option ℕ) (b r : Bool) → (r ≡ false → rest ≡ None) → (b || r) ≡ false → or_else rest (cond b (Some x) None) ≡ None
none_step x rest true r none is = cc
none_step x rest false r none is = ap (λ (o : Option ℕ). or_else o None) (none is)

none_of : (image : List ℕ) (versions : List Version) (p : ℕ) → list_any (has p) versions ≡ false → byte_in image versions p ≡ None
none_of image [] p is = refl
none_of image (v ∷ versions) p is = none_step (get_or image (v.place + (p - v.off)) 0) (byte_in image versions p) (has p v) (list_any (has p) versions) (none_of image versions p) is

-- a byte of one version more
right_step : (rest : Option ℕ) (x z now : ℕ) (here done : Bool) → (done ≡ true → rest ≡ Some z) → (done ≡ false → rest ≡ None) → now ≡ cond (here && not done) x z → (here || done) ≡ true → or_else rest (cond here (Some x) None) ≡ Some now
right_step rest x z now true true known none is some = ap (λ (o : Option ℕ). or_else o (Some x)) (known refl) ∙ ap Some (sym is)
right_step rest x z now true false known none is some = ap (λ (o : Option ℕ). or_else o (Some x)) (none refl) ∙ ap Some (sym is)
right_step rest x z now false true known none is some = ap (λ (o : Option ℕ). or_else o None) (known refl) ∙ ap Some (sym is)
right_step rest x z now false false known none is some = cc

last_step : (all : Option ℕ) (x z now : ℕ) (done : Bool) → (done ≡ true → all ≡ Some z) → (done ≡ false → all ≡ None) → now ≡ cond (true && not done) x z → now ≡ unwrap_or all x
last_step all x z now true known none is = is ∙ sym (ap (λ (o : Option ℕ). unwrap_or o x) (known refl))
last_step all x z now false known none is = is ∙ sym (ap (λ (o : Option ℕ). unwrap_or o x) (none refl))

-- before the walk nothing is seen
zero_words : (n k : ℕ) → ◌≡◌ {A = ℕ} (get_or (replicate n 0) k 0) 0
zero_words zero k = refl
zero_words (suc n) zero = refl
zero_words (suc n) (suc k) = zero_words n k

pub none_seen : (n p : ℕ) → is_seen (replicate n 0) p ≡ false
none_seen n p = ap (λ (w : ℕ). bit_at w (p % 64) == 1) (zero_words n (p / 64)) ∙ ap (λ (b : ℕ). b == 1) (bit_at-zero (p % 64))

pub done_none : (versions : List Version) (seen : List ℕ) → ((p : ℕ) → is_seen seen p ≡ false) → AreDone (drop (length versions) versions) seen
done_none versions seen none p below = none p ∙ ap (list_any (has p)) (sym (drop_all (length versions) versions (omega arith)))

module _ (versions : List Version) (left next : ℕ) (old new : List ℕ) (inside : left ≤ length versions) (some : 0 < left) (next_is : next ≡ left - 1) (were : AreDone (drop left versions) old)
    (marked : (p : ℕ) → p < 4096 → is_seen new p ≡ (in_bytes (get_or versions next no_version).off (get_or versions next no_version).len p || is_seen old p)) where
  split : drop next versions ≡ get_or versions next no_version ∷ drop left versions
  split = let e : next + 1 ≡ left = omega arith in drop_more versions next no_version (omega arith) ∙ ap (λ (k : ℕ). get_or versions next no_version ∷ drop k versions) e

  pub done_more : AreDone (drop next versions) new
  done_more p below = marked p below ∙ ap (λ (b : Bool). has p (get_or versions next no_version) || b) (were p below) ∙ ap (list_any (has p)) (sym split)

  pub right_more : (image before now : List ℕ) → length before ≤ 4096 → length now ≡ length before → AreRight image (drop left versions) old before
      → IsFilled image (get_or versions next no_version).place (get_or versions next no_version).off (get_or versions next no_version).len old before now → AreRight image (drop next versions) new now
  right_more image before now small stays right filled p below done =
      let lt : p < length before = omega (arith, stays, below) in
      let in_mask : p < 4096 = omega (arith, small, lt) in
      ap (λ (l : List Version). byte_in image l p) split
      ∙ right_step (byte_in image (drop left versions) p) (get_or image ((get_or versions next no_version).place + (p - (get_or versions next no_version).off)) 0) (get_or before p 0) (get_or now p 0) (has p (get_or versions next no_version)) (is_seen old p)
      (right p lt) (λ is. none_of image (drop left versions) p (sym (were p in_mask) ∙ is)) (filled p lt) (sym (marked p in_mask) ∙ done)

-- the base where nothing was seen
pub walked : (image before now : List ℕ) (base left : ℕ) (versions : List Version) (seen : List ℕ) → left ≡ 0 → length before ≤ 4096 → length now ≡ length before → AreDone (drop left versions) seen → AreRight image (drop left versions) seen before
    → IsFilled image base 0 (length before) seen before now → IsOver image base versions now
walked image before now base left versions seen end small stays are right filled p below = grind (arith, last_step, none_of, in_is, not)

shown_step : (later : Option ℕ) (earlier : Option ℕ) (x z : ℕ) → later ≡ Some x → x ≡ unwrap_or (or_else later earlier) z
shown_step later earlier x z is = sym (ap (λ (o : Option ℕ). unwrap_or (or_else o earlier) z) is)

-- where all was seen, the older versions and the base show nothing
pub walked_whole : (image into : List ℕ) (base left : ℕ) (versions : List Version) (seen : List ℕ) → AreRight image (drop left versions) seen into → ((p : ℕ) → p < length into → is_seen seen p ≡ true)
    → IsOver image base versions into
walked_whole image into base left versions seen right all p below =
    shown_step (byte_in image (drop left versions) p) (byte_in image (take left versions) p) (get_or into p 0) (get_or image (base + p) 0) (right p below (all p below))
    ∙ ap (λ (o : Option ℕ). unwrap_or o (get_or image (base + p) 0)) (sym (byte_in-append image (take left versions) (drop left versions) p) ∙ ap (λ (l : List Version). byte_in image l p) (take-append-drop left versions))
