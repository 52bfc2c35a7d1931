-- Pages that stand for contents: as they are filled, as bytes are written, and what a read takes of them.
use Rattle.kept_disk.proofs.{Words.{◌≡◌, ◌⊎◌, ◌≤◌, ◌<◌, ◌+◌, ◌-◌, ◌%◌, ◌++◌, ℕ, min, Bool, ◌==◌, cond, List, Option, Some, None, inl, inr, length, replicate, take, drop, set, get_or, refl, sym, ◌∙◌, ap, subst, arith, length-drop, take-replicate, drop-replicate, drop_at, take_min, same_Some, slice_get, spliced, length-spliced, slice-torn, spliced_torn, take-drop-spliced, take-length, Torn, page_of, AreLaid, HasPage, IsBlank, IsHeld, Stand, StandsFor, end_of, from_of, start_of, cases_eq, cases_lt, ne_eqb, get_or-set_same, get_or-set_other, sum_by-set}, Slices.{length-slice, part_of, slice_before, spliced_inside, get-set_same, get-set_other}}

-- bytes that were read as a page
pub filled : (c bytes : List ℕ) (n from len : ℕ) → len ≡ min (length c - start_of n) (end_of n - start_of n) → take len (drop from bytes) ≡ take len (drop (start_of n) c) → HasPage c n bytes from
filled c bytes n from len is read =
    let rest = drop (start_of n) c in
    let count : length (page_of c n) ≡ len = omega (arith, is, length-slice (end_of n - start_of n) (start_of n) c) in
    let whole : take len rest ≡ page_of c n = ap (λ (k : ℕ). take k rest) (let same : len ≡ min (end_of n - start_of n) (length rest) = omega (arith, is, length-drop (start_of n) c) in same) ∙ take_min (end_of n - start_of n) rest in
    ap (λ (k : ℕ). take k (drop from bytes)) count ∙ read ∙ whole

-- what a read takes of a page
pub taken : (c bytes : List ℕ) (n at from len : ℕ) → from + len ≤ end_of n - start_of n → start_of n + from + len ≤ length c → HasPage c n bytes at → take len (drop (at + from) bytes) ≡ take len (drop (start_of n + from) c)
taken c bytes n at from len inside fits has =
    let count = length (page_of c n) in
    let enough : from + len ≤ count = omega (arith, inside, fits, length-slice (end_of n - start_of n) (start_of n) c) in
    sym (part_of from len count at bytes enough)
    ∙ ap (λ (l : List ℕ). take len (drop from l)) has
    ∙ part_of from len (end_of n - start_of n) (start_of n) c inside

-- a part of zeros
zeros_in : (k from len : ℕ) → from + len ≤ k → take {A = ℕ} len (drop from (replicate k 0)) ≡ replicate len 0
zeros_in k from len inside = ap (take len) (drop-replicate from k 0) ∙ take-replicate len (k - from) 0 (omega (arith, inside))

-- what a read takes of a page of zeros
pub taken_zeros : (c : List ℕ) (n from len : ℕ) → from + len ≤ end_of n - start_of n → start_of n + from + len ≤ length c → IsBlank c n → replicate len 0 ≡ take len (drop (start_of n + from) c)
taken_zeros c n from len inside fits blank =
    let count = length (page_of c n) in
    let enough : from + len ≤ count = omega (arith, inside, fits, length-slice (end_of n - start_of n) (start_of n) c) in
    sym (zeros_in count from len enough) ∙ ap (λ (l : List ℕ). take len (drop from l)) (sym blank) ∙ part_of from len (end_of n - start_of n) (start_of n) c inside

-- zeros that were read as a page
pub read_zeros : (c page : List ℕ) (n len : ℕ) → len ≡ min (length c - start_of n) (end_of n - start_of n) → take len (drop 0 page) ≡ take len (drop (start_of n) c) → take len page ≡ replicate (length (take len page)) 0 → IsBlank c n
read_zeros c page n len is read zeros =
    let same : take (length (page_of c n)) page ≡ page_of c n = filled c page n 0 len is read in
    let count : length (page_of c n) ≡ len = omega (arith, is, length-slice (end_of n - start_of n) (start_of n) c) in
    let here : take len page ≡ page_of c n = ap (λ (k : ℕ). take k page) (sym count) ∙ same in
    subst (λ (l : List ℕ). l ≡ replicate (length l) 0) here zeros

-- bytes after the others, from which a page was read, and those of a page of zeros
pub page_behind : (c bytes page : List ℕ) (n : ℕ) → HasPage c n page 0 → HasPage c n (bytes ++ page) (length bytes)
page_behind c bytes page n has = ap (take (length (page_of c n))) (drop_at bytes page (length bytes) refl) ∙ has

pub zeros_behind : (c bytes : List ℕ) (n : ℕ) → IsBlank c n → HasPage c n (bytes ++ replicate 4096 0) (length bytes)
zeros_behind c bytes n blank =
    let short : length (page_of c n) ≤ 4096 = omega (arith, length-slice (end_of n - start_of n) (start_of n) c) in
    page_behind c bytes (replicate 4096 0) n (take-replicate (length (page_of c n)) 4096 0 short ∙ sym blank)

-- a page's bytes, where what is torn lies elsewhere
pub still_has : (c old new : List ℕ) (n from at len : ℕ) → Torn at len old new → (from + 4096 ≤ at) ⊎ (at + len ≤ from) → HasPage c n old from → HasPage c n new from
still_has c old new n from at len torn apart has =
    let short : length (page_of c n) ≤ 4096 = omega (arith, length-slice (end_of n - start_of n) (start_of n) c) in
    let lies : (from + length (page_of c n) ≤ at) ⊎ (at + len ≤ from) = elim apart [
      | inl before ↦ inl (omega (arith, before, short))
      | inr behind ↦ inr behind
    ] in
    slice-torn torn from (length (page_of c n)) lies ∙ has

-- and where more bytes stand after
pub grown_has : (c old more : List ℕ) (n from : ℕ) → from + 4096 ≤ length old → HasPage c n old from → HasPage c n (old ++ more) from
grown_has c old more n from within has =
    let short : length (page_of c n) ≤ 4096 = omega (arith, length-slice (end_of n - start_of n) (start_of n) c) in
    slice_before (length (page_of c n)) from old more (omega (arith, within, short)) ∙ has

-- of two numbers
compared : (p q : ℕ) → (p < q) ⊎ ((p ≡ q) ⊎ (q < p))
compared p q = grind arith

-- two places lie apart
pub places_apart : (p q : ℕ) → (p ≡ q → ⊥) → (end_of p ≤ start_of q) ⊎ (end_of q ≤ start_of p)
places_apart p q differ =
    elim (compared p q) [
      | inl below ↦ inl (omega (arith, below))
      | inr (inl same) ↦ absurd (differ same)
      | inr (inr above) ↦ inr (omega (arith, above))
    ]

-- a page that is held after a change of one place is that of the place, or was held before
pub held_by : {X : Type 0} (numbers : List (Option ℕ)) (i n : ℕ) (new : Option ℕ) → ((n % 2053 ≡ i) → new ≡ Some n → X) → ((n % 2053 ≡ i → ⊥) → IsHeld numbers n → X) → IsHeld (set numbers i new) n → X
held_by {X = X} numbers i n new here there held =
    let other : (n % 2053 ≡ i → ⊥) → X = λ differs. there differs (sym (get-set_other numbers i (n % 2053) new differs) ∙ held) in
    elim (compared (n % 2053) i) [
      | inl below ↦ other (λ same. omega (arith, below, same))
      | inr (inl same) ↦ here same (get-set_same numbers i new (Some n) (subst (λ (k : ℕ). slice_get (set numbers i new) k ≡ Some (Some n)) same held))
      | inr (inr above) ↦ other (λ same. omega (arith, above, same))
    ]

-- ---- where the bytes of places lie

module _ {ends bytes : List ℕ} {memory : ℕ} (laid : AreLaid ends bytes memory) where
  pub lies : (i : ℕ) → 0 < get_or ends i 0 → from_of ends i + 4096 ≤ length bytes
  lies i has = omega (arith, laid.whole i has, laid.within i)

  pub lie_apart : (i j : ℕ) → (i ≡ j → ⊥) → 0 < get_or ends i 0 → 0 < get_or ends j 0 → (from_of ends i + 4096 ≤ from_of ends j) ⊎ (from_of ends j + 4096 ≤ from_of ends i)
  lie_apart i j differs has other = elim (cases_lt (get_or ends i 0) (get_or ends j 0)) [
    | inl below ↦ inl (let far = laid.apart i j differs has (omega (arith, below)) in omega (arith, far, laid.whole i has, laid.whole j other))
    | inr above ↦ inr (let far = laid.apart j i (λ same. differs (sym same)) other above in omega (arith, far, laid.whole i has, laid.whole j other))
  ]

  -- bytes that are written over lie where they lay
  pub laid_same : (new : List ℕ) → length new ≡ length bytes → AreLaid ends new memory
  laid_same new size = record { whole = laid.whole; within = λ i. omega (arith, laid.within i, size); apart = laid.apart; room = omega (arith, laid.room, size) }

  -- one place more has bytes, after the others
  module _ (more : List ℕ) (place later : ℕ) (inside : place < length ends) (none : get_or ends place 0 ≡ 0) (size : length (bytes ++ more) ≡ length bytes + 4096) (enough : memory ≤ later) where
    abbrev end : ℕ
    end = length bytes + 4096

    abbrev empty : ℕ → ℕ
    empty e = cond (e == 0) 1 0

    either : (P : ℕ → ℕ → Type 0) → P place end → ((i : ℕ) → (i ≡ place → ⊥) → P i (get_or ends i 0)) → (i : ℕ) → P i (get_or (set ends place end) i 0)
    either P first others i = elim (cases_eq i place) [
      | inl same ↦ subst (λ (k : ℕ). P k (get_or (set ends place end) k 0)) (sym same) (subst (P place) (sym (get_or-set_same ends place end 0 inside)) first)
      | inr differs ↦ subst (P i) (sym (get_or-set_other ends place i end 0 differs)) (others i differs)
    ]

    pub laid_more : AreLaid (set ends place end) (bytes ++ more) later
    laid_more =
        let sum = sum_by-set empty ends place end 0 inside in
        let one : empty (get_or ends place 0) ≡ 1 = ap empty none in
        let gone : empty end ≡ 0 = ap (λ (t : Bool). cond t 1 0) (ne_eqb end 0 (λ is. omega (arith, is))) in
        record {
          whole = either (λ i e. 0 < e → 4096 ≤ e) (λ some. omega arith) (λ i differs. laid.whole i);
          within = either (λ i e. e ≤ length (bytes ++ more)) (omega (arith, size)) (λ i differs. omega (arith, laid.within i, size));
          apart = λ i j.
              either (λ k e. (k ≡ j → ⊥) → 0 < e → e ≤ get_or (set ends place end) j 0 → e + 4096 ≤ get_or (set ends place end) j 0)
              (either (λ k f. (place ≡ k → ⊥) → 0 < end → end ≤ f → end + 4096 ≤ f) (λ differs has le. absurd (differs refl)) (λ k d differs has le. absurd (omega (arith, laid.within k, le))) j)
              (λ k d. either (λ m f. (k ≡ m → ⊥) → 0 < get_or ends k 0 → get_or ends k 0 ≤ f → get_or ends k 0 + 4096 ≤ f) (λ differs has le. omega (arith, laid.within k)) (λ m e. laid.apart k m) j) i;
          room = omega (arith, laid.room, size, enough, sum, one, gone);
        }

-- a page stands in its place where its bytes are the same in other contents
pub stands_in : (c d : List ℕ) (n : ℕ) (ends bytes : List ℕ) → page_of d n ≡ page_of c n → StandsFor c n ends bytes → StandsFor d n ends bytes
stands_in c d n ends bytes same stands = record {
  zeros = λ none. subst (λ (l : List ℕ). l ≡ replicate (length l) 0) (sym same) (stands.zeros none);
  has = λ some. subst (λ (l : List ℕ). take (length l) (drop (from_of ends (n % 2053)) bytes) ≡ l) (sym same) (stands.has some);
}

-- pages in other places than one, whose bytes were torn, or which has some now after the others
module _ {ends bytes : List ℕ} {i memory : ℕ} (laid : AreLaid ends bytes memory) where
  pub torn_elsewhere : {new : List ℕ} {len : ℕ} → 0 < get_or ends i 0 → Torn (from_of ends i) len bytes new → len ≤ 4096 → (c : List ℕ) (n : ℕ) → (n % 2053 ≡ i → ⊥) → StandsFor c n ends bytes → StandsFor c n ends new
  torn_elsewhere {new = new} {len = len} has torn small c n differs stands = record {
    zeros = stands.zeros;
    has = λ some. still_has c bytes new n (from_of ends (n % 2053)) (from_of ends i) len torn
        (elim (lie_apart laid (n % 2053) i differs some has) [
          | inl before ↦ inl before
          | inr behind ↦ inr (omega (arith, behind, small))
        ]) (stands.has some);
  }

  pub grown_elsewhere : (more : List ℕ) (end : ℕ) (c : List ℕ) (n : ℕ) → (n % 2053 ≡ i → ⊥) → StandsFor c n ends bytes → StandsFor c n (set ends i end) (bytes ++ more)
  grown_elsewhere more end c n differs stands =
      let p = n % 2053 in
      let same : get_or (set ends i end) p 0 ≡ get_or ends p 0 = get_or-set_other ends i p end 0 differs in
      record {
        zeros = λ none. stands.zeros (sym same ∙ none);
        has = λ some.
            let there : 0 < get_or ends p 0 = omega (arith, some, same) in
            subst (HasPage c n (bytes ++ more)) (sym (ap (λ (e : ℕ). e - 4096) same)) (grown_has c bytes more n (from_of ends p) (lies laid p there) (stands.has there));
      }

-- the page of a place that was given bytes after the others
pub grown_here : (c ends bytes more : List ℕ) (n : ℕ) → n % 2053 < length ends → HasPage c n (bytes ++ more) (length bytes) → StandsFor c n (set ends (n % 2053) (length bytes + 4096)) (bytes ++ more)
grown_here c ends bytes more n inside has =
    let is : get_or (set ends (n % 2053) (length bytes + 4096)) (n % 2053) 0 ≡ length bytes + 4096 = get_or-set_same ends (n % 2053) (length bytes + 4096) 0 inside in
    record {
      zeros = λ none. absurd (omega (arith, is, none));
      has = λ some. subst (HasPage c n (bytes ++ more)) (let at : length bytes ≡ from_of (set ends (n % 2053) (length bytes + 4096)) (n % 2053) = omega (arith, is) in at) has;
    }

-- a place that was filled, or where that failed, where the others stand as before
module _ (numbers : List (Option ℕ)) {ends old later new c d : List ℕ} (q : ℕ) (others : (n : ℕ) → (n % 2053 ≡ q % 2053 → ⊥) → StandsFor c n ends old → StandsFor d n later new) (stand : Stand numbers ends old c) where
  pub stand_emptied : Stand (set numbers (q % 2053) None) later new d
  stand_emptied n = held_by numbers (q % 2053) n None (λ same is. absurd (cc is)) (λ differs held. others n differs (stand n held))

  pub stand_filled : StandsFor d q later new → Stand (set numbers (q % 2053) (Some q)) later new d
  stand_filled page n =
      held_by numbers (q % 2053) n (Some q)
      (λ same is. subst (λ (m : ℕ). StandsFor d m later new) (same_Some q n is) page)
      (λ differs held. others n differs (stand n held))

-- a page that was read, whose place had no bytes: it is zeros, or its bytes stand after the others
module _ (numbers : List (Option ℕ)) {ends bytes : List ℕ} {memory : ℕ} (page c : List ℕ) (q len : ℕ) (laid : AreLaid ends bytes memory) (none : get_or ends (q % 2053) 0 ≡ 0) (is : len ≡ min (length c - start_of q) (end_of q - start_of q)) (read : take len (drop 0 page) ≡ take len (drop (start_of q) c)) (stand : Stand numbers ends bytes c) where
  pub stand_zeros : take len page ≡ replicate (length (take len page)) 0 → Stand (set numbers (q % 2053) (Some q)) ends bytes c
  stand_zeros zeros = stand_filled numbers q (λ n differs stands. stands) stand (record { zeros = λ e. read_zeros c page q len is read zeros; has = λ some. absurd (omega (arith, some, none)) })

  pub stand_behind : q % 2053 < length ends → Stand (set numbers (q % 2053) (Some q)) (set ends (q % 2053) (length bytes + 4096)) (bytes ++ page) c
  stand_behind inside =
      stand_filled numbers q (grown_elsewhere laid page (length bytes + 4096) c) stand (grown_here c ends bytes page q inside (page_behind c bytes page q (filled c page q 0 len is read)))

-- a page that was written as a whole
module _ (numbers : List (Option ℕ)) {ends bytes : List ℕ} {memory : ℕ} (c : List ℕ) (q : ℕ) (xs : List ℕ) (laid : AreLaid ends bytes memory) (long : length xs ≡ 4096) (full : start_of q + 4096 ≡ end_of q) (fits : end_of q ≤ length c) (stand : Stand numbers ends bytes c) where
  -- its own bytes
  own_page : page_of (spliced c (start_of q) xs) q ≡ xs
  own_page =
      let size : end_of q - start_of q ≡ length xs = omega (arith, long, full) in
      ap (λ (k : ℕ). take k (drop (start_of q) (spliced c (start_of q) xs))) size ∙ take-drop-spliced c (start_of q) xs (omega (arith, fits, long, full))

  own_has : (b : List ℕ) (from : ℕ) → take 4096 (drop from b) ≡ xs → HasPage (spliced c (start_of q) xs) q b from
  own_has b from is = ap (λ (k : ℕ). take k (drop from b)) (ap length own_page ∙ long) ∙ is ∙ sym own_page

  -- pages in other places
  elsewhere : (e b : List ℕ) (n : ℕ) → (n % 2053 ≡ q % 2053 → ⊥) → StandsFor c n e b → StandsFor (spliced c (start_of q) xs) n e b
  elsewhere e b n differs stands =
      let torn = spliced_torn c (start_of q) xs (omega (arith, fits, long, full)) in
      let lies : (start_of n + (end_of n - start_of n) ≤ start_of q) ⊎ (start_of q + length xs ≤ start_of n) = elim (places_apart n q (λ same. differs (ap (λ (k : ℕ). k % 2053) same))) [
        | inl before ↦ inl (omega (arith, before))
        | inr behind ↦ inr (omega (arith, behind, long, full))
      ] in
      stands_in c (spliced c (start_of q) xs) n e b (slice-torn torn (start_of n) (end_of n - start_of n) lies) stands

  pub written_over : 0 < get_or ends (q % 2053) 0 → Stand (set numbers (q % 2053) (Some q)) ends (spliced bytes (from_of ends (q % 2053)) xs) (spliced c (start_of q) xs)
  written_over has =
      let from = from_of ends (q % 2053) in
      let new = spliced bytes from xs in
      let room : from + length xs ≤ length bytes = omega (arith, lies laid (q % 2053) has, long) in
      let here : take 4096 (drop from new) ≡ xs = ap (λ (k : ℕ). take k (drop from new)) (sym long) ∙ take-drop-spliced bytes from xs room in
      stand_filled numbers q (λ n differs stands. elsewhere ends new n differs (torn_elsewhere laid has (spliced_torn bytes from xs room) (omega (arith, long)) c n differs stands)) stand
      (record { zeros = λ none. absurd (omega (arith, none, has)); has = λ some. own_has new from here })

  pub written_zeros : get_or ends (q % 2053) 0 ≡ 0 → xs ≡ replicate (length xs) 0 → Stand (set numbers (q % 2053) (Some q)) ends bytes (spliced c (start_of q) xs)
  written_zeros none zeros =
      stand_filled numbers q (elsewhere ends bytes) stand
      (record { zeros = λ e. subst (λ (l : List ℕ). l ≡ replicate (length l) 0) (sym own_page) zeros; has = λ some. absurd (omega (arith, some, none)) })

  pub written_behind : q % 2053 < length ends → Stand (set numbers (q % 2053) (Some q)) (set ends (q % 2053) (length bytes + 4096)) (bytes ++ xs) (spliced c (start_of q) xs)
  written_behind inside =
      let whole : take 4096 (drop 0 xs) ≡ xs = ap (λ (k : ℕ). take k xs) (sym long) ∙ take-length xs in
      stand_filled numbers q (λ n differs stands. elsewhere (set ends (q % 2053) (length bytes + 4096)) (bytes ++ xs) n differs (grown_elsewhere laid xs (length bytes + 4096) c n differs stands)) stand
      (grown_here (spliced c (start_of q) xs) ends bytes xs q inside (page_behind (spliced c (start_of q) xs) bytes xs q (own_has xs 0 whole)))

-- where the place of a page that is held is given bytes
pub stand_given : (numbers : List (Option ℕ)) {ends bytes : List ℕ} {memory : ℕ} (n : ℕ) (c : List ℕ) → AreLaid ends bytes memory → n % 2053 < length ends → get_or ends (n % 2053) 0 ≡ 0 → IsHeld numbers n
    → Stand numbers ends bytes c → Stand numbers (set ends (n % 2053) (length bytes + 4096)) (bytes ++ replicate 4096 0) c
stand_given numbers {ends = ends} {bytes = bytes} n c laid inside none held stand m other =
    elim (cases_eq (m % 2053) (n % 2053)) [
      | inr differs ↦ grown_elsewhere laid (replicate 4096 0) (length bytes + 4096) c m differs (stand m other)
      | inl same ↦
          let is : m ≡ n = same_Some m n (same_Some (Some m) (Some n) (sym other ∙ ap (slice_get numbers) same ∙ held)) in
          subst (λ (k : ℕ). StandsFor c k (set ends (n % 2053) (length bytes + 4096)) (bytes ++ replicate 4096 0)) (sym is)
          (grown_here c ends bytes (replicate 4096 0) n inside (zeros_behind c bytes n ((stand n held).zeros none)))
    ]

-- bytes written inside one page
module _ (numbers : List (Option ℕ)) (ends bytes c : List ℕ) (q from : ℕ) (xs : List ℕ) (inside : from + length xs ≤ end_of q - start_of q) (fits : start_of q + from + length xs ≤ length c) (stand : Stand numbers ends bytes c) where
  -- another page of the contents stays
  same_page : (n : ℕ) → (n ≡ q → ⊥) → page_of (spliced c (start_of q + from) xs) n ≡ page_of c n
  same_page n differs =
      let torn = spliced_torn c (start_of q + from) xs fits in
      let apart : (start_of n + (end_of n - start_of n) ≤ start_of q + from) ⊎ (start_of q + from + length xs ≤ start_of n) = elim (places_apart n q differs) [
        | inl before ↦ inl (omega (arith, before))
        | inr behind ↦ inr (omega (arith, behind, inside))
      ] in
      slice-torn torn (start_of n) (end_of n - start_of n) apart

  -- so the other pages that are held stand as before
  others_stand : (n : ℕ) → (n ≡ q → ⊥) → IsHeld numbers n → StandsFor (spliced c (start_of q + from) xs) n ends bytes
  others_stand n differs held = stands_in c (spliced c (start_of q + from) xs) n ends bytes (same_page n differs) (stand n held)

  -- where that page is not held
  pub stand_apart : (IsHeld numbers q → ⊥) → Stand numbers ends bytes (spliced c (start_of q + from) xs)
  stand_apart none n held = others_stand n (λ same. none (subst (IsHeld numbers) same held)) held

  -- where it is held and has bytes, and these are laid over them
  module _ {memory : ℕ} (laid : AreLaid ends bytes memory) (has_q : 0 < get_or ends (q % 2053) 0) (held_q : IsHeld numbers q) where
    -- its own bytes
    put_has : HasPage (spliced c (start_of q + from) xs) q (spliced bytes (from_of ends (q % 2053) + from) xs) (from_of ends (q % 2053))
    put_has =
        let count = length (page_of c q) in
        let at = from_of ends (q % 2053) in
        let enough : from + length xs ≤ count = omega (arith, inside, fits, length-slice (end_of q - start_of q) (start_of q) c) in
        let room : at + from + length xs ≤ length bytes = omega (arith, lies laid (q % 2053) has_q, inside) in
        let size : length (page_of (spliced c (start_of q + from) xs) q) ≡ count =
        length-slice (end_of q - start_of q) (start_of q) (spliced c (start_of q + from) xs) ∙ ap (λ (s : ℕ). min (end_of q - start_of q) (s - start_of q)) (length-spliced c (start_of q + from) xs fits) ∙ sym (length-slice (end_of q - start_of q) (start_of q) c) in
        let page : page_of (spliced c (start_of q + from) xs) q ≡ spliced (page_of c q) from xs = spliced_inside c (start_of q) from (end_of q - start_of q) xs inside fits in
        ap (λ (k : ℕ). take k (drop at (spliced bytes (at + from) xs))) size
        ∙ spliced_inside bytes at from count xs enough room
        ∙ ap (λ (l : List ℕ). spliced l from xs) ((stand q held_q).has has_q)
        ∙ sym page

    pub stand_put : Stand numbers ends (spliced bytes (from_of ends (q % 2053) + from) xs) (spliced c (start_of q + from) xs)
    stand_put n held =
        let at = from_of ends (q % 2053) in
        let room : at + from + length xs ≤ length bytes = omega (arith, lies laid (q % 2053) has_q, inside) in
        let other : (n % 2053 ≡ q % 2053 → ⊥) → StandsFor (spliced c (start_of q + from) xs) n ends (spliced bytes (at + from) xs) = λ differs.
        let stands = others_stand n (λ same. differs (ap (λ (k : ℕ). k % 2053) same)) held in
        record {
          zeros = stands.zeros;
          has = λ some. still_has (spliced c (start_of q + from) xs) bytes (spliced bytes (at + from) xs) n (from_of ends (n % 2053)) (at + from) (length xs) (spliced_torn bytes (at + from) xs room)
              (elim (lie_apart laid (n % 2053) (q % 2053) differs some has_q) [
                | inl before ↦ inl (omega (arith, before))
                | inr behind ↦ inr (omega (arith, behind, inside))
              ]) (stands.has some);
        } in
        elim (compared (n % 2053) (q % 2053)) [
          | inl below ↦ other (λ same. omega (arith, below, same))
          | inr (inl same) ↦
              let is : n ≡ q = same_Some n q (same_Some (Some n) (Some q) (sym held ∙ ap (slice_get numbers) same ∙ held_q)) in
              subst (λ (m : ℕ). StandsFor (spliced c (start_of q + from) xs) m ends (spliced bytes (at + from) xs)) (sym is)
              (record { zeros = λ none. absurd (omega (arith, none, has_q)); has = λ some. put_has })
          | inr (inr above) ↦ other (λ same. omega (arith, above, same))
        ]
