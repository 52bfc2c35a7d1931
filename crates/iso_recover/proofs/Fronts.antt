-- The front of an image: what the image is refused for up to its log, and what it says.
use Rattle.iso_recover.proofs.{Words.{◌≡◌, ◌<◌, ◌≤◌, ◌+◌, ◌==◌, ℕ, Bool, true, false, List, length, take, drop, cond, Option, Some, None, Result, Ok, Err, IfOk, IfErr, refl, sym, ◌∙◌, ap, arith, subst, le-ltb, lt-ltb, none-some, Geometry, or_else, half_size, header_place, image_size, log_place, current_half, superblock, DiskState, IsLawful, length-contents, SuperError, half_of, super_of, OpenError, NotIsotope, WrongSize, body_refusal, half_refusal, header_at, header_refusal, log_at, log_refusal, refusal, super_form, Front, HasFront, IsFrontOf, chosen_by, halves_refusal, header_of, super_refusal}, Headers.{chosen_is, current_is, header_there}}
use Rattle.std.proofs.lemmas.Bool.{eq-eqb}
use Rattle.iso_format.specs.declared.superblock.SuperError.TheVariants as super

-- ---- the superblock

pub refused_short : (c : List ℕ) → length c < 64 → refusal c ≡ Some NotIsotope
unfolding refusal
refused_short c short = λ i. cond (lt-ltb (length c) 64 short i) (Some NotIsotope) (body_refusal c (super_of (take 64 c)))

refused_body : (c : List ℕ) (read : Result Geometry SuperError) → 64 ≤ length c → super_of (take 64 c) ≡ read → refusal c ≡ body_refusal c read
unfolding refusal
refused_body c read long is = λ i. cond (le-ltb (length c) 64 long i) (Some NotIsotope) (body_refusal c (is i))

sized : (same : Bool) (w : OpenError) (e : OpenError) (rest : Option OpenError) → cond same None (Some w) ≡ Some e → cond same rest (Some w) ≡ Some e
sized true w e rest is = absurd (none-some e is)
sized false w e rest is = is

body_is : (c : List ℕ) (read : Result Geometry SuperError) (e : OpenError) → super_refusal (length c) read ≡ Some e → body_refusal c read ≡ Some e
body_is c (Err super.NotIsotope) e is = is
body_is c (Err (super.BadGeometry field)) e is = is
body_is c (Ok g) e is = sized (length c == image_size g) (WrongSize (image_size g) (length c)) e (half_refusal g c (current_half g c)) is

pub refused_super : (c : List ℕ) (e : OpenError) → 64 ≤ length c → super_refusal (length c) (super_of (take 64 c)) ≡ Some e → refusal c ≡ Some e
refused_super c e long is = refused_body c (super_of (take 64 c)) long refl ∙ body_is c (super_of (take 64 c)) e is

-- ---- the halves

refused_halves : (g : Geometry) (c : List ℕ) → 64 ≤ length c → length c ≡ image_size g → super_of (take 64 c) ≡ Ok g → refusal c ≡ half_refusal g c (current_half g c)
refused_halves g c long size read =
    refused_body c (Ok g) long read ∙ (λ i. cond (eq-eqb (length c) (image_size g) size i) (half_refusal g c (current_half g c)) (Some (WrongSize (image_size g) (length c))))

-- an image of this geometry, and the headers of its halves
pub record Stands (g : Geometry) (first second : List ℕ) (c : List ℕ) : Type 0 where
  pub size : length c ≡ image_size g
  pub read : super_of (take 64 c) ≡ Ok g
  pub super : take 64 c ≡ superblock 1 g
  pub first_is : first ≡ header_at g 0 c
  pub second_is : second ≡ header_at g 1 c

pub stands_is : (d : DiskState) → IsLawful d → (g : Geometry) (first second c : List ℕ) (half : ℕ) → d.contents ≡ Some c → d.size ≡ image_size g → half ≡ half_size g
    → super_of (take 64 c) ≡ Ok g → take 64 c ≡ superblock 1 g → first ≡ take 32 (drop 64 c) → second ≡ take 32 (drop (64 + half) c) → Stands g first second c
stands_is d laws g first second c half told size same read super one two =
    let place : 64 ≡ header_place g 0 = omega arith in
    let next : 64 + half ≡ header_place g 1 = omega (arith, same) in
    record {
      size = length-contents laws c told ∙ size;
      read = read;
      super = super;
      first_is = one ∙ ap (λ (n : ℕ). take 32 (drop n c)) place;
      second_is = two ∙ ap (λ (n : ℕ). take 32 (drop n c)) next;
    }

module _ (g : Geometry) (first second c : List ℕ) (s : Stands g first second c) where
  chosen_here : chosen_by first second ≡ current_half g c
  chosen_here = (λ i. chosen_by (s.first_is i) (s.second_is i)) ∙ current_is g c

  header_here : (half : ℕ) → half ≤ 1 → header_of half first second ≡ header_at g half c
  header_here half le = (λ i. header_of half (s.first_is i) (s.second_is i)) ∙ header_there g half c le

  long : 64 ≤ length c
  long = let size : length c ≡ image_size g = s.size in omega arith

  refused_by : (o : Option ℕ) (e : OpenError) → chosen_by first second ≡ o → halves_refusal g first second o ≡ Some e → half_refusal g c o ≡ Some e
  refused_by None e is fails = fails
  refused_by (Some half) e is fails =
      let chosen = chosen_is first second half is in
      ap (λ (found : Option OpenError). or_else found (log_refusal (record g { form = (half_of (header_at g half c)).form }) (log_place g half) ((half_of (header_at g half c)).base + 1) g.log (log_at g half c)))
      (ap (header_refusal (header_place g half)) (sym (header_here half chosen.least)) ∙ fails)

  -- the image is refused for what its halves are
  pub refused_here : (e : OpenError) → halves_refusal g first second (chosen_by first second) ≡ Some e → refusal c ≡ Some e
  refused_here e fails =
      refused_halves g c long s.size s.read ∙ ap (half_refusal g c) (sym chosen_here) ∙ refused_by (chosen_by first second) e refl fails

  -- it has the front that they say
  pub front_here : (f : Front) → IsFrontOf g first second f → HasFront f c
  front_here f is =
      let half = f.half in
      let h : List ℕ = header_of f.half first second in
      let said = is.said in
      let there : header_of f.half first second ≡ header_at g f.half c = header_here f.half is.half in
      let current : current_half g c ≡ Some f.half = sym chosen_here ∙ is.chosen in
      let fine : header_refusal (header_place g f.half) (header_at g f.half c) ≡ None = ap (header_refusal (header_place g f.half)) (sym there) ∙ said.passes in
      subst (λ (x : Front). HasFront x c) (sym said.front_is)
      (record {
        super = s.super ∙ super_form g (half_of h).form;
        current = current;
        header = sym there ∙ said.spelled;
        refusal_is = refused_halves g c long s.size s.read ∙ ap (half_refusal g c) current
            ∙ ap (λ (found : Option OpenError). or_else found (log_refusal (record g { form = (half_of (header_at g half c)).form }) (log_place g half) ((half_of (header_at g half c)).base + 1) g.log (log_at g half c))) fine
            ∙ ap (λ (l : List ℕ). log_refusal (record g { form = (half_of l).form }) (log_place g half) ((half_of l).base + 1) g.log (log_at g half c)) (sym there);
      })

-- ---- answers

pub err_weaker : {T : Type 0} {P Q : OpenError → Type 0} (r : Result T OpenError) → ((e : OpenError) → P e → Q e) → IfErr r P → IfErr r Q
err_weaker (Ok x) implies p = tt
err_weaker (Err e) implies p = implies e p

pub ok_weaker : {T : Type 0} {P Q : T → Type 0} (r : Result T OpenError) → ((x : T) → P x → Q x) → IfOk r P → IfOk r Q
ok_weaker (Ok x) implies p = implies x p
ok_weaker (Err e) implies p = tt
