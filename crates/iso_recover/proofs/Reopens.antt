-- What an image shows is what it opens to.
use Rattle.iso_recover.proofs.Words.{◌≡◌, ◌+◌, ◌≤◌, ℕ, List, Some, sym, ◌∙◌, arith, transport, none-some, Geometry, History, IsImage, Shows, fresh, image_tells_one, Core, StandsFor, up, DiskState, OpenError, refusal, image_opens, HasReopened}

pub reopened : {D : Type 0} (state : D → DiskState) (core : Core D) (bytes : List ℕ) (g h : Geometry) (generation : ℕ) (H history : History) (p : ℕ) → StandsFor state core (fresh h generation history) up
    → IsImage bytes h generation history → Shows bytes g H p → HasReopened state core g H p
reopened state core bytes g h generation H history p stands image shows =
    let one = image_tells_one bytes h (record g { form = shows.form }) generation shows.generation history shows.held image shows.image in
    let some = shows.image.first in
    let first : shows.held.first ≤ p + 1 = omega (arith, shows.last, some) in
    record {
      form = shows.form;
      generation = shows.generation;
      history = shows.held;
      stands = transport (λ i. StandsFor state core (fresh (one.0 i) (one.1 i) (one.2 i)) up) stands;
      last = shows.last;
      array = shows.arrays p first (omega arith);
      arrays = shows.arrays;
    }

pub fails_nothing : (bytes : List ℕ) (g : Geometry) (H : History) (p : ℕ) (e : OpenError) → Shows bytes g H p → refusal bytes ≡ Some e → ⊥
fails_nothing bytes g H p e shows is =
    none-some e (sym (image_opens bytes (record g { form = shows.form }) shows.generation shows.held shows.image).free ∙ is)
