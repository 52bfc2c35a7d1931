use Rattle.kept_disk.proofs.{Words.{◌≡◌, ◌%◌, ◌+◌, ◌-◌, ◌++◌, ℕ, min, List, Option, Some, None, drop, length, replicate, set, take, sym, ◌∙◌, ap, subst, arith, length-contents, length-set, slice_get, Stand, end_of, start_of}, Slices.{get-set_at, get-set_other, set-set}, Standing.{stand_behind, stand_zeros}, pages.fill_first.Goals.{then-not-are_zeros, else-not-are_zeros}}
use Rattle.kept_disk.proofs.pages.fill_first.Goals as goal

pub returns-clause-filled : goal.returns-clause-filled
returns-clause-filled g c =
    let numbers = c.args.numbers.now.items in
    let ends = c.args.ends.now.items in
    let bytes = c.args.bytes.now.items in
    let number = c.args.number in
    let place = c.place_of-place.result in
    let place_is = c.place_of-place.ensures.is in
    let page = c.read_into.new.bytes.items in
    let len = c.min-len.result in
    let both = c.if-not-are_zeros in
    record {
      stand = λ x told stand.
          let size = length-contents (g.met.D.Disk.lawful c.args.disk.now) x told in
          let read : take len (drop 0 page) ≡ take len (drop (start_of number) x) = c.in_ok-read_into.ensures.read.read x told ∙ ap (λ (a : ℕ). take len (drop a x)) c.start_of-at.ensures in
          let is : len ≡ min (length x - start_of number) (end_of number - start_of number) = omega (arith, size, c.size.ensures, c.start_of-at.ensures, c.most_of.ensures, c.min-len.ensures) in
          let whole : Stand (set numbers (number % 2053) (Some number)) both.ends.items both.bytes.items x = elim both.branch [
            | then-not-are_zeros w ↦
                let now_ends : both.ends.items ≡ set ends (number % 2053) (length bytes + 4096) = ap (λ v. v.items) w.ends-is ∙ w.add_page.ensures.ends ∙ ap (λ (k : ℕ). set ends k (length bytes + 4096)) place_is in
                let now_bytes : both.bytes.items ≡ bytes ++ page = ap (λ v. v.items) w.bytes-is ∙ w.add_page.ensures.bytes ∙ ap (λ (l : List ℕ). bytes ++ l) w.deref-then-not-are_zeros.ensures.value in
                subst (λ (e : List ℕ). Stand (set numbers (number % 2053) (Some number)) e both.bytes.items x) (sym now_ends)
                (subst (λ (b : List ℕ). Stand (set numbers (number % 2053) (Some number)) (set ends (number % 2053) (length bytes + 4096)) b x) (sym now_bytes)
                (stand_behind numbers page x number len c.requires.at.laid c.requires.none is read stand (omega (arith, c.requires.at.place, c.requires.at.places))))
            | else-not-are_zeros w ↦
                let zeros = subst (λ (l : List ℕ). take len l ≡ replicate (length (take len l)) 0) c.deref.ensures.value (c.are_zeros.ensures w.if-not-are_zeros.false) in
                subst (λ (e : List ℕ). Stand (set numbers (number % 2053) (Some number)) e both.bytes.items x) (sym (ap (λ v. v.items) w.ends-is))
                (subst (λ (b : List ℕ). Stand (set numbers (number % 2053) (Some number)) ends b x) (sym (ap (λ v. v.items) w.bytes-is))
                (stand_zeros numbers page x number len c.requires.at.laid c.requires.none is read stand zeros))
          ] in
          subst (λ (k : ℕ). Stand (set (set numbers k None) k (Some number)) both.ends.items both.bytes.items x) (sym place_is)
          (subst (λ (l : List (Option ℕ)). Stand l both.ends.items both.bytes.items x) (sym (set-set numbers (number % 2053) None (Some number))) whole);
      held =
          subst (λ (k : ℕ). slice_get (set (set numbers place None) place (Some number)) k ≡ Some (Some number)) place_is
          (get-set_at (set numbers place None) place (Some number) (omega (arith, length-set numbers place None, c.requires.at.place, place_is)));
      kept = record {
        others = λ k other. let differs : k ≡ place → ⊥ = λ same. other (same ∙ place_is) in
            get-set_other (set numbers place None) place k (Some number) differs ∙ get-set_other numbers place k None differs;
        places = length-set (set numbers place None) place (Some number) ∙ length-set numbers place None;
      };
      looked = c.in_ok-read_into.ensures.read.looked;
    }
