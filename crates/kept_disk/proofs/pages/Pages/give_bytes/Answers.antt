use Rattle.kept_disk.proofs.{Words.{◌≡◌, ◌<◌, ◌+◌, ◌++◌, ◌%◌, ◌∙◌, ℕ, List, Some, get_or, get_or_read, get_or-set_same, refl, sym, ap, subst, arith, length, set, replicate, Stand}, Slices.told_inside, Standing.stand_given}

pub returns : Rattle.kept_disk.proofs.pages.Pages.give_bytes.Goals.returns
returns c =
    let old = c.args.self.now in
    let p = c.args.number % 2053 in
    let place_is = c.place_of-place.ensures.is in
    let inside : p < length old.numbers.items = told_inside old.numbers.items p (Some c.args.number) c.requires.held in
    let long : length old.page.items ≡ 4096 = old.whole (omega (arith, inside)) in
    let none : get_or old.ends.items p 0 ≡ 0 =
    sym (ap (λ (k : ℕ). get_or old.ends.items k 0) place_is) ∙ sym (get_or_read old.ends.items c.place_of-place.result c.index.result.now (omega (arith, inside, old.places, place_is)) c.index.ensures 0) ∙ c.if-index-ne0.false in
    let ends : c.add_page.new.ends.items ≡ set old.ends.items p (length old.bytes.items + 4096) = c.add_page.ensures.ends ∙ ap (λ (k : ℕ). set old.ends.items k (length old.bytes.items + 4096)) place_is in
    let bytes : c.add_page.new.bytes.items ≡ old.bytes.items ++ replicate 4096 0 = c.add_page.ensures.bytes ∙ ap (λ (l : List ℕ). old.bytes.items ++ l) (c.deref.ensures.value ∙ c.blank.ensures ∙ ap (λ (k : ℕ). replicate k 0) long) in
    record {
      numbers = refl;
      has = omega (arith, ap (λ (l : List ℕ). get_or l p 0) ends, get_or-set_same old.ends.items p (length old.bytes.items + 4096) 0 (omega (arith, inside, old.places)));
      stand = λ x stand.
          subst (λ (e : List ℕ). Stand old.numbers.items e c.add_page.new.bytes.items x) (sym ends)
          (subst (λ (b : List ℕ). Stand old.numbers.items (set old.ends.items p (length old.bytes.items + 4096)) b x) (sym bytes)
          (stand_given old.numbers.items c.args.number x old.laid (omega (arith, inside, old.places)) none c.requires.held stand));
    }
