use Rattle.kept_disk.proofs.{Words.{◌≡◌, ◌<◌, ◌≤◌, ◌+◌, ◌-◌, ◌%◌, ◌∙◌, ℕ, List, Some, sym, ap, subst, arith, get_or, get_or_read, length, set, length-set, length-spliced, spliced, AreLaid, Stand, from_of, start_of}, Standing.{laid_same, lies, written_behind, written_over, written_zeros}}
use Rattle.kept_disk.proofs.pages.lay_page.Goals as goal

-- where the bytes of the place end
end_is : (ends : List ℕ) (place p end : ℕ) → place ≡ p → p < length ends → end ≡ get_or ends place end → end ≡ get_or ends p 0
end_is ends place p end is inside read = get_or_read ends place end (omega (arith, is, inside)) read 0 ∙ ap (λ (k : ℕ). get_or ends k 0) is

pub returns-then-end-ne0-clause-follow : goal.returns-then-end-ne0-clause-follow
returns-then-end-ne0-clause-follow c x fits stand =
    let ends = c.args.ends.now.items in
    let bytes = c.args.bytes.now.items in
    let numbers = c.args.numbers.now.items in
    let number = c.args.number in
    let page = c.args.page.now in
    let place_is = c.place_of-place.ensures.is in
    let end = end_is ends c.place_of-place.result (number % 2053) c.index-end.result.now place_is (omega (arith, c.requires.at.place, c.requires.at.places)) c.index-end.ensures in
    let has : 0 < get_or ends (number % 2053) 0 = omega (arith, end, c.if-end-ne0.true) in
    let now : c.lay_over.new.bytes.items ≡ spliced bytes (from_of ends (number % 2053)) page = c.lay_over.ensures.bytes ∙ ap (λ (e : ℕ). spliced bytes (e - 4096) page) end in
    subst (λ (k : ℕ). Stand (set numbers k (Some number)) ends c.lay_over.new.bytes.items (spliced x (start_of number) page)) (sym place_is)
    (subst (λ (b : List ℕ). Stand (set numbers (number % 2053) (Some number)) ends b (spliced x (start_of number) page)) (sym now)
    (written_over numbers x number page c.requires.at.laid c.requires.whole.whole c.requires.whole.full (omega (arith, fits, c.requires.whole.whole, c.requires.whole.full)) stand has))

pub returns-then-end-ne0-clause-at : goal.returns-then-end-ne0-clause-at
returns-then-end-ne0-clause-at c =
    let bytes = c.args.bytes.now.items in
    let from = c.index-end.result.now - 4096 in
    let size = length-set c.args.numbers.now.items c.place_of-place.result (Some c.args.number) in
    let end = end_is c.args.ends.now.items c.place_of-place.result (c.args.number % 2053) c.index-end.result.now c.place_of-place.ensures.is (omega (arith, c.requires.at.place, c.requires.at.places)) c.index-end.ensures in
    let has : 0 < get_or c.args.ends.now.items (c.args.number % 2053) 0 = omega (arith, end, c.if-end-ne0.true) in
    let room : from + length c.args.page.now ≤ length bytes = omega (arith, lies c.requires.at.laid (c.args.number % 2053) has, end, c.requires.whole.whole) in
    record {
      place = omega (arith, c.requires.at.place, size);
      places = c.requires.at.places ∙ sym size;
      laid = subst (AreLaid c.args.ends.now.items c.lay_over.new.bytes.items) (sym c.lay_over.ensures.room)
          (laid_same c.requires.at.laid c.lay_over.new.bytes.items (ap length c.lay_over.ensures.bytes ∙ length-spliced bytes from c.args.page.now room));
    }

pub returns-then-are_zeros-clause-follow : goal.returns-then-are_zeros-clause-follow
returns-then-are_zeros-clause-follow c x fits stand =
    let ends = c.args.ends.now.items in
    let numbers = c.args.numbers.now.items in
    let number = c.args.number in
    let place = c.place_of-place.result in
    let place_is = c.place_of-place.ensures.is in
    let end = end_is ends place (number % 2053) c.index-end.result.now place_is (omega (arith, c.requires.at.place, c.requires.at.places)) c.index-end.ensures in
    let none : get_or ends (number % 2053) 0 ≡ 0 = sym end ∙ c.if-end-ne0.false in
    subst (λ (k : ℕ). Stand (set numbers k (Some number)) ends c.args.bytes.now.items (spliced x (start_of number) c.args.page.now)) (sym place_is)
    (written_zeros numbers x number c.args.page.now c.requires.at.laid c.requires.whole.whole c.requires.whole.full (omega (arith, fits, c.requires.whole.whole, c.requires.whole.full)) stand none (c.are_zeros.ensures c.if-are_zeros.true))

pub returns-clause-follow : goal.returns-clause-follow
returns-clause-follow c x fits stand =
    let ends = c.args.ends.now.items in
    let bytes = c.args.bytes.now.items in
    let numbers = c.args.numbers.now.items in
    let number = c.args.number in
    let page = c.args.page.now in
    let place_is = c.place_of-place.ensures.is in
    let now_ends : c.add_page.new.ends.items ≡ set ends (number % 2053) (length bytes + 4096) = c.add_page.ensures.ends ∙ ap (λ (k : ℕ). set ends k (length bytes + 4096)) place_is in
    subst (λ (k : ℕ). Stand (set numbers k (Some number)) c.add_page.new.ends.items c.add_page.new.bytes.items (spliced x (start_of number) page)) (sym place_is)
    (subst (λ (e : List ℕ). Stand (set numbers (number % 2053) (Some number)) e c.add_page.new.bytes.items (spliced x (start_of number) page)) (sym now_ends)
    (subst (λ (b : List ℕ). Stand (set numbers (number % 2053) (Some number)) (set ends (number % 2053) (length bytes + 4096)) b (spliced x (start_of number) page)) (sym c.add_page.ensures.bytes)
    (written_behind numbers x number page c.requires.at.laid c.requires.whole.whole c.requires.whole.full (omega (arith, fits, c.requires.whole.whole, c.requires.whole.full)) stand (omega (arith, c.requires.at.place, c.requires.at.places)))))

pub returns-then-are_zeros-clause-at : goal.returns-then-are_zeros-clause-at
returns-then-are_zeros-clause-at c =
    let size = length-set c.args.numbers.now.items c.place_of-place.result (Some c.args.number) in
    record { place = omega (arith, c.requires.at.place, size); places = c.requires.at.places ∙ sym size; laid = c.requires.at.laid }

pub returns-clause-at : goal.returns-clause-at
returns-clause-at c =
    let ends = c.args.ends.now.items in
    let size = length-set c.args.numbers.now.items c.place_of-place.result (Some c.args.number) in
    let same = ap length c.add_page.ensures.ends ∙ length-set ends c.place_of-place.result (length c.args.bytes.now.items + 4096) in
    record { place = omega (arith, c.requires.at.place, size); places = same ∙ c.requires.at.places ∙ sym size; laid = c.add_page.ensures.laid }
