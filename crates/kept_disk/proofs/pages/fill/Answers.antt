use Rattle.kept_disk.proofs.{Words.{rules, ◌≡◌, ◌%◌, ℕ, List, Option, Some, None, drop, set, take, sym, ◌∙◌, ap, subst, arith, length-contents, length-set, slice_get, HasPage, Stand, Torn, from_of, start_of}, Slices.{get-set_at, get-set_other, set-set}, Standing.{filled, stand_emptied, stand_filled, torn_elsewhere}}
use Rattle.kept_disk.proofs.pages.fill.Goals as goal

pub returns-in_err-read_into-clause-filled : goal.returns-in_err-read_into-clause-filled
returns-in_err-read_into-clause-filled g c =
    let numbers = c.args.numbers.now.items in
    let place_is = c.place_of-place.ensures.is in
    let new = c.read_into.new.bytes.items in
    let torn = subst (λ (k : ℕ). Torn (from_of c.args.ends.now k) c.min-len.result c.args.bytes.now.items new) place_is c.read_into.ensures.read.others in
    record {
      stand = λ x told stand. subst (λ (k : ℕ). Stand (set numbers k None) c.args.ends.now new x) (sym place_is)
          (stand_emptied numbers c.args.number (torn_elsewhere c.requires.at.laid c.requires.has torn (omega (arith, c.most_of.ensures, c.min-len.ensures)) x) stand);
      held = search rules;
      kept = record {
        others = λ k other. get-set_other numbers c.place_of-place.result k None (λ same. other (same ∙ place_is));
        places = length-set numbers c.place_of-place.result None;
      };
      looked = record { contents = c.read_into.ensures.read.looked.contents; crash = c.read_into.ensures.read.looked.crash; cause = search rules };
    }

pub returns-clause-filled : goal.returns-clause-filled
returns-clause-filled g c =
    let numbers = c.args.numbers.now.items in
    let place_is = c.place_of-place.ensures.is in
    let new = c.read_into.new.bytes.items in
    let len = c.min-len.result in
    let p = c.args.number % 2053 in
    let from = from_of c.args.ends.now p in
    let torn = subst (λ (k : ℕ). Torn (from_of c.args.ends.now k) len c.args.bytes.now.items new) place_is c.read_into.ensures.read.others in
    record {
      stand = λ x told stand.
          let size = length-contents (g.met.D.Disk.lawful c.args.disk.now) x told in
          let read : take len (drop from new) ≡ take len (drop (start_of c.args.number) x) =
          subst (λ (k : ℕ). take len (drop (from_of c.args.ends.now k) new) ≡ take len (drop (start_of c.args.number) x)) place_is
          (c.in_ok-read_into.ensures.read.read x told ∙ ap (λ (a : ℕ). take len (drop a x)) c.start_of-at.ensures) in
          let page : HasPage x c.args.number new from = filled x new c.args.number from len (omega (arith, size, c.size.ensures, c.start_of-at.ensures, c.most_of.ensures, c.min-len.ensures)) read in
          subst (λ (k : ℕ). Stand (set (set numbers k None) k (Some c.args.number)) c.args.ends.now new x) (sym place_is)
          (subst (λ (l : List (Option ℕ)). Stand l c.args.ends.now new x) (sym (set-set numbers p None (Some c.args.number)))
          (stand_filled numbers c.args.number (torn_elsewhere c.requires.at.laid c.requires.has torn (omega (arith, c.most_of.ensures, c.min-len.ensures)) x) stand
          (record { zeros = λ none. absurd (omega (arith, none, c.requires.has)); has = λ some. page })));
      held =
          subst (λ (k : ℕ). slice_get (set (set numbers c.place_of-place.result None) c.place_of-place.result (Some c.args.number)) k ≡ Some (Some c.args.number)) place_is
          (get-set_at (set numbers c.place_of-place.result None) c.place_of-place.result (Some c.args.number) (omega (arith, length-set numbers c.place_of-place.result None, c.requires.at.place, place_is)));
      kept = record {
        others = λ k other. let differs : k ≡ c.place_of-place.result → ⊥ = λ same. other (same ∙ place_is) in
            get-set_other (set numbers c.place_of-place.result None) c.place_of-place.result k (Some c.args.number) differs
            ∙ get-set_other numbers c.place_of-place.result k None differs;
        places = length-set (set numbers c.place_of-place.result None) c.place_of-place.result (Some c.args.number) ∙ length-set numbers c.place_of-place.result None;
      };
      looked = c.in_ok-read_into.ensures.read.looked;
    }

pub returns-in_err-read_into-clause-at : goal.returns-in_err-read_into-clause-at
returns-in_err-read_into-clause-at g c =
    let numbers = c.args.numbers.now.items in
    let size = length-set numbers c.place_of-place.result None in
    record { place = omega (arith, c.requires.at.place, size); places = c.requires.at.places ∙ sym size; laid = search rules }

pub returns-clause-at : goal.returns-clause-at
returns-clause-at g c =
    let numbers = c.args.numbers.now.items in
    let size = length-set (set numbers c.place_of-place.result None) c.place_of-place.result (Some c.args.number) ∙ length-set numbers c.place_of-place.result None in
    record { place = omega (arith, c.requires.at.place, size); places = c.requires.at.places ∙ sym size; laid = search rules }
