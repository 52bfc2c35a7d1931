use Rattle.kept_disk.proofs.{Words.{rules, ◌≡◌, ◌<◌, ◌+◌, ◌-◌, ◌%◌, ℕ, inl, inr, length, take, drop, ◌∙◌, ap, subst, arith, cases_eq, get_or, length-contents, IsHeld, from_of, page_at, start_of}, Paging.from_start, Standing.{taken, taken_zeros}}
use Rattle.kept_disk.proofs.parts.read_part.Goals as goal

pub returns-clause-read : goal.returns-clause-read
returns-clause-read g c = record {
  bytes = λ l told.
      let q = page_at c.args.at in
      let from = c.args.at - start_of q in
      let is : start_of q + from ≡ c.args.at = omega (arith, from_start c.args.at) in
      let size = length-contents (g.met.D.Disk.lawful c.args.disk.now) l told in
      let pages = c.hold.new.self in
      let len = length c.args.into.now in
      let stands = c.hold.ensures.filled.stand l told (c.requires.over.stand l told) q (subst (λ (k : ℕ). IsHeld pages.numbers.items k) c.page_at-number.ensures c.in_ok-hold.ensures.filled.held) in
      elim (cases_eq (get_or pages.ends.items (q % 2053) 0) 0) [
        | inl none ↦ c.copy_out.ensures.zeros none ∙ taken_zeros l q from len (omega (arith, c.requires.part.inside, is)) (omega (arith, size, c.requires.over.fits, is)) (stands.zeros none)
        | inr some ↦
            let has : 0 < get_or pages.ends.items (q % 2053) 0 = omega (arith, some) in
            c.copy_out.ensures.bytes has
            ∙ taken l pages.bytes.items q (from_of pages.ends.items (q % 2053)) from len (omega (arith, c.requires.part.inside, is)) (omega (arith, size, c.requires.over.fits, is)) (stands.has has)
      ]
      ∙ ap (λ (a : ℕ). take len (drop a l)) is;
  looked = c.in_ok-hold.ensures.filled.looked;
  stand = λ x told. c.hold.ensures.filled.stand x told (c.requires.over.stand x told);
}

pub returns-in_err-hold-clause-read : goal.returns-in_err-hold-clause-read
returns-in_err-hold-clause-read g c = record {
  bytes = search rules;
  looked = record { contents = c.hold.ensures.filled.looked.contents; crash = c.hold.ensures.filled.looked.crash; cause = search rules };
  stand = λ x told. c.hold.ensures.filled.stand x told (c.requires.over.stand x told);
}
