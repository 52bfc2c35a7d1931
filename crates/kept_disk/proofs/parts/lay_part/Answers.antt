use Rattle.kept_disk.proofs.{Words.{◌≡◌, ◌<◌, ◌+◌, ◌-◌, ◌%◌, ℕ, List, get_or, sym, subst, arith, spliced, IsHeld, Stand, from_of, page_at, start_of}, Paging.from_start, Standing.{stand_apart, stand_put}}

pub put-requires-clause-part : Rattle.kept_disk.proofs.parts.lay_part.Goals.put-requires-clause-part
put-requires-clause-part c = record {
  held = subst (λ (k : ℕ). IsHeld c.give_bytes.new.self.numbers.items k) c.page_at-number.ensures (subst (λ v. IsHeld v.items c.page_at-number.result) (sym c.give_bytes.ensures.numbers) (c.holds.ensures.0 c.if-holds.true));
  inside = c.requires;
}

pub returns-then-holds : Rattle.kept_disk.proofs.parts.lay_part.Goals.returns-then-holds
returns-then-holds c l fits stand =
    let q = page_at c.args.at in
    let from = c.args.at - start_of q in
    let is : start_of q + from ≡ c.args.at = omega (arith, from_start c.args.at) in
    let pages = c.give_bytes.new.self in
    let held = subst (λ (k : ℕ). IsHeld pages.numbers.items k) c.page_at-number.ensures (subst (λ v. IsHeld v.items c.page_at-number.result) (sym c.give_bytes.ensures.numbers) (c.holds.ensures.0 c.if-holds.true)) in
    let has = subst (λ (k : ℕ). 0 < get_or pages.ends.items (k % 2053) 0) c.page_at-number.ensures c.give_bytes.ensures.has in
    let put = stand_put pages.numbers.items pages.ends.items pages.bytes.items l q from c.args.bytes.now (omega (arith, c.requires, is)) (omega (arith, fits, is)) (c.give_bytes.ensures.stand l stand) pages.laid has held in
    let laid = subst (λ (a : ℕ). Stand pages.numbers.items pages.ends.items (spliced pages.bytes.items (from_of pages.ends.items (q % 2053) + from) c.args.bytes.now) (spliced l a c.args.bytes.now)) is put in
    subst (λ (b : List ℕ). Stand c.put.new.self.numbers.items c.put.new.self.ends.items b (spliced l c.args.at c.args.bytes.now)) (sym c.put.ensures.bytes)
    (subst (λ v. Stand c.put.new.self.numbers.items v.items (spliced pages.bytes.items (from_of pages.ends.items (q % 2053) + from) c.args.bytes.now) (spliced l c.args.at c.args.bytes.now)) (sym c.put.ensures.ends)
    (λ n there. laid n (subst (λ v. IsHeld v.items n) c.put.ensures.numbers there)))

pub returns-else-holds : Rattle.kept_disk.proofs.parts.lay_part.Goals.returns-else-holds
returns-else-holds c l fits stand =
    let q = page_at c.args.at in
    let from = c.args.at - start_of q in
    let is : start_of q + from ≡ c.args.at = omega (arith, from_start c.args.at) in
    let pages = c.args.pages.now in
    subst (λ (a : ℕ). Stand pages.numbers.items pages.ends.items pages.bytes.items (spliced l a c.args.bytes.now)) is
    (stand_apart pages.numbers.items pages.ends.items pages.bytes.items l q from c.args.bytes.now (omega (arith, c.requires, is)) (omega (arith, fits, is)) stand (λ held. let yes = c.holds.ensures.1 (subst (λ (k : ℕ). IsHeld pages.numbers.items k) (sym c.page_at-number.ensures) held) in cc (yes, c.if-holds.false)))

pub returns-then-has_place : Rattle.kept_disk.proofs.parts.lay_part.Goals.returns-then-has_place
returns-then-has_place c l fits stand =
    let number = c.page_at-number.result in
    let pages = c.hold_written.new.self in
    let same : start_of number ≡ c.args.at = omega (arith, c.page_at-number.ensures, from_start c.args.at, c.requires) in
    subst (λ (a : ℕ). Stand pages.numbers.items pages.ends.items pages.bytes.items (spliced l a c.args.bytes.now)) same (c.hold_written.ensures l (omega (arith, fits, same)) stand)
