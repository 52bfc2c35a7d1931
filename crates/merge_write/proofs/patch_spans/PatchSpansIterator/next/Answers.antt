-- The piece that comes next is the first of the maximal runs that are left.
use Rattle.merge_write.proofs.{Words.{rules, ◌≡◌, ◌∙◌, sym, ◌<◌, true, false, inl, inr, arith, length, cases_lt, is_set}, Pieces.{none_left, next_piece}}

pub returns-then-from-end-clause-steps : Rattle.merge_write.proofs.patch_spans.PatchSpansIterator.next.Goals.returns-then-from-end-clause-steps
returns-then-from-end-clause-steps c = search (rules, arith, none_left)

pub returns-clause-steps : Rattle.merge_write.proofs.patch_spans.PatchSpansIterator.next.Goals.returns-clause-steps
returns-clause-steps c =
    let inside : c.next_place-from.result < length c.self.inside.bytes.now = omega arith in
    let starts : is_set c.self.inside.masks.now c.next_place-from.result ≡ true = c.next_place-from.ensures.stops inside in
    let some : c.next_place-from.result < c.next_place-to.result = elim (cases_lt c.next_place-from.result c.next_place-to.result) [
      | inl lt ↦ lt
      | inr le ↦
          (let same : c.next_place-to.result ≡ c.next_place-from.result = omega arith in
          let stops : is_set c.self.inside.masks.now c.next_place-to.result ≡ false = c.next_place-to.ensures.stops (omega arith) in
          absurd (cc))
    ] in
    sym c.self.view_is
    ∙ next_piece c.self.inside.at c.next_place-from.result c.next_place-to.result c.self.inside.masks.now c.self.inside.bytes.now
    c.next_place-from.ensures.from some c.next_place-to.ensures.within c.next_place-from.ensures.passed c.next_place-to.ensures.passed c.next_place-to.ensures.stops

pub returns-clause-goes : Rattle.merge_write.proofs.patch_spans.PatchSpansIterator.next.Goals.returns-clause-goes
returns-clause-goes c = search (rules, arith, returns-clause-steps)
