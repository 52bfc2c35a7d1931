use Rattle.tx_table.proofs.{Words.{◌∙◌, ap, sym, drop, ℕ, List, map, floor_of, Begun, at_work}, Begins.floor_first, Behind.{begin_behind, first_behind}}

pub returns : Rattle.tx_table.proofs.live.Live.floor.Goals.returns
returns c =
    let entries : List (ℕ × Begun) = c.self.inside.begins.entries in
    floor_first c.args.last (c.in-Some.field-0-0.now, c.in-Some.begun.now) (drop c.self.inside.past entries)
    (c.in-Some.ensures.entry ∙ sym (first_behind c.self.inside.past entries)) (begin_behind 0 c.self.inside.past entries c.self.invariant.1.begin)
    ∙ ap (λ (l : List (ℕ × Begun)). floor_of c.args.last (map at_work l)) c.self.view_is
