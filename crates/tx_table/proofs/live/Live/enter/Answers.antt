-- A number above all others goes last.
use Rattle.tx_table.proofs.{Words.{◌∙◌, ◌++◌, ◌∷◌, [], ap, sym, arith, drop, drop-append-le, nat_eq, subst, List, ℕ, AreBefore, Begun, BeginFrom, RisesFrom, insert_entry-new, length, length-append, length-drop}, Begins.{begin_push, none_before, rises_push}, Behind.{before_all, within}}
use Rattle.tx_table.proofs.live.Live.enter.Goals as goal

pub invariant_of-self-2 : goal.invariant_of-self-2
invariant_of-self-2 c =
    let begun : Begun = record { at = c.args.at; mode = c.args.mode } in
    let entries : List (ℕ × Begun) = c.self.inside.begins.entries in
    let order = c.self.invariant.1 in
    let before = before_all c.args.tx c.args.at 0 0 c.self.inside.past entries order.some order.rise order.begin (subst (AreBefore c.args.tx c.args.at) (sym c.self.view_is) c.requires) in
    let more = c.in-Ok.ensures.entries ∙ insert_entry-new nat_eq c.self.inside.begins c.args.tx begun (none_before c.args.tx c.args.at entries before) in
    let count = ap (length {A = ℕ × Begun}) more ∙ length-append entries ((c.args.tx, begun) ∷ []) in (
      omega (arith, count, length-drop c.self.inside.past c.insert.new.self.entries, c.len.ensures.len, c.if-len-self-ge-MAX_LIVE.false),
      record {
        some = λ low. omega (arith, count, order.some low);
        rise = subst (RisesFrom 0) (sym more) (rises_push 0 c.args.tx begun entries (omega arith) order.rise before);
        begin = subst (BeginFrom 0) (sym more) (begin_push 0 c.args.tx begun entries (omega arith) order.begin before);
      },
    )

pub returns-clause-ok : goal.returns-clause-ok
returns-clause-ok c =
    let begun : Begun = record { at = c.args.at; mode = c.args.mode } in
    let entries : List (ℕ × Begun) = c.self.inside.begins.entries in
    let order = c.self.invariant.1 in
    let before = before_all c.args.tx c.args.at 0 0 c.self.inside.past entries order.some order.rise order.begin (subst (AreBefore c.args.tx c.args.at) (sym c.self.view_is) c.requires) in
    ap (drop {A = ℕ × Begun} c.self.inside.past) (c.in-Ok.ensures.entries ∙ insert_entry-new nat_eq c.self.inside.begins c.args.tx begun (none_before c.args.tx c.args.at entries before))
    ∙ drop-append-le c.self.inside.past entries ((c.args.tx, begun) ∷ []) (within c.self.inside.past (length entries) order.some)
    ∙ ap (λ (l : List (ℕ × Begun)). l ++ (c.args.tx, begun) ∷ []) c.self.view_is
