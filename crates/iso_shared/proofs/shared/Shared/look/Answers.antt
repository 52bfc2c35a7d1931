use Rattle.iso_shared.proofs.{Words.{arith, view, [], ◌∷◌, ◌++◌, ◌≡◌, ℕ, Option, Some, None, ap, rules, sym, ◌∙◌, bytes_eq, option_map, lookup, Checked, held_first, prefix_self, View, Entry, Posted, posting_in, state_at}, Begins.ahead_first, Giving.lends, Mades.{ahead_on, held_same, one_more, own_on}, Racked.{found_own, stands_look}}
use Rattle.std.proofs.lemmas.Grind.{common_steps}
use Rattle.iso_shared.specs.declared.entry.Entry.TheVariants as entry

pub give-requires : Rattle.iso_shared.proofs.shared.Shared.look.Goals.give-requires
give-requires g c = record {
  lock = search rules;
  turn = search rules;
  value = (
      stands_look (lends c.take-turn.ensures c.value-guarded.ensures.value) _ c.args.label.now c.look-found.result c.look-found.ensures.item c.look-found.ensures.rest);
  held = first_of (search rules, grind (arith, common_steps));
}

pub returns-in-Some-clause-tx : Rattle.iso_shared.proofs.shared.Shared.look.Goals.returns-in-Some-clause-tx
returns-in-Some-clause-tx g c =
    let A = g.O.Origin.start in
    let es = (view c.take-turn.new.pass).seen in
    let p = c.in-Some.field-0 in
    let work = p.work in
    let test = bytes_eq c.args.label.now in
    let f = found_own g.D.Disk.state A _ _ es test p c.take-turn.ensures.value (sym (ap (λ v. lookup test v.rack) c.value-guarded.ensures.value) ∙ sym c.look-found.ensures.item ∙ c.in-Some.is) in
    let given = c.split-pass.ensures.given in
    let last : (view c.give.new.pass).seen ≡ es ++ entry.Look c.args.label.now (Some (posting_in p)) ∷ [] = c.give.ensures.seen ∙ ap (λ (o : Option Posted). es ++ entry.Look c.args.label.now (option_map posting_in o) ∷ []) c.in-Some.is in
    let seen : (view c.split-pass.result).seen ≡ es ++ entry.Look c.args.label.now (Some (posting_in p)) ∷ [] = ap (λ (v : View Entry). v.seen) given ∙ last in
    let begins = one_more (view c.take-turn.new.pass) (view c.take-turn.new.pass) (view c.split-pass.result) _ (prefix_self es) seen in
    let checked : Checked = record { upto = c.begun_at-upto.result; clash = None } in (
      (
        search rules,
        record {
          held = held_same p.number _ _ (ap (λ (v : View Entry). v.holds) given) (held_first p.number []);
          on = f.on;
          own = own_on A es _ p.number work begins f.own;
          ahead = ahead_on A es _ work checked begins (ahead_first (state_at A es) work checked f.first f.within (ap (λ (k : ℕ). record { upto = k; clash = None }) c.begun_at-upto.ensures));
        },
      ),
      search rules,
      search rules,
      search rules,
    )

pub returns-in-Some-clause-checked : Rattle.iso_shared.proofs.shared.Shared.look.Goals.returns-in-Some-clause-checked
returns-in-Some-clause-checked g c = ap (λ (k : ℕ). let x : Checked = record { upto = k; clash = None } in x) c.begun_at-upto.ensures
