use Rattle.std.proofs.Common.{rules}
use Rattle.par_lines.proofs.{Words.{◌≡◌, ◌++◌, [], append-nil, ap, eq-eqb, refl, length-set, lines_of, ne_eqb, reverse, slice_get, subst, sym, ◌∙◌}, Dealing.{after_set, each_some, own_more, own_same, some_at, some_too}}
use Rattle.par_lines.proofs.deal.by_client.Goals as goal

pub loop-line-init : goal.loop-line-init
loop-line-init c = record {
  all = c.in_ok-lists.ensures.all;
  own = λ client. some_too (λ own. own.items ≡ []) (λ own. lines_of client c.args.lines.items ≡ lines_of client c.args.lines.items ++ reverse own.items) (slice_get c.in_ok-lists.lists.items client)
      (λ own is. sym (append-nil (lines_of client c.args.lines.items)) ∙ ap (λ v. lines_of client c.args.lines.items ++ reverse v) (sym is)) (each_some (λ own. own.items ≡ []) c.in_ok-lists.lists.items c.in_ok-lists.ensures.empty client);
}

pub loop-line-preserved : goal.loop-line-preserved
loop-line-preserved c =
    let lists = c.loop-line.lists.items in
    let line = c.in-Some.line in
    record {
      all = length-set lists line.1.client c.add_line.new.own ∙ c.loop-line.invariant.all;
      own = after_set (λ client own. lines_of client c.args.lines.items ≡ lines_of client c.pop.new.self.items ++ reverse own.items) lists line.1.client c.add_line.new.own (λ lt. own_more c.args.lines.items c.loop-line.lines.items c.pop.new.self.items c.index_mut.result.now.items line c.in-Some.ensures.items line.1.client
          (subst (λ own. lines_of line.1.client c.args.lines.items ≡ lines_of line.1.client c.loop-line.lines.items ++ reverse own.items) (sym c.index_mut.ensures.value) (some_at (λ own. lines_of line.1.client c.args.lines.items ≡ lines_of line.1.client c.loop-line.lines.items ++ reverse own.items) lists line.1.client c.index_mut.result.now lt (c.loop-line.invariant.own line.1.client))) (eq-eqb line.1.client line.1.client refl) ∙ ap (λ v. lines_of line.1.client c.pop.new.self.items ++ reverse v) (sym c.in_ok-add_line.ensures.added))
          (λ client apart. some_too (λ own. lines_of client c.args.lines.items ≡ lines_of client c.loop-line.lines.items ++ reverse own.items) (λ own. lines_of client c.args.lines.items ≡ lines_of client c.pop.new.self.items ++ reverse own.items) (slice_get lists client)
          (λ own was. own_same c.args.lines.items c.loop-line.lines.items c.pop.new.self.items own.items line c.in-Some.ensures.items client was (ne_eqb line.1.client client (λ e. apart (sym e)))) (c.loop-line.invariant.own client));
    }

pub returns-clause-own : goal.returns-clause-own
returns-clause-own c client =
    let none : c.loop-line.lines.items ≡ [] = search rules in
    some_too (λ own. lines_of client c.args.lines.items ≡ lines_of client c.loop-line.lines.items ++ reverse own.items) (λ own. reverse own.items ≡ lines_of client c.args.lines.items) (slice_get c.loop-line.lists.items client)
    (λ own was. sym (was ∙ ap (λ v. lines_of client v ++ reverse own.items) none)) (c.loop-line.invariant.own client)
