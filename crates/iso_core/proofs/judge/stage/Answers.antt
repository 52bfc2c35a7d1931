use Rattle.iso_core.proofs.{Words.{◌∙◌, sym, subst, ap, ℕ, ◌+◌, List, [], ◌∷◌, ◌++◌, append-nil, arith, Commit, IsAhead, Note, PartSpan}, Decides.touched_by, Commits.numbers_from, Judging.{ahead_by, commits_then, last_ahead, makes_none, number_ahead, staged_more}}
use Rattle.iso_core.proofs.judge.stage.Goals as goal

pub returns-then-not-commits-clause-ahead : goal.returns-then-not-commits-clause-ahead
returns-then-not-commits-clause-ahead c m =
    let none = makes_none m.t c.args.reply.now (sym c.commits.ensures ∙ c.if-not-commits.true) in
    subst (λ (l : List Commit). IsAhead m.world l c.args.plan.now) (sym (ap (λ (l : List Commit). m.more ++ l) none ∙ append-nil m.more)) m.is

pub overflow_add-number : goal.overflow_add-number
overflow_add-number c = grind (arith, number_ahead)

pub overflow_add-number-2 : goal.overflow_add-number-2
overflow_add-number-2 c = grind (arith, number_ahead)

pub take_writes-writes-requires : goal.take_writes-writes-requires
take_writes-writes-requires c = grind arith

pub add-requires-clause-number : goal.add-requires-clause-number
add-requires-clause-number c = grind (arith, number_ahead, last_ahead, numbers_from)

pub returns-clause-ahead : goal.returns-clause-ahead
returns-clause-ahead c m =
    let commits = sym c.commits.ensures ∙ c.if-not-commits.false in
    let next = commits_then c.args.reply.now _ commits m.next in
    let all = number_ahead c.args.kept.now m.world m.more c.args.plan.now m.of m.is c.last.result c.len.result c.last.ensures (c.len.ensures ∙ c.args.plan.now.staged.ok.0) in
    ahead_by m.world m.more m.t c.args.reply.now _ commits
    (staged_more c.args.kept.now m.world m.more c.args.plan.now m.of m.is m.tx m.t next _ _ _ _
    (c.in_ok-push_bytes.ensures ∙ ap (λ (l : List ℕ). c.args.plan.now.bytes.items ++ l) c.records_in.ensures)
    c.in_ok-push_staged.ensures
    (c.add.ensures ∙ ap (λ (l : List Note). l ++ (c.last.result + c.len.result + 1, c.take_writes-writes.result) ∷ []) c.reserve.ensures.same)
    (ap (λ (n : ℕ). n + 1) all)
    (c.len-at.ensures ∙ c.args.plan.now.bytes.ok.0)
    (c.len-2.ensures ∙ c.args.kept.now.parts.ok.0)
    (c.in_ok-push_parts.ensures ∙ ap (λ (l : List PartSpan). c.args.plan.now.parts.items ++ l) c.as_slice.ensures.value)
    (touched_by m.world m.t c.args.work.now m.settled.is_work c.take_writes-writes.result c.take_writes-writes.ensures.touched))
