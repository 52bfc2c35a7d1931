use Rattle.accounts.proofs.{Words.{◌≡◌, ◌∙◌, ◌+◌, ◌≤◌, ◌++◌, ◌∷◌, [], None, ap, arith, length, List, Option, subst, sym, ℕ, length-append, Gives, opening_of}, Giving.{gives_at_most, gives_more}}
use Rattle.iso_shared.specs.declared.tx.Tx.{Tx}
use Rattle.accounts.proofs.threads.give_all.Goals as goal

pub give-member-requires : goal.give-member-requires
give-member-requires g c =
    let left = c.loop-transfer.invariant.given.left in
    let most = c.requires.few in
    let some = c.requires.session.1 in
    let at = c.loop-transfer-test.true in
    record { session = (c.loop-transfer.invariant.given.session, omega (arith, left, most, some, at), c.requires.session.2) }

pub loop-transfer-preserved : goal.loop-transfer-preserved
loop-transfer-preserved g c =
    let A = g.O.Origin.start in
    let accounts = opening_of c.args.accounts.now in
    let at = c.loop-transfer in
    let xs : List (Option (Tx g.row.D.Denot g.row.O.Denot)) = at.members.items in
    let m = c.give-member.result in
    let items = c.push_reserved.ensures.items in
    record {
      count = ap length items ∙ length-append xs (m ∷ []) ∙ ap (λ (n : ℕ). n + 1) at.invariant.count;
      room = subst (λ (n : ℕ). length c.args.transfers.now ≤ n) (sym c.push_reserved.ensures.capacity) at.invariant.room;
      given = subst (λ (ys : List (Option (Tx g.row.D.Denot g.row.O.Denot))). Gives accounts A (at.transfer-index + 1) c.args.session.now c.give-member.new.session ys None) (sym items)
          (gives_more accounts A at.transfer-index c.args.session.now at.session c.give-member.new.session xs m at.invariant.given c.give-member.ensures.given);
    }

pub returns-clause-given : goal.returns-clause-given
returns-clause-given g c =
    let at = c.loop-transfer in
    let most = c.requires.few in
    let end = at.auto.transfer-index-end in
    gives_at_most (opening_of c.args.accounts.now) g.O.Origin.start at.transfer-index Rattle.iso_core.specs.declared.group_end.TheConstants.MAX_GROUP c.args.session.now at.session at.members.items None (omega (arith, most, end)) at.invariant.given
