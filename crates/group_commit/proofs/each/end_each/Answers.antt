use Rattle.group_commit.proofs.{Words.{◌≡◌, ◌∙◌, ◌++◌, List, GroupReply, ap, arith, length, subst, sym, port_view, ArePaired, answered, members_in}, EachTold.{all_told, units_least}}
use Rattle.group_commit.specs.{declared.each.Ended.Ended, Each.{IsDealt, IsEndedIn}}
use Rattle.group_commit.proofs.each.end_each.Goals as goal

pub deal_replies-requires-clause-units : goal.deal_replies-requires-clause-units
deal_replies-requires-clause-units g c =
    let ok = c.in-Ok.ensures.ok in
    let some = c.requires.port.2 in
    let least = units_least c.args.shared.now g.O.Origin.start c.args.group.items c.requires.group in
    omega (arith, ap length c.as_slice.ensures, ok.0, ok.1, some, least)

pub returns-in-Ok-clause-ok : goal.returns-in-Ok-clause-ok
returns-in-Ok-clause-ok g c =
    let A = g.O.Origin.start in
    let shared = c.args.shared.now in
    let group = c.args.group.items in
    let ok = c.in-Ok.ensures.ok in
    let made = ok.2 in
    let seen = (port_view c.end_group.new.port).seen in
    let dealt = c.deal_replies.ensures.told in
    let items : c.deal_replies.new.told.items ≡ dealt.0 = dealt.1 ∙ ap (λ (l : List (Ended _ _)). l ++ dealt.0) c.requires.empty in (
      subst (λ (l : List (Ended _ _)). ArePaired (IsEndedIn shared A) group l) (sym items)
          (all_told shared A made.before seen (answered (members_in group) c.in-Ok.replies) made.seen made.legal group c.in-Ok.replies dealt.0 made.begins ok.0 (λ n accesses r is. is)
          (subst (λ (rs : List GroupReply). ArePaired (IsDealt shared seen) rs dealt.0) c.as_slice.ensures dealt.2)),
      omega (arith, ap length c.as_slice.ensures, ok.0, ok.1, c.deal_replies.ensures.units),
    )
