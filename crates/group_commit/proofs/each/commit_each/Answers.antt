use Rattle.group_commit.proofs.{Words.{ap, arith, length, subst, sym, AreTxs}, Grouping.{found_are, found_few}}
use Rattle.group_commit.proofs.each.commit_each.Goals as goal

pub end_told-requires-clause-group : goal.end_told-requires-clause-group
end_told-requires-clause-group g c =
    subst (AreTxs c.args.shared.now g.O.Origin.start) (sym c.gather.ensures.group) (found_are c.args.shared.now g.O.Origin.start c.args.members.items c.requires.members)

pub end_told-requires-clause-most : goal.end_told-requires-clause-most
end_told-requires-clause-most g c =
    let same = ap length c.gather.ensures.group in
    let few = found_few c.args.members.items in
    let most = c.requires.most in
    omega (arith, same, few, most)

pub end_told-requires-clause-room : goal.end_told-requires-clause-room
end_told-requires-clause-room g c =
    let same = ap length c.gather.ensures.group in
    let few = found_few c.args.members.items in
    let size = c.in-Ok.told.ok.0 in
    let none = ap length c.in-Ok.ensures.0 in
    let room = c.in-Ok.ensures.1 in
    let all = c.len-count.ensures in
    omega (arith, same, few, size, none, room, all)
