use Rattle.mirror_disk.proofs.Stands.{first_behind, second_behind}
use Rattle.mirror_disk.proofs.mirror.Mirror.sides.Goals as goal

pub returns-in-Plain-clause-first_leads : goal.returns-in-Plain-clause-first_leads
returns-in-Plain-clause-first_leads g c is =
    let stands = c.args.self.now.stands in
    second_behind (g.met.A.Disk.lawful c.args.self.now.first) (g.met.B.Disk.lawful c.args.self.now.second) (stands.pair ((λ plain. cc (plain, is)), (λ unbound. cc (unbound, is)))) (stands.first is)

pub returns-in-OnlySecond-clause-second_leads : goal.returns-in-OnlySecond-clause-second_leads
returns-in-OnlySecond-clause-second_leads g c is y x now_y now_x =
    let stands = c.args.self.now.stands in
    first_behind (g.met.A.Disk.lawful c.args.self.now.first) (g.met.B.Disk.lawful c.args.self.now.second) (stands.pair ((λ plain. cc (plain, is)), (λ unbound. cc (unbound, is)))) (stands.second is) x y now_x now_y
