use Rattle.committer.proofs.{DeskWords.{rules}, Keeps.{opens}}
use Rattle.committer.proofs.desk.Desk.new.Goals as goal

pub load-requires : goal.load-requires
load-requires g c = (search rules, search rules, opens g.P.Protocol.allows g.P.Protocol.answers _ _ _ (search rules))
