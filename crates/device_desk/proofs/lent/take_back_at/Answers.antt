use Rattle.std.proofs.Math.Seq.{map-set_same}
use Rattle.iso_core.specs.Planned.{reply_in}

pub returns-clause-replies : Rattle.device_desk.proofs.lent.take_back_at.Goals.returns-clause-replies
returns-clause-replies c = map-set_same reply_in c.args.ends.now c.args.count c.take_back.new.place c.index-ends-count.result c.take_back.ensures.reply
