use Rattle.iso_tree.proofs.Growing.{ends_at}

pub returns : Rattle.iso_tree.proofs.first.ends.Goals.returns
returns c = ends_at c.args.news.now c.requires
