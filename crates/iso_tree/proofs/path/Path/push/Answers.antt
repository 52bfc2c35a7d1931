use Rattle.iso_tree.proofs.Words.{length, ap, arith, length-drop}

pub overflow_sub-self : Rattle.iso_tree.proofs.path.Path.push.Goals.overflow_sub-self
overflow_sub-self c = omega (arith, length-drop c.self.inside.first c.self.inside.passed, ap length c.self.view_is, c.requires, c.self.inside.inside, c.self.inside.whole)
