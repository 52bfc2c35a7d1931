use Rattle.iso_core.proofs.Words.{sym, subst, ℕ, AllHold, opened_world}

pub returns-clause-stands : Rattle.iso_core.proofs.core_itself.Core.over.Goals.returns-clause-stands
returns-clause-stands g c H is size images = record {
  kept_of = c.keep.ensures.kept H is;
  is_down = c.keep.ensures.up;
  size = size;
  images = subst (λ (n : ℕ). AllHold (g.D.Disk.state c.args.disk) n (opened_world H c.args.opened)) (sym c.keep.ensures.half) images;
}
