use Rattle.iso_recover.proofs.{Words.{ℕ, ◌∙◌, subst, IsShaped}, Fronts.{err_weaker, ok_weaker}}

pub returns-clause-told : Rattle.iso_recover.proofs.front.read_front.Goals.returns-clause-told
returns-clause-told g c = ok_weaker c.find_front.result (λ f has image told. has image (c.sync.ensures.contents ∙ told)) c.find_front.ensures.told

pub returns-clause-shape : Rattle.iso_recover.proofs.front.read_front.Goals.returns-clause-shape
returns-clause-shape g c = err_weaker c.find_front.result (λ e shape. subst (λ (n : ℕ). IsShaped n e) c.sync.ensures.crash.same_size shape) c.find_front.ensures.shape
