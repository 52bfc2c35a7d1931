pub returns-clause-isolated : Rattle.iso_shared.proofs.shared.Shared.close.Goals.returns-clause-isolated
returns-clause-isolated g c = c.close-core.ensures.value.core.world.kept_of.world.isolated
