pub returns-clause-tape : Rattle.device_desk.proofs.taped.hand_on.Goals.returns-clause-tape
returns-clause-tape c = c.rebind.ensures.did.0

pub returns-clause-handed : Rattle.device_desk.proofs.taped.hand_on.Goals.returns-clause-handed
returns-clause-handed c = c.rebind.ensures.did.1

pub returns-clause-given : Rattle.device_desk.proofs.taped.hand_on.Goals.returns-clause-given
returns-clause-given c = c.rebind.ensures.did.2
