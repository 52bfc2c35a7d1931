pub returns-then-upgrade : Rattle.recover_tests.proofs.core_tests.switch.Goals.returns-then-upgrade
returns-then-upgrade c =
    let up = c.requires.up in
    record { lost = λ is. record { world = up.world; stands = c.upgrade.ensures.lost up.world up.stands is } }

pub returns-else-upgrade : Rattle.recover_tests.proofs.core_tests.switch.Goals.returns-else-upgrade
returns-else-upgrade c =
    let up = c.requires.up in
    record { lost = λ is. record { world = up.world; stands = c.compact.ensures.lost up.world up.stands is } }
