-- Each member has a unit at least, and brings it to the port.
use Rattle.std.proofs.Common.{◌≡◌, Option, Some, None, arith, subst, IfSome}
use Rattle.std.specs.Prelude.{IfNone}
use Rattle.iso_shared.proofs.HandedBack.{many_units}

some_is : {X : Type 0} (P : X → Type 0) (o : Option X) (x : X) → o ≡ Some x → IfSome o P → P x
some_is P o x is has = subst (λ o. IfSome o P) is has

none_is : {X : Type 0} (P : Type 0) (o : Option X) → o ≡ None → IfNone o P → P
none_is P o is has = subst (λ o. IfNone o P) is has

pub returns-in-Ok-clause-units : Rattle.shared_tests.proofs.groups.ended_group.Goals.returns-in-Ok-clause-units
returns-in-Ok-clause-units g c =
    let many = many_units c.args.shared.now _ c.args.group.items c.requires.group.0 in
    omega (arith, many, c.requires.group.1, c.in-Ok.ensures.ok.1)

pub returns-in-Some-clause-units : Rattle.shared_tests.proofs.groups.ended_group.Goals.returns-in-Some-clause-units
returns-in-Some-clause-units g c =
    let many = many_units c.args.shared.now _ c.args.group.items c.requires.group.0 in
    let kept = some_is _ c.in-Err.back c.in-Some.group c.in-Some.is c.in-Err.ensures.kept in
    let again = some_is _ c.in-Err.back c.in-Some.group c.in-Some.is c.in-Err.ensures.again in
    omega (arith, many, c.requires.group.1, kept.1, again.2, c.abort_all.ensures.units)

pub returns-in-None-clause-units : Rattle.shared_tests.proofs.groups.ended_group.Goals.returns-in-None-clause-units
returns-in-None-clause-units g c =
    let many = many_units c.args.shared.now _ c.args.group.items c.requires.group.0 in
    let gone = none_is _ c.in-Err.back c.in-None.is c.in-Err.ensures.gone in
    omega (arith, many, c.requires.group.1, gone.1)
