-- The bytes that are tested are the front of those that were read.
use Rattle.iso_log.proofs.{Words.{◌≡◌, take, arith, ap, sym, ◌∙◌, fault_of}, Finds.{fault_inside, first_is, found_record, says_same}}

pub returns-in-Ok-clause-found : Rattle.iso_log.proofs.scan.test_front.Goals.returns-in-Ok-clause-found
returns-in-Ok-clause-found c = grind (arith, found_record)

pub returns-in-Ok-clause-first : Rattle.iso_log.proofs.scan.test_front.Goals.returns-in-Ok-clause-first
returns-in-Ok-clause-first c gate rest image stands within fits =
    let cut : c.split_at.result.0.now ≡ take c.args.size c.args.ahead.now = c.split_at.ensures.front ∙ ap (take c.args.size) c.as_slice.ensures in
    record {
      opens = first_is gate rest c.args.ahead.now image stands within (omega (arith, c.requires.head)) ∙ c.requires.opens;
      passes =
          sym (says_same gate rest c.args.ahead.now image stands within c.args.geometry.now c.args.number c.args.size fits c.requires.enough (omega (arith, c.requires.head)) c.requires.size)
          ∙ ap (fault_of c.args.geometry.now c.args.number) (sym cut) ∙ c.in-Ok.ensures.exact.0;
    }

pub returns-in-Err-clause-opens : Rattle.iso_log.proofs.scan.test_front.Goals.returns-in-Err-clause-opens
returns-in-Err-clause-opens c gate rest image stands within fits =
    let cut : c.split_at.result.0.now ≡ take c.args.size c.args.ahead.now = c.split_at.ensures.front ∙ ap (take c.args.size) c.as_slice.ensures in (
      first_is gate rest c.args.ahead.now image stands within (omega (arith, c.requires.head)) ∙ c.requires.opens,
      sym (says_same gate rest c.args.ahead.now image stands within c.args.geometry.now c.args.number c.args.size fits c.requires.enough (omega (arith, c.requires.head)) c.requires.size)
          ∙ ap (fault_of c.args.geometry.now c.args.number) (sym cut) ∙ c.in-Err.ensures.fault,
    )

pub returns-in-Err-clause-inside : Rattle.iso_log.proofs.scan.test_front.Goals.returns-in-Err-clause-inside
returns-in-Err-clause-inside c = grind (arith, fault_inside)
