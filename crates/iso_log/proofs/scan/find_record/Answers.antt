use Rattle.iso_log.proofs.{Handed.{blames_none, blames_record, damaged_not_full}, Words.{◌≡◌, ◌+◌, ◌≤◌, ◌<◌, ℕ, List, length, get_or, arith, ap, rules, sym, ◌∙◌, length-contents, joined_unwritten, Short, record_window, StandAt}, Finds.{first_is, place_is, gate_later, window_later, no_head, no_body, test_before}}
use Rattle.iso_log.proofs.scan.find_record.Goals as goal

pub returns-then-rest-lt-HEAD-clause-damaged : goal.returns-then-rest-lt-HEAD-clause-damaged
returns-then-rest-lt-HEAD-clause-damaged g c at cause is image told =
    let b : List ℕ = c.ask.new.self in
    let stands : StandAt c.args.gate b image = c.ask.ensures.told image told (c.requires.ahead image told) in
    let size = length-contents (g.met.D.Disk.lawful c.args.disk.now) image told in
    let fits : c.args.gate + c.args.rest ≤ length image = omega (arith, size, c.requires.fits) in
    let some : 0 < length b = omega (arith, c.in_ok-ask.ensures.enough, c.min.ensures, c.requires.some) in
    let one : get_or b 0 0 ≡ 1 = ap (λ (l : List ℕ). get_or l 0 0) (sym c.as_slice-bytes.ensures) ∙ c.if-bytes-ne1.false in
    record {
      opens = first_is c.args.gate c.args.rest b image stands c.ask.ensures.within some ∙ one;
      fault = Short 0;
      fails = no_head c.args.gate c.args.rest b image stands c.ask.ensures.within fits c.args.geometry.now c.args.number c.if-rest-lt-HEAD.true;
      place_is = place_is c.args.gate (Short 0) c.damaged.result c.damaged.ensures at cause is;
    }

pub returns-then-from-window-clause-damaged : goal.returns-then-from-window-clause-damaged
returns-then-from-window-clause-damaged g c at cause is image told =
    let b : List ℕ = c.ask.new.self in
    let stands : StandAt c.args.gate b image = c.ask.ensures.told image told (c.requires.ahead image told) in
    let size = length-contents (g.met.D.Disk.lawful c.args.disk.now) image told in
    let fits : c.args.gate + c.args.rest ≤ length image = omega (arith, size, c.requires.fits) in
    let long : 20 ≤ length b = omega (arith, c.in_ok-ask.ensures.enough, c.min.ensures, c.if-rest-lt-HEAD.false) in
    let one : get_or b 0 0 ≡ 1 = ap (λ (l : List ℕ). get_or l 0 0) (sym c.as_slice-bytes.ensures) ∙ c.if-bytes-ne1.false in
    let window : c.record_window-window.result ≡ record_window b = c.record_window-window.ensures ∙ ap record_window c.as_slice-bytes.ensures in
    let short : c.args.rest < record_window b = omega (arith, window, c.if-from-window.true, c.from.ensures) in
    record {
      opens = first_is c.args.gate c.args.rest b image stands c.ask.ensures.within (omega (arith, long)) ∙ one;
      fault = Short 8;
      fails = no_body c.args.gate c.args.rest b image stands c.ask.ensures.within fits c.args.geometry.now c.args.number long short;
      place_is = place_is c.args.gate (Short 8) c.damaged-then-from-window.result c.damaged-then-from-window.ensures at cause is;
    }

pub returns-then-rest-lt-HEAD-clause-test : goal.returns-then-rest-lt-HEAD-clause-test
returns-then-rest-lt-HEAD-clause-test g c at cause is = grind (arith, test_before)

pub returns-then-from-window-clause-test : goal.returns-then-from-window-clause-test
returns-then-from-window-clause-test g c at cause is = grind (arith, test_before)

pub damaged-requires-in-Err : goal.damaged-requires-in-Err
damaged-requires-in-Err g c =
    let whole = g.met.D.Disk.size_fits c.args.disk.now in
    omega (arith, c.in-Err.ensures.inside, c.in_ok-ask-2.ensures.enough, c.ask-2.ensures.within, c.requires.fits, whole)

pub returns-in-Err-clause-test : goal.returns-in-Err-clause-test
returns-in-Err-clause-test g c at cause is = grind (arith, test_before)

pub test_front-requires-clause-opens : goal.test_front-requires-clause-opens
test_front-requires-clause-opens g c = grind (arith, gate_later)

pub test_front-requires-clause-size : goal.test_front-requires-clause-size
test_front-requires-clause-size g c = grind (arith, window_later)

pub returns-in-Ok-clause-first : goal.returns-in-Ok-clause-first
returns-in-Ok-clause-first g c image told =
    let size = length-contents (g.met.D.Disk.lawful c.args.disk.now) image told in
    c.in-Ok.ensures.first c.args.gate c.args.rest image (c.ask-2.ensures.told image (c.ask.ensures.reads.unwritten.same_contents ∙ told) (c.ask.ensures.told image told (c.requires.ahead image told)))
    c.ask-2.ensures.within (omega (arith, size, c.requires.fits))

pub returns-in-Err-clause-damaged : goal.returns-in-Err-clause-damaged
returns-in-Err-clause-damaged g c at cause is image told =
    let size = length-contents (g.met.D.Disk.lawful c.args.disk.now) image told in
    let fails =
    c.in-Err.ensures.opens c.args.gate c.args.rest image (c.ask-2.ensures.told image (c.ask.ensures.reads.unwritten.same_contents ∙ told) (c.ask.ensures.told image told (c.requires.ahead image told)))
    c.ask-2.ensures.within (omega (arith, size, c.requires.fits)) in
    record { opens = fails.0; fault = c.in-Err.fault; fails = fails.1; place_is = place_is c.args.gate c.in-Err.fault c.damaged-in-Err.result c.damaged-in-Err.ensures at cause is }

pub returns-then-bytes-ne1-clause-ahead : goal.returns-then-bytes-ne1-clause-ahead
returns-then-bytes-ne1-clause-ahead g c image told = c.ask.ensures.told image told (c.requires.ahead image told)

pub returns-then-bytes-ne1-clause-within : goal.returns-then-bytes-ne1-clause-within
returns-then-bytes-ne1-clause-within g c = c.ask.ensures.within

pub returns-then-rest-lt-HEAD-clause-ahead : goal.returns-then-rest-lt-HEAD-clause-ahead
returns-then-rest-lt-HEAD-clause-ahead g c image told = c.ask.ensures.told image told (c.requires.ahead image told)

pub returns-then-rest-lt-HEAD-clause-within : goal.returns-then-rest-lt-HEAD-clause-within
returns-then-rest-lt-HEAD-clause-within g c = c.ask.ensures.within

pub returns-then-from-window-clause-ahead : goal.returns-then-from-window-clause-ahead
returns-then-from-window-clause-ahead g c image told = c.ask.ensures.told image told (c.requires.ahead image told)

pub returns-then-from-window-clause-within : goal.returns-then-from-window-clause-within
returns-then-from-window-clause-within g c = c.ask.ensures.within

pub returns-in-Ok-clause-ahead : goal.returns-in-Ok-clause-ahead
returns-in-Ok-clause-ahead g c image told = c.ask-2.ensures.told image (c.ask.ensures.reads.unwritten.same_contents ∙ told) (c.ask.ensures.told image told (c.requires.ahead image told))

pub returns-in-Ok-clause-within : goal.returns-in-Ok-clause-within
returns-in-Ok-clause-within g c = c.ask-2.ensures.within

pub returns-in-Err-clause-ahead : goal.returns-in-Err-clause-ahead
returns-in-Err-clause-ahead g c image told = c.ask-2.ensures.told image (c.ask.ensures.reads.unwritten.same_contents ∙ told) (c.ask.ensures.told image told (c.requires.ahead image told))

pub returns-in-Err-clause-within : goal.returns-in-Err-clause-within
returns-in-Err-clause-within g c = c.ask-2.ensures.within

pub returns-then-bytes-ne1-clause-reads : goal.returns-then-bytes-ne1-clause-reads
returns-then-bytes-ne1-clause-reads g c = record {
  unwritten = c.ask.ensures.reads.unwritten;
  cause = blames_none _ _ _ c.in_ok-ask.ensures.reads.cause.passed;
  not_full = λ need free is. cc;
}

pub returns-then-rest-lt-HEAD-clause-reads : goal.returns-then-rest-lt-HEAD-clause-reads
returns-then-rest-lt-HEAD-clause-reads g c = record {
  unwritten = c.ask.ensures.reads.unwritten;
  cause = blames_record _ _ _ _ _ c.damaged.ensures c.in_ok-ask.ensures.reads.cause.passed;
  not_full = damaged_not_full _ _ _ c.damaged.ensures;
}

pub returns-then-from-window-clause-reads : goal.returns-then-from-window-clause-reads
returns-then-from-window-clause-reads g c = record {
  unwritten = c.ask.ensures.reads.unwritten;
  cause = blames_record _ _ _ _ _ c.damaged-then-from-window.ensures c.in_ok-ask.ensures.reads.cause.passed;
  not_full = damaged_not_full _ _ _ c.damaged-then-from-window.ensures;
}

pub returns-in-Ok-clause-reads : goal.returns-in-Ok-clause-reads
returns-in-Ok-clause-reads g c = record {
  unwritten = joined_unwritten (g.met.D.Disk.lawful c.ask.new.disk) c.ask.ensures.reads.unwritten c.ask-2.ensures.reads.unwritten;
  cause = blames_none _ _ _ (c.in_ok-ask-2.ensures.reads.cause.passed ∙ c.in_ok-ask.ensures.reads.cause.passed);
  not_full = λ need free is. cc;
}

pub returns-in-Err-clause-reads : goal.returns-in-Err-clause-reads
returns-in-Err-clause-reads g c = record {
  unwritten = joined_unwritten (g.met.D.Disk.lawful c.ask.new.disk) c.ask.ensures.reads.unwritten c.ask-2.ensures.reads.unwritten;
  cause = blames_record _ _ _ _ _ c.damaged-in-Err.ensures (c.in_ok-ask-2.ensures.reads.cause.passed ∙ c.in_ok-ask.ensures.reads.cause.passed);
  not_full = damaged_not_full _ _ _ c.damaged-in-Err.ensures;
}

pub returns-in_err-ask-2-clause-reads : goal.returns-in_err-ask-2-clause-reads
returns-in_err-ask-2-clause-reads g c =
    let same = c.in_ok-ask.ensures.reads.cause.passed in
    let second = c.in_err-ask-2.ensures.reads.cause in
    let full = c.in_err-ask-2.ensures.reads.not_full in
    record {
      unwritten = joined_unwritten (g.met.D.Disk.lawful c.ask.new.disk) c.ask.ensures.reads.unwritten c.ask-2.ensures.reads.unwritten;
      cause = search (rules, arith, second, same);
      not_full = search (rules, arith, full);
    }
