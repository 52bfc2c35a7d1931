use Rattle.iso_memdisk.proofs.{Words.{◌+◌, ℕ, sym, subst, arith}, Steps.{IsStable, stable_sync, stable_write, no_sync_left}, record.stable_calls.Goals.{in-Sync, in_default}}

pub loop-i-preserved : Rattle.iso_memdisk.proofs.record.stable_calls.Goals.loop-i-preserved
loop-i-preserved c =
    let calls = c.args.calls.now in
    let i = c.loop-i.i in
    let step = λ (stable : ℕ). IsStable calls (i + 1) stable in
    elim c.match-call.branch [
      | in-Sync w ↦ subst step (sym w.stable-is) (stable_sync calls i c.index-calls-i.result (omega arith) c.index-calls-i.is c.loop-i.stable w.in-Sync.is c.loop-i.invariant)
      | in_default w ↦ subst step (sym w.stable-is) (stable_write calls i c.index-calls-i.result (omega arith) c.index-calls-i.is c.loop-i.stable w.in_default.field-0 w.in_default.field-1 w.in_default.is c.loop-i.invariant)
    ]

pub returns-clause-pending : Rattle.iso_memdisk.proofs.record.stable_calls.Goals.returns-clause-pending
returns-clause-pending c = no_sync_left c.args.calls.now c.loop-i.i c.loop-i.stable c.loop-i.invariant (omega arith)
