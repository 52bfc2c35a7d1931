use Rattle.iso_format.proofs.{Words.{arith}, PartLaws.has_parts, RecordLaws.{no_fault, window_fits}}
use Rattle.iso_format.proofs.record_view.view_record.Goals as goal

pub u64_at-requires : goal.u64_at-requires
u64_at-requires c = grind (arith, window_fits)

pub bounds-input-1 : goal.bounds-input-1
bounds-input-1 c = grind (arith, window_fits)

pub u32_at-requires : goal.u32_at-requires
u32_at-requires c = grind (arith, window_fits)

pub body_of-requires : goal.body_of-requires
body_of-requires c = window_fits c.requires.0 c.requires.1 c.args.input.now c.requires.2

pub invariant_of-result : goal.invariant_of-result
invariant_of-result c = grind (arith, has_parts, no_fault)

pub returns-clause-values : goal.returns-clause-values
returns-clause-values c i = omega (arith, c.type_inv.input i)
