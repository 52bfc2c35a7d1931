use Rattle.iso_format.proofs.{Words.{◌≡◌, length, ap, arith, take_all, spell}, Parts.{part_bound, length-spell}}

pub push_part-requires : Rattle.iso_format.proofs.log_record.write_record.Goals.push_part-requires
push_part-requires c = grind (arith, part_bound)

whole : (c : Rattle.iso_format.proofs.log_record.write_record.Goals.After-into_records) → c.into_records.result.items ≡ spell 1 c.args.kind c.args.number c.args.parts.now
whole c = grind (arith, take_all)

pub returns-clause-length : Rattle.iso_format.proofs.log_record.write_record.Goals.returns-clause-length
returns-clause-length c =
    omega (arith, c.into_records.result.ok.0, ap length (whole c), length-spell 1 c.args.kind c.args.number c.args.parts.now)
