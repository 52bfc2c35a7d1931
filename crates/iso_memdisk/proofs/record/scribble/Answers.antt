use Rattle.iso_memdisk.proofs.Words.{◌≡◌, ◌+◌, ◌-◌, length, drop, arith, length-take, length-drop, take-put_mid_below, drop-put_mid, common_steps}

pub returns : Rattle.iso_memdisk.proofs.record.scribble.Goals.returns
returns c =
    let image = c.args.image.now in
    let drawn = c.loop-byte.byte-items in
    let len : length drawn ≡ c.args.at + c.args.len - c.args.at = omega (arith, c.loop-byte.auto.byte-items, length-take (c.args.at + c.args.len - c.args.at) (drop c.args.at image), length-drop c.args.at image) in
    let n = c.args.at + c.args.len - c.args.at in
    record {
      before = take-put_mid_below c.args.at n image drawn c.args.at (omega arith) (omega arith);
      after = drop-put_mid c.args.at n image drawn (c.args.at + c.args.len) (omega arith) (omega arith) len;
      size = grind (arith, common_steps);
    }
