use Rattle.script_text.proofs.{Words.{arith, hex_pairs}, HexPairs.{is_pair, read_at, read_all, read_none}}

pub bytes-init : Rattle.script_text.proofs.hex_digits.decode.Goals.bytes-init
bytes-init c = read_none (hex_pairs c.args.word.now)

pub bytes-preserved : Rattle.script_text.proofs.hex_digits.decode.Goals.bytes-preserved
bytes-preserved c =
    let is = is_pair _ _ c.digit_value.result c.digit_value-in-bytes.result c.digit_value.ensures.value c.digit_value-in-bytes.ensures.value in
    let next = read_at c.args.word.now c.bytes.room c.bytes.good c.bytes.at _ (omega arith) (omega arith) is c.bytes.invariant in
    rw c.are_digits-good.ensures next

pub returns : Rattle.script_text.proofs.hex_digits.decode.Goals.returns
returns c = read_all c.args.word.now c.bytes.room c.bytes.good c.bytes.at (omega arith) (omega arith) c.bytes.invariant
