use Rattle.script_text.proofs.{Words.{◌≡◌, ◌*◌, take, drop, hex_pairs}, HexPairs.read_on}

abbrev pub invariant-bytes : Rattle.script_text.proofs.hex_digits.decode.Given.invariant-bytes
invariant-bytes l = hex_pairs l.word ≡ read_on l.good (take l.at l.room) (hex_pairs (drop (2 * l.at) l.word))
